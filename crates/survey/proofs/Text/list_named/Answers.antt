-- A number that is a place has that place's byte, and past the text every byte is 0.
use Prim.Native.Nat.{◌+◌}
use native.Mathlib.Omega.{arith}
use mathlib.Core.Path.{sym}
use Rattle.octets.proofs.Laws.{byte_past}
use Rattle.sequence.specs.Raster.{raster_at}
use Rattle.survey.proofs.Laws.{placed-outside}
use Rattle.survey.proofs.Text.list_named.Goals as goal

pub returns-in-None : goal.returns-in-None
unfolding raster_at
returns-in-None c = let h = placed-outside c.args.self.format _ _ c.of.ensures c.in-None.is in
    sym (byte_past c.args.self.bytes.now (c.args.number + 21) (omega (arith, c.args.self.short)))
