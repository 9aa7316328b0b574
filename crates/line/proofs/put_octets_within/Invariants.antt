-- The texts of the bytes so far are laid, two digits each.
use Prim.Native.Nat.{◌+◌, ◌*◌}
use mathlib.Core.Path.{◌≡◌}
use lib.ListN.{take}
use Rattle.line.specs.Digits.{each, hex_of}
use Rattle.line.specs.Writing.{Laid}
use Rattle.line.proofs.put_octets_within.Given as goal

abbrev pub invariant-loop-b : goal.invariant-loop-b
invariant-loop-b l = (l.p ≡ l.at + 2 * l.b-index) × Laid l.initial.out l.out l.at l.p (each hex_of (take l.b-index l.s))
