-- A format that fills the table, in words and as the test computes it. Assumes nothing.
use Prim.Native.Nat.{◌+◌, ◌*◌, ◌<◌}
use native.Mathlib.Omega.{arith}
use mathlib.Core.Path.{◌≡◌}
use mathlib.Core.Bool.{true}
use mathlib.Core.Logic.{◌↔◌}
use borrow.Author.Tests.{le-leb, eq-eqb}
use Rattle.memory.specs.declared.Format.{Format}
use Rattle.memory.specs.Memory.{fills}
use Rattle.memory.proofs.Laws.{Fair, fair-of}
use Rattle.promises.specs.Formats.{Fills}

pub fills-exactly : (F : Format) → (fills F ≡ true) ↔ Fills F
unfolding fills
fills-exactly F = (
  λ h. let f = fair-of F h in record { whole = f.whole; size = f.size; last = f.last },
  λ f. simp (eq-eqb (F.size * (F.last + 1)) 16384 f.whole, le-leb F.size 256 f.size, le-leb F.last 127 f.last),
)

module _ {F : Format} (full : Fills F) where
  pub fair-in : Fair F
  fair-in = fair-of F ((fills-exactly F).1 full)

  pub room_in : 4 < F.size
  room_in = let r = fair-in.room in omega arith
