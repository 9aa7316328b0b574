-- What a card says, by its bytes. Assumes nothing.
use Prim.Native.Nat.{ℕ, ◌^◌}
use mathlib.Core.Path.{◌≡◌}
use mathlib.Core.Bool.{Bool, true, false, ◌&&◌, ◌||◌, or-true}
use mathlib.Core.List.{List}
use lib.Dec.{ltb, leb, eqb}
use borrow.Author.Tests.{le-ltb, eqb-true, leb-true}
use Rattle.octets.specs.Bytes.{byte_at, number_at}
use Rattle.octets.proofs.Bools.{by-test, clash}
use Rattle.std.specs.Prelude.{Some, None, Ok}
use Rattle.memory.specs.declared.Format.{Format}
use Rattle.survey.specs.declared.Closing.{Closing}
use Rattle.survey.specs.declared.Closing.TheVariants.{Terminates, CallsOn}
use Rattle.summary.specs.Chain.{card_wrong, said_by}
use Rattle.summary.specs.Held.{closing_said, said_of}

module _ (F : Format) (c : List ℕ) where
  abbrev many : Bool
  many = leb (2 ^ 54) (number_at c 8 8) || leb (2 ^ 54) (number_at c 16 8)

  module _ (passes : byte_at c 0 ≡ 0) where
    pub said-many : many ≡ true → None ≡ said_of F c
    unfolding card_wrong
    said-many t = rw (passes, t, or-true (eqb (byte_at c 3) 2 && ltb F.last (byte_at c 4)), or-true _)

    pub said-closed : (closing : Closing) → closing_said F c ≡ Some closing → many ≡ false
        → Some (Ok (record { place = 0; closing = closing; steps = number_at c 8 8; exposures = number_at c 16 8 })) ≡ said_of F c
    unfolding card_wrong said_by
    said-closed closing e few =
        by-test (eqb (byte_at c 3) 1)
        (λ t. let h : Terminates ≡ closing = (let g : Some Terminates ≡ Some closing = rw t at e in cc) in rw (passes, few, eqb-true (byte_at c 3) 1 t, ← h))
        (λ t. by-test (eqb (byte_at c 3) 2)
        (λ u. by-test (leb (byte_at c 4) F.last)
        (λ v. let h : CallsOn (byte_at c 4) ≡ closing = (let g : Some (CallsOn (byte_at c 4)) ≡ Some closing = rw (t, u, v) at e in cc) in rw (passes, few, eqb-true (byte_at c 3) 2 u, le-ltb F.last (byte_at c 4) (leb-true (byte_at c 4) F.last v), ← h))
        (λ v. absurd (clash (let g : None ≡ Some closing = rw (t, u, v) at e in cc))))
        (λ u. absurd (clash (let g : None ≡ Some closing = rw (t, u) at e in cc))))
