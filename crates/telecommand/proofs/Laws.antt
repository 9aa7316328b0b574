-- Laws of commands and of refusals over the definitions alone: each has its number, and no other has it. Assumes nothing.
use Prim.Native.Nat.{ℕ, ◌<◌}
use native.Mathlib.Omega.{arith}
use mathlib.Core.Path.{◌≡◌, refl, sym, ap, subst, ◌∙◌}
use mathlib.Core.Bool.{Bool, true, false, cond, not}
use mathlib.Core.List.{List, [], ◌∷◌}
use lib.Dec.{T, eqb}
use borrow.Author.Tests.{ne_eqb, eqb-true}
use mir.Val.{has_key}
use types.Run.{OneOf, miss}
use denote.Enum.Declared.{tag_of}
use Rattle.std.specs.Prelude.{Result, Ok, Err}
use Rattle.octets.specs.Rows.{first_code}
use Rattle.telecommand.specs.declared.Telecommand.{Telecommand}
use Rattle.telecommand.specs.declared.Telecommand.TheVariants.{Status, Dump, Allow, Mode, Clear, Select, Uplink, Foreign, Unheard}
use Rattle.telecommand.specs.declared.Refusal.{Refusal}
use Rattle.telecommand.specs.declared.Refusal.TheVariants.{WrongLength, PairNotAllowed, NotYetAllowed, OtherSubsystem, NotInTable, WrongRange, TooLong, NoSuchMode, WrongMode, WrongSize, OutOfRange}
use Rattle.telecommand.specs.contracts.Telecommand.{the_type}
use Rattle.telecommand.specs.Packet.{bc1_of, is, numbered, telecommand_of, shape_rows}
use Rattle.telecommand.specs.Refusal.{refusal_code, result_code}

named : (k : Telecommand) → telecommand_of (bc1_of k) ≡ k
unfolding telecommand_of
named Status = refl
named Dump = refl
named Allow = refl
named Mode = refl
named Clear = refl
named Select = refl
named Uplink = refl
named Foreign = refl
named Unheard = refl

same : (c k : Telecommand) → bc1_of k ≡ bc1_of c → k ≡ c
same c k e = sym (named k) ∙ ap telecommand_of e ∙ named c

pub is-told : (c k : Telecommand) → is c k ≡ true → k ≡ c
is-told c k e = same c k (eqb-true (bc1_of k) (bc1_of c) e)

-- a BC1 that is taken for one of some commands, and not for another, is its number
pub numbers : (n : ℕ) (ks : List Telecommand) (other k : Telecommand) → (other ≡ k → ⊥) → numbered n ks other ≡ k → n ≡ bc1_of k
numbers n [] other k d e = absurd (d e)
numbers n (c ∷ ks) other k d e = go (eqb n (bc1_of c)) refl (numbers n ks other k d) e
  where
    go : (b : Bool) → eqb n (bc1_of c) ≡ b → (numbered n ks other ≡ k → n ≡ bc1_of k) → cond b c (numbered n ks other) ≡ k → n ≡ bc1_of k
    go true t f e = eqb-true n (bc1_of c) t ∙ ap bc1_of e
    go false t f e = f e

-- a command whose variant is among some is none whose variant is not
pub is-not : (c k : Telecommand) (ks : List ℕ) → T (not (has_key ks (tag_of the_type c))) → OneOf ks (tag_of the_type k) → is c k ≡ false
is-not c k ks t h =
    ne_eqb (bc1_of k) (bc1_of c)
    (λ e. miss ks (tag_of the_type c) t (subst (λ (x : Telecommand). OneOf ks (tag_of the_type x)) (same c k e) h))

-- the one byte 01 is refused by no row of its shape: no table of rows may refuse everything
pub status-whole : first_code (shape_rows Status (0x01 ∷ [])) ≡ 0
status-whole = refl

-- ── refusals
-- the one of some refusals that has this code, or another result
abbrev coded : ℕ → List Refusal → Result (Unit {0}) Refusal → Result (Unit {0}) Refusal
coded n [] other = other
coded n (r ∷ rs) other = cond (eqb n (refusal_code r)) (Err r) (coded n rs other)

abbrev with_code : ℕ → Result (Unit {0}) Refusal
with_code n =
    coded n (WrongLength ∷ PairNotAllowed ∷ NotYetAllowed ∷ OtherSubsystem ∷ NotInTable ∷ WrongRange ∷ TooLong ∷ NoSuchMode ∷ WrongMode ∷ WrongSize ∷ OutOfRange ∷ []) (Ok tt)

refused_with : (r : Refusal) → with_code (refusal_code r) ≡ Err r
refused_with WrongLength = refl
refused_with PairNotAllowed = refl
refused_with NotYetAllowed = refl
refused_with OtherSubsystem = refl
refused_with NotInTable = refl
refused_with WrongRange = refl
refused_with TooLong = refl
refused_with NoSuchMode = refl
refused_with WrongMode = refl
refused_with WrongSize = refl
refused_with OutOfRange = refl

answered_with : (a : Result (Unit {0}) Refusal) → with_code (result_code a) ≡ a
answered_with (Ok x) = refl
answered_with (Err r) = refused_with r

-- a refusal's code is none of what is obeyed
pub refused-above : (r : Refusal) → 0 < refusal_code r
refused-above WrongLength = omega arith
refused-above PairNotAllowed = omega arith
refused-above NotYetAllowed = omega arith
refused-above OtherSubsystem = omega arith
refused-above NotInTable = omega arith
refused-above WrongRange = omega arith
refused-above TooLong = omega arith
refused-above NoSuchMode = omega arith
refused-above WrongMode = omega arith
refused-above WrongSize = omega arith
refused-above OutOfRange = omega arith

-- two results of one code are the same
pub same_result : (a b : Result (Unit {0}) Refusal) → result_code a ≡ result_code b → a ≡ b
same_result a b e = sym (answered_with a) ∙ ap with_code e ∙ answered_with b
