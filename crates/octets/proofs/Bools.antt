-- Laws of tests: what `&&` and `||` tell, what holds whichever way a test goes, and a test that is computed for many numbers; and of two variants of
-- a type. Assumes nothing.
use Prim.Native.Nat.{ℕ, zero, suc, ◌<◌}
use native.Mathlib.Omega.{arith}
use mathlib.Core.Path.{◌≡◌, refl, sym, subst}
use mathlib.Core.Bool.{Bool, true, false, cond, not, ◌&&◌, ◌||◌}
use lib.Dec.{T, eqb}
use borrow.Author.Tests.{eqb-true, eqb-false}
use Rattle.std.proofs.lemmas.Bool.{and_parts, or_parts}

pub and_both : (a b : Bool) → (a && b) ≡ true → (a ≡ true) × (b ≡ true)
and_both a b = and_parts a b

pub and_T : (a b : Bool) → T (a && b) → (a ≡ true) × T b
and_T true b p = (refl, p)
and_T false b p = absurd p

-- two variants are never the same: of an equation between them `cc` makes this one
pub clash : ◌≡◌ {A = ℕ} 0 1 → ⊥
clash z = omega arith

pub or-neither : (a b : Bool) → (a || b) ≡ false → (a ≡ false) × (b ≡ false)
or-neither a b = or_parts a b

module _ {A : Type 0} where
  pub or-either : (a b : Bool) → (a || b) ≡ true → (a ≡ true → A) → (b ≡ true → A) → A
  or-either true b e f g = f refl
  or-either false b e f g = g e

  pub by-test : (t : Bool) → (t ≡ true → A) → (t ≡ false → A) → A
  by-test true f g = f refl
  by-test false f g = g refl

  -- what holds of both outcomes of a test holds of the choice
  pub choice : (P : A → Type 0) (t : Bool) (a b : A) → (t ≡ true → P a) → (t ≡ false → P b) → P (cond t a b)
  choice P true a b f g = f refl
  choice P false a b f g = g refl

  pub either : (P : A → Type 0) (t : Bool) (a b : A) → P a → P b → P (cond t a b)
  either P t a b h k = choice P t a b (λ _. h) (λ _. k)

-- ── computed for every number below n
-- two tests come to the same
abbrev pub agree : Bool → Bool → Bool
agree true b = b
agree false b = not b

pub agreed : (a b : Bool) → agree a b ≡ true → a ≡ b
agreed true b e = sym e
agreed false true e = e
agreed false false e = refl

abbrev pub all_below : (ℕ → Bool) → ℕ → Bool
all_below test zero = true
all_below test (suc n) = test n && all_below test n

pub below_all : (test : ℕ → Bool) (n k : ℕ) → all_below test n ≡ true → k < n → test k ≡ true
below_all test zero k e h = absurd (omega arith)
below_all test (suc n) k e h =
    let (here, rest) = and_both (test n) (all_below test n) e in
    by-test (eqb n k) (λ t. subst (λ (m : ℕ). test m ≡ true) (eqb-true n k t) here)
    (λ t. let other = eqb-false n k t in below_all test n k rest (omega arith))
