-- Laws of a search: the first number of which a test holds. Assumes nothing.
use Prim.Native.Nat.{ℕ, zero, suc, ◌+◌, ◌-◌, ◌≤◌, ◌<◌}
use native.Mathlib.Nat.{add-zero, zero-add}
use native.Mathlib.Omega.{arith}
use mathlib.Core.Path.{◌≡◌, refl, sym, ap, ◌∙◌, subst}
use mathlib.Core.Bool.{Bool, true, false, cond}
use lib.Dec.{ltb, eqb}
use borrow.Author.Tests.{ltb-true, ltb-false, lt-ltb, le-ltb, eqb-true, eqb-false}
use Rattle.std.specs.Prelude.{Some, None}
use Rattle.std.proofs.lemmas.Option.{cond_some, none-some}
use Rattle.octets.proofs.Bools.{by-test, choice}
use Rattle.survey.specs.Still.{first_of}
use Rattle.survey.specs.Held.{found_below}

-- ── step by step
module _ (test : ℕ → Bool) where
  -- up to an end: none is left; it is this one; it is one after it
  pub first-over : (at end : ℕ) → end ≤ at → first_of test (end - at) at ≡ at
  unfolding first_of
  first-over at end h = let e : end - at ≡ 0 = omega arith in rw e

  pub first-here : (at end : ℕ) → at < end → test at ≡ true → first_of test (end - at) at ≡ at
  unfolding first_of
  first-here at end h t = let e : end - at ≡ suc (end - (at + 1)) = omega arith in rw (e, t)

  pub first_on : (at end : ℕ) → at < end → test at ≡ false → first_of test (end - at) at ≡ first_of test (end - (at + 1)) (at + 1)
  unfolding first_of
  first_on at end h t = let e : end - at ≡ suc (end - (at + 1)) = omega arith in rw (e, t)

  -- and so the code has found it, or none
  module _ (at end found : ℕ) (e : first_of test (end - at) at ≡ found) where
    pub found-here : at < end → test at ≡ true → Some at ≡ found_below end found
    found-here h t = rw (← e, first-here at end h t, lt-ltb at end h)

    pub found-over : end ≤ at → None ≡ found_below end found
    found-over h = rw (← e, first-over at end h, le-ltb at end h)

-- where there is no value, the test does not hold
pub cond-none : {A : Type 0} (t : Bool) (x : A) → cond t (Some x) None ≡ None → t ≡ false
cond-none true x e = absurd (none-some x (sym e))
cond-none false x e = refl

-- what is found is below the end, and none is not
pub below-some : (end found at : ℕ) → found_below end found ≡ Some at → (found < end) × (found ≡ at)
below-some end found at e = let (t, s) = cond_some (ltb found end) found at e in (ltb-true found end t, s)

pub below-none : (end found : ℕ) → found_below end found ≡ None → end ≤ found
below-none end found e = ltb-false found end (cond-none (ltb found end) found e)

-- among no numbers
pub first-none : (test : ℕ → Bool) (at : ℕ) → first_of test 0 at ≡ at
unfolding first_of
first-none test at = refl

-- a search that goes on as another begins: what that one finds, or what is found after its numbers
pub first-split : (test other : ℕ → Bool) (k rest at : ℕ) → ((i : ℕ) → i < k → test (at + i) ≡ other (at + i))
    → first_of test (k + rest) at ≡ cond (ltb (first_of other k at) (at + k)) (first_of other k at) (first_of test rest (at + k))
unfolding first_of
first-split test other zero rest at h = let e : at + 0 ≡ at = omega arith in rw (e, le-ltb at at (omega arith), zero-add rest)
first-split test other (suc k) rest at h =
    let n : suc k + rest ≡ suc (k + rest) = omega arith in
    let here : test at ≡ other at = ap test (sym (add-zero at)) ∙ h 0 (omega arith) ∙ ap other (add-zero at) in
    by-test (other at)
    (λ t. rw (n, here, t, lt-ltb at (at + suc k) (omega arith)))
    (λ t.
    let e : at + suc k ≡ at + 1 + k = omega arith in
    rw (n, here, t, e)
    (first-split test other k rest (at + 1) (λ i l. let f : at + 1 + i ≡ at + suc i = omega arith in rw f (h (suc i) (omega arith)))))

-- a search further on, where a test comes to the same as another
pub first-shift : (test other : ℕ → Bool) (base k at : ℕ) → ((i : ℕ) → i < k → test (base + (at + i)) ≡ other (at + i)) → first_of test k (base + at) ≡ base + first_of other k at
unfolding first_of
first-shift test other base zero at h = refl
first-shift test other base (suc k) at h =
    let here : test (base + at) ≡ other at = ap (λ (j : ℕ). test (base + j)) (sym (add-zero at)) ∙ h 0 (omega arith) ∙ ap other (add-zero at) in
    let e : base + at + 1 ≡ base + (at + 1) = omega arith in
    rw (here, e)
    (ap (cond (other at) (base + at)) (first-shift test other base k (at + 1) (λ i l. let f : at + 1 + i ≡ at + suc i = omega arith in rw f (h (suc i) (omega arith))))
    ∙ by-test (other at) (λ t. rw t) (λ t. rw t))

-- numbers of which it does not hold are passed over
pub first-skip : (test : ℕ → Bool) (k rest at : ℕ) → ((i : ℕ) → i < k → test (at + i) ≡ false) → first_of test (k + rest) at ≡ first_of test rest (at + k)
unfolding first_of
first-skip test zero rest at h = let e : at + 0 ≡ at = omega arith in rw (e, zero-add rest)
first-skip test (suc k) rest at h =
    let n : suc k + rest ≡ suc (k + rest) = omega arith in
    let s : test at ≡ false = ap test (sym (add-zero at)) ∙ h 0 (omega arith) in
    let e : at + suc k ≡ at + 1 + k = omega arith in
    rw (n, s, e) (first-skip test k rest (at + 1) (λ i l. let f : at + 1 + i ≡ at + suc i = omega arith in rw f (h (suc i) (omega arith))))

-- the same on both sides
pub ltb-shift : (a i b : ℕ) → ltb (a + i) (a + b) ≡ ltb i b
ltb-shift a i b = by-test (ltb i b) (λ t. let l = ltb-true i b t in lt-ltb (a + i) (a + b) (omega arith) ∙ sym t) (λ t. let l = ltb-false i b t in le-ltb (a + i) (a + b) (omega arith) ∙ sym t)

-- ── a search finds the first
-- this is the first number from `at` on of which the test holds, or the number after `more` of them
pub record First (test : ℕ → Bool) (more at found : ℕ) : Type 0 where
  pub least : at ≤ found
  pub most : found ≤ at + more
  pub before : (k : ℕ) → at ≤ k → k < found → test k ≡ false
  pub holds : found < at + more → test found ≡ true

-- the search comes to it
pub first-of : (test : ℕ → Bool) (more at : ℕ) → First test more at (first_of test more at)
unfolding first_of
first-of test zero at = record { least = omega arith; most = omega arith; before = λ k h l. absurd (omega arith); holds = λ h. absurd (omega arith) }
first-of test (suc more) at =
    choice (First test (suc more) at) (test at) at (first_of test more (at + 1))
    (λ e. record { least = omega arith; most = omega arith; before = λ k h l. absurd (omega arith); holds = λ h. e })
    (λ e.
    let r = first-of test more (at + 1) in
    record {
      least = omega (arith, r.least);
      most = omega (arith, r.most);
      before = λ k h l. by-test (eqb at k) (λ s. subst (λ (m : ℕ). test m ≡ false) (eqb-true at k s) e) (λ s. let other = eqb-false at k s in r.before k (omega arith) l);
      holds = λ h. r.holds (omega arith);
    })
