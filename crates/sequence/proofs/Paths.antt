-- Laws of a raster's path. The shift goes one way, so that the first and the last repeat decide for all; and where a repeat does not stray, its
-- start is a number that nothing was cut from. Assumes nothing.
use Rattle.std.proofs.Common.{◌≡◌, ℕ, zero, suc, ◌+◌, ◌-◌, ◌*◌, ◌/◌, ◌<◌, ◌≤◌, Bool, true, false, ◌||◌, eqb, ltb, ◌⊎◌, ℤ, pos, negsuc, ◌+ℤ◌, neg_ℤ, nat_abs, sym, refl, ap, ◌∙◌, subst, inl, inr, ⊎_elim, true≢false, mul-le-mul_left, le-div_iff_mul-le, zero-mul, div-mul-le_self, arith, ltb-false, ltb-true, le-ltb, lt-ltb, eqb-true}
use native.Mathlib.Nat.{div-zero}
use mathlib.Core.Bool.{or-true}
use borrow.Author.Tests.{eqb-false}
use Rattle.octets.proofs.Bools.{or-neither, or-either, by-test}
use Rattle.sequence.specs.declared.RasterWords.{RasterWords}
use Rattle.sequence.specs.Raster.{backward, asrc_steps, moved_by, shift_of, begins_at, start_of, outside, strays, some_strays, leaves}

-- ── a sum and its number
-- a position, and one further on, that are both in 0 to 2400: the first is its own number
within : (z : ℤ) (r : ℕ) → (outside z || outside (z +ℤ pos r)) ≡ false → (pos (nat_abs z) ≡ z) × (nat_abs z + r ≤ 2400)
within (pos n) r e = (refl, ltb-false 2400 (n + r) (or-neither (ltb 2400 n) (ltb 2400 (n + r)) e).1)
within (negsuc n) r e = absurd (true≢false e)

-- the further one decides
further : (n r : ℕ) → (ltb 2400 n || ltb 2400 (n + r)) ≡ ltb 2400 (n + r)
further n r = by-test (ltb 2400 n) (λ e. rw (e, lt-ltb 2400 (n + r) (let h = ltb-true 2400 n e in omega arith))) (λ e. rw e)

taken-off : (i m : ℕ) → m ≤ i → pos i +ℤ neg_ℤ (pos m) ≡ pos (i - m)
taken-off i zero h = ap pos (omega arith)
taken-off i (suc m) h = rw (le-ltb i (suc m) h)

below-0 : (i m : ℕ) → i < m → outside (pos i +ℤ neg_ℤ (pos m)) ≡ true
below-0 i zero h = absurd (omega arith)
below-0 i (suc m) h = rw (lt-ltb i (suc m) h)

-- two tests of which each gives the other
both_ways : (a b : Bool) → (a ≡ true → b ≡ true) → (b ≡ true → a ≡ true) → a ≡ b
both_ways true b f g = sym (f refl)
both_ways false true f g = g refl
both_ways false false f g = refl

-- ── repeat k
module _ (raster : RasterWords) (k : ℕ) where
  abbrev far : ℕ
  far = (raster.loops - 1) * raster.step

  begins-forward : backward raster ≡ false → begins_at raster k ≡ pos (raster.initial + moved_by raster k)
  begins-forward e = rw e

  begins-back : backward raster ≡ true → moved_by raster k ≤ raster.initial → begins_at raster k ≡ pos (raster.initial - moved_by raster k)
  begins-back e h = rw e (taken-off raster.initial (moved_by raster k) h)

  strays-from : (n : ℕ) → begins_at raster k ≡ pos n → strays raster k ≡ ltb 2400 (n + far)
  strays-from n e = ap (λ (z : ℤ). outside z || outside (z +ℤ pos far)) e ∙ further n far

  pub strays-forward : backward raster ≡ false → strays raster k ≡ ltb 2400 (raster.initial + moved_by raster k + far)
  strays-forward e = strays-from (raster.initial + moved_by raster k) (begins-forward e)

  pub strays-back : backward raster ≡ true → moved_by raster k ≤ raster.initial → strays raster k ≡ ltb 2400 (raster.initial - moved_by raster k + far)
  strays-back e h = strays-from (raster.initial - moved_by raster k) (begins-back e h)

  pub strays-below : backward raster ≡ true → raster.initial < moved_by raster k → strays raster k ≡ true
  strays-below e h = rw (e, below-0 raster.initial (moved_by raster k) h)

  module _ (stays : strays raster k ≡ false) where
    -- its start is the signed sum, and its last pass is in reach
    pub start-whole : pos (start_of raster k) ≡ begins_at raster k
    start-whole = (within (begins_at raster k) far stays).0

    pub start-reaches : start_of raster k + far ≤ 2400
    start-reaches = (within (begins_at raster k) far stays).1

    pub start-forward : backward raster ≡ false → start_of raster k ≡ raster.initial + moved_by raster k
    start-forward e = ap nat_abs (begins-forward e)

    pub moved-less : backward raster ≡ true → moved_by raster k ≤ raster.initial
    moved-less e = by-test (ltb raster.initial (moved_by raster k))
        (λ t. absurd (true≢false (sym (strays-below e (ltb-true raster.initial (moved_by raster k) t)) ∙ stays)))
        (ltb-false raster.initial (moved_by raster k))

-- ── every repeat
module _ (raster : RasterWords) where
  -- the shift goes one way
  div_grows : (j k d : ℕ) → j ≤ k → j / d ≤ k / d
  div_grows j k zero h = rw (div-zero j, div-zero k) (omega arith)
  div_grows j k (suc d) h = (le-div_iff_mul-le {k = suc d} {x = j / suc d} {y = k} (omega arith)).1 (let l = div-mul-le_self j (suc d) in omega arith)

  moved-grows : (j k : ℕ) → j ≤ k → moved_by raster j ≤ moved_by raster k
  moved-grows j k h = mul-le-mul_left (asrc_steps raster) (div_grows j k raster.skip h)

  -- where a repeat strays, the first does or any later one
  first-or-later : (j k : ℕ) → j ≤ k → strays raster j ≡ true → (strays raster 0 ≡ true) ⊎ (strays raster k ≡ true)
  first-or-later j k h e = by-test (backward raster) back forward
    where
      forward : backward raster ≡ false → (strays raster 0 ≡ true) ⊎ (strays raster k ≡ true)
      forward f =
          let a = ltb-true 2400 (raster.initial + moved_by raster j + far raster j) (sym (strays-forward raster j f) ∙ e) in
          inr (strays-forward raster k f ∙ lt-ltb 2400 (raster.initial + moved_by raster k + far raster k) (let g = moved-grows j k h in omega arith))

      back : backward raster ≡ true → (strays raster 0 ≡ true) ⊎ (strays raster k ≡ true)
      back b = by-test (ltb raster.initial (moved_by raster j))
          (λ t. let l = ltb-true raster.initial (moved_by raster j) t in let g = moved-grows j k h in inr (strays-below raster k b (omega arith)))
          (λ t. let l = ltb-false raster.initial (moved_by raster j) t in
          let a = ltb-true 2400 (raster.initial - moved_by raster j + far raster j) (sym (strays-back raster j b l) ∙ e) in
          let g = moved-grows 0 j (omega arith) in
          inl (strays-back raster 0 b (omega arith) ∙ lt-ltb 2400 (raster.initial - moved_by raster 0 + far raster 0) (omega arith)))

  strays-some : (n k : ℕ) → k < n → strays raster k ≡ true → some_strays raster n ≡ true
  unfolding some_strays
  strays-some zero k h e = absurd (omega arith)
  strays-some (suc n) k h e =
      by-test (eqb k n) (λ t. let s = subst (λ (j : ℕ). strays raster j ≡ true) (eqb-true k n t) e in rw s)
      (λ t. let other = eqb-false k n t in rw (strays-some n k (omega arith) e) (or-true (strays raster n)))

  some-strays : (n : ℕ) (b : Bool) → ((k : ℕ) → k < n → strays raster k ≡ true → b ≡ true) → some_strays raster n ≡ true → b ≡ true
  unfolding some_strays
  some-strays zero b f e = absurd (true≢false (sym e))
  some-strays (suc n) b f e = or-either (strays raster n) (some_strays raster n) e (f n (omega arith)) (some-strays n b (λ k h. f k (omega arith)))

  -- where none strays, repeat k does not
  pub none-strays : (n k : ℕ) → some_strays raster n ≡ false → k < n → strays raster k ≡ false
  none-strays n k e h = by-test (strays raster k) (λ t. absurd (true≢false (sym (strays-some n k h t) ∙ e))) (λ t. t)

  -- the first and the last repeat decide for all
  pub ends-decide : (last : ℕ) → some_strays raster (suc last) ≡ (strays raster 0 || strays raster last)
  ends-decide last =
      both_ways (some_strays raster (suc last)) (strays raster 0 || strays raster last)
      (some-strays (suc last) _ (λ k h e. ⊎_elim (λ f. rw f) (λ l. rw l (or-true (strays raster 0))) (first-or-later k last (omega arith) e)))
      (λ e. or-either (strays raster 0) (strays raster last) e (strays-some (suc last) 0 (omega arith)) (strays-some (suc last) last (omega arith)))

  -- ── the test of a path
  -- with an ASRC byte of 0 every repeat takes the same path, and no shift is made
  module _ (off : raster.asrc ≡ 0) where
    unmoved : (j : ℕ) → moved_by raster j ≡ 0
    unmoved j = rw off (zero-mul (j / raster.skip))

    forward-off : backward raster ≡ false
    forward-off = rw off

    pub start-off : (j : ℕ) → start_of raster j ≡ raster.initial
    start-off j = rw (forward-off, unmoved j) (omega arith)

    pub shift-off : (j : ℕ) → shift_of raster j ≡ pos 0
    shift-off j = rw (forward-off, unmoved j)

    still : (j : ℕ) → strays raster j ≡ ltb 2400 (raster.initial + (raster.loops - 1) * raster.step)
    still j =
        let e : raster.initial + moved_by raster j + far raster j ≡ raster.initial + far raster j = omega (arith, unmoved j) in
        strays-forward raster j forward-off ∙ ap (λ (n : ℕ). ltb 2400 n) e

    pub leaves-off : (k : ℕ) → leaves raster k ≡ ltb 2400 (raster.initial + (raster.loops - 1) * raster.step)
    leaves-off k =
        both_ways (leaves raster k) (ltb 2400 (raster.initial + (raster.loops - 1) * raster.step))
        (λ t. or-either (some_strays raster raster.repeats) (strays raster k) t (some-strays raster.repeats _ (λ j h s. sym (still j) ∙ s)) (λ s. sym (still k) ∙ s))
        (λ t. rw (still k ∙ t) (or-true (some_strays raster raster.repeats)))
