-- A set of line lists as a number: each has its bit, and one more list is one more bit. Assumes nothing.
use Prim.Native.Nat.{ℕ, zero, suc, ◌+◌, ◌*◌, ◌-◌, ◌/◌, ◌%◌, ◌^◌, ◌≤◌, ◌<◌, max}
use native.Mathlib.Nat.{suc-mul, pow-succ', div-div-eq-div-mul, div-one, div-add-mod', mod-lt, not-suc-le-zero}
use native.Mathlib.Decide.{ℕ_discrete}
use native.Mathlib.Omega.{arith}
use mathlib.Core.Path.{◌≡◌, refl, sym, ap, ap₂, ◌∙◌}
use mathlib.Core.Bool.{Bool, true, false, cond, not, ◌||◌, or-true, or-false}
use mathlib.Core.List.{List, [], ◌∷◌, ◌++◌}
use lib.Dec.{eqb, leb}
use lib.Bits.{bit_and, and_zero_r, bit_or, or_step, or_zero_r, or_block}
use lib.Pow.{pow_mono, pow_pos}
use borrow.Author.Tests.{eq-eqb, ne_eqb, eqb-true, eqb-false, le-leb}
use Rattle.std.proofs.lemmas.Nat.Bits.{and_pow}
use Rattle.octets.proofs.Bools.{by-test}
use Rattle.sequence.specs.Starts.{among}
use Rattle.survey.specs.Tested.{bits_of, has_list}
use Rattle.survey.specs.Held.{with_list}
use Rattle.survey.proofs.Listing.{among-append}

-- ── one number more in a list
pub among-snoc : (k n : ℕ) (names : List ℕ) → among k (names ++ n ∷ []) ≡ (among k names || eqb n k)
unfolding among
among-snoc k n names = among-append k names (n ∷ []) ∙ ap (λ (t : Bool). among k names || t) (or-false (eqb n k))

-- ── bits
-- a number with a bit set that it has, or has not
or-bit : (n j : ℕ) → bit_or n (2 ^ j) ≡ cond (eqb (n / 2 ^ j % 2) 1) n (n + 2 ^ j)
or-bit n j =
    by-test (eqb (a % 2) 1)
    (λ e. let m = eqb-true (a % 2) 1 e in let b : bit_or a 1 ≡ a = high ∙ omega arith in rw e (whole ∙ ap (λ (t : ℕ). t * 2 ^ j + n % 2 ^ j) b ∙ parts))
    (λ e.
    let m = eqb-false (a % 2) 1 e in
    let b : bit_or a 1 ≡ suc a = high ∙ omega arith in
    rw e (whole ∙ ap (λ (t : ℕ). t * 2 ^ j + n % 2 ^ j) b ∙ omega (arith, suc-mul a (2 ^ j), parts)))
  where
    a : ℕ
    a = n / 2 ^ j

    high : bit_or a 1 ≡ a / 2 * 2 + max (a % 2) 1
    high = or_step a 1 ∙ ap (λ (m : ℕ). m * 2 + max (a % 2) 1) (or_zero_r (a / 2))

    parts : a * 2 ^ j + n % 2 ^ j ≡ n
    parts = div-add-mod' n (2 ^ j)

    one : 1 * 2 ^ j + 0 ≡ 2 ^ j
    one = omega arith

    whole : bit_or n (2 ^ j) ≡ bit_or a 1 * 2 ^ j + n % 2 ^ j
    whole =
        sym (ap₂ bit_or parts one) ∙ or_block j a 1 (n % 2 ^ j) 0 (mod-lt n (pow_pos j)) (pow_pos j)
        ∙ ap (λ (r : ℕ). bit_or a 1 * 2 ^ j + r) (or_zero_r (n % 2 ^ j))

-- a set with one list more, by its bit
pub or_with : (bits k : ℕ) → k ≤ 47 → bit_or bits (1 * 2 ^ (47 - k) % 2 ^ 64) ≡ with_list bits k
unfolding has_list
or_with bits k h =
    let low : 47 - k ≤ 47 = omega arith in
    let fits : 1 * 2 ^ (47 - k) % 2 ^ 64 ≡ 2 ^ (47 - k) = let most : 2 ^ (47 - k) ≤ 2 ^ 47 = pow_mono low in omega arith in
    rw (fits, le-leb k 47 h) (or-bit bits (47 - k))

-- a set has a list where its bit is set
pub bit_told : (bits k : ℕ) → not (eqb (bit_and bits (cond (leb k 47) (2 ^ (47 - k)) 0)) 0) ≡ has_list bits k
unfolding has_list
bit_told bits k =
    by-test (leb k 47)
    (λ l.
    let j = 47 - k in
    rw (l, and_pow bits j)
    (by-test (eqb (bits / 2 ^ j % 2) 1)
    (λ e. let p = pow_pos j in rw (eqb-true (bits / 2 ^ j % 2) 1 e, ne_eqb (1 * 2 ^ j) 0 (λ z. omega arith)))
    (λ e. let none : bits / 2 ^ j % 2 ≡ 0 = omega (arith, eqb-false (bits / 2 ^ j % 2) 1 e) in let zero : 0 * 2 ^ j ≡ 0 = omega arith in rw (none, zero))))
    (λ l. rw (l, and_zero_r bits))

abbrev bit : Bool → ℕ
bit b = cond b 1 0

bit-low : (b : Bool) → bit b ≤ 1
bit-low true = omega arith
bit-low false = omega arith

pub bits_none : (n : ℕ) → bits_of n [] ≡ 0
unfolding bits_of among
bits_none zero = refl
bits_none (suc n) = rw (bits_none n)

bits-same : (n : ℕ) (a b : List ℕ) → ((k : ℕ) → k < n → among k a ≡ among k b) → bits_of n a ≡ bits_of n b
unfolding bits_of
bits-same zero a b h = refl
bits-same (suc n) a b h = rw (bits-same n a b (λ k l. h k (omega arith)), h n (omega arith))

pub bits_most : (n : ℕ) (lists : List ℕ) → bits_of n lists < 2 ^ n
unfolding bits_of
bits_most zero lists = omega arith
bits_most (suc n) lists = let h = bits_most n lists in let b = bit-low (among n lists) in rw (pow-succ' 2 n) (omega arith)

-- the bit of each
bits-has : (n : ℕ) (lists : List ℕ) (k : ℕ) → k < n → bits_of n lists / 2 ^ (n - 1 - k) % 2 ≡ bit (among k lists)
unfolding bits_of
bits-has zero lists k h = absurd (not-suc-le-zero h)
bits-has (suc n) lists k h = by (ℕ_discrete k n) (bits-has n lists k)
  where
    b : bit (among n lists) ≤ 1
    b = bit-low (among n lists)

    by : Dec (k ≡ n) → (k < n → bits_of n lists / 2 ^ (n - 1 - k) % 2 ≡ bit (among k lists)) → (2 * bits_of n lists + bit (among n lists)) / 2 ^ (suc n - 1 - k) % 2 ≡ bit (among k lists)
    by (yes e) ih = let z : suc n - 1 - k ≡ 0 = omega arith in rw (z, e, div-one (2 * bits_of n lists + bit (among n lists))) (omega (arith, b))
    by (no d) ih =
        let z : suc n - 1 - k ≡ suc (n - 1 - k) = omega arith in
        let half : (2 * bits_of n lists + bit (among n lists)) / 2 ≡ bits_of n lists = omega (arith, b) in
        rw (z, pow-succ' 2 (n - 1 - k), ← div-div-eq-div-mul (2 * bits_of n lists + bit (among n lists)) 2 (2 ^ (n - 1 - k)), half) (ih (omega arith))

bit-back : (b : Bool) → eqb (bit b) 1 ≡ b
bit-back true = refl
bit-back false = refl

pub has-is : (lists : List ℕ) (k : ℕ) → k ≤ 47 → has_list (bits_of 48 lists) k ≡ among k lists
unfolding has_list
has-is lists k h = rw (le-leb k 47 h, bits-has 48 lists k (omega arith)) (bit-back (among k lists))

-- one more list: its bit, where it was not set
bits-with : (n : ℕ) (lists : List ℕ) (k : ℕ) → k < n → bits_of n (lists ++ k ∷ []) ≡ cond (among k lists) (bits_of n lists) (bits_of n lists + 2 ^ (n - 1 - k))
unfolding bits_of
bits-with zero lists k h = absurd (not-suc-le-zero h)
bits-with (suc n) lists k h = by (ℕ_discrete k n) (bits-with n lists k)
  where
    whole : Bool → ℕ
    whole t = cond t (2 * bits_of n lists + bit (among n lists)) (2 * bits_of n lists + bit (among n lists) + 2 ^ (suc n - 1 - k))

    last : (t : Bool) → among n lists ≡ t → 2 * bits_of n lists + 1 ≡ cond t (2 * bits_of n lists + bit (among n lists)) (2 * bits_of n lists + bit (among n lists) + 2 ^ 0)
    last true e = rw e
    last false e = rw e (omega arith)

    inner : k < n → (t : Bool) → 2 * cond t (bits_of n lists) (bits_of n lists + 2 ^ (n - 1 - k)) + bit (among n lists) ≡ whole t
    inner l true = refl
    inner l false = let z : suc n - 1 - k ≡ suc (n - 1 - k) = omega arith in rw (z, pow-succ' 2 (n - 1 - k)) (omega arith)

    by : Dec (k ≡ n) → (k < n → bits_of n (lists ++ k ∷ []) ≡ cond (among k lists) (bits_of n lists) (bits_of n lists + 2 ^ (n - 1 - k)))
        → 2 * bits_of n (lists ++ k ∷ []) + bit (among n (lists ++ k ∷ [])) ≡ whole (among k lists)
    by (yes e) ih =
        let z : suc n - 1 - n ≡ 0 = omega arith in
        let kept : bits_of n (lists ++ n ∷ []) ≡ bits_of n lists = bits-same n (lists ++ n ∷ []) lists (λ j l. among-snoc j n lists ∙ rw (ne_eqb n j (λ d. omega arith)) (or-false (among j lists))) in
        rw (e, z, kept, among-snoc n n lists, eq-eqb n n refl, or-true (among n lists)) (last (among n lists) refl)
    by (no d) ih = rw (among-snoc n k lists, ne_eqb k n d, or-false (among n lists), ih (omega arith)) (inner (omega arith) (among k lists))

pub bits-more : (lists : List ℕ) (k : ℕ) → k ≤ 47 → with_list (bits_of 48 lists) k ≡ bits_of 48 (lists ++ k ∷ [])
bits-more lists k h = let e : 48 - 1 - k ≡ 47 - k = omega arith in rw (has-is lists k h) (sym (rw e at (bits-with 48 lists k (omega arith))))
