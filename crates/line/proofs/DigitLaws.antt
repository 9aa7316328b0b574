-- Laws of digits: a rule of single bytes is one test that computes over all of them; a number in decimal is that of its
-- tens and one digit more. Assumes nothing.
use Prim.Native.Nat.{ℕ, zero, suc, ◌+◌, ◌*◌, ◌-◌, ◌/◌, ◌%◌, ◌^◌, ◌<◌, ◌≤◌}
use native.Mathlib.Nat.{pow-suc}
use native.Mathlib.Numerals.{add-one}
use native.Mathlib.Omega.{arith}
use mathlib.Core.Path.{◌≡◌, refl, sym, ap, ◌∙◌}
use mathlib.Core.Bool.{Bool, true, false, cond, ◌&&◌, beq, false≢true}
use mathlib.Core.List.{List, [], ◌∷◌, ◌++◌, append-nil}
use lib.ListN.{length, set, take, drop, length-append, length-set, length-drop, drop_of_length-le}
use lib.Seq.{append_snoc, set_split, drop_at, length-take-le, take_all}
use lib.Dec.{ltb, eqb}
use borrow.Author.Tests.{lt-ltb, le-ltb, ltb-true, ltb-false, eqb-true}
use Rattle.octets.proofs.Bools.{and_both, by-test}
use Rattle.line.specs.Digits.{digit_of, value_of, is_hex, spell, decimal}

-- ── tests of single bytes
-- a test holds of every number below a bound
abbrev below : (ℕ → Bool) → ℕ → Bool
below f zero = true
below f (suc n) = f n && below f n

pub tested : (f : ℕ → Bool) (n : ℕ) → below f n ≡ true → (k : ℕ) → k < n → f k ≡ true
tested f zero e k h = absurd (omega arith)
tested f (suc n) e k h =
    let (last, rest) = and_both (f n) (below f n) e in
    by-test (ltb k n)
    (λ t. tested f n rest k (ltb-true k n t))
    (λ t. let l = ltb-false k n t in let g : k ≡ n = omega arith in ap f g ∙ last)

same_test : (a b : Bool) → beq a b ≡ true → a ≡ b
same_test true true e = refl
same_test true false e = absurd (false≢true e)
same_test false true e = absurd (false≢true e)
same_test false false e = refl

-- the digits, `0` to `9` and `A` to `F`, are two runs of numbers
abbrev digits-run : ℕ → Bool
digits-run n = eqb (cond (ltb n 10) (48 + n) (55 + n)) (digit_of n)

digit-run : (n : ℕ) → n < 16 → cond (ltb n 10) (48 + n) (55 + n) ≡ digit_of n
unfolding digit_of
digit-run n h = eqb-true (cond (ltb n 10) (48 + n) (55 + n)) (digit_of n) (tested digits-run 16 refl n h)

pub digit_low : (n : ℕ) → n < 10 → digit_of n ≡ 48 + n
digit_low n h = sym (rw (lt-ltb n 10 h) at (digit-run n (omega arith)))

pub digit_high : (n : ℕ) → 10 ≤ n → n < 16 → digit_of n ≡ 55 + n
digit_high n l h = sym (rw (le-ltb n 10 l) at (digit-run n h))

-- the hex digits among the bytes, as a bit for each from `0` to `f`
abbrev marked : ℕ → Bool
marked b = ltb 47 b && ltb b 103 && eqb (35465847073801215 / 2 ^ (b - 48) % 2) 1

hex_marked : (b : ℕ) → b < 256 → is_hex b ≡ marked b
unfolding value_of
hex_marked b h = same_test (is_hex b) (marked b) (tested (λ (n : ℕ). beq (is_hex n) (marked n)) 256 refl b h)

module _ (b : ℕ) (h : b < 256) where
  pub hex_below : b < 48 → is_hex b ≡ false
  hex_below k = rw (hex_marked b h, le-ltb 47 b (omega arith))

  pub hex_above : 102 < b → is_hex b ≡ false
  hex_above k = rw (hex_marked b h, lt-ltb 47 b (omega arith), le-ltb b 103 (omega arith))

  pub hex_between : 48 ≤ b → b ≤ 102 → is_hex b ≡ eqb (35465847073801215 / 2 ^ (b - 48) % 2) 1
  hex_between k l = rw (hex_marked b h, lt-ltb 47 b (omega arith), lt-ltb b 103 (omega arith))

-- a hex digit's value is its low four bits, and 9 more for a letter
abbrev valued : ℕ → Bool
valued b = cond (is_hex b) (eqb (b % 16 + b / 64 * 9) (value_of b)) true

pub hex_value : (b : ℕ) → b < 256 → is_hex b ≡ true → value_of b ≡ b % 16 + b / 64 * 9
unfolding value_of
hex_value b h e = sym (eqb-true (b % 16 + b / 64 * 9) (value_of b) (rw e at (tested valued 256 refl b h)))

pub ruleset digits = (digit_low, digit_high, hex_below, hex_above, hex_between, hex_value)

-- ── decimal
pub tens : (k n : ℕ) → n < 10 ^ suc (suc k) → n / 10 < 10 ^ suc k
tens k n h = omega (arith, pow-suc 10 (suc k))

-- no more digits are made than the number has
spell_enough : (k n : ℕ) → n < 10 ^ suc k → spell (suc k) n ≡ spell k n
unfolding spell
spell_enough zero n h = rw (lt-ltb n 10 h)
spell_enough (suc k) n h =
    by-test (ltb n 10)
    (λ t. rw t)
    (λ t. rw (t, spell_enough k (n / 10) (tens k n h)))

pub decimal_digit : (n : ℕ) → n < 10 → decimal n ≡ digit_of n ∷ []
unfolding decimal spell
decimal_digit n h = rw (lt-ltb n 10 h)

pub decimal-more : (n : ℕ) → 10 ≤ n → n < 2 ^ 64 → decimal n ≡ decimal (n / 10) ++ (digit_of (n % 10) ∷ [])
unfolding decimal spell
decimal-more n h l = rw (le-ltb n 10 h, ← spell_enough 18 (n / 10) (omega arith))

-- ── digits made from the last one on
spell-length : (k n : ℕ) → (0 < length (spell k n)) × (length (spell k n) ≤ suc k)
unfolding spell
spell-length zero n = (omega arith, omega arith)
spell-length (suc k) n =
    let (some, few) = spell-length k (n / 10) in
    by-test (ltb n 10)
    (λ t. rw t (omega arith, omega arith))
    (λ t. rw (t, length-append (spell k (n / 10)) (digit_of (n % 10) ∷ [])) (omega arith, omega arith))

decimal-length : (n : ℕ) → (0 < length (decimal n)) × (length (decimal n) ≤ 20)
unfolding decimal
decimal-length n = spell-length 19 n

-- a number of two digits or more has one digit more than its tens
decimal-longer : (n : ℕ) → 10 ≤ n → n < 2 ^ 64 → length (decimal n) ≡ length (decimal (n / 10)) + 1
decimal-longer n h l = ap length (decimal-more n h l) ∙ length-append (decimal (n / 10)) (digit_of (n % 10) ∷ [])

-- the digits behind a place, after those of the number that is left, are those of n; and up to the place there is room for the latter
pub record Made (left from : ℕ) (digits : List ℕ) (n : ℕ) : Type 0 where
  pub below : left < 2 ^ 64
  pub size : length digits ≡ 20
  pub place : from < 20
  pub room : length (decimal left) ≤ from + 1
  pub whole : decimal left ++ drop (from + 1) digits ≡ decimal n

pub made_none : (digits : List ℕ) (n : ℕ) → n < 2 ^ 64 → length digits ≡ 20 → Made n 19 digits n
made_none digits n l h =
    record {
      below = l;
      size = h;
      place = omega arith;
      room = (decimal-length n).1;
      whole = rw (drop_of_length-le digits {i = 20} (omega arith), append-nil (decimal n));
    }

module _ {left from n : ℕ} {digits : List ℕ} (m : Made left from digits n) where
  pub made-room : 10 ≤ left → 0 < from
  made-room h = omega (arith, decimal-longer left h m.below, (decimal-length (left / 10)).0)

  -- a digit put at the place
  module _ (d : ℕ) where
    stored : drop from (set digits from d) ≡ d ∷ drop (from + 1) digits
    stored =
        rw (set_split digits from d (omega arith), add-one from)
        (drop_at (take from digits) (d ∷ drop (suc from) digits) from (length-take-le from digits (omega arith)))

    pub made-length : 20 ≤ length (set digits from d)
    made-length = omega (arith, length-set digits from d)

    pub made_more : 10 ≤ left → d ≡ digit_of (left % 10) → Made (left / 10) (from - 1) (set digits from d) n
    made_more h e =
        let longer = decimal-longer left h m.below in
        let some = made-room h in
        let here : from - 1 + 1 ≡ from = omega arith in
        record {
          below = omega arith;
          size = length-set digits from d ∙ m.size;
          place = omega arith;
          room = omega arith;
          whole =
              rw (here, stored, ← append_snoc (decimal (left / 10)) d (drop (from + 1) digits), e, ← decimal-more left h m.below) m.whole;
        }

    pub made_all : left < 10 → d ≡ digit_of left → take (20 - from) (drop from (set digits from d)) ≡ decimal n
    made_all h e =
        let p = length-drop from (set digits from d) in
        let q = length-set digits from d in
        rw (take_all (20 - from) (drop from (set digits from d)) (omega arith), stored, e) (rw (decimal_digit left h) at m.whole)
