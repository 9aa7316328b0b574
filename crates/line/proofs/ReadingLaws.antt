-- Laws of what is read: each loop goes on with what is left of the line, and what is left says what the whole did.
-- Assumes nothing.
use Prim.Native.Nat.{ℕ, zero, suc, ◌+◌, ◌*◌, ◌-◌, ◌%◌, ◌<◌, ◌≤◌}
use native.Mathlib.Omega.{arith}
use native.Mathlib.Numerals.{add-one}
use mathlib.Core.Path.{◌≡◌, sym, ap}
use mathlib.Core.Bool.{Bool, true, false, cond, ◌&&◌}
use mathlib.Core.List.{List, [], ◌∷◌}
use lib.Dec.{leb, eqb}
use lib.ListN.{length, get_or, set, drop, drop_of_length-le}
use lib.Seq.{drop-cons}
use borrow.Author.Tests.{lt-ltb, le-leb, lt-leb, leb-true, eqb-true}
use Rattle.octets.proofs.Bools.{and_both, by-test}
use Rattle.line.specs.Digits.{value_of, is_hex, bytes_in, is_digit, shown_on, all}
use Rattle.line.specs.Writing.{put_over}
use Rattle.line.specs.Reading.{zero_leads, numeral_of, is_packet}
use Rattle.std.specs.Prelude.{Option, Some, None}
use Rattle.line.proofs.WritingLaws.{next_place}

-- ── a test of every byte
pub all-at : (test : ℕ → Bool) (l : List ℕ) (i : ℕ) → all test l ≡ true → i < length l → test (get_or l i 0) ≡ true
all-at test [] i e h = absurd (omega arith)
all-at test (b ∷ l) zero e h = (and_both (test b) (all test l) e).0
all-at test (b ∷ l) (suc i) e h = all-at test l i (and_both (test b) (all test l) e).1 (omega arith)

-- ── decimal digits
-- what digits come to, after digits that showed n
unfoldable pub read_on : ℕ → List ℕ → Option ℕ
read_on n s = cond (all is_digit s && leb (shown_on n s) 65535) (Some (shown_on n s)) None

-- more digits show no smaller number
shown-least : (n : ℕ) (s : List ℕ) → n ≤ shown_on n s
unfolding shown_on
shown-least n [] = omega arith
shown-least n (d ∷ s) = omega (arith, shown-least (n * 10 + (d - 48)) s)

module _ (s : List ℕ) (i n : ℕ) where
  pub read_next : i < length s → is_digit (get_or s i 0) ≡ true
      → read_on n (drop i s) ≡ read_on (n * 10 + (get_or s i 0 - 48)) (drop (i + 1) s)
  unfolding read_on shown_on
  read_next h d = rw (add-one i, drop-cons s i 0 h, d)

  pub read_wrong : i < length s → is_digit (get_or s i 0) ≡ false → read_on n (drop i s) ≡ None
  unfolding read_on
  read_wrong h d = rw (drop-cons s i 0 h, d)

  pub read_large : i < length s → 65535 < n * 10 + (get_or s i 0 - 48) → read_on n (drop i s) ≡ None
  unfolding read_on shown_on
  read_large h k =
      let rest = drop (suc i) s in
      let m = n * 10 + (get_or s i 0 - 48) in
      rw (drop-cons s i 0 h, lt-leb (shown_on m rest) 65535 (omega (arith, shown-least m rest)))
      (by-test (is_digit (get_or s i 0) && all is_digit rest) (λ t. rw t) (λ t. rw t))

  pub read_end : length s ≤ i → n ≤ 65535 → read_on n (drop i s) ≡ Some n
  unfolding read_on shown_on
  read_end h k = rw (drop_of_length-le s {i = i} h, le-leb n 65535 k)

pub read_first : (s : List ℕ) → 0 < length s → zero_leads s ≡ false → numeral_of s ≡ read_on 0 (drop 0 s)
unfolding read_on
read_first s h z = rw (lt-ltb 0 (length s) h, z) (by-test (all is_digit s) (λ t. rw t) (λ t. rw t))

-- ── a packet
pub packet-told : (l : List ℕ) → is_packet l ≡ true → (length l % 2 ≡ 0) × (length l ≤ 280) × (all is_hex l ≡ true)
packet-told l e =
    let (p, h) = and_both (eqb (length l % 2) 0 && leb (length l) 280) (all is_hex l) e in
    let (q, r) = and_both (eqb (length l % 2) 0) (leb (length l) 280) p in
    (eqb-true (length l % 2) 0 q, leb-true (length l) 280 r, h)

bytes_on : (l : List ℕ) (i : ℕ) → 2 * i + 1 < length l
    → bytes_in (drop (2 * i) l) ≡ (value_of (get_or l (2 * i) 0) * 16 + value_of (get_or l (2 * i + 1) 0)) ∷ bytes_in (drop (2 * (i + 1)) l)
unfolding bytes_in
bytes_on l i h =
    let low : 2 * i + 1 ≡ suc (2 * i) = omega arith in
    let rest : 2 * (i + 1) ≡ suc (suc (2 * i)) = omega arith in
    rw (rest, low, drop-cons l (2 * i) 0 (omega arith), drop-cons l (suc (2 * i)) 0 (omega arith))

module _ (p l : List ℕ) (i : ℕ) where
  pub packet_next : (x : ℕ) → 2 * i + 1 < length l → i < 140
      → x ≡ value_of (get_or l (2 * i) 0) * 16 + value_of (get_or l (2 * i + 1) 0)
      → put_over (set p i x) (i + 1) (bytes_in (drop (2 * (i + 1)) l)) ≡ put_over p i (bytes_in (drop (2 * i) l))
  unfolding put_over
  packet_next x h k e =
      rw (bytes_on l i h, ← e)
      (ap (λ (n : ℕ). put_over (set p i x) n (bytes_in (drop (2 * (i + 1)) l))) (sym (next_place i (omega arith))))

  pub packet_end : length l ≤ 2 * i → put_over p i (bytes_in (drop (2 * i) l)) ≡ p
  unfolding put_over bytes_in
  packet_end h = rw (drop_of_length-le l {i = 2 * i} h)

pub ruleset reading = (read_next, read_wrong, read_large, read_end, read_first, packet_next, packet_end)
