-- The XOR of bytes as a checksum: begun with the sum itself, the XOR of all takes it out again.
-- Assumes nothing.
use Rattle.std.proofs.Common.{◌≡◌, ℕ, zero, suc, ◌+◌, ◌-◌, ◌<◌, eqb, List, [], ◌∷◌, ◌++◌, take, drop, sym, refl, ap, ◌∙◌, append-nil, add-one, arith, drop_of_length-le, length-take, get_or-take, take-take}
use lib.Bits.{bit_xor, xor_comm, xor_self, xor_zero_r, xor_assoc}
use Rattle.std.proofs.lemmas.Bool.Decides.{nat_tests}
use Rattle.octets.specs.Bytes.{byte_at, xor_on, xor_of}
use Rattle.sequence.specs.Text.{limit, xor_good}
use Rattle.sequence.specs.LineList.{checksum_of}

-- ── XOR in another order
xor-swap : (a b c : ℕ) → bit_xor (bit_xor a b) c ≡ bit_xor (bit_xor a c) b
xor-swap a b c = xor_assoc a b c ∙ ap (bit_xor a) (xor_comm b c) ∙ sym (xor_assoc a c b)

xor-twice : (x y : ℕ) → bit_xor (bit_xor x y) y ≡ x
xor-twice x y = xor_assoc x y y ∙ ap (bit_xor x) (xor_self y) ∙ xor_zero_r x

-- ── the sum taken out
taken_out : (x : ℕ) (l : List ℕ) (at : ℕ) → xor_on (bit_xor x (byte_at l at)) l ≡ xor_on x (take at l ++ drop (suc at) l)
unfolding xor_on
taken_out x [] zero = xor_zero_r x
taken_out x [] (suc at) = xor_zero_r x
taken_out x (y ∷ l) zero = ap (λ (n : ℕ). xor_on n l) (xor-twice x y)
taken_out x (y ∷ l) (suc at) = ap (λ (n : ℕ). xor_on n l) (xor-swap x (byte_at l at) y) ∙ taken_out (bit_xor x y) l at

sum-out : (l : List ℕ) (at : ℕ) → xor_on (byte_at l at) l ≡ xor_of (take at l ++ drop (at + 1) l)
sum-out l at = rw add-one (taken_out 0 l at)

-- ── the sum of a part
module _ (s : List ℕ) (at len : ℕ) (h : at < len) where
  part-byte : byte_at (take len s) at ≡ byte_at s at
  part-byte = get_or-take len s at 0 h

  part-sum : xor_on (byte_at (take len s) at) (take len s) ≡ xor_of (take at s ++ drop (at + 1) (take len s))
  part-sum = sum-out (take len s) at ∙ rw (take-take at len s (omega arith))

-- a line list's sum: the byte that was found, and the one expected
pub list-sum : (l whole : List ℕ) (len found expected : ℕ) → 3 < len → len ≡ byte_at l 0 → whole ≡ take len l → found ≡ byte_at whole 3 → expected ≡ xor_on found whole
    → (found ≡ byte_at l 3) × (expected ≡ checksum_of l)
unfolding checksum_of
list-sum l whole len found expected h k w f e = (f ∙ rw (w, part-byte l 3 len h), e ∙ rw (f, w, ← k) (part-sum l 3 len h))

eqb_swap : (a b : ℕ) → eqb a b ≡ eqb b a
eqb_swap a b = grind (arith, nat_tests)

-- an entry's sum is its last byte
pub entry-sum : (text : List ℕ) → eqb (byte_at (take (byte_at text 0) text) (limit text)) (xor_on (byte_at (take (byte_at text 0) text) (limit text)) (take (byte_at text 0) text)) ≡ xor_good text
unfolding xor_on xor_good limit
entry-sum text = by_length (byte_at text 0) refl
  where
    by_length : (n : ℕ) → byte_at text 0 ≡ n → eqb (byte_at (take n text) (n - 1)) (xor_on (byte_at (take n text) (n - 1)) (take n text)) ≡ eqb (xor_of (take (n - 1) text)) (byte_at text (n - 1))
    by_length zero e = rw e
    by_length (suc m) e =
        let g : suc m - 1 ≡ m = omega arith in
        rw (g, part-sum text m (suc m) (omega arith), part-byte text m (suc m) (omega arith), drop_of_length-le (take (suc m) text) {i = m + 1} (rw length-take (omega arith)), append-nil)
        (eqb_swap (byte_at text m) (xor_of (take m text)))
