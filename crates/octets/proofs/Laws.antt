-- Laws of the definitions of specs/: what stands past the end, parts, numbers, XOR, and what a table of refusals tells.
-- Assumes nothing.
use Prim.Native.Nat.{ℕ, zero, suc, ◌+◌, ◌*◌, ◌-◌, ◌/◌, ◌%◌, ◌^◌, ◌≤◌, ◌<◌}
use native.Mathlib.Nat.{zero-add, zero-lt-suc, pow-le-pow_right, pow-suc, div-div-eq-div-mul, div-eq_of_lt, div-one}
use native.Mathlib.Numerals.{add-one}
use native.Mathlib.Omega.{arith}
use mathlib.Core.Path.{◌≡◌, refl, sym, ap, ap₂, ◌∙◌}
use mathlib.Core.Bool.{Bool, true, false, cond, not}
use mathlib.Core.List.{List, [], ◌∷◌, ◌++◌}
use mathlib.Core.Logic.{inl, inr, ◌↔◌}
use lib.Dec.{T, ltb, eqb}
use lib.ListN.{length, get_or, take, drop, drop_of_length-le, get_or-eq_default}
use lib.Seq.{drop-cons, get_or-take, get_or-drop}
use borrow.Author.Tests.{ltb-true, ne_eqb}
use Rattle.std.specs.List.{fold}
use Rattle.octets.specs.Bytes.{byte_at, eight, number_at, xor_on}
use Rattle.octets.specs.Rows.{Row, row, first_code, NoneHolds, FirstBears, coded}
use Rattle.octets.proofs.Bools.{and_T}

-- ── past the end
pub byte_past : (s : List ℕ) (at : ℕ) → length s ≤ at → byte_at s at ≡ 0
byte_past s at h = get_or-eq_default s 0 {n = at} h

-- ── numbers
-- of fewer than eight bytes there is room for one more
pub number-room : (i n : ℕ) → i < 8 → n < 256 ^ i → n < 256 ^ 7
number-room i n l h = let m : 256 ^ i ≤ 256 ^ 7 = pow-le-pow_right (zero-lt-suc 255) (let e : i ≤ 7 = omega arith in e) in omega arith

-- the number in a part is the one at its place
pub number-part : (s : List ℕ) (at size w : ℕ) → w ≤ size → number_at (take size (drop at s)) 0 w ≡ number_at s at w
number-part s at size zero h = refl
number-part s at size (suc w) h =
    let z = zero-add w in
    ap₂ (λ (m b : ℕ). m * 256 + b) (number-part s at size w (omega arith)) (rw z (get_or-take size (drop at s) w 0 h ∙ get_or-drop at s w 0))

-- a number of W bytes, from its bytes: the first w of them are its high part
number-high : (s : List ℕ) (at W n : ℕ) → n < 256 ^ W → ((i : ℕ) → i < W → byte_at s (at + i) ≡ n / 256 ^ (W - 1 - i) % 256) → (w : ℕ) → w ≤ W → number_at s at w ≡ n / 256 ^ (W - w)
number-high s at W n h bytes zero l = let e : W - 0 ≡ W = omega arith in rw e (sym (div-eq_of_lt h))
number-high s at W n h bytes (suc w) l =
    let e : W - w ≡ suc (W - 1 - w) = omega arith in
    let d : W - suc w ≡ W - 1 - w = omega arith in
    let m = n / 256 ^ (W - 1 - w) in
    let high : n / 256 ^ (W - w) ≡ m / 256 = ap (λ (k : ℕ). n / 256 ^ k) e ∙ ap (λ (k : ℕ). n / k) (pow-suc 256 (W - 1 - w)) ∙ sym (div-div-eq-div-mul n (256 ^ (W - 1 - w)) 256) in
    let whole : m / 256 * 256 + m % 256 ≡ m = omega arith in
    rw (number-high s at W n h bytes w (omega arith), bytes w (omega arith), high, d) whole

pub number-back : (s : List ℕ) (at W n : ℕ) → n < 256 ^ W → ((i : ℕ) → i < W → byte_at s (at + i) ≡ n / 256 ^ (W - 1 - i) % 256) → number_at s at W ≡ n
number-back s at W n h bytes = let e : W - W ≡ 0 = omega arith in number-high s at W n h bytes W (omega arith) ∙ ap (λ (k : ℕ). n / 256 ^ k) e ∙ div-one n

-- each of a number's eight bytes
pub eight-byte : (n : ℕ) (rest : List ℕ) (i : ℕ) → i < 8 → byte_at (eight n ++ rest) i ≡ n / 256 ^ (7 - i) % 256
eight-byte n rest zero l = refl
eight-byte n rest (suc zero) l = refl
eight-byte n rest (suc (suc zero)) l = refl
eight-byte n rest (suc (suc (suc zero))) l = refl
eight-byte n rest (suc (suc (suc (suc zero)))) l = refl
eight-byte n rest (suc (suc (suc (suc (suc zero))))) l = refl
eight-byte n rest (suc (suc (suc (suc (suc (suc zero)))))) l = refl
eight-byte n rest (suc (suc (suc (suc (suc (suc (suc zero))))))) l = omega arith
eight-byte n rest (suc (suc (suc (suc (suc (suc (suc (suc i)))))))) l = absurd (omega arith)

-- ── XOR
-- the library's fold is the definition's
pub xor_fold : (x : ℕ) (s : List ℕ) → fold lib.Bits.bit_xor x s ≡ xor_on x s
unfolding xor_on
xor_fold x [] = refl
xor_fold x (b ∷ s) = xor_fold (lib.Bits.bit_xor x b) s

pub xor_step : (s : List ℕ) (x i : ℕ) → i < length s → xor_on (lib.Bits.bit_xor x (get_or s i 0)) (drop (i + 1) s) ≡ xor_on x (drop i s)
unfolding xor_on
xor_step s x i h = rw (add-one, drop-cons s i 0)

pub xor-end : (s : List ℕ) (x i : ℕ) → length s ≤ i → xor_on x (drop i s) ≡ x
unfolding xor_on
xor-end s x i h = rw drop_of_length-le

-- the XOR of two parts, one after the other
pub xor-append : (x : ℕ) (a b : List ℕ) → xor_on x (a ++ b) ≡ xor_on (xor_on x a) b
unfolding xor_on
xor-append x [] b = refl
xor-append x (y ∷ a) b = xor-append (lib.Bits.bit_xor x y) a b

-- ── ordered rows
module _ (c : ℕ) (rs : List Row) where
  row-passed : (t : Bool) → 0 < c → cond t c (first_code rs) ≡ 0 → (t ≡ false) × (first_code rs ≡ 0)
  row-passed true h e = absurd (omega arith)
  row-passed false h e = (refl, e)

  row-bears : (t : Bool) (k : ℕ) → 0 < k → cond t c (first_code rs) ≡ k → (first_code rs ≡ k → FirstBears k rs) → FirstBears k (row c t ∷ rs)
  row-bears true k h e f = inl (refl, e)
  row-bears false k h e f = inr (refl, f e)

-- the answer is 0 exactly when no row holds
pub none-holds : (rs : List Row) → T (coded rs) → first_code rs ≡ 0 → NoneHolds rs
none-holds [] p e = tt
none-holds (r ∷ rs) p e =
    let (h, q) = and_T (ltb 0 r.code) (coded rs) p in
    let (f, g) = row-passed r.code rs r.holds (ltb-true 0 r.code h) e in
    (f, none-holds rs q g)

pub no_code : (rs : List Row) → NoneHolds rs → first_code rs ≡ 0
no_code [] n = refl
no_code (r ∷ rs) n = rw n.0 (no_code rs n.1)

pub obeyed-exactly : (rs : List Row) → T (coded rs) → (first_code rs ≡ 0) ↔ NoneHolds rs
obeyed-exactly rs p = (none-holds rs p, no_code rs)

-- the answer is a code exactly when the first row that holds bears it
pub first-bears : (rs : List Row) (k : ℕ) → 0 < k → first_code rs ≡ k → FirstBears k rs
first-bears [] k h e = absurd (omega arith)
first-bears (r ∷ rs) k h e = row-bears r.code rs r.holds k h e (λ f. first-bears rs k h f)

pub bears-first : (rs : List Row) (k : ℕ) → FirstBears k rs → first_code rs ≡ k
bears-first [] k h = absurd h
bears-first (r ∷ rs) k (inl (h, e)) = rw h e
bears-first (r ∷ rs) k (inr (h, f)) = rw h (bears-first rs k f)

pub code-exactly : (rs : List Row) (k : ℕ) → 0 < k → (first_code rs ≡ k) ↔ FirstBears k rs
code-exactly rs k h = (first-bears rs k h, bears-first rs k)

-- rows of which none holds say nothing in front of others
pub none-skipped : (xs ys : List Row) → NoneHolds xs → first_code (xs ++ ys) ≡ first_code ys
none-skipped [] ys n = refl
none-skipped (r ∷ rs) ys (e, n) = rw e (none-skipped rs ys n)

-- where no row of two tables one after the other holds, none of either does
pub none-split : (xs ys : List Row) → NoneHolds (xs ++ ys) → NoneHolds xs × NoneHolds ys
none-split [] ys h = (tt, h)
none-split (r ∷ rs) ys (e, h) = let (a, b) = none-split rs ys h in ((e, a), b)

-- the first code of two tables, one after the other: that of the first where a row of it holds, else that of the second
row-joined : (c n m k : ℕ) (t : Bool) → 0 < c → cond (not (eqb n 0)) n k ≡ m → cond (not (eqb (cond t c n) 0)) (cond t c n) k ≡ cond t c m
row-joined c n m k true h e = rw (ne_eqb c 0 (λ z. omega arith))
row-joined c n m k false h e = e

joined : (xs ys : List Row) → T (coded xs) → cond (not (eqb (first_code xs) 0)) (first_code xs) (first_code ys) ≡ first_code (xs ++ ys)
joined [] ys p = refl
joined (r ∷ rs) ys p =
    let (h, q) = and_T (ltb 0 r.code) (coded rs) p in
    row-joined r.code (first_code rs) (first_code (rs ++ ys)) (first_code ys) r.holds (ltb-true 0 r.code h) (joined rs ys q)

pub first-joined : (xs ys : List Row) → T (coded xs) → (c d r : ℕ) → r ≡ cond (not (eqb c 0)) c d → c ≡ first_code xs → d ≡ first_code ys → r ≡ first_code (xs ++ ys)
first-joined xs ys p c d r e f g = e ∙ ap₂ (λ (m n : ℕ). cond (not (eqb m 0)) m n) f g ∙ joined xs ys p
