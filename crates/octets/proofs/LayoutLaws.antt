-- Laws of tables of fields, for every table that passes the test `tiles`: its fields come back out of the bytes that spell them, and bytes
-- that are not wrong come back out of their fields. Assumes nothing.
use Prim.Native.Nat.{ℕ, zero, suc, ◌+◌, ◌*◌, ◌-◌, ◌/◌, ◌%◌, ◌≤◌, ◌<◌, ◌^◌}
use native.Mathlib.Omega.{arith}
use native.Mathlib.Numerals.{add-one}
use native.Mathlib.Nat.{add-zero}
use mathlib.Core.Path.{◌≡◌, refl, sym, ap, ap₂, subst, ◌∙◌}
use mathlib.Core.Bool.{Bool, true, false, not}
use mathlib.Core.List.{List, [], ◌∷◌, ◌++◌, append_assoc}
use lib.Dec.{T, ltb, eqb, eqb→eq}
use lib.IntN.{ℤ, pos, negsuc}
use lib.ListN.{length, get_or, drop, length-append, drop_of_length-le}
use lib.Seq.{drop-cons, get_or-append-add}
use borrow.Author.Tests.{lt-ltb, le-ltb, ltb-false, eqb-true, not-false}
use Rattle.std.proofs.lemmas.Bool.{or_parts}
use Rattle.std.proofs.lemmas.Nat.{from_be_bytes-to_be_bytes_4}
use Rattle.octets.specs.Bytes.{byte_at, word_at, four_at, halves}
use Rattle.octets.specs.Layout.{is_set, flag, complement, signed, SignedFits, Cell, Field, field, spelled, read_at, Fits, unlike, wrong_at, laid, reads, wrong, AllFit, tiles}
use Rattle.octets.specs.Layout.Cell.{Byte, Word, Four, Signed, Flag, Halves, Fixed}
use Rattle.octets.proofs.Bools.{and_T, by-test}

-- every element is a byte
abbrev pub Octets : List ℕ → Type 0
Octets s = (i : ℕ) → get_or s i 0 < 256

-- ── bytes out of a cell that was read
-- n bytes from a place on
abbrev bytes_at : List ℕ → ℕ → ℕ → List ℕ
bytes_at s at zero = []
bytes_at s at (suc n) = byte_at s at ∷ bytes_at s (at + 1) n

cut : (s : List ℕ) (at n : ℕ) → at + n ≤ length s → bytes_at s at n ++ drop (at + n) s ≡ drop at s
cut s at zero h = rw add-zero refl
cut s at (suc n) h =
    let e : at + suc n ≡ at + 1 + n = omega arith in
    ap (λ (i : ℕ). byte_at s at ∷ (bytes_at s (at + 1) n ++ drop i s)) e
    ∙ ap (λ (l : List ℕ). byte_at s at ∷ l) (cut s (at + 1) n (omega arith))
    ∙ rw add-one (sym (drop-cons s at 0 (omega arith)))

flag-byte : (n : ℕ) → n ≤ 1 → flag (is_set n) ≡ n
flag-byte zero h = refl
flag-byte (suc zero) h = refl
flag-byte (suc (suc n)) h = absurd (omega arith)

-- a signed word and its two's complement come back out of each other
complement-signed : (n : ℕ) → n < 65536 → complement (signed n) ≡ n
complement-signed n h = by-test (ltb n 32768) (λ e. rw e) (λ e. rw e (omega arith))

signed-complement : (z : ℤ) → SignedFits z → signed (complement z) ≡ z
signed-complement (pos n) h = rw (lt-ltb n 32768 h)
signed-complement (negsuc n) h =
    let e : 65535 - (65535 - n) ≡ n = omega arith in
    rw (le-ltb (65535 - n) 32768 (omega arith)) (ap negsuc e)

complement-fits : (z : ℤ) → SignedFits z → complement z < 65536
complement-fits (pos n) h = omega arith
complement-fits (negsuc n) h = omega arith

alike : (bs : List ℕ) (at : ℕ) (s : List ℕ) → unlike bs at s ≡ false → bs ≡ bytes_at s at (length bs)
alike [] at s e = refl
alike (b ∷ bs) at s e =
    let (x, y) = or_parts (not (eqb (byte_at s at) b)) (unlike bs (at + 1) s) e in
    ap₂ (λ (n : ℕ) (l : List ℕ). n ∷ l) (sym (eqb-true (byte_at s at) b (not-false (eqb (byte_at s at) b) x))) (alike bs (at + 1) s y)

spells-read : (s : List ℕ) → Octets s → (c : Cell) (at : ℕ) → wrong_at c at s ≡ false → spelled (read_at c at s) ≡ bytes_at s at (length (spelled c))
spells-read s o (Byte n) at e = refl
spells-read s o (Word n) at e =
    let a : word_at s at / 256 % 256 ≡ byte_at s at = omega (arith, o at, o (at + 1)) in
    let b : word_at s at % 256 ≡ byte_at s (at + 1) = omega (arith, o (at + 1)) in
    simp (a, b)
spells-read s o (Four n) at e =
    let w = o at in
    let x = o (at + 1) in
    let y = o (at + 1 + 1) in
    let z = o (at + 1 + 1 + 1) in
    let a : four_at s at / 16777216 % 256 ≡ byte_at s at = omega arith in
    let b : four_at s at / 65536 % 256 ≡ byte_at s (at + 1) = omega arith in
    let c : four_at s at / 256 % 256 ≡ byte_at s (at + 1 + 1) = omega arith in
    let d : four_at s at % 256 ≡ byte_at s (at + 1 + 1 + 1) = omega arith in
    simp (a, b, c, d)
spells-read s o (Signed z) at e =
    let c = complement-signed (word_at s at) (omega (arith, o at, o (at + 1))) in
    let a : word_at s at / 256 % 256 ≡ byte_at s at = omega (arith, o at, o (at + 1)) in
    let b : word_at s at % 256 ≡ byte_at s (at + 1) = omega (arith, o (at + 1)) in
    simp (c, a, b)
spells-read s o (Flag b) at e = ap (λ (n : ℕ). n ∷ []) (flag-byte (byte_at s at) (ltb-false 1 (byte_at s at) e))
spells-read s o (Halves a b) at e =
    let h : halves (byte_at s at / 16) (byte_at s at % 16) ≡ byte_at s at = omega (arith, o at) in
    ap (λ (n : ℕ). n ∷ []) h
spells-read s o (Fixed bs) at e = alike bs at s e

-- what the test tells of a table's first field
first : (f : Field) (fs : List Field) (at n : ℕ) → T (tiles at (f ∷ fs) n) → (f.at ≡ at) × T (tiles (at + length (spelled f.cell)) fs n)
first f fs at n t =
    let (e, rest) = and_T (eqb f.at at) (tiles (at + length (spelled f.cell)) fs n) t in
    (eqb-true f.at at e, rest)

tiles-le : (fs : List Field) (at n : ℕ) → T (tiles at fs n) → at ≤ n
tiles-le [] at n t = omega (arith, eqb→eq at n t)
tiles-le (f ∷ fs) at n t = omega (arith, tiles-le fs (at + length (spelled f.cell)) n (first f fs at n t).1)

laid_from : (fs : List Field) (s : List ℕ) (at : ℕ) → Octets s → T (tiles at fs (length s)) → wrong fs s ≡ false → laid (reads fs s) ≡ drop at s
laid_from [] s at o t e = let h = eqb→eq at (length s) t in sym (drop_of_length-le s {i = at} (omega arith))
laid_from (f ∷ fs) s at o t e =
    let c = f.cell in
    let size = length (spelled c) in
    let (here, rest) = first f fs at (length s) t in
    let (w, ws) = or_parts (wrong_at c f.at s) (wrong fs s) e in
    ap (λ (l : List ℕ). spelled (read_at c f.at s) ++ l) (laid_from fs s (at + size) o rest ws)
    ∙ ap (λ (l : List ℕ). l ++ drop (at + size) s) (spells-read s o c f.at w)
    ∙ ap (λ (i : ℕ). bytes_at s i size ++ drop (at + size) s) here
    ∙ cut s at size (tiles-le fs (at + size) (length s) rest)

-- laying what was read gives the bytes back
pub laid-reads : (fs : List Field) (s : List ℕ) → T (tiles 0 fs (length s)) → Octets s → wrong fs s ≡ false → laid (reads fs s) ≡ s
laid-reads fs s t o e = laid_from fs s 0 o t e

-- ── a cell out of its bytes
flag-back : (b : Bool) → is_set (flag b) ≡ b
flag-back true = refl
flag-back false = refl

four-back : (n : ℕ) → n < 2 ^ 32 → n / 16777216 % 256 * 16777216 + (n / 65536 % 256 * 65536 + (n / 256 % 256 * 256 + n % 256)) ≡ n
four-back n h = omega (arith, from_be_bytes-to_be_bytes_4 n h)

module _ (p : List ℕ) where
  -- the byte i places behind a list
  behind : (l : List ℕ) (i at : ℕ) → at ≡ length p + i → byte_at (p ++ l) at ≡ byte_at l i
  behind l i at e = rw e (get_or-append-add p l i 0)

  reads-spelled : (c : Cell) (q : List ℕ) → Fits c → read_at c (length p) (p ++ (spelled c ++ q)) ≡ c
  reads-spelled (Byte n) q h = ap Byte (behind (n ∷ q) 0 (length p) (omega arith))
  reads-spelled (Word n) q h =
      let l = n / 256 % 256 ∷ n % 256 ∷ q in
      let a = behind l 0 (length p) (omega arith) in
      let b = behind l 1 (length p + 1) refl in
      let e : n / 256 % 256 * 256 + n % 256 ≡ n = omega arith in
      simp (a, b, e)
  reads-spelled (Four n) q h =
      let l = n / 16777216 % 256 ∷ n / 65536 % 256 ∷ n / 256 % 256 ∷ n % 256 ∷ q in
      let a = behind l 0 (length p) (omega arith) in
      let b = behind l 1 (length p + 1) refl in
      let c = behind l 2 (length p + 1 + 1) (omega arith) in
      let d = behind l 3 (length p + 1 + 1 + 1) (omega arith) in
      simp (a, b, c, d, four-back n h)
  reads-spelled (Signed z) q h =
      let n = complement z in
      let f = complement-fits z h in
      let l = n / 256 % 256 ∷ n % 256 ∷ q in
      let a = behind l 0 (length p) (omega arith) in
      let b = behind l 1 (length p + 1) refl in
      let e : n / 256 % 256 * 256 + n % 256 ≡ n = omega arith in
      simp (a, b, e, signed-complement z h)
  reads-spelled (Flag b) q h = ap (λ (n : ℕ). Flag (is_set n)) (behind (flag b ∷ q) 0 (length p) (omega arith)) ∙ ap Flag (flag-back b)
  reads-spelled (Halves a b) q h =
      let s = behind (halves a b ∷ q) 0 (length p) (omega arith) in
      let e : halves a b / 16 ≡ a = omega (arith, h.0) in
      let f : halves a b % 16 ≡ b = omega (arith, h.1) in
      simp (s, e, f)
  reads-spelled (Fixed bs) q h = refl

reads-behind : (fs : List Field) (p : List ℕ) (n : ℕ) → T (tiles (length p) fs n) → AllFit fs → reads fs (p ++ laid fs) ≡ fs
reads-behind [] p n t h = refl
reads-behind (f ∷ fs) p n t h =
    let c = f.cell in
    let s = p ++ (spelled c ++ laid fs) in
    let (here, rest) = first f fs (length p) n t in
    let mine : read_at c f.at s ≡ c = ap (λ (i : ℕ). read_at c i s) here ∙ reads-spelled p c (laid fs) h.0 in
    let tiled : T (tiles (length (p ++ spelled c)) fs n) = subst (λ (i : ℕ). T (tiles i fs n)) (sym (length-append p (spelled c))) rest in
    let theirs : reads fs s ≡ fs = ap (reads fs) (sym (append_assoc p (spelled c) (laid fs))) ∙ reads-behind fs (p ++ spelled c) n tiled h.1 in
    ap₂ (λ (x : Cell) (xs : List Field). field f.at x ∷ xs) mine theirs

-- reading what was laid gives the fields back
pub reads-laid : (fs : List Field) (n : ℕ) → T (tiles 0 fs n) → AllFit fs → reads fs (laid fs) ≡ fs
reads-laid fs n t h = reads-behind fs [] n t h
