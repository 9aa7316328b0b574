-- Parts of one size in a row: what a write leaves of each, and that all of them are the whole. Assumes nothing.
use Prim.Native.Nat.{ℕ, zero, suc, ◌+◌, ◌*◌, ◌-◌, ◌≤◌, ◌<◌}
use native.Mathlib.Nat.{add-zero, zero-add, suc-mul}
use native.Mathlib.Omega.{arith}
use mathlib.Core.Path.{◌≡◌, refl, sym, ap, ap₂, ◌∙◌}
use mathlib.Core.List.{List, [], ◌++◌, append-nil, append_assoc}
use mathlib.Core.Logic.{◌⊎◌, inl, inr}
use lib.ListN.{length, get_or, take, drop, length-take, length-drop, length-append}
use lib.Seq.{ext_get_or, take-add, take_all, drop-drop, take_at, drop_at, drop-append-add}
use Rattle.std.proofs.lemmas.List.{drop-take, take-take}
use Rattle.memory.specs.declared.Format.{Format}
use Rattle.memory.specs.Memory.{written}
use Rattle.memory.proofs.Laws.{written-length, written-other, written_same, part-byte, part-long}
use Rattle.std.specs.Simd.{first_chunks}
use Rattle.survey.specs.Turns.{turns}
use Rattle.summary.specs.Summary.{laid, lines_at, card_in, line_in}

-- ── a write, seen in a part
module _ (t : List ℕ) (at : ℕ) (d : List ℕ) where
  pub part-written : at + length d ≤ length t → take (length d) (drop at (written t at d)) ≡ d
  part-written h =
      ext_get_or 0 _ _ (simp (length-take, length-drop) (omega (arith, written-length t at d)))
      (λ i l. byte i (omega (arith, simp (length-take, length-drop) at l)))
    where
      byte : (i : ℕ) → i < length d → get_or (take (length d) (drop at (written t at d))) i 0 ≡ get_or d i 0
      byte i l =
          let e : at + i - at ≡ i = omega arith in
          part-byte (written t at d) at (length d) i l ∙ written_same t at d (at + i) h (omega arith) (omega arith) ∙ ap (λ (k : ℕ). get_or d k 0) e

  pub part-beside : (from size : ℕ) → (from + size ≤ at) ⊎ (at + length d ≤ from) → take size (drop from (written t at d)) ≡ take size (drop from t)
  part-beside from size h =
      ext_get_or 0 _ _ (part-long t from size (written t at d) (written-length t at d))
      (λ i l. byte i h (omega (arith, simp (length-take, length-drop) at l)))
    where
      byte : (i : ℕ) → (from + size ≤ at) ⊎ (at + length d ≤ from) → i < size → get_or (take size (drop from (written t at d))) i 0 ≡ get_or (take size (drop from t)) i 0
      byte i (inl b) l = part-byte (written t at d) from size i l ∙ written-other t at d (from + i) (inl (omega arith)) ∙ sym (part-byte t from size i l)
      byte i (inr a) l = part-byte (written t at d) from size i l ∙ written-other t at d (from + i) (inr (omega arith)) ∙ sym (part-byte t from size i l)

-- ── parts one after the other
module _ (size : ℕ) (card : ℕ → List ℕ) where
  pub in_turns : (s : List ℕ) (f n : ℕ) → ((i : ℕ) → n ≤ i → i < n + f → take size (drop (i * size) s) ≡ card i)
      → take (f * size) (drop (n * size) s) ≡ turns n f (λ i left. card i)
  in_turns s zero n h = let z : 0 * size ≡ 0 = omega arith in rw z
  in_turns s (suc f) n h =
      let e : suc f * size ≡ size + f * size = omega arith in
      let d : n * size + size ≡ suc n * size = omega arith in
      rw (e, take-add size (f * size) (drop (n * size) s), h n (omega arith) (omega arith), drop-drop size (n * size) s, d)
      (ap (λ (r : List ℕ). card n ++ r) (in_turns s f (suc n) (λ i a b. h i (omega arith) (omega arith))))

  module _ (sized : (n : ℕ) → length (card n) ≡ size) where
    pub turns-long : (f n : ℕ) → length (turns n f (λ i left. card i)) ≡ f * size
    turns-long zero n = omega arith
    turns-long (suc f) n = simp length-append (omega (arith, sized n, turns-long f (suc n)))

    -- part k of a row of them
    pub turns-part : (rest : List ℕ) (f n k : ℕ) → k < f → take size (drop (k * size) (turns n f (λ i left. card i) ++ rest)) ≡ card (n + k)
    turns-part rest zero n k l = absurd (omega arith)
    turns-part rest (suc f) n zero l =
        let z : 0 * size ≡ 0 = omega arith in
        rw (z, add-zero n) (ap (take size) (append_assoc (card n) (turns (suc n) f (λ i left. card i)) rest) ∙ take_at (card n) (turns (suc n) f (λ i left. card i) ++ rest) size (sized n))
    turns-part rest (suc f) n (suc k) l =
        let e : suc k * size ≡ length (card n) + k * size = omega (arith, sized n) in
        let d : n + suc k ≡ suc n + k = omega arith in
        rw (e, d, append_assoc (card n) (turns (suc n) f (λ i left. card i)) rest)
        (ap (take size) (drop-append-add (card n) (turns (suc n) f (λ i left. card i) ++ rest) (k * size)) ∙ turns-part rest f (suc n) k (omega arith))

-- the library's chunks are the parts
pub chunk-at : (size count n : ℕ) (s : List ℕ) → n < count → get_or (first_chunks size count s) n [] ≡ take size (drop (n * size) s)
chunk-at size zero n s l = absurd (omega arith)
chunk-at size (suc count) zero s l = let z : 0 * size ≡ 0 = omega arith in rw z
chunk-at size (suc count) (suc n) s l =
    let e : size + n * size ≡ suc n * size = omega (arith, suc-mul n size) in
    chunk-at size count n (drop size s) (omega arith) ∙ ap (take size) (drop-drop (n * size) size s ∙ ap (λ (k : ℕ). drop k s) e)

-- ── a whole summary
-- a sequence's card, in the cards of sequences alone
pub card-front : (F : Format) (s : List ℕ) (n : ℕ) → n ≤ F.last → card_in (take (lines_at F) s) n ≡ card_in s n
card-front F s n l =
    let m = lines_at F - n * 32 in
    let e : lines_at F ≡ n * 32 + m = omega arith in
    ap (λ (k : ℕ). card_in (take k s) n) e ∙ ap (take 32) (drop-take (n * 32) m s) ∙ take-take 32 m (drop (n * 32) s) (omega arith)

module _ (F : Format) (card line : ℕ → List ℕ) where
  -- these cards of sequences, and these of line lists behind them, are a summary
  pub parts-are : (cards lines : List ℕ) → length cards ≡ lines_at F → length lines ≡ 192 → ((n : ℕ) → n ≤ F.last → card_in cards n ≡ card n)
      → ((k : ℕ) → k ≤ 47 → take 4 (drop (k * 4) lines) ≡ line k) → cards ++ lines ≡ laid F card line
  parts-are cards lines lc ll c l =
      let front = in_turns 32 card cards (suc F.last) 0 (λ i a b. c i (omega arith)) in
      let back = in_turns 4 line lines 48 0 (λ i a b. l i (omega arith)) in
      ap₂ (λ (a b : List ℕ). a ++ b) (sym (take_all (lines_at F) cards (omega arith)) ∙ front) (sym (take_all 192 lines (omega arith)) ∙ back)

  module _ (cards : (n : ℕ) → length (card n) ≡ 32) (lines : (k : ℕ) → length (line k) ≡ 4) where
    pub laid-long : length (laid F card line) ≡ lines_at F + 192
    laid-long =
        length-append (turns 0 (suc F.last) (λ n left. card n)) (turns 0 48 (λ k left. line k))
        ∙ ap₂ (λ (a b : ℕ). a + b) (turns-long 32 card cards (suc F.last) 0) (turns-long 4 line lines 48 0)

    pub card-laid : (n : ℕ) → n ≤ F.last → card_in (laid F card line) n ≡ card n
    card-laid n l = turns-part 32 card cards (turns 0 48 (λ k left. line k)) (suc F.last) 0 n (omega arith) ∙ ap card (zero-add n)

    pub line-laid : (k : ℕ) → k ≤ 47 → line_in F (laid F card line) k ≡ line k
    line-laid k l =
        let d = drop_at (turns 0 (suc F.last) (λ n left. card n)) (turns 0 48 (λ i left. line i)) (lines_at F) (turns-long 32 card cards (suc F.last) 0) in
        ap (λ (r : List ℕ). take 4 (drop (k * 4) r)) (d ∙ sym (append-nil (turns 0 48 (λ i left. line i)))) ∙ turns-part 4 line lines [] 48 0 k (omega arith) ∙ ap line (zero-add k)

  -- the same cards are the same summary
  pub laid_same : (card' line' : ℕ → List ℕ) → ((n : ℕ) → n ≤ F.last → card n ≡ card' n) → ((k : ℕ) → k ≤ 47 → line k ≡ line' k) → laid F card line ≡ laid F card' line'
  laid_same card' line' c l =
      λ i. turns_same card card' (suc F.last) 0 (λ n a b. c n (omega arith)) i ++ turns_same line line' 48 0 (λ k a b. l k (omega arith)) i
    where
      turns_same : (a b : ℕ → List ℕ) (f n : ℕ) → ((i : ℕ) → n ≤ i → i < n + f → a i ≡ b i) → turns n f (λ i left. a i) ≡ turns n f (λ i left. b i)
      turns_same a b zero n h = refl
      turns_same a b (suc f) n h = rw (h n (omega arith) (omega arith)) (ap (λ (r : List ℕ). b n ++ r) (turns_same a b f (suc n) (λ i x y. h i (omega arith) (omega arith))))
