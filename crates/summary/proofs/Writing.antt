-- One card written among others: it stands there, and all else is as it was. Assumes nothing.
use Prim.Native.Nat.{ℕ, suc, ◌+◌, ◌*◌, ◌≤◌, ◌<◌}
use native.Mathlib.Nat.{suc-mul, mul-le-mul_right}
use native.Mathlib.Decide.{ℕ_discrete, dec_lt}
use native.Mathlib.Omega.{arith}
use mathlib.Core.Path.{◌≡◌, refl, sym, ap, ◌∙◌}
use mathlib.Core.Bool.{Bool, true, false, cond}
use mathlib.Core.List.{List}
use Rattle.std.specs.Prelude.{Ok, Err}
use mathlib.Core.Logic.{◌⊎◌, inl, inr}
use lib.ListN.{length, take, drop}
use lib.Seq.{take_all}
use Rattle.memory.specs.declared.Format.{Format}
use Rattle.memory.specs.Memory.{fills, written, entry_of, list_of}
use Rattle.memory.proofs.Laws.{written-length, entry-short}
use Rattle.sequence.specs.LineList.{ListCard, list_card, card_with, card_bytes}
use Rattle.survey.specs.Report.{alone_of}
use Rattle.summary.specs.Card.{bytes_of, card_of}
use Rattle.summary.specs.Summary.{seq_card, line_card}
use Rattle.summary.specs.Held.{Renewed}
use Rattle.summary.proofs.Parts.{part-written, part-beside}

-- ── the cards
-- what is known of a sequence, in bytes, is its card
pub seq-card : (F : Format) (cards : ℕ → ListCard) (seqs : List ℕ) (n : ℕ) → fills F ≡ true → bytes_of (alone_of F cards (entry_of F seqs n)) ≡ seq_card F seqs cards n
unfolding seq_card card_of alone_of
seq-card F cards seqs n fit = rw (fit, take_all F.size (entry_of F seqs n) (entry-short F seqs n))

pub seq-long : (F : Format) (seqs : List ℕ) (cards : ℕ → ListCard) (n : ℕ) → length (seq_card F seqs cards n) ≡ 32
unfolding seq_card card_of
seq-long F seqs cards n = refl

pub line-long : (lists : List ℕ) (k : ℕ) → length (line_card lists k) ≡ 4
unfolding line_card
line-long lists k = refl

-- ── parts of one size: a write of one, seen in it and in another
module _ (size : ℕ) (t d : List ℕ) (n : ℕ) (long : length d ≡ size) where
  here : n * size + size ≤ length t → take size (drop (n * size) (written t (n * size) d)) ≡ d
  here fits = ap (λ (k : ℕ). take k (drop (n * size) (written t (n * size) d))) (sym long) ∙ part-written t (n * size) d (rw long fits)

  beside : (m : ℕ) → (m ≡ n → ⊥) → take size (drop (m * size) (written t (n * size) d)) ≡ take size (drop (m * size) t)
  beside m other = by (dec_lt m n)
    where
      before : (a b : ℕ) → a < b → a * size + size ≤ b * size
      before a b l = let h : suc a ≤ b = omega arith in omega (arith, suc-mul a size, mul-le-mul_right size h)

      by : Dec (m < n) → take size (drop (m * size) (written t (n * size) d)) ≡ take size (drop (m * size) t)
      by (yes l) = part-beside t (n * size) d (m * size) size (inl (before m n l))
      by (no l) = part-beside t (n * size) d (m * size) size (inr (rw long (before n m (omega arith))))

-- ── parts of one size, one after the other
module _ (size : ℕ) (part : ℕ → List ℕ) (test : ℕ → Bool) (first : ℕ) (s₀ : List ℕ) where
  module _ (n : ℕ) (s : List ℕ) (r : Renewed size part test first n s₀ s) (low : first ≤ n) where
    further : (k : ℕ) → (k < first) ⊎ (n + 1 ≤ k) → (k < first) ⊎ (n ≤ k)
    further k (inl h) = inl h
    further k (inr h) = inr (omega arith)

    renewed-kept : test n ≡ false → Renewed size part test first (n + 1) s₀ s
    renewed-kept t = record { long = r.long; done = λ k a b. by k a b (ℕ_discrete k n); rest = λ k h. r.rest k (further k h) }
      where
        by : (k : ℕ) → first ≤ k → k < n + 1 → Dec (k ≡ n) → take size (drop (k * size) s) ≡ cond (test k) (part k) (take size (drop (k * size) s₀))
        by k a b (yes e) = rw (e, t) (r.rest n (inr (omega arith)))
        by k a b (no d) = r.done k a (omega arith)

    pub renewed-put : test n ≡ true → length (part n) ≡ size → n * size + size ≤ length s₀ → Renewed size part test first (n + 1) s₀ (written s (n * size) (part n))
    renewed-put t long room =
        record {
          long = written-length s (n * size) (part n) ∙ r.long;
          done = λ k a b. by k a b (ℕ_discrete k n);
          rest = λ k h. beside size s (part n) n long k (off k h) ∙ r.rest k (further k h);
        }
      where
        off : (k : ℕ) → (k < first) ⊎ (n + 1 ≤ k) → k ≡ n → ⊥
        off k (inl h) e = omega arith
        off k (inr h) e = omega arith

        by : (k : ℕ) → first ≤ k → k < n + 1 → Dec (k ≡ n)
            → take size (drop (k * size) (written s (n * size) (part n))) ≡ cond (test k) (part k) (take size (drop (k * size) s₀))
        by k a b (yes e) = rw (e, t) (here size s (part n) n long (omega (arith, r.long)))
        by k a b (no d) = beside size s (part n) n long k d ∙ r.done k a (omega arith)

    -- the part is written where it is named
    pub renewed_step : (s' : List ℕ) (named : Bool) → named ≡ test n → length (part n) ≡ size → n * size + size ≤ length s₀
        → ((named ≡ true) × (s' ≡ written s (n * size) (part n))) ⊎ ((named ≡ false) × (s' ≡ s)) → Renewed size part test first (n + 1) s₀ s'
    renewed_step s' named e long room (inl (t, w)) = rw w (renewed-put (sym e ∙ t) long room)
    renewed_step s' named e long room (inr (t, w)) = rw w (renewed-kept (sym e ∙ t))

-- ── the line lists' cards
with_all : (card : ListCard) → card_with true card ≡ card
with_all (Ok marks) = refl
with_all (Err bad) = refl

pub line-card : (lists list : List ℕ) (k : ℕ) (card : ListCard) (d : List ℕ) → list ≡ list_of lists k → card ≡ card_with true (list_card list) → d ≡ card_bytes card → d ≡ line_card lists k
unfolding line_card
line-card lists list k card d el ec ed = ed ∙ ap card_bytes (ec ∙ with_all (list_card list) ∙ ap list_card el)
