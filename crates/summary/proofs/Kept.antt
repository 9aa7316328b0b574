-- A summary that was fresh before an uplink is fresh after it, once the cards that the range names are worked out again. Assumes nothing.
use Prim.Native.Nat.{ℕ, ◌+◌, ◌*◌, ◌-◌, ◌/◌, ◌^◌, ◌≤◌, ◌<◌}
use native.Mathlib.Nat.{suc-mul, div-lt_iff_lt-mul, le-div_iff_mul-le}
use native.Mathlib.Omega.{arith}
use mathlib.Core.Path.{◌≡◌, sym, ap, ◌∙◌}
use mathlib.Core.Bool.{true, false, true≢false}
use mathlib.Core.List.{List}
use mathlib.Core.Logic.{inl, inr}
use lib.Dec.{leb}
use lib.ListN.{length, take, drop}
use borrow.Author.Tests.{leb-false}
use Rattle.octets.proofs.Bools.{by-test}
use Rattle.memory.specs.declared.Format.{Format}
use Rattle.memory.specs.declared.Range.TheVariants.{Sequences, LineLists}
use Rattle.memory.specs.Memory.{entry_of, written}
use Rattle.memory.proofs.Laws.{Fair}
use Rattle.sequence.specs.LineList.{list_card, card_bytes, card_read}
use Rattle.sequence.specs.Starts.{among}
use Rattle.sequence.specs.Env.{cards_of}
use Rattle.sequence.proofs.Cards.{card-back}
use Rattle.survey.specs.Tested.{tested_in, has_list}
use Rattle.survey.proofs.Bits.{bits_most, has-is}
use Rattle.survey.specs.declared.Alone.{Alone}
use Rattle.survey.specs.Report.{alone_in}
use Rattle.summary.specs.Card.{head_of, steps_in, exposures_in, bytes_of, card_of, used_in}
use Rattle.summary.specs.Summary.{line_card, seq_card, card_in, line_in, summary_of, touches, uses_touched, line_after, card_after, renewed}
use Rattle.summary.proofs.Numbers.{used-back}
use Rattle.summary.proofs.Parts.{part-beside, card-laid, line-laid, laid_same}
use Rattle.summary.proofs.Writing.{seq-long, line-long}
use Rattle.summary.proofs.Whole.{card-kept, card-same, some-touched}

-- ── what a fresh summary has
used-alone : (a : Alone) → a.tested < 2 ^ 48 → used_in (bytes_of a) ≡ a.tested
used-alone a h = used-back (head_of a.found a.reason) (steps_in a.found) (exposures_in a.found) a.tested h

module _ (F : Format) (seqs lists : List ℕ) where
  pub fresh-card : (n : ℕ) → n ≤ F.last → card_in (summary_of F seqs lists) n ≡ seq_card F seqs (cards_of lists) n
  unfolding summary_of
  fresh-card n l = card-laid F (seq_card F seqs (cards_of lists)) (line_card lists) (seq-long F seqs (cards_of lists)) (line-long lists) n l

  pub fresh-line : (k : ℕ) → k ≤ 47 → line_in F (summary_of F seqs lists) k ≡ line_card lists k
  unfolding summary_of
  fresh-line k l = line-laid F (seq_card F seqs (cards_of lists)) (line_card lists) (seq-long F seqs (cards_of lists)) (line-long lists) k l

  -- the line lists that a sequence's card uses are those that its check tests
  pub fresh-used : (n k : ℕ) → n ≤ F.last → k ≤ 47 → has_list (used_in (card_in (summary_of F seqs lists) n)) k ≡ among k (tested_in (cards_of lists) (entry_of F seqs n))
  unfolding seq_card card_of
  fresh-used n k l b =
      let tested = tested_in (cards_of lists) (entry_of F seqs n) in
      ap (λ (c : List ℕ). has_list (used_in c) k) (fresh-card n l) ∙ ap (λ (u : ℕ). has_list u k) (used-alone (alone_in (record { format = F; cards = cards_of lists }) (entry_of F seqs n)) (bits_most 48 tested)) ∙ has-is tested k b

pub line-back : (lists : List ℕ) (k : ℕ) → card_read (line_card lists k) ≡ cards_of lists k
unfolding line_card
line-back lists k = card-back (cards_of lists k)

-- ── bytes written into another entry
module _ (size : ℕ) (pos : 0 < size) (t : List ℕ) (at : ℕ) (d : List ℕ) (some : 0 < length d) (n : ℕ) where
  pub entry-beside : touches size at (length d) n ≡ false → take size (drop (n * size) (written t at d)) ≡ take size (drop (n * size) t)
  entry-beside t' = part-beside t at d (n * size) size (by-test (leb (at / size) n) (λ a. inr (above (leb-false n ((at + length d - 1) / size) (rw a at t')))) (λ a. inl (below (leb-false (at / size) n a))))
    where
      below : n < at / size → n * size + size ≤ at
      below l = omega (arith, suc-mul n size, (le-div_iff_mul-le pos).0 l)

      above : (at + length d - 1) / size < n → at + length d ≤ n * size
      above l = omega (arith, (div-lt_iff_lt-mul pos).0 l)

-- ── kept
module _ (F : Format) (fair : Fair F) (seqs lists : List ℕ) (at : ℕ) (d : List ℕ) (some : 0 < length d) where
  abbrev S : List ℕ
  S = summary_of F seqs lists

  pub kept-sequences : renewed F (written seqs at d) lists S (Sequences at) (length d) ≡ summary_of F (written seqs at d) lists
  unfolding renewed summary_of seq_card
  kept-sequences =
      laid_same F (card_after F (written seqs at d) lists S (Sequences at) (length d)) (line_after F lists S (Sequences at) (length d)) (seq_card F (written seqs at d) (cards_of lists)) (line_card lists) card (fresh-line F seqs lists)
    where
      card : (n : ℕ) → n ≤ F.last → card_after F (written seqs at d) lists S (Sequences at) (length d) n ≡ seq_card F (written seqs at d) (cards_of lists) n
      card n l =
          by-test (touches F.size at (length d) n)
          (λ t. rw t (card-same F (written seqs at d) (cards_of lists) _ n (λ k b. ap card_read (fresh-line F seqs lists k b) ∙ line-back lists k)))
          (λ t. rw t (fresh-card F seqs lists n l ∙ ap (card_of (record { format = F; cards = cards_of lists })) (sym (entry-beside F.size (omega (arith, fair.room)) seqs at d some n t))))

  abbrev lists' : List ℕ
  lists' = written lists at d

  -- the cards of the line lists, touched or not
  line-now : (k : ℕ) → k ≤ 47 → line_after F lists' S (LineLists at) (length d) k ≡ line_card lists' k
  unfolding line_card
  line-now k l =
      by-test (touches 164 at (length d) k) (λ t. rw t)
      (λ t. rw t (fresh-line F seqs lists k l ∙ ap (λ (x : List ℕ). card_bytes (list_card x)) (sym (entry-beside 164 (omega arith) lists at d some k t))))

  -- one that is not touched has the card that it had
  same_line : (k : ℕ) → touches 164 at (length d) k ≡ false → cards_of lists' k ≡ cards_of lists k
  same_line k t = ap list_card (entry-beside 164 (omega arith) lists at d some k t)

  pub kept-lists : renewed F seqs lists' S (LineLists at) (length d) ≡ summary_of F seqs lists'
  unfolding renewed summary_of
  kept-lists =
      laid_same F (card_after F seqs lists' S (LineLists at) (length d)) (line_after F lists' S (LineLists at) (length d)) (seq_card F seqs (cards_of lists')) (line_card lists') card line-now
    where
      untouched : (n k : ℕ) → n ≤ F.last → k ≤ 47 → uses_touched at (length d) (used_in (card_in S n)) 48 ≡ false → among k (tested_in (cards_of lists) (entry_of F seqs n)) ≡ true → touches 164 at (length d) k ≡ false
      untouched n k l b t a =
          by-test (touches 164 at (length d) k)
          (λ h. absurd (true≢false (sym (some-touched at (length d) (used_in (card_in S n)) 48 k (omega arith) h (fresh-used F seqs lists n k l b ∙ a)) ∙ t)))
          (λ h. h)

      card : (n : ℕ) → n ≤ F.last → card_after F seqs lists' S (LineLists at) (length d) n ≡ seq_card F seqs (cards_of lists') n
      card n l =
          by-test (uses_touched at (length d) (used_in (card_in S n)) 48)
          (λ t. rw t (card-same F seqs (cards_of lists') _ n (λ k b. ap card_read (line-now k b) ∙ line-back lists' k)))
          (λ t. rw t (fresh-card F seqs lists n l ∙ sym (card-kept F seqs (cards_of lists) (cards_of lists') n (λ k b a. same_line k (untouched n k l b t a)))))
