-- A summary made, or brought up to date, card by card, is the whole that the definitions say. Assumes nothing.
use Prim.Native.Nat.{ℕ, zero, suc, ◌+◌, ◌*◌, ◌-◌, ◌/◌, ◌≤◌, ◌<◌}
use native.Mathlib.Nat.{mul_comm, suc-mul, div-mul-le_self, div-lt_iff_lt-mul, le-div_iff_mul-le}
use native.Mathlib.Decide.{ℕ_discrete}
use native.Mathlib.Omega.{arith}
use mathlib.Core.Path.{◌≡◌, refl, sym, ap, ◌∙◌}
use mathlib.Core.Bool.{Bool, true, false, cond, not, ◌&&◌, ◌||◌, or-true}
use mathlib.Core.List.{List, ◌++◌}
use mathlib.Core.Logic.{◌⊎◌, inl, inr}
use lib.Dec.{leb, eqb}
use lib.ListN.{length, take, drop, length-drop}
use lib.Seq.{length-take-le}
use borrow.Author.Tests.{not-false, eqb-true, le-leb, leb-true, leb-false}
use Rattle.octets.proofs.Bools.{by-test, and_both, or-neither}
use Rattle.memory.specs.declared.Format.{Format}
use Rattle.memory.specs.declared.Range.TheVariants.{Sequences, LineLists}
use Rattle.memory.specs.Memory.{fills, entry_of}
use Rattle.memory.proofs.Laws.{Fair}
use Rattle.sequence.specs.LineList.{ListCard, card_read}
use Rattle.sequence.specs.Starts.{among}
use Rattle.sequence.specs.Env.{cards_of, cards_kept}
use Rattle.sequence.proofs.Cards.{card-back}
use Rattle.survey.specs.Tested.{tested_in, bits_of, has_list}
use Rattle.survey.specs.Report.{walked_of, reason_found}
use Rattle.survey.proofs.Tested.{tested-same}
use Rattle.summary.specs.Card.{bytes_of, card_of, used_in}
use Rattle.summary.specs.Summary.{line_card, seq_card, lines_at, summary_wrong, card_in, summary_of, touches, uses_touched, line_after, card_after, renewed}
use Rattle.summary.specs.Held.{Sized, names, Lines, Renews}
use Rattle.summary.proofs.Parts.{card-front, parts-are}

-- a summary that is not wrong has its format's size
pub sized_of : (F : Format) (s : List ℕ) → summary_wrong F s ≡ false → Sized F s
unfolding summary_wrong
sized_of F s e =
    let (a, b) = or-neither (not (fills F)) (not (eqb (length s) (lines_at F + 192))) e in
    record { fill = not-false (fills F) a; long = eqb-true (length s) (lines_at F + 192) (not-false _ b) }

-- the entries of a range: the first's, and the last's
pub record Spans (F : Format) (at len : ℕ) : Type 0 where
  pub order : at / F.size ≤ (at + len - 1) / F.size
  pub low : (at + len - 1) / F.size ≤ F.last

pub spans : (F : Format) → Fair F → (at len : ℕ) → at + len ≤ 16384 → 0 < len → Spans F at len
spans F f at len fits some =
    let pos : 0 < F.size = omega (arith, f.room) in
    let x = at + len - 1 in
    let under : at / F.size * F.size ≤ at = div-mul-le_self at F.size in
    let whole : x < suc F.last * F.size = omega (arith, f.whole, mul_comm F.size (F.last + 1), suc-mul F.last F.size, (let e : F.last + 1 ≡ suc F.last = omega arith in ap (λ (k : ℕ). k * F.size) e)) in
    record {
      order = (le-div_iff_mul-le pos).1 (omega arith);
      low = omega (arith, (div-lt_iff_lt-mul pos).1 whole);
    }

-- ── a sequence's card comes from the cards of the line lists that its check tests
module _ (F : Format) (seqs : List ℕ) (cards cards' : ℕ → ListCard) (n : ℕ) where
  pub card-kept : ((k : ℕ) → k ≤ 47 → among k (tested_in cards (entry_of F seqs n)) ≡ true → cards' k ≡ cards k) → seq_card F seqs cards' n ≡ seq_card F seqs cards n
  unfolding seq_card card_of
  card-kept h =
      let (found, tested) = tested-same cards cards' (entry_of F seqs n) F h in
      ap bytes_of (λ i. record { found = walked_of (found i); reason = reason_found (found i); tested = bits_of 48 (tested i) })

  pub card-same : ((k : ℕ) → k ≤ 47 → cards' k ≡ cards k) → seq_card F seqs cards' n ≡ seq_card F seqs cards n
  card-same h = card-kept (λ k l a. h k l)

-- ── made afresh
module _ (F : Format) (seqs lists cards cards' lines lines' : List ℕ) (lc : length cards ≡ lines_at F) (ll : length lines ≡ 192) (l : Lines lists 0 48 lines lines')
    (r : Renews F seqs lines' (λ n. true) 0 (F.last + 1) cards cards') where
  line_read : (k : ℕ) → k ≤ 47 → cards_kept lines' k ≡ cards_of lists k
  unfolding line_card
  line_read k h = ap card_read (l.done k (omega arith) (omega arith)) ∙ card-back (cards_of lists k)

  pub made_so : cards' ++ lines' ≡ summary_of F seqs lists
  unfolding summary_of
  made_so =
      parts-are F (seq_card F seqs (cards_of lists)) (line_card lists) cards' lines' (r.long ∙ lc) (l.long ∙ ll)
      (λ n h. r.done n (omega arith) (omega arith) ∙ card-same F seqs (cards_of lists) (cards_kept lines') n line_read) (λ k h. l.done k (omega arith) (omega arith))

-- ── after an uplink: its range touches the parts from that of its first byte to that of its last, and no others
module _ (size at len n : ℕ) where
  inside : touches size at len n ≡ true → (at / size ≤ n) × (n < (at + len - 1) / size + 1)
  inside t =
      let (a, b) = and_both (leb (at / size) n) (leb n ((at + len - 1) / size)) t in
      let d = leb-true n ((at + len - 1) / size) b in
      (leb-true (at / size) n a, omega arith)

  outside : touches size at len n ≡ false → (n < at / size) ⊎ ((at + len - 1) / size + 1 ≤ n)
  outside t =
      by-test (leb (at / size) n) (λ a. let d = leb-false n ((at + len - 1) / size) (rw a at t) in inr (omega arith)) (λ a. inl (omega (arith, leb-false (at / size) n a)))

-- a summary in its two parts
module _ (F : Format) (s : List ℕ) (sized : Sized F s) where
  pub front-long : length (take (lines_at F) s) ≡ lines_at F
  front-long = length-take-le (lines_at F) s (omega (arith, sized.long))

  pub back-long : length (drop (lines_at F) s) ≡ 192
  back-long = length-drop (lines_at F) s ∙ (let e : length s - lines_at F ≡ 192 = omega (arith, sized.long) in e)

-- into the sequences
module _ (F : Format) (seqs lists s cards' : List ℕ) (at len : ℕ) (sized : Sized F s)
    (r : Renews F seqs (drop (lines_at F) s) (λ n. true) (at / F.size) ((at + len - 1) / F.size + 1) (take (lines_at F) s) cards') where
  pub touched-so : cards' ++ drop (lines_at F) s ≡ renewed F seqs lists s (Sequences at) len
  unfolding renewed
  touched-so =
      parts-are F (card_after F seqs lists s (Sequences at) len) (line_after F lists s (Sequences at) len) cards' (drop (lines_at F) s) (r.long ∙ front-long F s sized) (back-long F s sized)
      (λ n l.
      by-test (touches F.size at len n) (λ t. let (a, b) = inside F.size at len n t in rw t (r.done n a b)) (λ t. rw t (r.rest n (outside F.size at len n t) ∙ card-front F s n l)))
      (λ k l. refl)

-- into the line lists
-- one of the lists from the first to the last touched is used
module _ (at len used : ℕ) where
  pub some-touched : (n k : ℕ) → k < n → touches 164 at len k ≡ true → has_list used k ≡ true → uses_touched at len used n ≡ true
  unfolding uses_touched
  some-touched zero k l t h = absurd (omega arith)
  some-touched (suc n) k l t h = by (ℕ_discrete k n) (λ d. some-touched n k (omega arith) t h)
    where
      by : Dec (k ≡ n) → ((k ≡ n → ⊥) → uses_touched at len used n ≡ true) → ((touches 164 at len n && has_list used n) || uses_touched at len used n) ≡ true
      by (yes e) ih = let t' : touches 164 at len n ≡ true = rw e at t in let h' : has_list used n ≡ true = rw e at h in rw (t', h')
      by (no d) ih = rw (ih d) (or-true (touches 164 at len n && has_list used n))

  none-touched : (n : ℕ) → ((k : ℕ) → touches 164 at len k ≡ true → has_list used k ≡ false) → uses_touched at len used n ≡ false
  unfolding uses_touched
  none-touched zero h = refl
  none-touched (suc n) h = by-test (touches 164 at len n) (λ t. rw (t, h n t) (none-touched n h)) (λ t. rw t (none-touched n h))

  module _ (first last : ℕ) (ef : first ≡ at / 164) (el : last ≡ (at + len - 1) / 164) (le : first ≤ last) (near : last ≤ first + 1) (few : last ≤ 47) where
    within : (k : ℕ) → first ≤ k → k ≤ last → touches 164 at len k ≡ true
    within k a b = rw (← ef, ← el, le-leb first k a, le-leb k last b)

    pub uses-two : (has_list used first || has_list used last) ≡ uses_touched at len used 48
    uses-two =
        by-test (has_list used first) (λ f. rw f (sym (some-touched 48 first (omega arith) (within first (omega arith) le) f)))
        (λ f. by-test (has_list used last) (λ l. rw (f, l) (sym (some-touched 48 last (omega arith) (within last le (omega arith)) l))) (λ l. rw (f, l) (sym (none-touched 48 (λ k t. neither k f l t)))))
      where
        neither : (k : ℕ) → has_list used first ≡ false → has_list used last ≡ false → touches 164 at len k ≡ true → has_list used k ≡ false
        neither k f l t =
            let (a, b) = and_both (leb (at / 164) k) (leb k ((at + len - 1) / 164)) t in
            let a' = leb-true (at / 164) k a in
            let b' = leb-true k ((at + len - 1) / 164) b in
            by (ℕ_discrete k first) a' b'
          where
            by : Dec (k ≡ first) → at / 164 ≤ k → k ≤ (at + len - 1) / 164 → has_list used k ≡ false
            by (yes e) x y = rw e f
            by (no d) x y = let e : k ≡ last = omega arith in rw e l

module _ (F : Format) (seqs lists s cards' lines' : List ℕ) (at len : ℕ) (sized : Sized F s)
    (le : at / 164 ≤ (at + len - 1) / 164) (near : (at + len - 1) / 164 ≤ at / 164 + 1) (few : (at + len - 1) / 164 ≤ 47)
    (l : Lines lists (at / 164) ((at + len - 1) / 164 + 1) (drop (lines_at F) s) lines')
    (r : Renews F seqs lines' (λ n. names (at / 164) ((at + len - 1) / 164) (card_in (take (lines_at F) s) n)) 0 (F.last + 1) (take (lines_at F) s) cards') where
  line-so : (k : ℕ) → take 4 (drop (k * 4) lines') ≡ line_after F lists s (LineLists at) len k
  line-so k =
      by-test (touches 164 at len k) (λ t. let (a, b) = inside 164 at len k t in rw t (l.done k a b)) (λ t. rw t (l.rest k (outside 164 at len k t)))

  pub users-so : cards' ++ lines' ≡ renewed F seqs lists s (LineLists at) len
  unfolding renewed
  users-so =
      parts-are F (card_after F seqs lists s (LineLists at) len) (line_after F lists s (LineLists at) len) cards' lines' (r.long ∙ front-long F s sized) (l.long ∙ back-long F s sized)
      (λ n h.
      r.done n (omega arith) (omega arith)
      ∙ ap (λ (x : List ℕ). cond (names (at / 164) ((at + len - 1) / 164) x) (seq_card F seqs (cards_kept lines') n) x) (card-front F s n h)
      ∙ ap (λ (t : Bool). cond t (seq_card F seqs (cards_kept lines') n) (card_in s n)) (uses-two at len (used_in (card_in s n)) (at / 164) ((at + len - 1) / 164) refl refl le near few)
      ∙ ap (λ (c : List ℕ). cond (uses_touched at len (used_in (card_in s n)) 48) c (card_in s n)) (card-same F seqs _ (cards_kept lines') n (λ k b. ap card_read (line-so k))))
      (λ k h. line-so k)
