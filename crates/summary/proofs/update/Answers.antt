-- 16, 7, or the cards that the range names.
use Prim.Native.Nat.{ℕ, ◌+◌, ◌-◌, ◌/◌, ◌≤◌}
use native.Mathlib.Omega.{arith}
use mathlib.Core.Path.{◌≡◌, sym, ap, subst, ◌∙◌}
use mathlib.Core.Bool.{true, false}
use mathlib.Core.List.{List, ◌++◌}
use borrow.Author.Rules.{rules}
use borrow.Author.Tests.{le-ltb}
use lib.ListN.{take, drop}
use Rattle.memory.specs.declared.Format.{Format}
use Rattle.memory.specs.declared.Range.{Range}
use Rattle.memory.specs.declared.Range.TheVariants.{Sequences, LineLists}
use Rattle.memory.specs.Memory.{format_of, tables_wrong, range_at}
use Rattle.memory.proofs.Laws.{Fair, fair-of, Fits, range-fits}
use Rattle.summary.specs.Summary.{lines_at, summary_wrong, card_in, update_code, updated}
use Rattle.summary.specs.Held.{Sized, names, Renews}
use Rattle.summary.proofs.Whole.{sized_of, Spans, spans, front-long, back-long, touched-so, users-so}
use Rattle.summary.proofs.update.Goals as goal
use Rattle.summary.proofs.update.Goals.{After-range_at, After-touched-first}

-- past the tests
module _ (c : After-range_at) where
  abbrev F : Format
  F = format_of c.args.kind

  abbrev s : List ℕ
  s = c.args.summary.now

  tables-right : tables_wrong F c.args.seqs.now c.args.lists.now ≡ false
  tables-right = sym c.tables_wrong.ensures ∙ c.if-tables_wrong.false

  summary-right : summary_wrong F s ≡ false
  summary-right = sym c.summary_wrong.ensures ∙ c.if-summary_wrong.false

  sized : Sized F s
  sized = sized_of F s summary-right

  fair : Fair F
  fair = fair-of F sized.fill

  short : c.args.count ≤ 128
  short = c.if-count-gt-UPLINK.false

  front : c.split_at_mut-cards.result.0.now ≡ take (lines_at F) s
  front = c.split_at_mut-cards.ensures.front ∙ ap (λ (k : ℕ). take k s) (c.lines_at.ensures ∙ ap lines_at c.of-format.ensures)

  back : c.split_at_mut-cards.result.1.now ≡ drop (lines_at F) s
  back = c.split_at_mut-cards.ensures.back ∙ ap (λ (k : ℕ). drop k s) (c.lines_at.ensures ∙ ap lines_at c.of-format.ensures)

  module _ (x : Range) (is : c.range_at.result ≡ x) where
    range-is : range_at c.args.address c.args.count ≡ x
    range-is = sym c.range_at.ensures ∙ is

    fits : Fits c.args.count x
    fits = subst (Fits c.args.count) range-is (range-fits c.args.address c.args.count)

-- into the sequences
pub touched-first-requires : goal.touched-first-requires
touched-first-requires c =
    let b = (goal.at.touched-first-requires c).After-range_at in
    let f = fits b (Sequences c.in-Sequences.at) c.in-Sequences.is in
    rw c.of-format.ensures (omega (arith, (fair b).room), f.1, f.0, omega (arith, (fair b).room, f.0))

module _ (c : After-touched-first) where
  abbrev at : ℕ
  at = c.in-Sequences.at

  abbrev past : After-range_at
  past = (goal.at.After-touched-first c).After-range_at

  first-is : c.touched-first.result.0 ≡ at / (F past).size
  first-is = c.touched-first.ensures.0 ∙ ap (λ (f : Format). at / f.size) c.of-format.ensures

  last-is : c.touched-first.result.1 ≡ (at + c.args.count - 1) / (F past).size
  last-is = c.touched-first.ensures.1 ∙ ap (λ (f : Format). (at + c.args.count - 1) / f.size) c.of-format.ensures

  named : Spans (F past) at c.args.count
  named = let f = fits past (Sequences at) c.in-Sequences.is in spans (F past) (fair past) at c.args.count f.0 f.1

pub renew_cards-requires : goal.renew_cards-requires
renew_cards-requires c =
    let d = (goal.at.renew_cards-requires c).After-touched-first in
    let b = past d in
    record {
      callable = search rules;
      filled = (sized b).fill;
      sized = rw (front b) (front-long (F b) (s b) (sized b));
      among = let n = named d in (omega (arith, first-is d, last-is d, n.order), omega (arith, first-is d, last-is d, n.order, n.low));
    }

pub returns-in-Sequences : goal.returns-in-Sequences
unfolding update_code updated
returns-in-Sequences c =
    let d = (goal.at.returns-in-Sequences c).After-touched-first in
    let b = past d in
    let a = c.args in
    let r = c.renew_cards.ensures (λ card. true) record { tells = λ card r l h. search rules } in
    let w = range-is b (Sequences (at d)) c.in-Sequences.is in
    let u = le-ltb 128 a.count (short b) in
    record {
      value = rw (tables-right b, summary-right b, w, u);
      summary_after = rw (tables-right b, summary-right b, w, u)
          (ap (λ (x : List ℕ). c.renew_cards.new.cards ++ x) (back b) ∙ touched-so (F b) a.seqs.now a.lists.now (s b) c.renew_cards.new.cards (at d) a.count (sized b) (rw (← front b, ← back b, ← first-is d, ← last-is d) r));
    }

-- into the line lists
pub touched-first-requires-in-LineLists : goal.touched-first-requires-in-LineLists
touched-first-requires-in-LineLists c =
    let f = fits (goal.at.touched-first-requires-in-LineLists c).After-range_at (LineLists c.in-LineLists.at) c.in-LineLists.is in
    (omega arith, f.1, omega (arith, f.0), omega (arith, f.0))

pub renew_lines-requires : goal.renew_lines-requires
renew_lines-requires c =
    let b = (goal.at.renew_lines-requires c).After-range_at in
    let f = fits b (LineLists c.in-LineLists.at) c.in-LineLists.is in
    rw (c.touched-first-in-LineLists.ensures.0, c.touched-first-in-LineLists.ensures.1, back b) (omega (arith, f), omega (arith, f), back-long (F b) (s b) (sized b))

pub renew_cards-requires-in-LineLists : goal.renew_cards-requires-in-LineLists
renew_cards-requires-in-LineLists c =
    let b = (goal.at.renew_cards-requires-in-LineLists c).After-range_at in
    record {
      callable = search rules;
      filled = (sized b).fill;
      sized = rw (front b) (front-long (F b) (s b) (sized b));
      among = rw c.of-format.ensures (omega arith, omega arith);
    }

pub returns-in-LineLists : goal.returns-in-LineLists
unfolding update_code updated
returns-in-LineLists c =
    let b = (goal.at.returns-in-LineLists c).After-range_at in
    let a = c.args in
    let at = c.in-LineLists.at in
    let f = fits b (LineLists at) c.in-LineLists.is in
    let e = c.touched-first-in-LineLists.ensures in
    let r = c.renew_cards-in-LineLists.ensures (names (at / 164) ((at + a.count - 1) / 164)) record { tells = λ card r l h. let m = h.says.met in search rules } in
    let w = range-is b (LineLists at) c.in-LineLists.is in
    let u = le-ltb 128 a.count (short b) in
    record {
      value = rw (tables-right b, summary-right b, w, u);
      summary_after = rw (tables-right b, summary-right b, w, u)
          (users-so (F b) a.seqs.now a.lists.now (s b) c.renew_cards-in-LineLists.new.cards c.renew_lines.new.lines at a.count (sized b) (omega (arith, f)) (omega (arith, f, short b)) (omega (arith, f))
          (rw (← back b, ← e.0, ← e.1) c.renew_lines.ensures)
          (rw (← front b) (subst (λ (f : Format). Renews (F b) a.seqs.now c.renew_lines.new.lines (λ n. names (at / 164) ((at + a.count - 1) / 164) (card_in c.split_at_mut-cards.result.0.now n)) 0 (f.last + 1) c.split_at_mut-cards.result.0.now c.renew_cards-in-LineLists.new.cards) c.of-format.ensures r)));
    }
