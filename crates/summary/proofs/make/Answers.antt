-- The line lists' cards, then all the sequences'.
use native.Mathlib.Omega.{arith}
use mathlib.Core.Path.{◌≡◌, sym, ap, subst, ◌∙◌}
use mathlib.Core.Bool.{true, false}
use mathlib.Core.List.{List}
use Prim.Native.Nat.{ℕ, ◌+◌}
use borrow.Author.Rules.{rules}
use lib.ListN.{length}
use Rattle.memory.specs.declared.Format.{Format}
use Rattle.memory.specs.Memory.{format_of, tables_wrong}
use Rattle.summary.specs.Summary.{lines_at, summary_wrong, make_code, made}
use Rattle.summary.specs.Held.{Sized, Renews}
use Rattle.summary.proofs.Whole.{sized_of, made_so}
use Rattle.summary.proofs.make.Goals as goal
use Rattle.summary.proofs.make.Goals.{After-lines_at}

-- past the tests
module _ (c : After-lines_at) where
  abbrev F : Format
  F = format_of c.args.kind

  abbrev s : List ℕ
  s = c.args.summary.now

  tables-right : tables_wrong F c.args.seqs.now c.args.lists.now ≡ false
  tables-right = sym c.tables_wrong.ensures ∙ c.if-tables_wrong.false

  summary-right : summary_wrong F s ≡ false
  summary-right = sym c.summary_wrong.ensures ∙ c.if-summary_wrong.false

  sized : Sized F s
  sized = sized_of F s summary-right

  place : c.lines_at.result ≡ lines_at F
  place = c.lines_at.ensures ∙ ap lines_at c.of-format.ensures

pub returns : goal.returns
unfolding make_code made
returns c =
    let b = (goal.at.returns c).After-lines_at in
    let a = c.args in
    let split = c.split_at_mut-cards in
    let ll : length split.result.1.now ≡ 192 = omega (arith, place b, (sized b).long, split.ensures.back_len) in
    let r = c.renew_cards.ensures (λ card. true) record { tells = λ card r l h. search rules } in
    record {
      value = rw (tables-right b, summary-right b);
      summary_after = rw (tables-right b, summary-right b)
          (made_so (F b) a.seqs.now a.lists.now _ _ _ _ (split.ensures.front_len ∙ place b) ll c.renew_lines.ensures
          (subst (λ (f : Format). Renews (F b) a.seqs.now c.renew_lines.new.lines (λ n. true) 0 (f.last + 1) split.result.0.now c.renew_cards.new.cards) c.of-format.ensures r));
    }
