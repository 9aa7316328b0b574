-- Tables of now of a wrong size, a check that did not pass, and what is found where it did.
use Rattle.std.proofs.Common.{◌≡◌, false, inl, inr, refl, sym, ap, ◌∙◌}
use mathlib.Core.Logic.{⊎_elim}
use Rattle.memory.specs.Memory.{format_of, tables_wrong}
use Rattle.survey.specs.declared.Ending.{Ending}
use Rattle.survey.specs.declared.Ending.TheVariants.{Unlisted, Finishes, Returns, Faults}
use Rattle.survey.specs.declared.Standing.TheVariants.{Unpassed}
use Rattle.survey.specs.Chain.{check_of}
use Rattle.survey.proofs.Passing.{Ended}
use Rattle.survey.proofs.Rests.{listed-names, still-wrong, still-by, passed-right, still-passed}
use Rattle.survey.proofs.still.Goals as goal
use Rattle.survey.proofs.still.Goals.{In_default, After-of-format}

-- the check passed
ended : (c : In_default) → Ended c.check-report.result.ending
ended c = by c.check-report.result.ending refl
  where
    by : (e : Ending) → c.check-report.result.ending ≡ e → Ended c.check-report.result.ending
    by (Unlisted code) h = absurd (c.in_default.not-Unlisted _ h)
    by Finishes h = inl h
    by Returns h = inr h
    by (Faults n f reason) h = absurd (c.in_default.not-Faults _ _ _ h)

-- both pairs of tables have the right sizes
module _ (c : After-of-format) where
  later_right : tables_wrong (format_of c.args.kind) c.args.seqs2.now c.args.lists2.now ≡ false
  later_right = sym c.tables_wrong.ensures ∙ c.if-tables_wrong.false

  right : tables_wrong (format_of c.args.kind) c.args.seqs.now c.args.lists.now ≡ false
  right =
      let a = c.args in
      passed-right (format_of a.kind) a.seqs.now a.lists.now a.seqs2.now a.lists2.now a.number later_right _ c.check-report.ensures (ended (goal.at.After-of-format c).In_default)

pub returns-then-tables_wrong : goal.returns-then-tables_wrong
returns-then-tables_wrong c = let a = c.args in
    still-wrong (format_of a.kind) a.seqs.now a.lists.now a.seqs2.now a.lists2.now a.number (sym c.tables_wrong.ensures ∙ c.if-tables_wrong.true)

pub returns-in-Unlisted : goal.returns-in-Unlisted
returns-in-Unlisted c =
    let a = c.args in
    let by = still-by (format_of a.kind) a.seqs.now a.lists.now a.seqs2.now a.lists2.now a.number (sym c.tables_wrong.ensures ∙ c.if-tables_wrong.false) _ c.check-report.ensures in
    ⊎_elim (λ (x, e). ap Unpassed e ∙ by (Unlisted x) e) (λ (n, f, r, e). ap Unpassed e ∙ by (Faults n f r) e) c.in-Unlisted.is

pub invariant_of-tables : goal.invariant_of-tables
invariant_of-tables c = record {
  right = rw c.of-format.ensures (right (goal.at.invariant_of-tables c).After-of-format);
  octets = λ k. (c.type_inv.seqs k).fits;
}

pub returns : goal.returns
returns c =
    let a = c.args in
    let t = check_of (format_of a.kind) a.seqs.now a.lists.now a.number in
    let names = c.part.ensures ∙ listed-names c.check-report.result t c.check-report.ensures in
    let rest = rw (names, c.of-format.ensures) at c.rest_of-rest.ensures in
    still-passed (format_of a.kind) a.seqs.now a.lists.now a.seqs2.now a.lists2.now a.number (later_right (goal.at.returns c).After-of-format) _ c.check-report.ensures _ _
    (ended (goal.at.returns c).In_default) c.at.ensures ((rw c.of-format.ensures at c.lowest_changed.ensures) t.names rest)
