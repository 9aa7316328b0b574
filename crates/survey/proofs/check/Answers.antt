-- Wrong tables, a number that the table has not, or the chain from an empty one.
use Rattle.std.proofs.Common.{sym, ◌∙◌, arith}
use Rattle.memory.specs.Memory.{format_of}
use Rattle.memory.proofs.Laws.{fair-of, sizes}
use Rattle.survey.proofs.Chains.{free-start, check-wrong, check-high, check-runs}
use Rattle.survey.proofs.check.Goals as goal

pub returns-then-tables_wrong : goal.returns-then-tables_wrong
returns-then-tables_wrong c = let a = c.args in
    check-wrong (format_of a.kind) a.seqs.now a.lists.now a.number _ c.tables_wrong.ensures c.if-tables_wrong.true c.unlisted.ensures

pub returns-then-format-number : goal.returns-then-format-number
returns-then-format-number c = let a = c.args in
    check-high (format_of a.kind) a.seqs.now a.lists.now a.number _ c.tables_wrong.ensures c.if-tables_wrong.false (rw c.of-format.ensures at c.if-format-number.true) c.unlisted-then-format-number.ensures

pub check_sequence-requires : goal.check_sequence-requires
check_sequence-requires c = let a = c.args in
    let fits = (sizes (format_of a.kind) a.seqs.now a.lists.now (sym c.tables_wrong.ensures ∙ c.if-tables_wrong.false)).0 in
    let l = rw c.of-format.ensures at c.if-format-number.false in
    free-start _ a.number c.empty.ensures (omega (arith, l, (fair-of (format_of a.kind) fits).last))

pub returns : goal.returns
returns c = let a = c.args in
    let k = format_of a.kind in
    let fits = (sizes k a.seqs.now a.lists.now (sym c.tables_wrong.ensures ∙ c.if-tables_wrong.false)).0 in
    check-runs k a.seqs.now a.lists.now a.number _ c.tables_wrong.ensures _ c.empty.ensures (fair-of k fits).last c.if-tables_wrong.false (rw c.of-format.ensures at c.if-format-number.false) _ (rw c.of-format.ensures at c.check_sequence.ensures) (rw c.of-format.ensures at c.report.ensures)
