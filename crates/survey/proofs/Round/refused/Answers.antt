-- A line list that is tested is one of the table.
use Rattle.std.proofs.Common.{sym, ◌∙◌}
use Rattle.runner.proofs.Tested.{tests-run}
use Rattle.survey.proofs.Round.refused.Goals as goal

pub with_list-tested-requires : goal.with_list-tested-requires
with_list-tested-requires c = rw c.list_at.ensures (tests-run _ _ _ (sym c.tests_list.ensures ∙ c.if-tests_list.true)).1
