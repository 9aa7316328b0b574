-- The count of unmarked sequences falls, twice over: a closing command stands between one sequence and the next.
use Rattle.std.proofs.Common.{◌+◌}
use Rattle.survey.specs.Held.{unmarked}
use Rattle.survey.proofs.Tables.+check_closing_check_sequence.Given as goal

abbrev pub decreases-check_closing : goal.decreases-check_closing
decreases-check_closing l = unmarked l.chain.marks + unmarked l.chain.marks + 1

abbrev pub decreases-check_sequence : goal.decreases-check_sequence
decreases-check_sequence l = unmarked l.chain.marks + unmarked l.chain.marks
