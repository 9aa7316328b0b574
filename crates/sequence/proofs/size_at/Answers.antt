-- Past the test of the fit the command stands whole.
use Rattle.std.proofs.Common.{◌∙◌, sym, arith}
use Rattle.sequence.proofs.Laws.{size-stands}
use Rattle.sequence.proofs.size_at.Goals as goal

pub returns-else-room-size-clause-value : goal.returns-else-room-size-clause-value
returns-else-room-size-clause-value c = c.size_of-size.ensures.0 ∙ sym (size-stands _ _ (sym c.none_there.ensures.value ∙ c.if-none_there.false) (omega arith))
