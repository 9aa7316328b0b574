-- `put_number` meets its contract: at each turn the digits that are made, after those of the number that is left, are those of the
use Rattle.line.proofs.DigitLaws.{Made}
use Rattle.line.proofs.put_number.Given as goal

abbrev pub invariant-loop-left : goal.invariant-loop-left
invariant-loop-left l = Made l.left l.from l.digits l.n

abbrev pub decreases-loop-left : goal.decreases-loop-left
decreases-loop-left l = l.left
