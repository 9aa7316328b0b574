-- The cards up to this one are worked out.
use Rattle.summary.specs.Held.{Lines}
use Rattle.summary.proofs.renew_lines.Given as goal

abbrev pub invariant-loop-k : goal.invariant-loop-k
invariant-loop-k l = Lines l.lists l.first l.k l.initial.lines l.lines
