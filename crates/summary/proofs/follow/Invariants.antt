-- The chain lists the names so far, none of them with a wrong card; what they and the rest come to is the whole.
use mathlib.Core.Path.{◌≡◌}
use Rattle.summary.proofs.Chains.{Way}
use Rattle.summary.proofs.follow.Given as goal

abbrev pub invariant-loop-at : goal.invariant-loop-at
invariant-loop-at l = Way l.format l.summary l.first l.chain l.n × (l.chain.count ≡ l.at)
