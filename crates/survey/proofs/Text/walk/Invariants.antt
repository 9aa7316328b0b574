-- The invariant: what is found from here, atop of the sums so far, is what is found from place 4, with as many turns left as bytes not counted.
use Rattle.std.proofs.Common.{◌-◌, length}
use Rattle.sequence.specs.Env.{cards_lent}
use Rattle.survey.proofs.Laws.{Going}
use Rattle.survey.proofs.Text.walk.Given as goal

abbrev pub invariant-loop : goal.invariant-loop
invariant-loop l = Going (cards_lent l.self.lent l.self.lists.now) l.self.bytes.now (length l.self.bytes.now - l.counter) l.round
