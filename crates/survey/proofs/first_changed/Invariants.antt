-- The invariant: what is found in the entries from here on is what is found in all.
use Rattle.std.proofs.Common.{ℕ, List}
use Rattle.survey.specs.Held.{MarkedJust}
use Rattle.survey.proofs.Changes.{Looking}
use Rattle.survey.proofs.first_changed.Given as goal

abbrev pub invariant-loop-n : goal.invariant-loop-n
invariant-loop-n l = (entries : List ℕ) → MarkedJust 256 l.marks entries → Looking l.size l.was l.is entries l.count l.n
