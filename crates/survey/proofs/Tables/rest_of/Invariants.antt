-- The invariant: the marks so far, and what the sequences from here on bring, are all that are wanted.
use Rattle.survey.proofs.Rests.{Resting}
use Rattle.survey.proofs.Tables.rest_of.Given as goal

abbrev pub invariant-loop-n : goal.invariant-loop-n
invariant-loop-n l = Resting l.self.format l.self.seqs.now l.listed l.n-index l.sequences l.lists
