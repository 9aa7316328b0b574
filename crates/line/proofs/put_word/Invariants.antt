-- The bytes so far are laid.
use lib.ListN.{take}
use Rattle.line.specs.Writing.{Laid}
use Rattle.line.proofs.put_word.Given as goal

abbrev pub invariant-loop-b : goal.invariant-loop-b
invariant-loop-b l = Laid l.initial.out l.out l.at l.p (take l.b-index l.word)
