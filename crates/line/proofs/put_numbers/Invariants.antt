-- The texts of the numbers so far are laid.
use lib.ListN.{take}
use Rattle.line.specs.Digits.{each}
use Rattle.line.specs.Writing.{Laid, spaced}
use Rattle.line.proofs.put_numbers.Given as goal

abbrev pub invariant-loop-n : goal.invariant-loop-n
invariant-loop-n l = Laid l.initial.out l.out l.at l.p (each spaced (take l.n-index l.list))
