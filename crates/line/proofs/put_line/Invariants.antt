-- The word and the texts of the numbers so far are laid.
use mathlib.Core.List.{◌++◌}
use lib.ListN.{take}
use Rattle.line.specs.Digits.{each}
use Rattle.line.specs.Writing.{Laid, spaced}
use Rattle.line.proofs.put_line.Given as goal

abbrev pub invariant-loop-n : goal.invariant-loop-n
invariant-loop-n l = Laid l.fn.out l.out l.fn.at l.p (l.word ++ each spaced (take l.n-index l.numbers))
