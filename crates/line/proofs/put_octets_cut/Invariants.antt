-- The texts of the bytes so far are laid.
use lib.ListN.{take}
use Rattle.line.specs.Digits.{each, hex_of}
use Rattle.line.specs.Writing.{Laid}
use Rattle.line.proofs.put_octets_cut.Given as goal

abbrev pub invariant-loop-b : goal.invariant-loop-b
invariant-loop-b l = Laid l.initial.out l.out l.at l.p (each hex_of (take l.b-index l.s))
