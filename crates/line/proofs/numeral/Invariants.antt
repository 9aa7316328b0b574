-- What is left of the digits, after the number so far, says what the whole does.
use Prim.Native.Nat.{◌≤◌}
use mathlib.Core.Path.{◌≡◌}
use lib.ListN.{drop}
use Rattle.line.specs.Reading.{numeral_of}
use Rattle.line.proofs.ReadingLaws.{read_on}
use Rattle.line.proofs.numeral.Given as goal

abbrev pub invariant-loop-b : goal.invariant-loop-b
invariant-loop-b l = (l.n ≤ 65535) × (read_on l.n (drop l.b-index l.figure) ≡ numeral_of l.figure)
