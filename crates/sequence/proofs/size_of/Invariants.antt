-- The number is looked for in the rows that are left.
use Rattle.std.proofs.Common.{◌≡◌, drop}
use Rattle.sequence.specs.Text.{command_table, size_in, size_of}
use Rattle.sequence.proofs.size_of.Given as goal

abbrev pub invariant-loop-row : goal.invariant-loop-row
invariant-loop-row l = size_of l.number ≡ size_in l.number (drop l.row-index command_table)
