-- Begun, from the fields that were read.
use Rattle.std.proofs.Common.{rules, arith}
use Rattle.std.proofs.lemmas.Int.{ints, to_z-of_z}
use Rattle.runner.specs.Step.{act, begun}
use Rattle.runner.proofs.Laws.{size_here, fits_here}
use Rattle.runner.proofs.Runner.run_raster.Goals as goal

pub overflow_add-result : goal.overflow_add-result
overflow_add-result c = let h = fits_here _ _ _ c.requires.1 in search rules

pub returns-then-is_some : goal.returns-then-is_some
unfolding act begun
returns-then-is_some c = let h = size_here _ _ _ c.requires.1 in grind (arith, ints, to_z-of_z)

pub returns-else-is_some : goal.returns-else-is_some
unfolding act begun
returns-else-is_some c = let h = size_here _ _ _ c.requires.1 in grind (arith, ints, to_z-of_z)
