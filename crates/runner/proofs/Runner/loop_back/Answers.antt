-- The place past the loop back, from what stands there.
use Rattle.std.proofs.Common.{rules, arith}
use Rattle.runner.specs.Step.{act, looped}
use Rattle.runner.proofs.Laws.{size_here, fits_here}
use Rattle.runner.proofs.Runner.loop_back.Goals as goal

pub overflow_add-result : goal.overflow_add-result
overflow_add-result c = let h = fits_here _ _ _ c.requires in search rules

pub returns : goal.returns
unfolding act looped
returns c = let h = size_here _ _ _ c.requires in grind arith
