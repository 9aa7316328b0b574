-- Past the rows the set has room; and the place past the expose is by what stands there.
use Rattle.std.proofs.Common.{arith}
use Rattle.runner.specs.Step.{exposed, act}
use Rattle.runner.proofs.Laws.{size_here, fits_here, set_room}
use Rattle.runner.proofs.Runner.expose.Goals as goal

pub exposed-requires : goal.exposed-requires
exposed-requires c = let a = c.args in (fits_here _ _ _ c.requires, set_room a.format a.text.now a.time a.self c.opened.result c.opened.ensures c.in-Ok.ensures.code)

pub exposed-requires-2 : goal.exposed-requires-2
exposed-requires-2 c = let a = c.args in (fits_here _ _ _ c.requires, set_room a.format a.text.now a.time a.self c.opened.result c.opened.ensures c.in-Ok.ensures.code)

pub returns-then-not-advances : goal.returns-then-not-advances
unfolding act exposed
returns-then-not-advances c = let h = size_here _ _ _ c.requires in grind arith

pub returns : goal.returns
unfolding act exposed
returns c = let h = size_here _ _ _ c.requires in grind arith
