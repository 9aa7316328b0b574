-- Past the text no command stands; a delay shows the time that was read.
use mathlib.Core.Path.{sym, ◌∙◌}
use Rattle.sequence.specs.Env.{env_of}
use Rattle.runner.proofs.Laws.{step_outside, step_delays}
use Rattle.runner.proofs.Runner.step_in.Goals as goal

pub returns-in_default : goal.returns-in_default
returns-in_default c = let a = c.args in c.refused.ensures ∙ step_outside (env_of a.format a.lists.now) a.text.now a.self c.if-self.false (sym c.in_default.is ∙ c.of.ensures) c.requires

pub returns-in-Delay : goal.returns-in-Delay
returns-in-Delay c = let a = c.args in c.delay.ensures ∙ step_delays (env_of a.format a.lists.now) a.text.now a.self c.if-self.false c.in-Some.at c.in-Delay.time (sym c.in-Some.is ∙ c.of.ensures) c.in-Delay.ensures.value
