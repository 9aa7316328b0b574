-- The invariant: the commands counted so far, and those from here up to the target, are those from the start.
use Rattle.std.proofs.Common.{◌≡◌, ◌+◌, ◌-◌}
use Rattle.survey.specs.Held.{between}
use Rattle.survey.proofs.Text.between.Given as goal

abbrev pub invariant-loop-n : goal.invariant-loop-n
invariant-loop-n l = l.n + between l.self.bytes.now (l.most - l.n) l.at l.t ≡ between l.self.bytes.now l.most l.from l.t
