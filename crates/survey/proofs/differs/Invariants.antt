-- The invariant: what is found from here on is what is found from the start.
use Rattle.std.proofs.Common.{◌≡◌, ◌-◌}
use Rattle.survey.specs.Still.{another, first_of}
use Rattle.survey.proofs.differs.Given as goal

abbrev pub invariant-loop-at : goal.invariant-loop-at
invariant-loop-at l = first_of (another l.was l.is) (l.end - l.at) l.at ≡ first_of (another l.was l.is) (l.end - l.from) l.from
