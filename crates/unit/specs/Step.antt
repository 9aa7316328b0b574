-- The unit's step: 16, then 17, then the runner's step, and what the status takes from its event.
use Rattle.std.specs.Prelude.{ℕ, cond, List, [], ◌∷◌, eqb, Result, Ok, Err}
use Rattle.octets.specs.Rows.{Row, row, first_code}
use Rattle.memory.specs.declared.Format.{Format}
use Rattle.memory.specs.Memory.{tables_wrong}
use Rattle.sequence.specs.Env.{env_of}
use Rattle.runner.specs.declared.Event.{Event}
use Rattle.runner.specs.declared.Stepped.{Stepped}
use Rattle.runner.specs.Step.{step_of}
use Rattle.status.specs.State.{watched}
use Rattle.unit.specs.declared.Unit.{Unit}
use Rattle.unit.specs.declared.UnitStep.{UnitStep}
use Rattle.unit.specs.State.{with_watch, with_runner, out_of_range}

unfoldable pub step_rows : Format → Unit → List ℕ → List ℕ → List Row
step_rows F u seqs lists = row 16 (tables_wrong F seqs lists) ∷ row 17 (out_of_range F u) ∷ []

-- what a step comes to: an event, or the code that it is refused with
abbrev pub Outcome : Type 0
Outcome = Result Event ℕ

abbrev pub stepped : Outcome → Unit → UnitStep
stepped o u = record { outcome = o; unit = u }

-- the runner's step taken into the unit
unfoldable pub with_step : Unit → Stepped → UnitStep
with_step u r = stepped (Ok r.event) (with_watch (watched r.event u.watch) (with_runner r.runner u))

abbrev pub unit_step_by : ℕ → Unit → Stepped → UnitStep
unit_step_by code u r = cond (eqb code 0) (with_step u r) (stepped (Err code) u)

unfoldable pub unit_step : Format → Unit → List ℕ → List ℕ → UnitStep
unit_step F u seqs lists = unit_step_by (first_code (step_rows F u seqs lists)) u (step_of (env_of F lists) seqs u.runner)
