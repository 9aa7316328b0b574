-- A library as the demands see it: what its public functions answer, each for all inputs. A demand is a statement of any library. proofs/ shows
-- that ours keeps every demand; Refuted has the wrong libraries that document 01 names, and what each of them does not keep.
use Rattle.std.specs.Prelude.{ℕ, List}
use Rattle.memory.specs.declared.Format.{Format}
use Rattle.memory.specs.Memory.{window_code, window_part}
use Rattle.sequence.specs.Env.{Env}
use Rattle.runner.specs.declared.Runner.{Runner}
use Rattle.runner.specs.declared.Stepped.{Stepped}
use Rattle.runner.specs.Step.{step_of}
use Rattle.survey.specs.declared.Standing.{Standing}
use Rattle.survey.specs.Chain.{Told, check_of}
use Rattle.survey.specs.Still.{still_of}
use Rattle.summary.specs.Summary.{make_code, made, update_code, updated}
use Rattle.summary.specs.Chain.{check_cards}
use Rattle.unit.specs.declared.Unit.{Unit as ControlUnit}
use Rattle.unit.specs.declared.UnitStep.{UnitStep}
use Rattle.unit.specs.declared.Answer.{Answer}
use Rattle.unit.specs.State.{power_on}
use Rattle.unit.specs.Answer.{answer_of, seqs_after, lists_after, out_after}
use Rattle.unit.specs.Step.{unit_step}

pub record Library : Type 0 where
  -- the unit at power-on
  pub powers_on : ControlUnit
  -- what a packet is answered, from the format of the tables, the unit, the time, both tables, the output and the packet's bytes: the code, how many bytes, the unit after it
  pub answers : Format → ControlUnit → ℕ → List ℕ → List ℕ → List ℕ → List ℕ → Answer
  -- what it leaves in the sequence table, in the line lists and in the output
  pub seqs_left : Format → ControlUnit → List ℕ → List ℕ → List ℕ → List ℕ → List ℕ
  pub lists_left : Format → ControlUnit → List ℕ → List ℕ → List ℕ → List ℕ → List ℕ
  pub out_left : Format → ControlUnit → ℕ → List ℕ → List ℕ → List ℕ → List ℕ → List ℕ
  -- a step of the unit over both tables: what is seen of it, and the unit after it
  pub steps : Format → ControlUnit → List ℕ → List ℕ → UnitStep
  -- the interpreter's step in it
  pub runs : Env → List ℕ → Runner → Stepped
  -- what the check tells of the chain that begins at a sequence, in tables of a format: its names, how it ends, its steps and its exposures
  pub checks : Format → List ℕ → List ℕ → ℕ → Told
  -- whether the check's pass over tables of a format stands over others, those of now
  pub still : Format → List ℕ → List ℕ → List ℕ → List ℕ → ℕ → Standing
  -- the summary of cards, over lent bytes: the code and what is left of it, once it was to be made of tables of a format, and once it was to be brought up to date
  -- after an uplink of so many bytes from an address on; and what the check from a summary tells of a chain
  pub makes_code : Format → List ℕ → List ℕ → List ℕ → ℕ
  pub makes : Format → List ℕ → List ℕ → List ℕ → List ℕ
  pub updates_code : Format → List ℕ → List ℕ → List ℕ → ℕ → ℕ → ℕ
  pub updates : Format → List ℕ → List ℕ → List ℕ → ℕ → ℕ → List ℕ
  pub checks_cards : Format → List ℕ → ℕ → Told
  -- what the desk is answered that asks tables of a format for an address and a length: the code, and the part that it is handed
  pub window_code : Format → List ℕ → List ℕ → ℕ → ℕ → ℕ
  pub window_part : Format → List ℕ → List ℕ → ℕ → ℕ → List ℕ

-- Ours. Each is the definition with which the function's contract is an equation: TheCode says so of each function.
abbrev pub ours : Library
ours =
    record {
      powers_on = power_on;
      answers = answer_of;
      seqs_left = seqs_after;
      lists_left = lists_after;
      out_left = out_after;
      steps = unit_step;
      runs = step_of;
      checks = check_of;
      still = still_of;
      makes_code = make_code;
      makes = made;
      updates_code = update_code;
      updates = updated;
      checks_cards = check_cards;
      window_code = window_code;
      window_part = window_part;
    }
