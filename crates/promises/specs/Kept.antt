-- For the proofs of demand 3, what the table check promises of a runner that stands at the door of the chain's first sequence.
use Rattle.std.specs.Prelude.{ℕ, ◌≤◌, ◌≡◌, true, false, List, length}
use Rattle.sequence.specs.Starts.{among}
use Rattle.sequence.specs.Env.{Env}
use Rattle.runner.specs.declared.Runner.{Runner}
use Rattle.runner.specs.declared.Sight.{Sight}
use Rattle.survey.specs.declared.Ending.{Ending}
use Rattle.survey.specs.declared.Ending.TheVariants.{Unlisted, Finishes, Returns, Faults}
use Rattle.survey.specs.Chain.{Told}
use Rattle.promises.specs.Runs.{positions_seen, Run, Aborts, AtDoor}
use Rattle.promises.specs.Positions.{chain_positions, NonePast}

-- a run with these sights through the listed sequences: so many steps, so many exposures, all at the positions that the tables say and
-- none past the end stop
pub record Ran (E : Env) (seqs : List ℕ) (sights : List Sight) (names : List ℕ) (steps exposures : ℕ) (Leaves : Runner → Type 0) (s : Runner) : Type 0 where
  pub last : Runner
  pub run : Run E seqs s sights last
  pub taken : length sights ≡ steps
  pub placed : positions_seen sights ≡ chain_positions E seqs names
  pub made : length (chain_positions E seqs names) ≡ exposures
  pub in_reach : NonePast 2400 (chain_positions E seqs names)
  pub leaves : Leaves last

abbrev pub AtRest : Runner → Type 0
AtRest s = s.running ≡ false

-- at the door of a sequence that is listed
abbrev pub Back : Env → List ℕ → Runner → Type 0
Back E names s = (n : ℕ) × (m : ℕ) × (n ≤ E.format.last) × (among n names ≡ true) × AtDoor n m s

-- a chain that ends or returns runs as it is told; at a fault the run aborts there and not before
abbrev pub KeptBy : Env → List ℕ → Told → Runner → Ending → Type 0
KeptBy E seqs t s (Unlisted code) = ⊥
KeptBy E seqs t s Finishes = (sights : List Sight) × Ran E seqs sights t.names t.steps t.exposures AtRest s
KeptBy E seqs t s Returns = (sights : List Sight) × Ran E seqs sights t.names t.steps t.exposures (Back E t.names) s
KeptBy E seqs t s (Faults n fault reason) = Aborts E seqs n fault s

abbrev pub Kept : Env → List ℕ → Told → Runner → Type 0
Kept E seqs t s = KeptBy E seqs t s t.ending

-- the chain ends or returns
abbrev pub IsPassed : Ending → Type 0
IsPassed (Unlisted code) = ⊥
IsPassed Finishes = Unit {0}
IsPassed Returns = Unit {0}
IsPassed (Faults n fault reason) = ⊥
