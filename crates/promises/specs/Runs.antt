-- A run: steps one after another, none of them an abort, and what is seen of them.
use Rattle.std.specs.Prelude.{ℕ, zero, suc, ◌≡◌, Bool, true, cond, not, List, [], ◌∷◌, ◌++◌, eqb, get_or, Ok, Err}
use Rattle.sequence.specs.declared.Fault.{Fault}
use Rattle.sequence.specs.Env.{Env}
use Rattle.runner.specs.declared.Runner.{Runner}
use Rattle.runner.specs.declared.Sight.{Sight}
use Rattle.runner.specs.declared.Event.{Event}
use Rattle.runner.specs.declared.Event.TheVariants.{Abort}
use Rattle.runner.specs.Events.{Shown, shows, shown_as}
use Rattle.runner.specs.Step.{to, step_of}
use Rattle.unit.specs.Step.{Outcome}

-- ── an event by the paper's number and values for it
-- runner/specs/Events lists the word, the number and the values of each case; the count of exposures is a value of EXP alone
abbrev pub is_a : ℕ → Event → Bool
is_a number e = eqb (shown_as 0 e).number number

-- it shows just this, whatever that count is
abbrev pub ShownAs : Event → Shown → Type 0
ShownAs e seen = (count : ℕ) → shown_as count e ≡ seen

-- a step of the unit shows it: the step is not denied, and its event does
abbrev pub Showing : Outcome → Shown → Type 0
Showing (Err code) seen = ⊥
Showing (Ok e) seen = ShownAs e seen

abbrev pub idle : Shown
idle = shows "IDLE" 0 []

abbrev pub enters : ℕ → Shown
enters n = shows "ENTER" 1 (n ∷ [])

abbrev pub aborts : ℕ → ℕ → ℕ → Shown
aborts code n place = shows "ABORT" 10 (code ∷ n ∷ place ∷ [])

-- it is no abort
abbrev pub quiet : Event → Bool
quiet e = not (is_a 10 e)

-- the position of the exposure that it shows: `EXP no pos`
abbrev pub position_shown : Event → List ℕ
position_shown e = cond (is_a 3 e) (get_or (shown_as 0 e).values 1 0 ∷ []) []

-- ── runs
-- the positions of the exposures seen, in order
abbrev pub positions_seen : List Sight → List ℕ
positions_seen [] = []
positions_seen (w ∷ ws) = position_shown w.event ++ positions_seen ws

abbrev pub sight : Event → ℕ → ℕ → ℕ → Sight
sight e n p m = record { event = e; sequence = n; place = p; mirror = m }

-- what is seen of a step that leaves this runner
abbrev pub seen : Event → Runner → Sight
seen e s = sight e s.sequence s.place s.mirror

-- from a runner the steps show these sights, none an abort, and lead to another
pub data Run (E : Env) (seqs : List ℕ) : Runner → List Sight → Runner → Type 0 where
  done : {s : Runner} → Run E seqs s [] s
  more : {s next last : Runner} {e : Event} {ws : List Sight} → step_of E seqs s ≡ to e next → quiet e ≡ true → Run E seqs next ws last → Run E seqs s (seen e next ∷ ws) last

-- a run, and then a step that aborts in sequence n with this fault
pub record Aborts (E : Env) (seqs : List ℕ) (n : ℕ) (fault : Fault) (s : Runner) : Type 0 where
  pub sights : List Sight
  pub last : Runner
  pub ran : Run E seqs s sights last
  pub abort : (step_of E seqs last).event ≡ Abort fault.code n fault.place

-- the runner after k steps
unfoldable pub after_steps : Env → List ℕ → ℕ → Runner → Runner
after_steps E seqs zero s = s
after_steps E seqs (suc k) s = after_steps E seqs k (step_of E seqs s).runner

-- what is seen of the first k steps
unfoldable pub sights_of : Env → List ℕ → ℕ → Runner → List Sight
sights_of E seqs zero s = []
sights_of E seqs (suc k) s = seen (step_of E seqs s).event (step_of E seqs s).runner ∷ sights_of E seqs k (step_of E seqs s).runner

-- no abort is among them
abbrev pub AllQuiet : List Sight → Type 0
AllQuiet [] = Unit {0}
AllQuiet (w ∷ ws) = (quiet w.event ≡ true) × AllQuiet ws

-- none of the first k steps is an abort
abbrev pub Quiet : Env → List ℕ → ℕ → Runner → Type 0
Quiet E seqs k s = AllQuiet (sights_of E seqs k s)

-- about to enter sequence n, with the mirror at m and no raster open: "2-3 .. starts it: .. place .. 0, no raster is open, entering comes first"
pub record AtDoor (n m : ℕ) (s : Runner) : Type 0 where
  pub running : s.running ≡ true
  pub entering : s.entering ≡ true
  pub sequence : s.sequence ≡ n
  pub place : s.place ≡ 0
  pub raster : s.raster.place ≡ 255
  pub mirror : s.mirror ≡ m
