-- Wrong libraries, and the demand that each of them does not keep. Each is a whole class: of everything that is not said of it here nothing is
-- supposed. Each statement in plain words and then in symbols; proofs/Refuted has its proof, under its name (`refusing-fails : RefusingFails`).
use Rattle.std.specs.Prelude.{ℕ, ◌+◌, ◌-◌, ◌≤◌, ◌<◌, ◌≡◌, true, false, cond, List, [], ◌∷◌, eqb, length, take, Ok}
use Rattle.memory.specs.declared.Format.{Format}
use Rattle.memory.specs.Memory.{flight, entry_of}
use Rattle.sequence.specs.Text.{fault}
use Rattle.sequence.specs.Raster.{raster_at}
use Rattle.sequence.specs.LineList.{no_marks}
use Rattle.sequence.specs.Env.{Env}
use Rattle.runner.specs.declared.Runner.{Runner}
use Rattle.runner.specs.declared.Stepped.{Stepped}
use Rattle.runner.specs.declared.Event.TheVariants.{Idle, End}
use Rattle.runner.specs.Events.{shows}
use Rattle.runner.specs.Step.{to}
use Rattle.runner.specs.With.{with_running, with_mirror}
use Rattle.survey.specs.declared.Ending.{Ending}
use Rattle.survey.specs.declared.Ending.TheVariants.{Unlisted, Finishes, Returns, Faults}
use Rattle.survey.specs.declared.Reason.TheVariants.{None}
use Rattle.survey.specs.Walk.{finding_of}
use Rattle.survey.specs.Chain.{Told, told, chain_of}
use Rattle.unit.specs.declared.Unit.{Unit as ControlUnit}
use Rattle.unit.specs.declared.Answer.{Answer}
use Rattle.unit.specs.declared.UnitStep.{UnitStep}
use Rattle.unit.specs.State.{with_runner}
use Rattle.promises.specs.Library.{Library, ours}
use Rattle.promises.specs.Sent.{Sent, code, TablesKept}
use Rattle.promises.specs.Runs.{is_a, ShownAs, Showing, idle}
use Rattle.promises.specs.Demand2.{AcceptedExactly, ObeyedExactly, EffectE7, StepTakes, IdleExactly}
use Rattle.promises.specs.EachStep.{EnterStep, CallMade}
use Rattle.promises.specs.Demand3.{World, Reached, mode_of, EndsOrReturns, IsFault, Demand3}
use Rattle.promises.specs.Stays.{WithinLength, OfSequence, RestsOn, StaysIf}

-- Our library with these six functions in the place of ours: the answers, the two tables left, the unit's step, the interpreter's step, the check.
abbrev pub changed : (Format → ControlUnit → ℕ → List ℕ → List ℕ → List ℕ → List ℕ → Answer)
    → (Format → ControlUnit → List ℕ → List ℕ → List ℕ → List ℕ → List ℕ) → (Format → ControlUnit → List ℕ → List ℕ → List ℕ → List ℕ → List ℕ)
    → (Format → ControlUnit → List ℕ → List ℕ → UnitStep) → (Env → List ℕ → Runner → Stepped) → (Format → List ℕ → List ℕ → ℕ → Told) → Library
changed answers seqs_left lists_left steps runs checks =
    record {
      powers_on = ours.powers_on;
      answers = answers;
      seqs_left = seqs_left;
      lists_left = lists_left;
      out_left = ours.out_left;
      steps = steps;
      runs = runs;
      checks = checks;
      still = ours.still;
      makes_code = ours.makes_code;
      makes = ours.makes;
      updates_code = ours.updates_code;
      updates = ours.updates;
      checks_cards = ours.checks_cards;
      window_code = ours.window_code;
      window_part = ours.window_part;
    }

-- With other answers alone; with other tables left; with another step of the unit, or of the interpreter; with another check.
abbrev pub with_answers : (Format → ControlUnit → ℕ → List ℕ → List ℕ → List ℕ → List ℕ → Answer) → Library
with_answers f = changed f ours.seqs_left ours.lists_left ours.steps ours.runs ours.checks

abbrev pub with_tables : (Format → ControlUnit → List ℕ → List ℕ → List ℕ → List ℕ → List ℕ) → (Format → ControlUnit → List ℕ → List ℕ → List ℕ → List ℕ → List ℕ) → Library
with_tables f g = changed ours.answers f g ours.steps ours.runs ours.checks

abbrev pub with_steps : (Format → ControlUnit → List ℕ → List ℕ → UnitStep) → Library
with_steps f = changed ours.answers ours.seqs_left ours.lists_left f ours.runs ours.checks

abbrev pub with_runs : (Env → List ℕ → Runner → Stepped) → Library
with_runs f = changed ours.answers ours.seqs_left ours.lists_left ours.steps f ours.checks

abbrev pub with_check : (Format → List ℕ → List ℕ → ℕ → Told) → Library
with_check f = changed ours.answers ours.seqs_left ours.lists_left ours.steps ours.runs f

-- ── 1. Demand 2, acceptance: "a unit that refuses all packets"

abbrev pub RefusesAll : Library → Type 0
RefusesAll L = (s : Sent flight) → 0 < code L s

abbrev pub RefusingFails : Type 0
RefusingFails = (L : Library) → RefusesAll L → (AcceptedExactly flight L → ⊥) × (ObeyedExactly flight L → ⊥)

-- ── 2. Demand 2: "an uplink that writes nothing"

-- No packet changes a table. Such a library refuses a packet that is to be obeyed, or obeys an uplink without its effect.
abbrev pub WritesNothing : Library → Type 0
WritesNothing L = (s : Sent flight) → TablesKept L s

abbrev pub WritingNothingFails : Type 0
WritingNothingFails = (L : Library) → WritesNothing L → ObeyedExactly flight L → EffectE7 flight L → ⊥

-- ── 3. Demand 2, each step

-- "a step always idle"
abbrev pub AlwaysIdle : Library → Type 0
AlwaysIdle L = (E : Env) (seqs : List ℕ) (s : Runner) → ShownAs (L.runs E seqs s).event idle

abbrev pub IdlingFails : Type 0
IdlingFails = (L : Library) → AlwaysIdle L → (IdleExactly L → ⊥) × (EnterStep L → ⊥)

-- the same of the unit's own step, which shows what the interpreter's does
abbrev pub UnitIdlingFails : Type 0
UnitIdlingFails = (L : Library) → ((u : ControlUnit) (seqs lists : List ℕ) → Showing (L.steps flight u seqs lists).outcome idle) → StepTakes flight L → EnterStep L → ⊥

-- "one that finishes the run at its first call and idles after": after the step that is the run's first, nothing runs
abbrev pub FinishesAtFirst : Library → Type 0
FinishesAtFirst L = (E : Env) (seqs : List ℕ) (s : Runner) → s.running ≡ true → s.entering ≡ true → (L.runs E seqs s).runner.running ≡ false

abbrev pub FinishingAtFirstFails : Type 0
FinishingAtFirstFails = (L : Library) → FinishesAtFirst L → EnterStep L → ⊥

abbrev pub UnitFinishingFails : Type 0
UnitFinishingFails = (L : Library)
    → ((u : ControlUnit) (seqs lists : List ℕ) → u.runner.running ≡ true → u.runner.entering ≡ true → (L.steps flight u seqs lists).unit.runner.running ≡ false)
    → StepTakes flight L → EnterStep L → ⊥

-- the same, where the first call is the first command 93 of the run: after a step in which ours shows a call, nothing runs
abbrev pub FinishesAtCall : Library → Type 0
FinishesAtCall L = (E : Env) (seqs : List ℕ) (s : Runner) (n : ℕ) → ShownAs (ours.runs E seqs s).event (shows "CALL" 8 (n ∷ [])) → (L.runs E seqs s).runner.running ≡ false

abbrev pub FinishingAtCallFails : Type 0
FinishingAtCallFails = (L : Library) → FinishesAtCall L → CallMade L → ⊥

-- ── 4. Demand 3

-- "a check that .. passes all"
abbrev pub PassingAllFails : Type 0
PassingAllFails = (f : Format → List ℕ → List ℕ → ℕ → Told) → ((seqs lists : List ℕ) (n : ℕ) → EndsOrReturns (f flight seqs lists n).ending)
    → Demand3 flight (with_check f) → ⊥

-- "a check that faults all", whatever code, sequence and place it gives
abbrev pub FaultingAllFails : Type 0
FaultingAllFails = (f : Format → List ℕ → List ℕ → ℕ → Told) → ((seqs lists : List ℕ) (n : ℕ) → IsFault (f flight seqs lists n).ending)
    → Demand3 flight (with_check f) → ⊥

-- "one reporting invented steps": of what ours passes it tells another number of steps
abbrev pub InventedStepsFail : Type 0
InventedStepsFail = (f : Format → List ℕ → List ℕ → ℕ → Told)
    → ((seqs lists : List ℕ) (n : ℕ) → EndsOrReturns (ours.checks flight seqs lists n).ending → (f flight seqs lists n).steps ≡ (ours.checks flight seqs lists n).steps → ⊥)
    → Demand3 flight (with_check f) → ⊥

-- "or exposures": another number of exposures
abbrev pub InventedExposuresFail : Type 0
InventedExposuresFail = (f : Format → List ℕ → List ℕ → ℕ → Told)
    → ((seqs lists : List ℕ) (n : ℕ) → EndsOrReturns (ours.checks flight seqs lists n).ending → (f flight seqs lists n).exposures ≡ (ours.checks flight seqs lists n).exposures → ⊥)
    → Demand3 flight (with_check f) → ⊥

-- a step of the unit that is always idle keeps demand 3 as little
abbrev pub IdleUnitFails : Type 0
IdleUnitFails = (f : Format → ControlUnit → List ℕ → List ℕ → UnitStep) → ((u : ControlUnit) (seqs lists : List ℕ) → Showing (f flight u seqs lists).outcome idle)
    → Demand3 flight (with_steps f) → ⊥

-- ── 5. One of each

-- It refuses everything with 6; it writes nothing.
abbrev pub refuses_all : Library
refuses_all = with_answers (λ F u time seqs lists out p. record { code = 6; size = 0; unit = u })

abbrev pub writes_nothing : Library
writes_nothing = with_tables (λ F u seqs lists out p. seqs) (λ F u seqs lists out p. lists)

-- Its step is idle; it ends the run; it ends the run at a call.
abbrev pub always_idle : Library
always_idle = with_runs (λ E seqs s. to Idle s)

abbrev pub finishes_at_first : Library
finishes_at_first = with_runs (λ E seqs s. cond s.running (to End (with_running false s)) (to Idle s))

abbrev pub at_call : Runner → Stepped → Stepped
at_call s r = cond (is_a 8 r.event) (to End (with_running false s)) r

abbrev pub finishes_at_call : Library
finishes_at_call = with_runs (λ E seqs s. at_call s (ours.runs E seqs s))

-- Its check passes all, faults all, tells a step more, tells an exposure more.
abbrev pub passes_all : Library
passes_all = with_check (λ F seqs lists n. let t = ours.checks F seqs lists n in told t.names Finishes t.steps t.exposures)

abbrev pub faults_all : Library
faults_all = with_check (λ F seqs lists n. let t = ours.checks F seqs lists n in told t.names (Faults n (fault 3 4) None) t.steps t.exposures)

abbrev pub invents_steps : Library
invents_steps = with_check (λ F seqs lists n. let t = ours.checks F seqs lists n in told t.names t.ending (t.steps + 1) t.exposures)

abbrev pub invents_exposures : Library
invents_exposures = with_check (λ F seqs lists n. let t = ours.checks F seqs lists n in told t.names t.ending t.steps (t.exposures + 1))

pub record Refuted : Type 0 where
  pub refuses-all : AcceptedExactly flight refuses_all → ⊥
  pub writes-nothing : EffectE7 flight writes_nothing → ⊥
  pub always-idle : EnterStep always_idle → ⊥
  pub finishes-at-first : EnterStep finishes_at_first → ⊥
  pub finishes-at-call : CallMade finishes_at_call → ⊥
  pub passes-all : Demand3 flight passes_all → ⊥
  pub faults-all : Demand3 flight faults_all → ⊥
  pub invents-steps : Demand3 flight invents_steps → ⊥
  pub invents-exposures : Demand3 flight invents_exposures → ⊥

-- ── 6. Misreadings

-- "Advancing the mirror after every exposure, not every set": only an exposure adds 1 to the count of the set.
abbrev pub mirror_each_exposure : Library
mirror_each_exposure =
    with_steps (λ F u seqs lists.
    let r = ours.steps F u seqs lists in
    let raster = raster_at (entry_of F seqs u.runner.sequence) u.runner.raster.place in
    let mirror = cond (eqb r.unit.runner.raster.count (u.runner.raster.count + 1)) (u.runner.mirror + raster.step) r.unit.runner.mirror in
    record { outcome = r.outcome; unit = with_runner (with_mirror mirror r.unit.runner) r.unit })

-- "A raster repeat begun at the last position": a repeat's run raster, the one command at the open raster's own place, leaves the mirror.
abbrev pub repeat_at_last : Library
repeat_at_last =
    with_steps (λ F u seqs lists.
    let r = ours.steps F u seqs lists in
    let mirror = cond (eqb u.runner.place u.runner.raster.place) u.runner.mirror r.unit.runner.mirror in
    record { outcome = r.outcome; unit = with_runner (with_mirror mirror r.unit.runner) r.unit })

-- A check that takes every line list for a good one without marks; one that tells no fault's reason; a sequence table that is written while a sequence runs.
abbrev pub faulty_raster_passed : Library
faulty_raster_passed = with_check (λ F seqs lists n. chain_of F (finding_of (record { format = F; cards = λ k. Ok no_marks }) seqs) n)

abbrev pub unreasoned : Ending → Ending
unreasoned (Unlisted code) = Unlisted code
unreasoned Finishes = Finishes
unreasoned Returns = Returns
unreasoned (Faults n f reason) = Faults n f None

abbrev pub drops_reasons : Library
drops_reasons = with_check (λ F seqs lists n. let t = ours.checks F seqs lists n in told t.names (unreasoned t.ending) t.steps t.exposures)

abbrev pub uplink_while_running : Library
uplink_while_running =
    with_tables (λ F u seqs lists out p. ours.seqs_left F (with_runner (with_running false u.runner) u) seqs lists out p) (λ F u seqs lists out p. ours.lists_left F u seqs lists out p)

pub record MisreadRefuted : Type 0 where
  pub mirror-each-exposure : Demand3 flight mirror_each_exposure → ⊥
  pub repeat-at-last : Demand3 flight repeat_at_last → ⊥
  pub faulty-raster-passed : Demand3 flight faulty_raster_passed → ⊥
  pub reason-dropped : Demand3 flight drops_reasons → ⊥
  pub uplink-while-running : Demand3 flight uplink_while_running → ⊥

-- ── 7. Any other check

-- Beside our unit demand 3 decides all that the check tells, over all tables of the right sizes (Applies: each is reached in MANUAL) and of every
-- sequence: a check that keeps it tells what ours tells, the names, the ending with a fault's code, sequence, place and reason, the steps and the
-- exposures. So one that differs from ours at a single table keeps no demand 3.
abbrev pub CheckDecided : Format → Type 0
CheckDecided F = (f : Format → List ℕ → List ℕ → ℕ → Told) → Demand3 F (with_check f) → (w : World F) → Reached ours w → mode_of w ≡ 2 → (n : ℕ) → n ≤ F.last
    → f F w.seqs w.lists n ≡ ours.checks F w.seqs w.lists n

-- ── 8. "A pass stays a pass" (Stays): no less will do for its premise

-- What a pass rests on, of all listed sequences but the last.
abbrev pub AllButLast : Format → List ℕ → List ℕ → List ℕ → ℕ → Type 0
AllButLast F seqs lists names a = RestsOn WithinLength F seqs lists (take (length names - 1) names) a

pub record PremiseRefuted : Type 0 where
  -- "no byte of a listed sequence", and a byte of a line list that it uses, so that the list's checksum is wrong: what passed is a fault with code 7
  pub without-line-lists : StaysIf EndsOrReturns (OfSequence WithinLength) flight ours → ⊥
  -- no byte of the sequence that calls, and one of the sequence that is called, so that its checksum is wrong: what passed is a fault with code 2
  pub without-last : StaysIf EndsOrReturns AllButLast flight ours → ⊥
