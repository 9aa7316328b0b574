-- Demand 3: what the table check promises of the unit. Each definition says a part of it, in plain words and then in symbols.
-- It is a statement of any library L: of its check, its step and what its packets leave (Library).
use Rattle.std.specs.Prelude.{ℕ, zero, suc, ◌+◌, ◌*◌, ◌/◌, ◌≤◌, ◌<◌, ◌≡◌, true, false, cond, ◌||◌, List, [], ◌∷◌, ◌++◌, ◌⊎◌, ℤ, pos, ◌+ℤ◌, length, Ok, Err}
use Rattle.octets.specs.Bytes.{byte_at}
use Rattle.memory.specs.declared.Format.{Format}
use Rattle.memory.specs.Memory.{entry_of, list_of}
use Rattle.sequence.specs.declared.Command.{Command}
use Rattle.sequence.specs.declared.Command.TheVariants.{RunRaster, CallSequence, Terminate}
use Rattle.sequence.specs.declared.Fault.{Fault}
use Rattle.sequence.specs.LineList.{ListCard}
use Rattle.sequence.specs.declared.RasterWords.{RasterWords}
use Rattle.sequence.specs.Text.{command_at}
use Rattle.sequence.specs.Starts.{starts_of, rasters_among, among}
use Rattle.sequence.specs.Raster.{raster_at, shift_of, start_of, mark_missing}
use Rattle.sequence.specs.LineList.{list_card}
use Rattle.runner.specs.declared.Event.{Event}
use Rattle.runner.specs.declared.Event.TheVariants.{Enter, Raster, Exp}
use Rattle.survey.specs.declared.Ending.{Ending}
use Rattle.survey.specs.declared.Ending.TheVariants.{Finishes, Returns, Faults}
use Rattle.survey.specs.declared.Reason.{Reason}
use Rattle.survey.specs.declared.Reason.TheVariants.{None, OfList, Mark}
use Rattle.survey.specs.Turns.{turns}
use Rattle.survey.specs.Items.{position_at}
use Rattle.survey.specs.Chain.{Told}
use Rattle.survey.specs.Report.{ending_as, ending_shown}
use Rattle.unit.specs.declared.Unit.{Unit as ControlUnit}
use Rattle.unit.specs.Step.{Outcome}
use Rattle.promises.specs.Runs.{is_a, Showing, idle, enters, aborts, quiet, position_shown, AtDoor}
use Rattle.promises.specs.Positions.{NonePast}
use Rattle.promises.specs.Library.{Library}

-- ── 1. The unit, and what is done to it

-- The unit, with the sequence table and the line lists that its caller lends it; the sequence table is read by a format.
pub record World (F : Format) : Type 0 where
  pub unit : ControlUnit
  pub seqs : List ℕ
  pub lists : List ℕ

abbrev pub world : {F : Format} → ControlUnit → List ℕ → List ℕ → World F
world unit seqs lists = record { unit = unit; seqs = seqs; lists = lists }

-- Two things are done to it. A step of the interpreter; or a packet of any bytes, sent with any output for its answer, at any time.
pub data Action : Type 0 where
  step : Action
  packet : (out : List ℕ) (time : ℕ) (bytes : List ℕ) → Action

-- What an action leaves. The tables are "written only by uplinks": nothing changes them but what the unit does with a packet.
abbrev pub after : {F : Format} → Library → Action → World F → World F
after {F} L step w = world (L.steps F w.unit w.seqs w.lists).unit w.seqs w.lists
after {F} L (packet out time bytes) w =
    world (L.answers F w.unit time w.seqs w.lists out bytes).unit
    (L.seqs_left F w.unit w.seqs w.lists out bytes)
    (L.lists_left F w.unit w.seqs w.lists out bytes)

abbrev pub after_all : {F : Format} → Library → List Action → World F → World F
after_all L [] w = w
after_all L (a ∷ acts) w = after_all L acts (after L a w)

-- What is seen of the steps among the actions, in order: of each an event, or a denial with its code. So there are as many of them as steps.
abbrev pub outcomes : {F : Format} → Library → List Action → World F → List Outcome
outcomes L [] w = []
outcomes {F} L (step ∷ acts) w = (L.steps F w.unit w.seqs w.lists).outcome ∷ outcomes L acts (after L step w)
outcomes L (packet out time bytes ∷ acts) w = outcomes L acts (after L (packet out time bytes) w)

-- "Demand 3 speaks of states reached from power-on": by any actions, over tables of the right sizes that hold anything. Before a run its
-- caller may lend others.
pub data Reached {F : Format} (L : Library) : World F → Type 0 where
  powered : (seqs lists : List ℕ) → length seqs ≡ 16384 → length lists ≡ 7872 → Reached L (world L.powers_on seqs lists)
  lent : {w : World F} (seqs lists : List ℕ) → length seqs ≡ 16384 → length lists ≡ 7872 → Reached L w → Reached L (world w.unit seqs lists)
  acted : {w : World F} (a : Action) → Reached L w → Reached L (after L a w)

-- ── 2. Selected, started and not called back

-- "Modes: 1 STANDBY, 2 MANUAL, 3 AUTO."
abbrev pub mode_of : {F : Format} → World F → ℕ
mode_of w = w.unit.control.mode

-- The packet that selects sequence n, the packet that starts it, and the code that a packet is answered: 0 where it is obeyed.
abbrev pub selecting : ℕ → List ℕ
selecting n = 0x83 ∷ n ∷ []

abbrev pub starting : List ℕ
starting = 0x21 ∷ 0x03 ∷ []

abbrev pub code_for : {F : Format} → Library → List ℕ → ℕ → List ℕ → World F → ℕ
code_for {F} L out time bytes w = (L.answers F w.unit time w.seqs w.lists out bytes).code

-- "Stepped on with no call back to MANUAL": whatever is done, no packet 21 02 is answered 0. A step is no call back, whatever it leaves.
abbrev pub calling_back : List ℕ
calling_back = 0x21 ∷ 0x02 ∷ []

abbrev pub CalledBack : {F : Format} → Library → Action → World F → Type 0
CalledBack L step w = ⊥
CalledBack L (packet out time bytes) w = (bytes ≡ calling_back) × (code_for L out time bytes w ≡ 0)

abbrev pub NeverCalledBack : {F : Format} → Library → List Action → World F → Type 0
NeverCalledBack L [] w = Unit {0}
NeverCalledBack L (a ∷ acts) w = (CalledBack L a w → ⊥) × NeverCalledBack L acts (after L a w)

-- ── 3. The chain: what the tables say is to be listed

-- The last of these numbers; d where there is none.
abbrev pub last_of : ℕ → List ℕ → ℕ
last_of d [] = d
last_of d (p ∷ ps) = last_of p ps

-- The command with which a text ends: the last one that starts in it, counted on from place 4. It calls m, or it terminates.
abbrev pub closing_of : List ℕ → Command
closing_of text = command_at text (last_of 0 (starts_of text))

abbrev pub Calling : Format → List ℕ → ℕ → ℕ → Type 0
Calling F seqs n m = closing_of (entry_of F seqs n) ≡ CallSequence m

abbrev pub Terminating : Format → List ℕ → ℕ → Type 0
Terminating F seqs n = closing_of (entry_of F seqs n) ≡ Terminate

-- The reason for which a run raster is refused with code 7, by what the test of its line list answers and by its science flags. "The line list
-- test is to say which": it is what makes the list bad. Where the list is good it is a mark: one that a flag needs is missing.
abbrev pub SevenFor : ListCard → ℕ → Reason → Type 0
SevenFor (Err bad) science reason = reason ≡ OfList bad
SevenFor (Ok marks) science reason = (reason ≡ Mark) × (mark_missing marks science ≡ true)

-- What the fault in a text tells besides its code and place. A fault with code 7 is at a run raster, and its reason is that of the line list
-- which this run raster names. A fault with another code has none.
pub record Reasoned (text lists : List ℕ) (fault : Fault) (reason : Reason) : Type 0 where
  pub seven : fault.code ≡ 7
      → let raster = raster_at text fault.place in (command_at text fault.place ≡ RunRaster) × SevenFor (list_card (list_of lists raster.list)) raster.science reason
  pub other : (fault.code ≡ 7 → ⊥) → reason ≡ None

-- "Follows the call, and ends at terminate or at a sequence already listed." The chain from sequence n has these names in order: the first is n,
-- and each next one is the call of the one before. The last one terminates; or its call is listed, and the chain returns; or the fault is in it,
-- told with its reason.
pub data Chain (F : Format) (seqs lists listed : List ℕ) : ℕ → List ℕ → Ending → Type 0 where
  last-terminates : {n : ℕ} → Terminating F seqs n → Chain F seqs lists listed n (n ∷ []) Finishes
  last-returns : {n m : ℕ} → Calling F seqs n m → among m listed ≡ true → Chain F seqs lists listed n (n ∷ []) Returns
  last-faulty : {n : ℕ} {fault : Fault} {reason : Reason} → Reasoned (entry_of F seqs n) lists fault reason → Chain F seqs lists listed n (n ∷ []) (Faults n fault reason)
  then-called : {n m : ℕ} {names : List ℕ} {ending : Ending} → Calling F seqs n m → Chain F seqs lists listed m names ending → Chain F seqs lists listed n (n ∷ names) ending

-- "The listed ones once each": no two are the same.
abbrev pub Differ : List ℕ → Type 0
Differ [] = Unit {0}
Differ (n ∷ ns) = (among n ns ≡ false) × Differ ns

-- What the check tells of the chain from sequence n: it has an answer, the names are that chain's, a fault's reason is right, and no one is listed
-- twice.
pub record Lists (F : Format) (seqs lists : List ℕ) (n : ℕ) (t : Told) : Type 0 where
  pub chain : Chain F seqs lists t.names n t.names t.ending
  pub differ : Differ t.names
  -- "a fault gives .. totals 0"
  pub totals : (ending_shown t.ending).number ≡ 3 → (t.steps ≡ 0) × (t.exposures ≡ 0)

-- ── 4. The plan: what the tables say is to be seen

-- `turns 0 n (λ k left. ..)` is what stands there for k = 0, 1, .. up to n - 1, one after another.

-- One repeat of a raster: the raster is begun at its initial position, moved by the shift of this turn, and then there are loops × exposures
-- exposures. "Exposure k of one raster repeat, from 0, is at initial + step x (k / exposures, whole part)", and "the initial position moves".
abbrev pub repeat_plan : RasterWords → ℕ → List Event
repeat_plan raster turn =
    Raster raster.id (start_of raster turn) raster.list
    ∷ turns 0 (raster.loops * raster.exposures) (λ k left. Exp (position_at raster turn k) ∷ [])

-- A raster: its repeats, one after another.
abbrev pub raster_plan : RasterWords → List Event
raster_plan raster = turns 0 raster.repeats (λ turn left. repeat_plan raster turn)

-- A round: the rasters of the text, in text order.
abbrev pub rasters_plan : List ℕ → List ℕ → List Event
rasters_plan text [] = []
rasters_plan text (p ∷ ps) = raster_plan (raster_at text p) ++ rasters_plan text ps

abbrev pub round_plan : List ℕ → List Event
round_plan text = rasters_plan text (rasters_among text (starts_of text))

-- A sequence: it is entered, and then come as many rounds as its byte 3 says.
abbrev pub sequence_plan : ℕ → List ℕ → List Event
sequence_plan n text = Enter n ∷ turns 0 (byte_at text 3) (λ r left. round_plan text)

-- A chain: the listed sequences, one after another.
abbrev pub chain_plan : Format → List ℕ → List ℕ → List Event
chain_plan F seqs [] = []
chain_plan F seqs (n ∷ ns) = sequence_plan n (entry_of F seqs n) ++ chain_plan F seqs ns

-- Where exposure k of a turn is to be, by the formula: initial + the turn's shift + step x (k / exposures, whole part). The shift has a sign, forward
-- or back: "steps times the whole part of [turn] / skip".
abbrev pub by_formula : RasterWords → ℕ → ℕ → ℤ
by_formula raster turn k = pos raster.initial +ℤ shift_of raster turn +ℤ pos (raster.step * (k / raster.exposures))

-- The positions in a raster's plan are those of the formula: it gives none below 0, from which a part would be cut, and none above 2400.
abbrev pub Positioned : RasterWords → Type 0
Positioned raster = (turn k : ℕ) → turn < raster.repeats → k < raster.loops * raster.exposures
    → (pos (position_at raster turn k) ≡ by_formula raster turn k) × (position_at raster turn k ≤ 2400)

-- So of every raster of a text, and of every listed sequence: "every position of every run must lie in 0 to 2400".
abbrev pub EachPositioned : List ℕ → List ℕ → Type 0
EachPositioned text [] = Unit {0}
EachPositioned text (p ∷ ps) = Positioned (raster_at text p) × EachPositioned text ps

abbrev pub ChainPositioned : Format → List ℕ → List ℕ → Type 0
ChainPositioned F seqs [] = Unit {0}
ChainPositioned F seqs (n ∷ ns) =
    let text = entry_of F seqs n in EachPositioned text (rasters_among text (starts_of text)) × ChainPositioned F seqs ns

-- ── 5. What is seen

-- The events of the steps that were not denied.
abbrev pub events_of : List Outcome → List Event
events_of [] = []
events_of (Err code ∷ os) = events_of os
events_of (Ok e ∷ os) = e ∷ events_of os

-- What each of these events shows, one after another.
abbrev pub from_each : {A : Type 0} → (Event → List A) → List Event → List A
from_each f [] = []
from_each f (e ∷ es) = f e ++ from_each f es

-- A landmark is an event that enters a sequence, begins a raster or makes an exposure: ENTER 1, RASTER 2, EXP 3.
abbrev pub landmark : Event → List Event
landmark e = cond (is_a 1 e || (is_a 2 e || is_a 3 e)) (e ∷ []) []

-- Where the exposures among these events were made.
abbrev pub exposed_positions : List Event → List ℕ
exposed_positions es = from_each position_shown es

-- A step goes well if it is neither denied nor an abort. It works if it is not idle either.
abbrev pub GoesWell : Outcome → Type 0
GoesWell (Err code) = ⊥
GoesWell (Ok e) = quiet e ≡ true

abbrev pub IsIdle : Outcome → Type 0
IsIdle o = Showing o idle

abbrev pub Works : Outcome → Type 0
Works o = GoesWell o × (IsIdle o → ⊥)

-- Something holds of every step.
abbrev pub All : (Outcome → Type 0) → List Outcome → Type 0
All P [] = Unit {0}
All P (o ∷ os) = P o × All P os

-- Something holds of each of the first k steps, and something else of those that come after, as far as steps were taken.
abbrev pub FirstThen : ℕ → (Outcome → Type 0) → (List Outcome → Type 0) → List Outcome → Type 0
FirstThen k P Q [] = Unit {0}
FirstThen zero P Q (o ∷ os) = Q (o ∷ os)
FirstThen (suc k) P Q (o ∷ os) = P o × FirstThen k P Q os

-- ── 6. The demand

-- An ending by the paper's number and values for it (survey/specs/Report): 1 ends, 2 returns, 3 fault with its code, sequence and place.
abbrev pub Ends : Ending → Type 0
Ends e = ending_shown e ≡ ending_as 1 0 0 0

abbrev pub ComesBack : Ending → Type 0
ComesBack e = ending_shown e ≡ ending_as 2 0 0 0

abbrev pub EndsOrReturns : Ending → Type 0
EndsOrReturns e = Ends e ⊎ ComesBack e

abbrev pub HasFault : ℕ → ℕ → ℕ → Ending → Type 0
HasFault code n place e = ending_shown e ≡ ending_as 3 code n place

abbrev pub IsFault : Ending → Type 0
IsFault e = (code : ℕ) × (n : ℕ) × (place : ℕ) × HasFault code n place e

-- How a run that the check passed goes on after the last command listed. A chain that ends has stopped: every step is idle. One that returns
-- enters the sequence that the last one calls, a listed one.
abbrev pub GoesOn : Format → List ℕ → Ending → List ℕ → List Outcome → Type 0
GoesOn F seqs ending names [] = Unit {0}
GoesOn F seqs ending names (o ∷ os) =
    (Ends ending → All IsIdle (o ∷ os))
    × (ComesBack ending → (n : ℕ) × Calling F seqs (last_of 0 names) n × (among n names ≡ true) × Showing o (enters n))

-- How one with a fault goes on: the next step is the abort, and after it every step is idle.
abbrev pub AbortsAt : ℕ → ℕ → ℕ → List Outcome → Type 0
AbortsAt code n place [] = Unit {0}
AbortsAt code n place (o ∷ os) = Showing o (aborts code n place) × All IsIdle os

-- A run that the check passed, as far as it was stepped on.
pub record RunsAsTold (F : Format) (seqs : List ℕ) (t : Told) (os : List Outcome) : Type 0 where
  -- "it never aborts", and no step is denied
  pub never : All GoesWell os
  -- no exposure is "past the end stop"; none is below 0, since each has the number that the signed formula gives
  pub in_reach : NonePast 2400 (exposed_positions (events_of os))
  pub positioned : ChainPositioned F seqs t.names
  -- "the steps to the last command it lists equal the numbers it reports": so many steps work, and then it goes on as the chain ends
  pub steps : FirstThen t.steps Works (GoesOn F seqs t.ending t.names) os
  -- with these steps the listed sequences are entered in order, and "in each round of its sequence a raster takes exactly loops times
  -- exposures times repeats, each exposure at the position the formula gives"; "each round of the sequence starts again at k = 0"
  pub planned : length os ≡ t.steps → from_each landmark (events_of os) ≡ chain_plan F seqs t.names
  -- "the exposures .. equal the numbers it reports"
  pub exposures : length os ≡ t.steps → length (exposed_positions (events_of os)) ≡ t.exposures

-- "If the check passed it", that is, the chain ends or returns: from s on, whatever is done but a call back, it runs as the check told.
abbrev pub KeepsPassed : {F : Format} → Library → Told → World F → Type 0
KeepsPassed {F} L t s = EndsOrReturns t.ending → (acts : List Action) → NeverCalledBack L acts s → RunsAsTold F s.seqs t (outcomes L acts s)

-- "If the check found a fault, the run aborts at that sequence and byte, with that code": from s on a number of steps work, and then
-- it aborts, whatever is done but a call back.
abbrev pub KeepsFaulted : {F : Format} → Library → Told → World F → Type 0
KeepsFaulted L t s = (code n place : ℕ) → HasFault code n place t.ending
    → (k : ℕ) × ((acts : List Action) → NeverCalledBack L acts s → FirstThen k Works (AbortsAt code n place) (outcomes L acts s))

-- The demand. In MANUAL the packets 83 n and 21 03 are obeyed, one after the other; the check lists the chain from sequence n, and what it told
-- is kept.
abbrev pub Demand3 : Format → Library → Type 0
Demand3 F L = (w : World F) → Reached L w → mode_of w ≡ 2 → (n : ℕ) → n ≤ F.last
    → (out out' : List ℕ) → 16384 ≤ length out → 16384 ≤ length out' → (time time' : ℕ)
    → let t = L.checks F w.seqs w.lists n in
    let v = after L (packet out time (selecting n)) w in
    let s = after L (packet out' time' starting) v in
    (code_for L out time (selecting n) w ≡ 0) × (code_for L out' time' starting v ≡ 0) × Lists F w.seqs w.lists n t × KeepsPassed L t s × KeepsFaulted L t s

-- ── 7. Besides

-- "A raster takes exactly loops times exposures times repeats": so many exposures are in its plan.
abbrev pub RasterTakes : Type 0
RasterTakes = (raster : RasterWords) → length (exposed_positions (raster_plan raster)) ≡ raster.loops * raster.exposures * raster.repeats

-- It is not said of nothing: over any tables of the right sizes 20 and 21 02 take the unit from power-on to MANUAL.
abbrev pub Applies : Format → Library → Type 0
Applies F L = (seqs lists : List ℕ) → length seqs ≡ 16384 → length lists ≡ 7872
    → (out out' : List ℕ) → 16384 ≤ length out → 16384 ≤ length out' → (time time' : ℕ)
    → let v = after L (packet out time (0x20 ∷ [])) (world {F = F} L.powers_on seqs lists) in
    let w = after L (packet out' time' (0x21 ∷ 0x02 ∷ [])) v in
    Reached L w × (mode_of w ≡ 2) × (w.seqs ≡ seqs) × (w.lists ≡ lists)

-- Sequence n can be started: the unit was reached from power-on, it is in MANUAL, and n is selected.
pub record Selected {F : Format} (L : Library) (n : ℕ) (w : World F) : Type 0 where
  pub reached : Reached L w
  pub manual : mode_of w ≡ 2
  pub selection : w.unit.control.selection ≡ n
  pub known : n ≤ F.last

-- 83 n is obeyed in MANUAL. Sequence n is then selected, over the same tables.
abbrev pub SelectionObeyed : Format → Library → Type 0
SelectionObeyed F L = (w : World F) → Reached L w → mode_of w ≡ 2 → (n : ℕ) → n ≤ F.last → (out : List ℕ) → 16384 ≤ length out → (time : ℕ)
    → (code_for L out time (selecting n) w ≡ 0)
    × Selected L n (after L (packet out time (selecting n)) w)
    × ((after L (packet out time (selecting n)) w).seqs ≡ w.seqs)
    × ((after L (packet out time (selecting n)) w).lists ≡ w.lists)

-- The unit is about to enter sequence n: it was reached from power-on, it runs in AUTO, "entering comes first", and no raster is open.
pub record AboutToEnter {F : Format} (L : Library) (n : ℕ) (s : World F) : Type 0 where
  pub reached : Reached L s
  pub auto : mode_of s ≡ 3
  pub door : AtDoor n s.unit.runner.mirror s.unit.runner
  pub known : n ≤ F.last

-- 21 03 is then obeyed. The unit is about to enter the selected sequence, over the same tables.
abbrev pub Starts : Format → Library → Type 0
Starts F L = (n : ℕ) (w : World F) → Selected L n w → (out : List ℕ) → 16384 ≤ length out → (time : ℕ)
    → (code_for L out time starting w ≡ 0)
    × AboutToEnter L n (after L (packet out time starting) w)
    × ((after L (packet out time starting) w).seqs ≡ w.seqs)
    × ((after L (packet out time starting) w).lists ≡ w.lists)

-- The demand for a unit that is about to enter a sequence, whatever came between the two packets: what the check tells is kept.
abbrev pub Passed : Format → Library → Type 0
Passed F L = (n : ℕ) (s : World F) → AboutToEnter L n s → KeepsPassed L (L.checks F s.seqs s.lists n) s

abbrev pub Faulted : Format → Library → Type 0
Faulted F L = (n : ℕ) (s : World F) → AboutToEnter L n s → KeepsFaulted L (L.checks F s.seqs s.lists n) s

-- A chain that returns goes round for good. After its last command listed the unit is about to enter the sequence m that the last one calls, over
-- the same tables; what the check tells of m returns too, and lists what comes again: the part of these names from m on. So all of this holds again.
pub record Again (F : Format) (L : Library) (seqs lists : List ℕ) (n m : ℕ) : Type 0 where
  pub called : Calling F seqs (last_of 0 (L.checks F seqs lists n).names) m
  pub once : List ℕ
  pub part : (L.checks F seqs lists n).names ≡ once ++ (L.checks F seqs lists m).names
  pub returns : ComesBack (L.checks F seqs lists m).ending

abbrev pub Returning : Format → Library → Type 0
Returning F L = (n : ℕ) (s : World F) → AboutToEnter L n s → ComesBack (L.checks F s.seqs s.lists n).ending
    → (m : ℕ) × Again F L s.seqs s.lists n m
    × ((acts : List Action) → NeverCalledBack L acts s → length (outcomes L acts s) ≡ (L.checks F s.seqs s.lists n).steps
    → AboutToEnter L m (after_all L acts s) × ((after_all L acts s).seqs ≡ s.seqs) × ((after_all L acts s).lists ≡ s.lists))

-- In one statement. Whatever is done but a call back, and however far it is stepped on: every step works, so none is an abort or idle; after the
-- steps told and k times those of the part that comes again, what is seen is the plan of the whole chain and then k times that of the part; in
-- between it is the beginning of such a plan.
abbrev pub laps_plan : Format → List ℕ → List ℕ → List ℕ → ℕ → List Event
laps_plan F seqs names part k = chain_plan F seqs names ++ turns 0 k (λ lap left. chain_plan F seqs part)

pub record GoesRound (F : Format) (seqs : List ℕ) (chain part : Told) (os : List Outcome) : Type 0 where
  pub works : All Works os
  pub laps : (k : ℕ) → length os ≡ chain.steps + k * part.steps → from_each landmark (events_of os) ≡ laps_plan F seqs chain.names part.names k
  pub under-way : (k : ℕ) → length os ≤ chain.steps + k * part.steps
      → (rest : List Event) × (from_each landmark (events_of os) ++ rest ≡ laps_plan F seqs chain.names part.names k)

abbrev pub EveryLap : Format → Library → Type 0
EveryLap F L = (n : ℕ) (s : World F) → AboutToEnter L n s → ComesBack (L.checks F s.seqs s.lists n).ending
    → (m : ℕ) × Again F L s.seqs s.lists n m
    × ((acts : List Action) → NeverCalledBack L acts s
    → GoesRound F s.seqs (L.checks F s.seqs s.lists n) (L.checks F s.seqs s.lists m) (outcomes L acts s))
