-- Demand 2: each answer is given exactly when document 01 gives it, and what is obeyed has the effect that it names, and no other.
-- Each statement in plain words and then in symbols; proofs/Demand2 has its proof, under its name (`accepted-exactly : AcceptedExactly`).
use Rattle.std.specs.Prelude.{ℕ, ◌+◌, ◌-◌, ◌≤◌, ◌<◌, ◌≡◌, true, false, cond, not, ◌&&◌, List, [], ◌∷◌, ◌++◌, ◌↔◌, ◌⊎◌, ltb, pos, length, take, drop, replicate, Ok, Err, Option, Some, None}
use Rattle.octets.specs.Bytes.{byte_at, triple_at, two, four, halves, counted}
use Rattle.octets.specs.Rows.{Row, row, NoneHolds, FirstBears}
use Rattle.memory.specs.declared.Format.{Format}
use Rattle.memory.specs.Memory.{format_of, window_rows}
use Rattle.sequence.specs.declared.Command.{Command}
use Rattle.sequence.specs.declared.Command.TheVariants.{RunRaster, Expose, LoopBack, CallSequence, Terminate, Delay, Nothing, Unknown, Unfit}
use Rattle.sequence.specs.Text.{header_rows, header_place, command_at}
use Rattle.sequence.specs.Raster.{raster_at}
use Rattle.sequence.specs.Env.{Env, env_of, text_of}
use Rattle.runner.specs.declared.Runner.{Runner}
use Rattle.runner.specs.declared.Event.{Event}
use Rattle.runner.specs.declared.Opened.{Opened}
use Rattle.runner.specs.Judge.{run_rows, expose_rows, loop_rows, close_rows}
use Rattle.runner.specs.Step.{open_of, advances}
use Rattle.runner.specs.With.{with_sequence, with_place, with_running}
use Rattle.survey.specs.declared.Ending.TheVariants.{Unlisted}
use Rattle.survey.specs.Walk.{finding_of}
use Rattle.survey.specs.Chain.{told, chain_of, check_rows}
use Rattle.unit.specs.declared.Unit.{Unit as ControlUnit}
use Rattle.telecommand.specs.declared.Telecommand.{Telecommand}
use Rattle.telecommand.specs.declared.Telecommand.TheVariants.{Status, Dump, Allow, Mode, Clear, Select, Uplink, Foreign, Unheard}
use Rattle.status.specs.State.{log_of, watched}
use Rattle.unit.specs.State.{out_of_range}
use Rattle.telecommand.specs.Packet.{telecommand_of}
use Rattle.unit.specs.Packet.{packet_rows}
use Rattle.status.specs.Status.{or_zero}
use Rattle.unit.specs.Status.{status_of}
use Rattle.unit.specs.Step.{step_rows}
use Rattle.promises.specs.Formats.{Fills}
use Rattle.promises.specs.Library.{Library}
use Rattle.promises.specs.Runs.{ShownAs, Showing, idle, aborts, quiet}
use Rattle.promises.specs.Sent.{Sent, answer_to, code, unit_left, seqs_left, lists_left, out_left, bc1, bc2, TablesKept, NoAnswer, Logged}

-- ── 1. Packets: the code

-- The refusals stand in one table of rows, a code and a test each, in the order of document 01 (unit/specs/Packet: `packet_rows`).
abbrev pub rows_for : {F : Format} → Sent F → List Row
rows_for {F} s = packet_rows F s.unit s.seqs s.lists s.out s.bytes

-- A packet is obeyed exactly when no row holds,
abbrev pub AcceptedExactly : Format → Library → Type 0
AcceptedExactly F L = (s : Sent F) → (code L s ≡ 0) ↔ NoneHolds (rows_for s)

-- and it is refused with code c exactly when c is the code of the first row that holds.
abbrev pub CodeExactly : Format → Library → Type 0
CodeExactly F L = (s : Sent F) (c : ℕ) → 0 < c → (code L s ≡ c) ↔ FirstBears c (rows_for s)

-- "An unknown kind is 16", in the place of a wrong table size, wherever tables are lent: to a packet, a step, the check and the window. There are
-- two kinds, 0 and 1. What 16 leaves as it was is demand 1's.
pub record Sixteen (L : Library) (F : Format) : Type 0 where
  pub packet : (s : Sent F) → code L s ≡ 16
  pub step : (u : ControlUnit) (seqs lists : List ℕ) → (L.steps F u seqs lists).outcome ≡ Err 16
  pub check : (seqs lists : List ℕ) (n : ℕ) → L.checks F seqs lists n ≡ told [] (Unlisted 16) 0 0
  pub window : (seqs lists : List ℕ) (a len : ℕ) → L.window_code F seqs lists a len ≡ 16

abbrev pub NoOtherKind : Library → Type 0
NoOtherKind L = (kind : ℕ) → 1 < kind → Sixteen L (format_of kind)

-- ── 2. Packets: when each command is obeyed, in words

-- "The caller lends both, 16,384 and 7,872 bytes exactly, and an output of at least 16,384." "An unknown kind is 16": it has no format.
pub record Lent {F : Format} (s : Sent F) : Type 0 where
  pub format : Fills F
  pub sequences : length s.seqs ≡ 16384
  pub line_lists : length s.lists ≡ 7872
  pub output : 16384 ≤ length s.out

-- A number is up to a bound, or it is 255, which stands for none.
abbrev pub UpToOrNone : ℕ → ℕ → Type 0
UpToOrNone bound n = (n ≤ bound) ⊎ (n ≡ 255)

-- "Out of range means: mode not 1-3, failed or abort code above 15, sequence or selection above 127 (unless none), place or open raster's
-- place above 127, line list above 47, mirror above 2400, exposures in the set above 8, or running outside AUTO or with selection or status
-- sequence none." A state is in range when it is none of that.
pub record InRange (F : Format) (u : ControlUnit) : Type 0 where
  pub least : 1 ≤ u.control.mode
  pub most : u.control.mode ≤ 3
  pub failed : u.ledger.code ≤ 15
  pub abort : u.watch.abort ≤ 15
  pub sequence : UpToOrNone F.last u.runner.sequence
  pub selection : UpToOrNone F.last u.control.selection
  pub place : u.runner.place < F.size
  pub raster : (u.runner.raster.place < F.size) ⊎ (u.runner.raster.place ≡ 255)
  pub list : u.watch.list ≤ 47
  pub mirror : u.runner.mirror ≤ 2400
  pub count : u.runner.raster.count ≤ 8
  pub runs : u.runner.running ≡ true → (u.control.mode ≡ 3) × (u.control.selection ≡ 255 → ⊥) × (u.runner.sequence ≡ 255 → ⊥)

abbrev pub RangeExactly : Format → Type 0
RangeExactly F = (u : ControlUnit) → (out_of_range F u ≡ false) ↔ InRange F u

-- "A range lies wholly in one table": len bytes from address a, 1 to 16,384 of them, at 0x070000 to 0x073FFF or at 0x074000 to 0x075EBF.
abbrev pub InSequences : ℕ → ℕ → Type 0
InSequences a len = (0x070000 ≤ a) × (a + len ≤ 0x074000)

abbrev pub InLineLists : ℕ → ℕ → Type 0
InLineLists a len = (0x074000 ≤ a) × (a + len ≤ 0x075EC0)

abbrev pub InOneTable : ℕ → ℕ → Type 0
InOneTable a len = (1 ≤ len) × (len ≤ 16384) × (InSequences a len ⊎ InLineLists a len)

-- "Only 1-2, 2-1, 2-3 and 3-2 are allowed."
abbrev pub Pair : ℕ → ℕ → Type 0
Pair a b = ((a ≡ 1) × (b ≡ 2)) ⊎ (((a ≡ 2) × (b ≡ 1)) ⊎ (((a ≡ 2) × (b ≡ 3)) ⊎ ((a ≡ 3) × (b ≡ 2))))

-- What a command needs beside right sizes and a state in range: the packet's length, and the row's own checks. The command is known by BC1.
abbrev pub Wanted : {F : Format} → Telecommand → Sent F → Type 0
-- 01, 20 and 23 need their length alone
Wanted Status s = length s.bytes ≡ 1
Wanted Allow s = (length s.bytes ≡ 1) ⊎ (length s.bytes ≡ 2)
Wanted Clear s = length s.bytes ≡ 1
-- 07: "BC2-4 address, BC5-7 count"
Wanted Dump s = (length s.bytes ≡ 7) × InOneTable (triple_at s.bytes 1) (triple_at s.bytes 4)
-- 21: 20 was obeyed, the pair of modes is allowed, and for AUTO a sequence is selected
Wanted Mode s =
    (length s.bytes ≡ 2)
    × (s.unit.control.allowed ≡ true)
    × Pair s.unit.control.mode (bc2 s)
    × (bc2 s ≡ 3 → s.unit.control.selection ≡ 255 → ⊥)
-- 83: MANUAL, and a number up to the last: 127, of the old kind 63
Wanted {F} Select s = (length s.bytes ≡ 2) × (s.unit.control.mode ≡ 2) × (bc2 s ≤ F.last)
-- E7: nothing runs; "BC2-4 address, BC5 count, data", 1 to 128 of them
Wanted Uplink s =
    (length s.bytes ≡ 5 + byte_at s.bytes 4)
    × (byte_at s.bytes 4 ≤ 128)
    × (s.unit.runner.running ≡ false)
    × InOneTable (triple_at s.bytes 1) (byte_at s.bytes 4)
-- no other command is obeyed
Wanted Foreign s = ⊥
Wanted Unheard s = ⊥

-- A packet is obeyed exactly when the sizes are right, the state is in range, and its command has what it needs.
abbrev pub ObeyedExactly : Format → Library → Type 0
ObeyedExactly F L = (s : Sent F) → (code L s ≡ 0) ↔ (Lent s × InRange F s.unit × Wanted (telecommand_of (bc1 s)) s)

-- ── 3. Packets: the effect of each command

-- A packet with this BC1 is obeyed.
pub record Obeyed {F : Format} (L : Library) (number : ℕ) (s : Sent F) : Type 0 where
  pub accepted : code L s ≡ 0
  pub command : bc1 s ≡ number

-- The answer is these bytes, laid over the output's start: "Output past an answer stays."
pub record Answered {F : Format} (L : Library) (bytes : List ℕ) (s : Sent F) : Type 0 where
  pub size : (answer_to L s).size ≡ length bytes
  pub output : out_left L s ≡ bytes ++ drop (length bytes) s.out

-- 01: "status block; STATUS_PC + 1". The request alone is counted; no packet is, and the log stays. The block is that of the unit after it.
pub record Asks (was is : ControlUnit) : Type 0 where
  pub requests : is.control.requests ≡ counted was.control.requests
  pub mode : is.control.mode ≡ was.control.mode
  pub allowed : is.control.allowed ≡ was.control.allowed
  pub selection : is.control.selection ≡ was.control.selection
  pub ledger : is.ledger ≡ was.ledger
  pub watch : is.watch ≡ was.watch
  pub runner : is.runner ≡ was.runner

abbrev pub Effect01 : Format → Library → Type 0
Effect01 F L = (s : Sent F) → Obeyed L 0x01 s → Asks s.unit (unit_left L s) × TablesKept L s × Answered L (status_of (unit_left L s) s.time) s

-- "Answer to 01: byte 01, size 00 00 64, then 100 bytes." The 100 bytes by document 01's positions, which stand at each line's end.
abbrev pub zeros : ℕ → List ℕ
zeros n = replicate n 0

abbrev pub block_of : ControlUnit → ℕ → List ℕ
block_of u time =
    (0x01 ∷ 0x00 ∷ 0x00 ∷ 0x64 ∷ [])
    ++ (0x10 ∷ [])  -- 0
    ++ (halves u.control.mode u.ledger.code ∷ [])  -- 1: mode in bits 0-3, failed code in 4-7
    ++ two u.control.requests  -- 2-3: STATUS_PC
    ++ four time  -- 4-7: the time given with the call
    ++ two u.ledger.received  -- 8-9: received
    ++ zeros 2
    ++ two u.ledger.failed  -- 12-13: failed
    ++ (u.ledger.number ∷ [])  -- 14: failed number
    ++ zeros 2
    ++ (cond u.runner.running 0x21 0x22 ∷ [])  -- 17: 2 in bits 0-3; bits 4-7 are 1 running, 2 stopped
    ++ zeros 2
    ++ (or_zero u.runner.sequence ∷ [])  -- 20: sequence (0 if none)
    ++ (u.runner.place ∷ [])  -- 21: place
    ++ (u.watch.list ∷ [])  -- 22: line list
    ++ zeros 1
    ++ two u.watch.exposures  -- 24-25: exposures since AUTO
    ++ two u.runner.mirror  -- 26-27: mirror
    ++ zeros 36
    ++ (u.ledger.log.bc1 ∷ u.ledger.log.bc2 ∷ u.ledger.log.bc3 ∷ u.ledger.log.size ∷ [])  -- 64-67: log
    ++ zeros 22
    ++ (halves u.watch.abort 0 ∷ [])  -- 90: abort code in bits 0-3
    ++ zeros 9

abbrev pub StatusBlock : Type 0
StatusBlock = (u : ControlUnit) (time : ℕ) → status_of u time ≡ block_of u time

-- The unit after an obeyed packet p that changes nothing in it: the packet is counted and logged.
pub record OnlyLogged (p : List ℕ) (was is : ControlUnit) : Type 0 where
  pub ledger : Logged p was.ledger is.ledger
  pub control : is.control ≡ was.control
  pub watch : is.watch ≡ was.watch
  pub runner : is.runner ≡ was.runner

-- The bytes of a list from a place on: so many of them.
abbrev pub part : List ℕ → ℕ → ℕ → List ℕ
part t at len = take len (drop at t)

-- 07: "dump to output", "answered by those bytes alone". The range lies wholly in one table, and the answer is that table's own bytes, from the
-- address on, as many as the count says.
abbrev pub Effect07 : Format → Library → Type 0
Effect07 F L = (s : Sent F) → Obeyed L 0x07 s
    → let a = triple_at s.bytes 1 in
    let len = triple_at s.bytes 4 in
    InOneTable a len
    × OnlyLogged s.bytes s.unit (unit_left L s)
    × TablesKept L s
    × ((answer_to L s).size ≡ len)
    × (InSequences a len → Answered L (part s.seqs (a - 0x070000) len) s)
    × (InLineLists a len → Answered L (part s.lists (a - 0x074000) len) s)

-- 20: "mode changes allowed until power off". What is allowed stays so: no packet and no step takes it back.
pub record Allows (p : List ℕ) (was is : ControlUnit) : Type 0 where
  pub allowed : is.control.allowed ≡ true
  pub mode : is.control.mode ≡ was.control.mode
  pub requests : is.control.requests ≡ was.control.requests
  pub selection : is.control.selection ≡ was.control.selection
  pub ledger : Logged p was.ledger is.ledger
  pub watch : is.watch ≡ was.watch
  pub runner : is.runner ≡ was.runner

abbrev pub Effect20 : Format → Library → Type 0
Effect20 F L = (s : Sent F) → Obeyed L 0x20 s → Allows s.bytes s.unit (unit_left L s) × TablesKept L s × NoAnswer L s

abbrev pub StaysAllowed : Format → Library → Type 0
StaysAllowed F L = ((s : Sent F) → s.unit.control.allowed ≡ true → (unit_left L s).control.allowed ≡ true)
    × ((u : ControlUnit) (seqs lists : List ℕ) → u.control.allowed ≡ true → (L.steps F u seqs lists).unit.control.allowed ≡ true)

-- 21: "change mode". In every case the mode is BC2; permission, status requests and selection are as they were.
pub record Moded (p : List ℕ) (was is : ControlUnit) : Type 0 where
  pub mode : is.control.mode ≡ byte_at p 1
  pub allowed : is.control.allowed ≡ was.control.allowed
  pub requests : is.control.requests ≡ was.control.requests
  pub selection : is.control.selection ≡ was.control.selection
  pub ledger : Logged p was.ledger is.ledger

-- "2-3 .. starts it: status sequence is the selection, place, exposures and abort code are 0, no raster is open, entering comes first."
-- The mirror, the line list and what is left of an old raster are as they were.
pub record Started (was is : ControlUnit) : Type 0 where
  pub sequence : is.runner.sequence ≡ was.control.selection
  pub place : is.runner.place ≡ 0
  pub exposures : is.watch.exposures ≡ 0
  pub abort : is.watch.abort ≡ 0
  pub raster : is.runner.raster.place ≡ 255
  pub running : is.runner.running ≡ true
  pub entering : is.runner.entering ≡ true
  pub mirror : is.runner.mirror ≡ was.runner.mirror
  pub list : is.watch.list ≡ was.watch.list
  pub count : is.runner.raster.count ≡ was.runner.raster.count
  pub passes : is.runner.raster.passes ≡ was.runner.raster.passes
  pub repeats : is.runner.raster.repeats ≡ was.runner.raster.repeats
  pub run : is.runner.raster.run ≡ was.runner.raster.run
  pub shift : is.runner.raster.shift ≡ was.runner.raster.shift
  pub rounds : is.runner.rounds ≡ was.runner.rounds

-- "3-2 while it runs stops it with abort code 1, the place kept."
pub record Stopped (was is : ControlUnit) : Type 0 where
  pub runner : is.runner ≡ with_running false was.runner
  pub abort : is.watch.abort ≡ 1
  pub exposures : is.watch.exposures ≡ was.watch.exposures
  pub list : is.watch.list ≡ was.watch.list

-- Any other change of mode leaves the run and what is shown of it.
pub record RunKept (was is : ControlUnit) : Type 0 where
  pub runner : is.runner ≡ was.runner
  pub watch : is.watch ≡ was.watch

abbrev pub Effect21 : Format → Library → Type 0
Effect21 F L = (s : Sent F) → Obeyed L 0x21 s
    → Moded s.bytes s.unit (unit_left L s)
    × TablesKept L s
    × NoAnswer L s
    × (bc2 s ≡ 3 → Started s.unit (unit_left L s))
    × ((bc2 s ≡ 3 → ⊥) → s.unit.runner.running ≡ true → Stopped s.unit (unit_left L s))
    × ((bc2 s ≡ 3 → ⊥) → s.unit.runner.running ≡ false → RunKept s.unit (unit_left L s))

-- 23: "failed code, failed number and abort code to 0". The count of failures stays.
pub record Clears (p : List ℕ) (was is : ControlUnit) : Type 0 where
  pub code : is.ledger.code ≡ 0
  pub number : is.ledger.number ≡ 0
  pub abort : is.watch.abort ≡ 0
  pub received : is.ledger.received ≡ counted was.ledger.received
  pub failed : is.ledger.failed ≡ was.ledger.failed
  pub log : is.ledger.log ≡ log_of p
  pub exposures : is.watch.exposures ≡ was.watch.exposures
  pub list : is.watch.list ≡ was.watch.list
  pub control : is.control ≡ was.control
  pub runner : is.runner ≡ was.runner

abbrev pub Effect23 : Format → Library → Type 0
Effect23 F L = (s : Sent F) → Obeyed L 0x23 s → Clears s.bytes s.unit (unit_left L s) × TablesKept L s × NoAnswer L s

-- 83: "select sequence"; "83 also puts its number in the status, place 0".
pub record Selects (p : List ℕ) (was is : ControlUnit) : Type 0 where
  pub selection : is.control.selection ≡ byte_at p 1
  pub runner : is.runner ≡ with_sequence (byte_at p 1) (with_place 0 was.runner)
  pub mode : is.control.mode ≡ was.control.mode
  pub allowed : is.control.allowed ≡ was.control.allowed
  pub requests : is.control.requests ≡ was.control.requests
  pub ledger : Logged p was.ledger is.ledger
  pub watch : is.watch ≡ was.watch

abbrev pub Effect83 : Format → Library → Type 0
Effect83 F L = (s : Sent F) → Obeyed L 0x83 s → Selects s.bytes s.unit (unit_left L s) × TablesKept L s × NoAnswer L s

-- E7: "uplink". A table after bytes were written over it from a place on: those bytes stand there, every other byte is as it was.
pub record Written (at len : ℕ) (sent was is : List ℕ) : Type 0 where
  pub size : length is ≡ length was
  pub written : (i : ℕ) → i < len → byte_at is (at + i) ≡ byte_at sent i
  pub front : (i : ℕ) → i < at → byte_at is i ≡ byte_at was i
  pub behind : (i : ℕ) → at + len ≤ i → byte_at is i ≡ byte_at was i

-- The data stand in the packet from BC6 on, BC5 bytes of them. They go to the one table in which the range lies; the other table stays.
abbrev pub data_of : {F : Format} → Sent F → List ℕ
data_of s = drop 5 s.bytes

abbrev pub EffectE7 : Format → Library → Type 0
EffectE7 F L = (s : Sent F) → Obeyed L 0xE7 s
    → let a = triple_at s.bytes 1 in
    let len = byte_at s.bytes 4 in
    InOneTable a len
    × OnlyLogged s.bytes s.unit (unit_left L s)
    × NoAnswer L s
    × (InSequences a len → Written (a - 0x070000) len (data_of s) s.seqs (seqs_left L s) × (lists_left L s ≡ s.lists))
    × (InLineLists a len → Written (a - 0x074000) len (data_of s) s.lists (lists_left L s) × (seqs_left L s ≡ s.seqs))

-- "At power-on mode is 1, byte 17 is 0x22, the rest of the state is 0 or none": nothing runs, and 255 stands for none.
abbrev pub PowersOn : Library → Type 0
PowersOn L =
    L.powers_on
    ≡ record {
      ledger = record { received = 0; failed = 0; code = 0; number = 0; log = record { bc1 = 0; bc2 = 0; bc3 = 0; size = 0 } };
      control = record { mode = 1; allowed = false; requests = 0; selection = 255 };
      watch = record { list = 0; exposures = 0; abort = 0 };
      runner =
          record { sequence = 255; place = 0; running = false; entering = false; raster = record { place = 255; count = 0; passes = 0; repeats = 0; run = 0; shift = pos 0 }; rounds = 0; mirror = 0 };
    }

-- ── 4. Steps

-- A step of the unit is denied with 16, then 17, exactly by its two rows; with none of them something is seen.
abbrev pub StepAcceptedExactly : Format → Library → Type 0
StepAcceptedExactly F L = (u : ControlUnit) (seqs lists : List ℕ)
    → ((L.steps F u seqs lists).outcome ≡ Ok (L.runs (env_of F lists) seqs u.runner).event) ↔ NoneHolds (step_rows F u seqs lists)

abbrev pub StepCodeExactly : Format → Library → Type 0
StepCodeExactly F L = (u : ControlUnit) (seqs lists : List ℕ) (c : ℕ) → 0 < c → ((L.steps F u seqs lists).outcome ≡ Err c) ↔ FirstBears c (step_rows F u seqs lists)

-- What is not denied is the interpreter's step: its event is seen, the unit keeps its runner, and the status takes what the event shows: a run
-- raster's line list, one exposure more (wrapping), an abort's code. EachStep says what that step is, command by command.
abbrev pub StepTakes : Format → Library → Type 0
StepTakes F L = (u : ControlUnit) (seqs lists : List ℕ) → NoneHolds (step_rows F u seqs lists)
    → let r = L.runs (env_of F lists) seqs u.runner in
    ((L.steps F u seqs lists).outcome ≡ Ok r.event)
    × ((L.steps F u seqs lists).unit.runner ≡ r.runner)
    × ((L.steps F u seqs lists).unit.watch ≡ watched r.event u.watch)

-- No step changes the counts of packets, the log or the failures, nor mode, permission and selection: "a call changes the status sequence,
-- never the selection", "after the last command the mode stays AUTO".
abbrev pub StepKeeps : Format → Library → Type 0
StepKeeps F L = (u : ControlUnit) (seqs lists : List ℕ)
    → ((L.steps F u seqs lists).unit.ledger ≡ u.ledger) × ((L.steps F u seqs lists).unit.control ≡ u.control)

-- What is seen is idle exactly when nothing runs.
abbrev pub IdleExactly : Library → Type 0
IdleExactly L = (E : Env) (seqs : List ℕ) (s : Runner) → ShownAs (L.runs E seqs s).event idle ↔ (s.running ≡ false)

-- The rows that refuse the command at the runner's place, in the order of document 01 (runner/specs/Judge). Two rows look at more than the
-- text: the advance "past 2400: 14", and "else call above 127 gives 4", which is a matter of the last round alone.
abbrev pub advance_rows : List ℕ → Runner → Option Opened → List Row
advance_rows text s None = []
advance_rows text s (Some o) = row 14 (advances (raster_at text o.place.0) s && ltb 2400 (s.mirror + (raster_at text o.place.0).step)) ∷ []

abbrev pub call_rows : Format → Runner → ℕ → List Row
call_rows F s n = row 4 (not (ltb 1 s.rounds) && ltb F.last n) ∷ []

abbrev pub command_rows : Env → List ℕ → Runner → Command → List Row
command_rows E text s RunRaster = run_rows E.cards text s.place (open_of E.format s)
command_rows E text s (Expose time) = expose_rows text time (open_of E.format s) ++ advance_rows text s (open_of E.format s)
command_rows E text s (LoopBack target) = loop_rows text s.place target (open_of E.format s)
command_rows E text s (CallSequence n) = close_rows text s.place (open_of E.format s) ++ call_rows E.format s n
command_rows E text s Terminate = close_rows text s.place (open_of E.format s)
command_rows E text s (Delay time) = []
command_rows E text s Nothing = row 3 true ∷ []
command_rows E text s Unknown = row 3 true ∷ []
command_rows E text s Unfit = row 3 true ∷ []

-- Entering has its own rows, with a place for each code (sequence/specs/Text); "a fault's place is the command's first byte".
abbrev pub rows_of_step : Env → List ℕ → Runner → List Row
rows_of_step E text s = cond s.entering (header_rows text) (command_rows E text s (command_at text s.place))

abbrev pub fault_place : Runner → ℕ → ℕ
fault_place s c = cond s.entering (header_place c) s.place

-- A step of a run aborts with code c, in its sequence and at the fault's place, exactly when c is the code of the first row that holds; it
-- does not abort exactly when no row holds.
pub record AbortsBy (rows : List Row) (s : Runner) (e : Event) : Type 0 where
  pub obeyed : (quiet e ≡ true) ↔ NoneHolds rows
  pub aborted : (c : ℕ) → 0 < c → ShownAs e (aborts c s.sequence (fault_place s c)) ↔ FirstBears c rows

abbrev pub AbortExactly : Library → Type 0
AbortExactly L = (E : Env) (seqs : List ℕ) (s : Runner) → s.running ≡ true
    → AbortsBy (rows_of_step E (text_of E seqs s.sequence) s) s (L.runs E seqs s).event

-- "An abort sets place and code, stops the run and changes nothing else."
pub record Aborted (c n p : ℕ) (was is : ControlUnit) : Type 0 where
  pub sequence : n ≡ was.runner.sequence
  pub runner : is.runner ≡ with_place p (with_running false was.runner)
  pub abort : is.watch.abort ≡ c
  pub exposures : is.watch.exposures ≡ was.watch.exposures
  pub list : is.watch.list ≡ was.watch.list
  pub ledger : is.ledger ≡ was.ledger
  pub control : is.control ≡ was.control

abbrev pub AbortKeeps : Format → Library → Type 0
AbortKeeps F L = (u : ControlUnit) (seqs lists : List ℕ) (c n p : ℕ) → Showing (L.steps F u seqs lists).outcome (aborts c n p)
    → Aborted c n p u (L.steps F u seqs lists).unit

-- ── 5. The check and the window

-- "Given tables (wrong size: 16) and a sequence number (above 127: 7); either answers with nothing listed and totals 0." The check refuses
-- with c exactly when c is the code of the first row that holds; it follows the chain exactly when none does.
pub record CheckedBy (L : Library) (F : Format) (rows : List Row) (seqs lists : List ℕ) (n : ℕ) : Type 0 where
  pub followed : (L.checks F seqs lists n ≡ chain_of F (finding_of (env_of F lists) seqs) n) ↔ NoneHolds rows
  pub refused : (c : ℕ) → 0 < c → (L.checks F seqs lists n ≡ told [] (Unlisted c) 0 0) ↔ FirstBears c rows

abbrev pub CheckExactly : Library → Type 0
CheckExactly L = (F : Format) (seqs lists : List ℕ) (n : ℕ) → CheckedBy L F (check_rows F seqs lists n) seqs lists n

-- "Wrong tables give 16, then a bad length or range 7, each with an empty part."
pub record WindowBy (L : Library) (F : Format) (rows : List Row) (seqs lists : List ℕ) (a len : ℕ) : Type 0 where
  pub handed : (L.window_code F seqs lists a len ≡ 0) ↔ NoneHolds rows
  pub refused : (c : ℕ) → 0 < c → (L.window_code F seqs lists a len ≡ c) ↔ FirstBears c rows
  pub empty : 0 < L.window_code F seqs lists a len → L.window_part F seqs lists a len ≡ []

abbrev pub WindowCodeExactly : Library → Type 0
WindowCodeExactly L = (F : Format) (seqs lists : List ℕ) (a len : ℕ) → WindowBy L F (window_rows F seqs lists a len) seqs lists a len

-- In words: the part is handed exactly when the tables have the right sizes and a format, and the range lies wholly in one of them; it is then
-- that table's own bytes, whatever the format.
abbrev pub WindowExactly : Library → Type 0
WindowExactly L = (F : Format) (seqs lists : List ℕ) (a len : ℕ)
    → (L.window_code F seqs lists a len ≡ 0) ↔ (Fills F × (length seqs ≡ 16384) × (length lists ≡ 7872) × InOneTable a len)

abbrev pub WindowShows : Library → Type 0
WindowShows L = (F : Format) (seqs lists : List ℕ) (a len : ℕ) → L.window_code F seqs lists a len ≡ 0
    → (InSequences a len → L.window_part F seqs lists a len ≡ part seqs (a - 0x070000) len)
    × (InLineLists a len → L.window_part F seqs lists a len ≡ part lists (a - 0x074000) len)
