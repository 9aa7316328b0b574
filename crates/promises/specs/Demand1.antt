-- Demand 1: every call is answered, and a refusal leaves everything as it was but for what the status shows of it.
-- Each statement in plain words and then in symbols; proofs/Demand1 has its proof, under its name (`refused-keeps : RefusedKeeps`).
use Rattle.std.specs.Prelude.{ℕ, ◌<◌, ◌≡◌, true, List, [], ◌∷◌, ◌⊎◌, Err}
use Rattle.octets.specs.Bytes.{byte_at, counted}
use Rattle.memory.specs.declared.Format.{Format}
use Rattle.sequence.specs.Starts.{among}
use Rattle.unit.specs.declared.Unit.{Unit as ControlUnit}
use Rattle.status.specs.State.{log_of}
use Rattle.promises.specs.Library.{Library}
use Rattle.promises.specs.Runs.{idle, Showing}
use Rattle.promises.specs.Sent.{Sent, code, unit_left, TablesKept, NoAnswer}

-- ── 1. Every call is answered

-- This is said nowhere as a formula, because it is true of every function by the way it is stated and proved:
--   - what a function answers is a definition of specs/, and each definition is total: it has a value for all tables, outputs, packets and
--     states, of any size and in or out of range. No public function asks anything of its caller;
--   - the proof of each function shows that it returns, for all inputs, with that value, that it reads and writes no byte outside what it
--     was lent, and that no sum wraps where the definition does not say so.

-- There is no answer but those of the table "What the unit answers".
abbrev pub answers : List ℕ
answers = 0 ∷ 1 ∷ 3 ∷ 4 ∷ 5 ∷ 6 ∷ 7 ∷ 8 ∷ 9 ∷ 10 ∷ 16 ∷ 17 ∷ []

abbrev pub NoOtherCode : Format → Library → Type 0
NoOtherCode F L = (s : Sent F) → among (code L s) answers ≡ true

-- ── 2. A refused packet

-- "Every packet except an obeyed 01 adds 1 to TC_REC_PKTC and sets the log; a refused one also adds 1 to TC_FAILED_PKTC and sets the
-- failed number (0 if empty) and code."
-- A packet p refused with code c finds the unit as it was, and leaves it as it is now:
pub record Refused (p : List ℕ) (c : ℕ) (was is : ControlUnit) : Type 0 where
  -- what the status shows of it
  pub received : is.ledger.received ≡ counted was.ledger.received
  pub failed : is.ledger.failed ≡ counted was.ledger.failed
  pub number : is.ledger.number ≡ byte_at p 0
  pub code : is.ledger.code ≡ c
  pub log : is.ledger.log ≡ log_of p
  -- mode, permission, status requests and selection; line list, exposures and abort code; the run: all as they were
  pub control : is.control ≡ was.control
  pub watch : is.watch ≡ was.watch
  pub runner : is.runner ≡ was.runner

-- "Refusals write no output and no table." A packet with a code that is not 0, and below 16, is counted, logged and shown as failed; all
-- else stays: the rest of the state, both tables, the output.
abbrev pub RefusedKeeps : Format → Library → Type 0
RefusedKeeps F L = (s : Sent F) → 0 < code L s → code L s < 16 → Refused s.bytes (code L s) s.unit (unit_left L s) × TablesKept L s × NoAnswer L s

-- ── 3. 16 and 17

-- "16 and 17 change nothing and aren't counted." Nothing at all: the unit, the tables, the output.
abbrev pub Unchanged : {F : Format} → Library → Sent F → Type 0
Unchanged L s = (unit_left L s ≡ s.unit) × TablesKept L s × NoAnswer L s

abbrev pub SixteenKeeps : Format → Library → Type 0
SixteenKeeps F L = (s : Sent F) → code L s ≡ 16 → Unchanged L s

abbrev pub SeventeenKeeps : Format → Library → Type 0
SeventeenKeeps F L = (s : Sent F) → code L s ≡ 17 → Unchanged L s

-- ── 4. Steps, the check and the window

-- A step that is denied changes nothing in the unit, and it is denied with 16 or 17 alone. A step, a check and a window borrow their tables
-- for reading and have no output, so there is nothing else that one of them could change.
abbrev pub DeniedKeeps : Format → Library → Type 0
DeniedKeeps F L = (u : ControlUnit) (seqs lists : List ℕ) (c : ℕ) → (L.steps F u seqs lists).outcome ≡ Err c
    → ((c ≡ 16) ⊎ (c ≡ 17)) × ((L.steps F u seqs lists).unit ≡ u)

-- "A step not running is idle and changes nothing."
abbrev pub IdleKeeps : Format → Library → Type 0
IdleKeeps F L = (u : ControlUnit) (seqs lists : List ℕ) → Showing (L.steps F u seqs lists).outcome idle → (L.steps F u seqs lists).unit ≡ u
