-- A packet sent to the unit, and what it leaves: the names in which demands 1 and 2 speak of `Unit::packet`.
use Rattle.std.specs.Prelude.{ℕ, ◌≡◌, List}
use Rattle.octets.specs.Bytes.{byte_at, counted}
use Rattle.memory.specs.declared.Format.{Format}
use Rattle.unit.specs.declared.Unit.{Unit as ControlUnit}
use Rattle.status.specs.declared.Ledger.{Ledger}
use Rattle.unit.specs.declared.Answer.{Answer}
use Rattle.status.specs.State.{log_of}
use Rattle.promises.specs.Library.{Library}

-- A packet is sent to a unit at a time, with two tables and an output lent, each of any size; the sequence table is read by a format.
pub record Sent (F : Format) : Type 0 where
  pub unit : ControlUnit
  pub time : ℕ
  pub seqs : List ℕ
  pub lists : List ℕ
  pub out : List ℕ
  pub bytes : List ℕ

-- What `Unit::packet` promises of it: the answer, with its code, its length and the unit after it; the tables and the output after it.
abbrev pub answer_to : {F : Format} → Library → Sent F → Answer
answer_to {F} L s = L.answers F s.unit s.time s.seqs s.lists s.out s.bytes

abbrev pub code : {F : Format} → Library → Sent F → ℕ
code L s = (answer_to L s).code

abbrev pub unit_left : {F : Format} → Library → Sent F → ControlUnit
unit_left L s = (answer_to L s).unit

abbrev pub seqs_left : {F : Format} → Library → Sent F → List ℕ
seqs_left {F} L s = L.seqs_left F s.unit s.seqs s.lists s.out s.bytes

abbrev pub lists_left : {F : Format} → Library → Sent F → List ℕ
lists_left {F} L s = L.lists_left F s.unit s.seqs s.lists s.out s.bytes

abbrev pub out_left : {F : Format} → Library → Sent F → List ℕ
out_left {F} L s = L.out_left F s.unit s.time s.seqs s.lists s.out s.bytes

-- BC1 is byte 1 of the packet, BC2 byte 2, and so on: 0 past its end. So the command number of an empty packet is 0.
abbrev pub bc1 : {F : Format} → Sent F → ℕ
bc1 s = byte_at s.bytes 0

abbrev pub bc2 : {F : Format} → Sent F → ℕ
bc2 s = byte_at s.bytes 1

-- Both tables are as they were.
pub record TablesKept {F : Format} (L : Library) (s : Sent F) : Type 0 where
  pub sequences : seqs_left L s ≡ s.seqs
  pub line_lists : lists_left L s ≡ s.lists

-- Nothing is answered but the code, and the output is as it was.
pub record NoAnswer {F : Format} (L : Library) (s : Sent F) : Type 0 where
  pub size : (answer_to L s).size ≡ 0
  pub output : out_left L s ≡ s.out

-- An obeyed packet p counted and logged: "adds 1 to TC_REC_PKTC and sets the log". The failures shown are as they were.
pub record Logged (p : List ℕ) (was is : Ledger) : Type 0 where
  pub received : is.received ≡ counted was.received
  pub failed : is.failed ≡ was.failed
  pub code : is.code ≡ was.code
  pub number : is.number ≡ was.number
  pub log : is.log ≡ log_of p
