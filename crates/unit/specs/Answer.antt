-- What a packet is answered, and what it leaves in the unit, the tables and the output.
use Rattle.std.specs.Prelude.{ℕ, true, cond, List, [], ◌++◌, leb, eqb, length, drop}
use Rattle.octets.specs.Bytes.{byte_at, triple_at, counted}
use Rattle.memory.specs.declared.Format.{Format}
use Rattle.memory.specs.Memory.{part_of, seqs_written, lists_written}
use Rattle.telecommand.specs.declared.Telecommand.{Telecommand}
use Rattle.telecommand.specs.declared.Telecommand.TheVariants.{Status, Dump, Allow, Mode, Clear, Select, Uplink, Foreign, Unheard}
use Rattle.telecommand.specs.Packet.{is, command_of, dump_range, writes_to}
use Rattle.unit.specs.declared.Unit.{Unit}
use Rattle.unit.specs.declared.Answer.{Answer}
use Rattle.status.specs.State.{with_allowed, with_requests, with_abort, arrived, failed, cleared}
use Rattle.unit.specs.State.{with_ledger, with_control, with_watch, moded, selected}
use Rattle.unit.specs.Packet.{code_of}
use Rattle.unit.specs.Status.{status_of}

abbrev pub answer : ℕ → ℕ → Unit → Answer
answer code size unit = record { code = code; size = size; unit = unit }

-- ── an obeyed packet
-- the unit that a packet arrived in
abbrev pub with_arrival : List ℕ → Unit → Unit
with_arrival p u = with_ledger (arrived p u.ledger) u

-- the column "effect", on the unit
unfoldable pub effect : Telecommand → List ℕ → Unit → Unit
effect Status p u = with_control (with_requests (counted u.control.requests) u.control) u
effect Dump p u = u
effect Allow p u = with_control (with_allowed true u.control) u
effect Mode p u = moded (byte_at p 1) u
effect Clear p u = with_ledger (cleared u.ledger) (with_watch (with_abort 0 u.watch) u)
effect Select p u = selected (byte_at p 1) u
effect Uplink p u = u
effect Foreign p u = u
effect Unheard p u = u

-- "Every packet except an obeyed 01 adds 1 to TC_REC_PKTC and sets the log"
unfoldable pub obeyed_unit : Telecommand → List ℕ → Unit → Unit
obeyed_unit k p u = effect k p (cond (is Status k) u (with_arrival p u))

-- the bytes that answer it: the status block after this request, or those of the dump's range alone
unfoldable pub reply : Telecommand → Unit → ℕ → List ℕ → List ℕ → List ℕ → List ℕ
reply k u time seqs lists p =
    cond (is Status k) (status_of (obeyed_unit k p u) time)
    (cond (is Dump k) (part_of seqs lists (triple_at p 4) (dump_range p))
    [])

-- ── any packet
-- "a refused one also adds 1 to TC_FAILED_PKTC .."; "16 and 17 change nothing and aren't counted."
unfoldable pub refused_unit : ℕ → List ℕ → Unit → Unit
refused_unit code p u = cond (leb 16 code) u (with_ledger (failed (byte_at p 0) code (arrived p u.ledger)) u)

unfoldable pub unit_after : Format → Unit → List ℕ → List ℕ → List ℕ → List ℕ → Unit
unit_after F u seqs lists out p =
    cond (eqb (code_of F u seqs lists out p) 0) (obeyed_unit (command_of p) p u) (refused_unit (code_of F u seqs lists out p) p u)

unfoldable pub reply_of : Format → Unit → ℕ → List ℕ → List ℕ → List ℕ → List ℕ → List ℕ
reply_of F u time seqs lists out p = cond (eqb (code_of F u seqs lists out p) 0) (reply (command_of p) u time seqs lists p) []

unfoldable pub answer_of : Format → Unit → ℕ → List ℕ → List ℕ → List ℕ → List ℕ → Answer
answer_of F u time seqs lists out p =
    answer (code_of F u seqs lists out p) (length (reply_of F u time seqs lists out p)) (unit_after F u seqs lists out p)

-- "Refusals write no output and no table."
unfoldable pub seqs_after : Format → Unit → List ℕ → List ℕ → List ℕ → List ℕ → List ℕ
seqs_after F u seqs lists out p = cond (eqb (code_of F u seqs lists out p) 0) (seqs_written (writes_to (command_of p) p) seqs (drop 5 p)) seqs

unfoldable pub lists_after : Format → Unit → List ℕ → List ℕ → List ℕ → List ℕ → List ℕ
lists_after F u seqs lists out p = cond (eqb (code_of F u seqs lists out p) 0) (lists_written (writes_to (command_of p) p) lists (drop 5 p)) lists

-- "Output past an answer stays."
unfoldable pub out_after : Format → Unit → ℕ → List ℕ → List ℕ → List ℕ → List ℕ → List ℕ
out_after F u time seqs lists out p =
    reply_of F u time seqs lists out p ++ drop (length (reply_of F u time seqs lists out p)) out
