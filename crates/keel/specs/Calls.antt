-- The calls of the library for C, over the format of the kind that each is given. "A state not of 36 bytes is 16. 16 and 17 leave every lent
-- byte as it was."
use Rattle.std.specs.Prelude.{ℕ, ◌+◌, ◌*◌, ◌^◌, Bool, cond, not, List, [], ◌∷◌, leb, eqb, length, get_or, Option, Some, None, Ok, Err}
use Rattle.octets.specs.Rows.{Row, row, first_code}
use Rattle.memory.specs.declared.Format.{Format}
use Rattle.memory.specs.Memory.{tables_wrong}
use Rattle.runner.specs.Events.{Shown, shown_as}
use Rattle.unit.specs.declared.UnitStep.{UnitStep}
use Rattle.unit.specs.State.{power_on}
use Rattle.unit.specs.Packet.{lent_wrong, code_of}
use Rattle.unit.specs.Answer.{unit_after, reply_of, seqs_after, lists_after, out_after}
use Rattle.unit.specs.Step.{Outcome, stepped, unit_step}
use Rattle.state.specs.State.{state_sized, unit_of, state_of, flags_wrong}

-- ── keel_power_on: 0 or 16
abbrev pub power_code : List ℕ → ℕ
power_code s = cond (state_sized s) 0 16

abbrev pub powered_on : List ℕ → List ℕ
powered_on s = cond (state_sized s) (state_of power_on) s

-- ── keel_packet: code + 256 x answer length
-- what the bytes of the state are refused for, before the unit's own rules: 16, then 17
unfoldable pub held_rows : Bool → List ℕ → List Row
held_rows lent s = row 16 (not (state_sized s)) ∷ row 16 lent ∷ row 17 (flags_wrong s) ∷ []

abbrev pub held_code : Bool → List ℕ → ℕ
held_code lent s = first_code (held_rows lent s)

-- as the code holds it: nothing where it is 0
abbrev pub refused_with : ℕ → Option ℕ
refused_with code = cond (eqb code 0) None (Some code)

unfoldable pub packet_code : Format → List ℕ → List ℕ → List ℕ → List ℕ → List ℕ → ℕ
packet_code F s seqs lists out p =
    cond (eqb (held_code (lent_wrong F seqs lists out) s) 0) (code_of F (unit_of s) seqs lists out p) (held_code (lent_wrong F seqs lists out) s)

-- the bytes that answer, none where the packet is refused
unfoldable pub packet_reply : Format → List ℕ → ℕ → List ℕ → List ℕ → List ℕ → List ℕ → List ℕ
packet_reply F s time seqs lists out p = cond (eqb (packet_code F s seqs lists out p) 0) (reply_of F (unit_of s) time seqs lists out p) []

unfoldable pub packet_answer : Format → List ℕ → ℕ → List ℕ → List ℕ → List ℕ → List ℕ → ℕ
packet_answer F s time seqs lists out p = packet_code F s seqs lists out p + 256 * length (packet_reply F s time seqs lists out p)

-- what is left in each lent slice
unfoldable pub state_after : Format → List ℕ → List ℕ → List ℕ → List ℕ → List ℕ → List ℕ
state_after F s seqs lists out p = cond (leb 16 (packet_code F s seqs lists out p)) s (state_of (unit_after F (unit_of s) seqs lists out p))

unfoldable pub kept_seqs : Format → List ℕ → List ℕ → List ℕ → List ℕ → List ℕ → List ℕ
kept_seqs F s seqs lists out p = cond (eqb (packet_code F s seqs lists out p) 0) (seqs_after F (unit_of s) seqs lists out p) seqs

unfoldable pub kept_lists : Format → List ℕ → List ℕ → List ℕ → List ℕ → List ℕ → List ℕ
kept_lists F s seqs lists out p = cond (eqb (packet_code F s seqs lists out p) 0) (lists_after F (unit_of s) seqs lists out p) lists

unfoldable pub kept_out : Format → List ℕ → ℕ → List ℕ → List ℕ → List ℕ → List ℕ → List ℕ
kept_out F s time seqs lists out p = cond (eqb (packet_code F s seqs lists out p) 0) (out_after F (unit_of s) time seqs lists out p) out

-- ── keel_step: "low 8 bits the event .., its values in 16 bits each at bits 16, 32 and 48"
abbrev pub packed : Shown → ℕ
packed e = e.number + get_or e.values 0 0 * 2 ^ 16 + get_or e.values 1 0 * 2 ^ 32 + get_or e.values 2 0 * 2 ^ 48

-- "11 refused code: 16, then 17"
abbrev pub denied_as : ℕ → ℕ
denied_as code = 11 + code * 2 ^ 16

abbrev pub outcome_as : ℕ → Outcome → ℕ
outcome_as count (Err code) = denied_as code
outcome_as count (Ok e) = packed (shown_as count e)

abbrev pub stepped_as : UnitStep → ℕ
stepped_as r = outcome_as r.unit.watch.exposures r.outcome

-- the unit's step, or what the bytes of the state are refused for
unfoldable pub held_step : Format → List ℕ → List ℕ → List ℕ → UnitStep
held_step F s seqs lists =
    cond (eqb (held_code (tables_wrong F seqs lists) s) 0) (unit_step F (unit_of s) seqs lists) (stepped (Err (held_code (tables_wrong F seqs lists) s)) (unit_of s))

unfoldable pub step_answer : Format → List ℕ → List ℕ → List ℕ → ℕ
step_answer F s seqs lists = stepped_as (held_step F s seqs lists)

abbrev pub state_by : List ℕ → UnitStep → Outcome → List ℕ
state_by s r (Err code) = s
state_by s r (Ok e) = state_of r.unit

unfoldable pub state_stepped : Format → List ℕ → List ℕ → List ℕ → List ℕ
state_stepped F s seqs lists = state_by s (held_step F s seqs lists) (held_step F s seqs lists).outcome
