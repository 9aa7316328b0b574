-- Laws of the bytes of a state over the definitions alone. Assumes nothing.
use Prim.Native.Nat.{ℕ}
use mathlib.Core.Path.{◌≡◌, refl, ap}
use mathlib.Core.Bool.{Bool, true, false, cond}
use mathlib.Core.List.{List}
use lib.Dec.{leb, eqb}
use lib.ListN.{length}
use borrow.Author.Tests.{eq-eqb}
use Rattle.octets.specs.Bytes.{byte_at}
use Rattle.octets.specs.Layout.{AllFit}
use Rattle.octets.proofs.LayoutLaws.{Octets, laid-reads, reads-laid}
use Rattle.octets.proofs.Bools.{either}
use Rattle.memory.specs.declared.Format.{Format}
use Rattle.runner.specs.declared.Runner.{Runner}
use Rattle.runner.specs.declared.Event.{Event}
use Rattle.runner.specs.declared.Event.TheVariants.{Idle, Enter, Raster, Exp, Loop, Next, Done, Wait, Call, End, Abort}
use Rattle.runner.specs.Moves.{moves}
use Rattle.unit.specs.declared.Unit.{Unit}
use Rattle.status.specs.declared.Ledger.{Ledger}
use Rattle.telecommand.specs.declared.Telecommand.{Telecommand}
use Rattle.telecommand.specs.declared.Telecommand.TheVariants.{Status, Dump, Allow, Mode, Clear, Select, Uplink, Foreign, Unheard}
use Rattle.unit.specs.State.{power_on, with_ledger, with_control, with_watch, with_runner, moded, selected}
use Rattle.status.specs.State.{with_mode, watched}
use Rattle.telecommand.specs.Packet.{command_of}
use Rattle.unit.specs.Packet.{code_of}
use Rattle.unit.specs.Answer.{effect, obeyed_unit, refused_unit, unit_after, answer_of}
use Rattle.state.specs.State.{state_fields, state_of, unit_from, unit_of, flags_wrong}
use Rattle.state.specs.Parts.{ledger_over, obeyed_over, answer_over, step_over}

-- ── the bytes of a state
-- saving what was loaded gives the bytes back
pub load-save : (s : List ℕ) → length s ≡ 36 → Octets s → flags_wrong s ≡ false → state_of (unit_of s) ≡ s
unfolding unit_of state_of flags_wrong
load-save s h o f = simp (eq-eqb (length s) 36 h) (laid-reads (state_fields power_on) s (rw h tt) o f)

-- loading what was saved gives the unit back
pub save-load : (u : Unit) → AllFit (state_fields u) → unit_of (state_of u) ≡ u
unfolding unit_of state_of
save-load u h = ap unit_from (reads-laid (state_fields u) 36 tt h)

-- ── a packet
-- a mode change, whether it starts, stops or neither
mode-saved : (p : List ℕ) (u : Unit) → obeyed_over Mode (obeyed_unit Mode p u) (state_of u) ≡ state_of (obeyed_unit Mode p u)
unfolding state_of effect obeyed_unit moded obeyed_over
mode-saved p u =
    let P : Unit → Type 0 = λ w. let v = with_control (with_mode (byte_at p 1) u.control) w in obeyed_over Mode v (state_of u) ≡ state_of v in
    either P (eqb (byte_at p 1) 3) _ _ refl (either P u.runner.running _ _ refl refl)

obeyed-saved : (k : Telecommand) (p : List ℕ) (u : Unit) → obeyed_over k (obeyed_unit k p u) (state_of u) ≡ state_of (obeyed_unit k p u)
unfolding state_of effect obeyed_unit selected obeyed_over
obeyed-saved Status p u = refl
obeyed-saved Dump p u = refl
obeyed-saved Allow p u = refl
obeyed-saved Mode p u = mode-saved p u
obeyed-saved Clear p u = refl
obeyed-saved Select p u = refl
obeyed-saved Uplink p u = refl
obeyed-saved Foreign p u = refl
obeyed-saved Unheard p u = refl

saved-by : (obeyed kept : Bool) (k : Telecommand) (p : List ℕ) (u : Unit) (l : Ledger) → let v = cond obeyed (obeyed_unit k p u) (cond kept u (with_ledger l u)) in
    cond obeyed (obeyed_over k v (state_of u)) (cond kept (state_of u) (ledger_over v.ledger (state_of u))) ≡ state_of v
unfolding state_of
saved-by true kept k p u l = obeyed-saved k p u
saved-by false true k p u l = refl
saved-by false false k p u l = refl

-- what is written after any packet makes the bytes those of the unit after it
pub answer-saved : (F : Format) (u : Unit) (time : ℕ) (seqs lists out p : List ℕ) → answer_over (answer_of F u time seqs lists out p) p (state_of u) ≡ state_of (answer_of F u time seqs lists out p).unit
unfolding answer_of unit_after refused_unit answer_over
answer-saved F u time seqs lists out p = let code = code_of F u seqs lists out p in saved-by (eqb code 0) (leb 16 code) (command_of p) p u _

-- ── a step
-- what is written after a step of an event makes the bytes those of the unit after it
pub step-saved : (e : Event) (u : Unit) (r : Runner) → let v = with_watch (watched e u.watch) (with_runner (moves e r u.runner) u) in step_over e v (state_of u) ≡ state_of v
unfolding state_of step_over
step-saved Idle u r = refl
step-saved (Enter n) u r = refl
step-saved (Raster id pos list) u r = refl
step-saved (Exp pos) u r = refl
step-saved (Loop place) u r = refl
step-saved Next u r = refl
step-saved Done u r = refl
step-saved (Wait t) u r = refl
step-saved (Call n) u r = refl
step-saved End u r = refl
step-saved (Abort code n place) u r = refl
