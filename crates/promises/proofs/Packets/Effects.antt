-- What status requests, permission, modes, clearing and selection leave, field by field; and that nothing takes a permission back.
-- Assumes nothing.
use Prim.Native.Nat.{ℕ}
use mathlib.Core.Path.{◌≡◌, refl, sym, ap, subst, ◌∙◌}
use mathlib.Core.Bool.{Bool, true, false, cond}
use mathlib.Core.List.{List}
use lib.Dec.{leb, eqb}
use borrow.Author.Tests.{eq-eqb, ne_eqb}
use Rattle.octets.specs.Bytes.{byte_at, halves}
use Rattle.octets.proofs.Bools.{choice}
use Rattle.memory.specs.declared.Format.{Format}
use Rattle.unit.specs.declared.Unit.{Unit as ControlUnit}
use Rattle.status.specs.declared.Control.{Control}
use Rattle.telecommand.specs.declared.Telecommand.{Telecommand}
use Rattle.telecommand.specs.declared.Telecommand.TheVariants.{Status, Dump, Allow, Mode, Clear, Select, Uplink, Foreign, Unheard}
use Rattle.status.specs.State.{with_mode}
use Rattle.unit.specs.State.{with_control, started, stopped, moded, selected}
use Rattle.telecommand.specs.Packet.{command_of, telecommand_of}
use Rattle.unit.specs.Packet.{code_of}
use Rattle.status.specs.Status.{running}
use Rattle.unit.specs.Status.{status_of}
use Rattle.unit.specs.Answer.{with_arrival, effect, obeyed_unit, reply, refused_unit, unit_after, answer_of}
use Rattle.promises.specs.Library.{ours}
use Rattle.promises.specs.Sent.{code, Logged}
use Rattle.promises.specs.Demand2.{Asks, Effect01, StatusBlock, Allows, Effect20, StaysAllowed, Moded, Started, Stopped, RunKept, Effect21, Clears, Effect23, Selects, Effect83}
use Rattle.promises.proofs.Packets.Exactly.{step_keeps}
use Rattle.promises.proofs.Packets.Leaves.{left, answered, silent, tables, becomes, logged-as}

-- ── 01
pub effect-01 : (F : Format) → Effect01 F ours
unfolding telecommand_of effect obeyed_unit reply
effect-01 F s o =
    let l = left Status 0x01 refl s o in (
      becomes l (Asks s.unit) (record { requests = refl; mode = refl; allowed = refl; selection = refl; ledger = refl; watch = refl; runner = refl }),
      tables l refl refl,
      answered l (ap (λ (u : ControlUnit). status_of u s.time) (sym l.unit)),
    )

running-byte : (b : Bool) → halves 2 (running b) ≡ cond b 0x21 0x22
running-byte true = refl
running-byte false = refl

pub status-block : StatusBlock
unfolding status_of
status-block u time = rw (running-byte u.runner.running)

-- ── 20, 23 and 83
pub effect-20 : (F : Format) → Effect20 F ours
unfolding telecommand_of effect obeyed_unit reply
effect-20 F s o =
    let l = left Allow 0x20 refl s o in (
      becomes l (Allows s.bytes s.unit)
          (record { allowed = refl; mode = refl; requests = refl; selection = refl; ledger = logged-as s.bytes s.unit.ledger; watch = refl; runner = refl }),
      tables l refl refl,
      silent l refl,
    )

pub effect-23 : (F : Format) → Effect23 F ours
unfolding telecommand_of effect obeyed_unit reply
effect-23 F s o =
    let l = left Clear 0x23 refl s o in (
      becomes l (Clears s.bytes s.unit)
          (record { code = refl; number = refl; abort = refl; received = refl; failed = refl; log = refl; exposures = refl; list = refl; control = refl; runner = refl }),
      tables l refl refl,
      silent l refl,
    )

pub effect-83 : (F : Format) → Effect83 F ours
unfolding telecommand_of effect obeyed_unit reply selected
effect-83 F s o =
    let l = left Select 0x83 refl s o in (
      becomes l (Selects s.bytes s.unit)
          (record { selection = refl; runner = refl; mode = refl; allowed = refl; requests = refl; ledger = logged-as s.bytes s.unit.ledger; watch = refl }),
      tables l refl refl,
      silent l refl,
    )

-- ── 21
module _ (p : List ℕ) (u : ControlUnit) where
  abbrev m : ℕ
  m = byte_at p 1

  abbrev in-mode : ControlUnit → ControlUnit
  in-mode v = with_control (with_mode m u.control) v

  start_is : m ≡ 3 → moded m (with_arrival p u) ≡ in-mode (started (with_arrival p u))
  unfolding moded
  start_is e = simp (eq-eqb m 3 e)

  stop_is : (m ≡ 3 → ⊥) → u.runner.running ≡ true → moded m (with_arrival p u) ≡ in-mode (stopped (with_arrival p u))
  unfolding moded
  stop_is n e = simp (ne_eqb m 3 n, e)

  keep-is : (m ≡ 3 → ⊥) → u.runner.running ≡ false → moded m (with_arrival p u) ≡ in-mode (with_arrival p u)
  unfolding moded
  keep-is n e = simp (ne_eqb m 3 n, e)

  moded-all : Moded p u (moded m (with_arrival p u))
  unfolding moded
  moded-all =
      let P : ControlUnit → Type 0 = λ v. Logged p u.ledger v.ledger in
      let l = logged-as p u.ledger in
      record {
        mode = refl;
        allowed = refl;
        requests = refl;
        selection = refl;
        ledger = choice P (eqb m 3) _ _ (λ _. l) (λ _. choice P u.runner.running _ _ (λ _. l) (λ _. l));
      }

pub effect-21 : (F : Format) → Effect21 F ours
unfolding telecommand_of effect obeyed_unit reply
effect-21 F s o =
    let p = s.bytes in
    let u = s.unit in
    let l = left Mode 0x21 refl s o in (
      becomes l (Moded p u) (moded-all p u),
      tables l refl refl,
      silent l refl,
      λ b.
          subst (Started u) (sym (l.unit ∙ start_is p u b))
          (record {
            sequence = refl;
            place = refl;
            exposures = refl;
            abort = refl;
            raster = refl;
            running = refl;
            entering = refl;
            mirror = refl;
            list = refl;
            count = refl;
            passes = refl;
            repeats = refl;
            run = refl;
            shift = refl;
            rounds = refl;
          }),
      λ n r. subst (Stopped u) (sym (l.unit ∙ stop_is p u n r)) (record { runner = refl; abort = refl; exposures = refl; list = refl }),
      λ n r. subst (RunKept u) (sym (l.unit ∙ keep-is p u n r)) (record { runner = refl; watch = refl }),
    )

-- ── nothing takes a permission back
obeyed-allowed : (k : Telecommand) (p : List ℕ) (u : ControlUnit) → u.control.allowed ≡ true → (obeyed_unit k p u).control.allowed ≡ true
unfolding effect obeyed_unit selected
obeyed-allowed Status p u e = e
obeyed-allowed Dump p u e = e
obeyed-allowed Allow p u e = refl
obeyed-allowed Mode p u e = (moded-all p u).allowed ∙ e
obeyed-allowed Clear p u e = e
obeyed-allowed Select p u e = e
obeyed-allowed Uplink p u e = e
obeyed-allowed Foreign p u e = e
obeyed-allowed Unheard p u e = e

refused-allowed : (code : ℕ) (p : List ℕ) (u : ControlUnit) → u.control.allowed ≡ true → (refused_unit code p u).control.allowed ≡ true
unfolding refused_unit
refused-allowed code p u e = choice (λ (v : ControlUnit). v.control.allowed ≡ true) (leb 16 code) u _ (λ _. e) (λ _. e)

pub stays-allowed : (F : Format) → StaysAllowed F ours
unfolding answer_of unit_after
stays-allowed F = (
  λ s e.
      let c = code_of F s.unit s.seqs s.lists s.out s.bytes in
      choice (λ (v : ControlUnit). v.control.allowed ≡ true) (eqb c 0) _ _
      (λ _. obeyed-allowed (command_of s.bytes) s.bytes s.unit e)
      (λ _. refused-allowed c s.bytes s.unit e),
  λ u seqs lists e. ap (λ (x : Control). x.allowed) (step_keeps F u seqs lists).1 ∙ e,
)
