-- Demand 2, proved: the theorems of Demand2 by their names, and those that lean on several of the files below.
-- Assumes nothing.
use Rattle.std.specs.Prelude.{Ok}
use Prim.Native.Nat.{ℕ}
use native.Mathlib.Omega.{arith}
use mathlib.Core.Path.{◌≡◌, refl, sym, subst}
use Rattle.octets.proofs.Laws.{code-exactly as first-exactly}
use Rattle.memory.specs.declared.Format.{Format}
use Rattle.memory.specs.Memory.{tables_wrong, window_rows, window_code}
use Rattle.memory.proofs.Laws.{no_kind}
use Rattle.sequence.specs.Text.{fault}
use Rattle.sequence.specs.Env.{env_of}
use Rattle.runner.specs.declared.Event.TheVariants.{Abort}
use Rattle.runner.specs.declared.Stepped.{Stepped}
use Rattle.runner.specs.Step.{aborted}
use Rattle.unit.specs.declared.Unit.{Unit as ControlUnit}
use Rattle.unit.specs.declared.UnitStep.{UnitStep}
use Rattle.unit.specs.State.{power_on}
use Rattle.survey.specs.Chain.{check_rows, check_of}
use Rattle.unit.specs.Packet.{lent_wrong, packet_rows, code_of}
use Rattle.unit.specs.Answer.{answer_of}
use Rattle.unit.specs.Step.{step_rows, with_step, unit_step}
use Rattle.unit.proofs.Laws.{accepted}
use Rattle.promises.specs.Library.{ours}
use Rattle.promises.specs.Runs.{aborts}
use Rattle.promises.specs.Demand2.{AcceptedExactly, CodeExactly, NoOtherKind, PowersOn, Aborted, AbortKeeps}
use Rattle.promises.proofs.Run.Events.{outcome-shown}
use Rattle.promises.proofs.Packets.Exactly.{step_case}
use Rattle.promises.proofs.Run.Faults.{abort-faults}
pub use Rattle.promises.proofs.Packets.Tests.{range-exactly}
pub use Rattle.promises.proofs.Packets.Needs.{obeyed-exactly}
pub use Rattle.promises.proofs.Packets.Effects.{effect-01, status-block, effect-20, stays-allowed, effect-21, effect-23, effect-83}
pub use Rattle.promises.proofs.Packets.Transfers.{effect-07, effect-E7}
pub use Rattle.promises.proofs.Packets.Exactly.{step-accepted-exactly, step-code-exactly, step-takes, step_keeps, check-exactly, window-code-exactly, window-exactly, window-shows}
pub use Rattle.promises.proofs.Run.Faults.{idle-exactly, abort-exactly}

pub accepted-exactly : (F : Format) → AcceptedExactly F ours
unfolding answer_of
accepted-exactly F s = accepted F s.unit s.seqs s.lists s.out s.bytes

pub code-exactly : (F : Format) → CodeExactly F ours
unfolding answer_of code_of
code-exactly F s = first-exactly (packet_rows F s.unit s.seqs s.lists s.out s.bytes)

pub no-other-kind : NoOtherKind ours
unfolding tables_wrong lent_wrong answer_of code_of packet_rows step_rows unit_step check_rows check_of window_rows window_code
no-other-kind kind h =
    let e = no_kind kind h in
    record {
      packet = λ s. simp e;
      step = λ u seqs lists. simp e;
      check = λ seqs lists n. simp e;
      window = λ seqs lists a len. simp e;
    }

pub powers-on : PowersOn ours
unfolding power_on
powers-on = refl

-- an abort taken into the unit
with-step-abort : (u : ControlUnit) (r : Stepped) (c n p : ℕ) → n ≡ u.runner.sequence → r ≡ aborted (fault c p) u.runner → Aborted c n p u (with_step u r).unit
unfolding with_step aborted
with-step-abort u r c n p e f =
    subst (λ (x : Stepped). Aborted c n p u (with_step u x).unit) (sym f)
    (record { sequence = e; runner = refl; abort = refl; exposures = refl; list = refl; ledger = refl; control = refl })

pub abort-keeps : (F : Format) → AbortKeeps F ours
unfolding with_step
abort-keeps F u seqs lists c n p h =
    let E = env_of F lists in
    step_case F (λ (x : UnitStep). x.outcome ≡ Ok (Abort c n p) → Aborted c n p u x.unit) u seqs lists
    (λ e. let f = abort-faults E seqs u.runner c n p (cc) in with-step-abort u _ c n p f.sequence f.whole)
    (λ e. let z : ◌≡◌ {A = ℕ} 0 1 = cc in absurd (omega arith))
    (λ e. let z : ◌≡◌ {A = ℕ} 0 1 = cc in absurd (omega arith)) (outcome-shown (ours.steps F u seqs lists).outcome (aborts c n p) h refl)
