-- What is seen of a step, from what decides it: idling where nothing runs, and an abort where a row refused it.
-- Assumes nothing.
use Prim.Native.Nat.{ℕ, zero, suc, ◌<◌}
use native.Mathlib.Omega.{arith}
use mathlib.Core.Path.{◌≡◌, refl, sym, ap, subst, ◌∙◌}
use mathlib.Core.Bool.{Bool, true, false, false≢true}
use mathlib.Core.List.{List}
use Rattle.octets.specs.Rows.{Row, first_code}
use Rattle.octets.proofs.Bools.{and_both}
use Rattle.sequence.specs.declared.Fault.{Fault}
use Rattle.sequence.specs.Text.{fault}
use Rattle.sequence.specs.Env.{Env, text_of}
use Rattle.runner.specs.declared.Runner.{Runner}
use Rattle.runner.specs.declared.Stepped.{Stepped}
use Rattle.runner.specs.declared.Event.TheVariants.{Idle, Abort}
use Rattle.runner.specs.Events.{shown_as}
use Rattle.runner.specs.Step.{aborted, step_of}
use Rattle.runner.proofs.Laws.{step-idle, step-runs}
use Rattle.promises.specs.Library.{ours}
use Rattle.promises.specs.Runs.{idle, aborts, quiet}
use Rattle.promises.specs.Demand2.{rows_of_step, fault_place, IdleExactly, AbortExactly}
use Rattle.promises.proofs.Run.Events.{event-shown}
use Rattle.promises.proofs.Run.Acts.{Decides, step-decides, step-coded}
use Rattle.promises.proofs.Packets.Exactly.{obeyed-by, refused-by}

-- an abort that is seen of a step: its code was the decision, in the runner's sequence at the code's place
pub record Faulted (code : ℕ) (place : ℕ → ℕ) (s : Runner) (r : Stepped) (c n p : ℕ) : Type 0 where
  pub decision : code ≡ c
  pub sequence : n ≡ s.sequence
  pub here : p ≡ place c
  pub whole : r ≡ aborted (fault c p) s

module _ {place : ℕ → ℕ} {s : Runner} {r : Stepped} where
  not-idle : (code : ℕ) → Decides code place s r → r.event ≡ Idle → ⊥
  unfolding aborted
  not-idle zero d i = false≢true (rw i at (d.obeyed refl))
  not-idle (suc k) d i = let e = d.refused (omega arith) in let z : ◌≡◌ {A = ℕ} 0 1 = cc in omega arith

  -- a step is obeyed or refused as it is seen
  quiet-obeyed : (code : ℕ) → Decides code place s r → quiet r.event ≡ true → code ≡ 0
  unfolding aborted
  quiet-obeyed zero d q = refl
  quiet-obeyed (suc k) d q = absurd (false≢true (rw (d.refused (omega arith)) at q))

  obeyed-quiet : (code : ℕ) → Decides code place s r → code ≡ 0 → quiet r.event ≡ true
  obeyed-quiet code d z = (and_both (quiet r.event) _ (d.obeyed z)).0

  refused-aborts : (code c : ℕ) → Decides code place s r → 0 < c → code ≡ c → r.event ≡ Abort c s.sequence (place c)
  unfolding aborted
  refused-aborts code c d h e = rw (d.refused (omega arith), e)

  faulted : (code c n p : ℕ) → Decides code place s r → r.event ≡ Abort c n p → Faulted code place s r c n p
  unfolding aborted
  faulted zero c n p d a = absurd (false≢true (rw a at (d.obeyed refl)))
  faulted (suc k) c n p d a =
      let e = d.refused (omega arith) in
      let f : Abort (suc k) s.sequence (place (suc k)) ≡ Abort c n p = sym (ap (λ (x : Stepped). x.event) e) ∙ a in
      let w : fault (suc k) (place (suc k)) ≡ fault c p = cc in
      let g = ap (λ (x : Fault). x.code) w in
      record { decision = g; sequence = cc; here = sym (ap (λ (x : Fault). x.place) w) ∙ ap place g; whole = e ∙ ap (λ (x : Fault). aborted x s) w }

module _ (E : Env) (seqs : List ℕ) (s : Runner) where
  abbrev rows : List Row
  rows = rows_of_step E (text_of E seqs s.sequence) s

  decides : s.running ≡ true → Decides (first_code rows) (fault_place s) s (step_of E seqs s)
  decides e = subst (Decides (first_code rows) (fault_place s) s) (step-runs E seqs s (text_of E seqs s.sequence) _ e refl refl) (step-decides E (text_of E seqs s.sequence) s)

  pub idle-stops : (step_of E seqs s).event ≡ Idle → s.running ≡ false
  idle-stops i = go s.running refl
    where
      go : (b : Bool) → s.running ≡ b → b ≡ false
      go true e = absurd (not-idle (first_code rows) (decides e) i)
      go false e = refl

  pub abort-faults : (c n p : ℕ) → (step_of E seqs s).event ≡ Abort c n p → Faulted (first_code rows) (fault_place s) s (step_of E seqs s) c n p
  abort-faults c n p a = go s.running refl
    where
      go : (b : Bool) → s.running ≡ b → Faulted (first_code rows) (fault_place s) s (step_of E seqs s) c n p
      go true e = faulted (first_code rows) c n p (decides e) a
      go false e = let i = step-idle E seqs s e in let z : ◌≡◌ {A = ℕ} 0 1 = cc in absurd (omega arith)

-- ── so the step is told exactly
pub idle-exactly : IdleExactly ours
idle-exactly E seqs s = (
  λ h. idle-stops E seqs s (event-shown (step_of E seqs s).event idle h refl),
  λ e count. ap (λ (x : Stepped). shown_as count x.event) (sym (step-idle E seqs s e)),
)

pub abort-exactly : AbortExactly ours
abort-exactly E seqs s on =
    let rows = rows_of_step E (text_of E seqs s.sequence) s in
    let d = decides E seqs s on in
    record {
      obeyed =
          obeyed-by rows (step-coded E (text_of E seqs s.sequence) s)
          (quiet-obeyed (first_code rows) d)
          (obeyed-quiet (first_code rows) d);
      aborted =
          λ c h.
          refused-by rows c h
          (λ a. (abort-faults E seqs s c s.sequence (fault_place s c) (event-shown (step_of E seqs s).event (aborts c s.sequence (fault_place s c)) a refl)).decision)
          (λ e count. ap (shown_as count) (refused-aborts (first_code rows) c d h e));
    }
