-- Packets between the steps change nothing of what is seen: the steps show what the runner shows by itself over the tables as they were at
-- the start. Assumes nothing.
use Rattle.std.specs.Prelude.{Ok}
use Prim.Native.Nat.{ℕ}
use mathlib.Core.Path.{◌≡◌, refl, sym, ap, ap₂, ◌∙◌}
use mathlib.Core.Bool.{false}
use mathlib.Core.List.{List, [], ◌∷◌}
use mathlib.Core.Logic.{◌⊎◌, inl, inr}
use Rattle.octets.proofs.Bools.{by-test}
use Rattle.memory.specs.declared.Format.{Format}
use Rattle.sequence.specs.Env.{env_of}
use Rattle.runner.specs.declared.Runner.{Runner}
use Rattle.runner.specs.declared.Sight.{Sight}
use Rattle.runner.specs.declared.Stepped.{Stepped}
use Rattle.runner.specs.declared.Event.{Event}
use Rattle.runner.specs.declared.Event.TheVariants.{Idle, Enter, Raster, Exp, Loop, Next, Done, Wait, Call, End, Abort}
use Rattle.runner.specs.Step.{step_of}
use Rattle.runner.proofs.Laws.{step-idle}
use Rattle.status.specs.declared.Control.{Control}
use Rattle.unit.specs.Step.{Outcome}
use Rattle.unit.specs.Answer.{answer_of}
use Rattle.promises.specs.Library.{ours}
use Rattle.promises.specs.Range.{Shows}
use Rattle.promises.specs.Runs.{after_steps, sights_of, position_shown}
use Rattle.promises.specs.Positions.{NonePast}
use Rattle.promises.specs.Demand3.{World, Action, step, packet, after, after_all, outcomes, mode_of, NeverCalledBack, events_of, exposed_positions}
use Rattle.promises.proofs.Run.Turns.{past-append}
use Rattle.promises.proofs.Packets.Auto.{packet-stays, packet-tables}
use Rattle.promises.proofs.Packets.Actions.{steps_in}
use Rattle.promises.proofs.Range.Steady.{Steady, runner_step, step-shows, step-outcome, step-runner, step-control, steady-after}

abbrev pub saws : List Sight → List Outcome
saws [] = []
saws (v ∷ vs) = Ok v.event ∷ saws vs

-- ── over the tables at the start
module _ {F : Format} (seqs lists : List ℕ) where
  -- the tables are those, or the run has stopped
  abbrev pub Over : World F → Type 0
  Over w = ((w.seqs ≡ seqs) × (w.lists ≡ lists)) ⊎ (w.unit.runner.running ≡ false)

  step-over : (w : World F) → Over w → runner_step w ≡ step_of (env_of F lists) seqs w.unit.runner
  step-over w (inl (s, l)) = ap₂ (λ (x y : List ℕ). step_of (env_of F y) x w.unit.runner) s l
  step-over w (inr e) = sym (step-idle (env_of F w.lists) w.seqs w.unit.runner e) ∙ step-idle (env_of F lists) seqs w.unit.runner e

  over-step : {w : World F} → Steady w → Over w → Over (after ours step w)
  over-step g (inl t) = inl t
  over-step {w} g (inr e) =
      inr (ap (λ (s : Runner). s.running) (step-runner g ∙ ap (λ (r : Stepped). r.runner) (sym (step-idle (env_of F w.lists) w.seqs w.unit.runner e))) ∙ e)

  over-packet : (w : World F) (out : List ℕ) (time : ℕ) (bytes : List ℕ) → (after ours (packet out time bytes) w).unit.runner ≡ w.unit.runner → Over w → Over (after ours (packet out time bytes) w)
  over-packet w out time bytes same (inr e) = inr (ap (λ (s : Runner). s.running) same ∙ e)
  over-packet w out time bytes same (inl (s, l)) =
      by-test w.unit.runner.running
      (λ r. let (a, b) = packet-tables F w.unit w.seqs w.lists out bytes r in inl (a ∙ s, b ∙ l))
      (λ r. inr (ap (λ (s : Runner). s.running) same ∙ r))

  -- what is seen of the actions, and where they leave the unit
  pub record Went (acts : List Action) (w : World F) : Type 0 where
    pub shows : outcomes ours acts w ≡ saws (sights_of (env_of F lists) seqs (steps_in acts) w.unit.runner)
    pub runner : (after_all ours acts w).unit.runner ≡ after_steps (env_of F lists) seqs (steps_in acts) w.unit.runner
    pub auto : mode_of (after_all ours acts w) ≡ 3
    pub over : Over (after_all ours acts w)

  pub between : (acts : List Action) (w : World F) → Steady w → mode_of w ≡ 3 → NeverCalledBack ours acts w → Over w → Went acts w
  unfolding sights_of after_steps answer_of
  between [] w g m x o = record { shows = refl; runner = refl; auto = m; over = o }
  between (step ∷ acts) w g m (x, xs) o =
      let same = step-over w o in
      let next = step-runner g ∙ ap (λ (r : Stepped). r.runner) same in
      let rest = between acts (after ours step w) (steady-after step g) (ap (λ (c : Control). c.mode) (step-control g) ∙ m) xs (over-step g o) in
      record {
        shows =
            ap₂ (λ (y : Outcome) (ys : List Outcome). y ∷ ys) (step-outcome g ∙ ap (λ (r : Stepped). Ok r.event) same)
            (rest.shows ∙ ap (λ (s : Runner). saws (sights_of (env_of F lists) seqs (steps_in acts) s)) next);
        runner = rest.runner ∙ ap (after_steps (env_of F lists) seqs (steps_in acts)) next;
        auto = rest.auto;
        over = rest.over;
      }
  between (packet out time bytes ∷ acts) w g m (x, xs) o =
      let (same, auto) = packet-stays F w.unit w.seqs w.lists out bytes m (λ b c. x (b, c)) in
      let rest = between acts (after ours (packet out time bytes) w) (steady-after (packet out time bytes) g) auto xs (over-packet w out time bytes same o) in
      record {
        shows = rest.shows ∙ ap (λ (s : Runner). saws (sights_of (env_of F lists) seqs (steps_in acts) s)) same;
        runner = rest.runner ∙ ap (after_steps (env_of F lists) seqs (steps_in acts)) same;
        auto = rest.auto;
        over = rest.over;
      }

-- ── no exposure is past the stop, whatever is done
shown-in-reach : (e : Event) → Shows e → NonePast 2400 (position_shown e)
shown-in-reach Idle x = tt
shown-in-reach (Enter n) x = tt
shown-in-reach (Raster id pos list) x = tt
shown-in-reach (Exp pos) x = (x, tt)
shown-in-reach (Loop place) x = tt
shown-in-reach Next x = tt
shown-in-reach Done x = tt
shown-in-reach (Wait t) x = tt
shown-in-reach (Call n) x = tt
shown-in-reach End x = tt
shown-in-reach (Abort code n place) x = tt

pub in_reach : {F : Format} (acts : List Action) (w : World F) → Steady w → NonePast 2400 (exposed_positions (events_of (outcomes ours acts w)))
in_reach [] w g = tt
in_reach (step ∷ acts) w g =
    rw (step-outcome g)
    (past-append 2400 (position_shown (runner_step w).event) (exposed_positions (events_of (outcomes ours acts (after ours step w)))) (shown-in-reach (runner_step w).event (step-shows g).1) (in_reach acts (after ours step w) (steady-after step g)))
in_reach (packet out time bytes ∷ acts) w g = in_reach acts (after ours (packet out time bytes) w) (steady-after (packet out time bytes) g)
