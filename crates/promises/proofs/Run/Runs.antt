-- Runs one after another, in turns, and what they say of the steps counted from their start.
-- Assumes nothing.
use Prim.Native.Nat.{ℕ, zero, suc, ◌+◌}
use native.Mathlib.Omega.{arith}
use mathlib.Core.Path.{◌≡◌, refl, ap, ◌∙◌, subst}
use mathlib.Core.Bool.{true, false}
use mathlib.Core.List.{List, [], ◌∷◌, ◌++◌}
use lib.ListN.{length}
use Rattle.sequence.specs.Env.{Env}
use Rattle.runner.specs.declared.Runner.{Runner}
use Rattle.runner.specs.declared.Sight.{Sight}
use Rattle.runner.specs.declared.Event.{Event}
use Rattle.runner.specs.declared.Stepped.{Stepped}
use Rattle.runner.specs.Step.{to, step_of}
use Rattle.runner.proofs.Laws.{step-idle}
use Rattle.survey.specs.Turns.{turns}
use Rattle.promises.specs.Runs.{quiet, seen, Run, done, more, after_steps, sights_of, AllQuiet, Quiet}

infixr 20 ◌▸◌
pub one : {E : Env} {seqs : List ℕ} {s next : Runner} {e : Event} → step_of E seqs s ≡ to e next → quiet e ≡ true → Run E seqs s (seen e next ∷ []) next
one e k = more e k done

pub ◌▸◌ : {E : Env} {seqs : List ℕ} {s next last : Runner} {ws vs : List Sight} → Run E seqs s ws next → Run E seqs next vs last → Run E seqs s (ws ++ vs) last
done ▸ r = r
more e k q ▸ r = more e k (q ▸ r)

-- ── the steps counted
module _ (E : Env) (seqs : List ℕ) where
  pub run-after : {s last : Runner} {ws : List Sight} → Run E seqs s ws last → after_steps E seqs (length ws) s ≡ last
  unfolding after_steps
  run-after done = refl
  run-after (more {ws} e k r) = ap (λ (x : Stepped). after_steps E seqs (length ws) x.runner) e ∙ run-after r

  pub run-sights : {s last : Runner} {ws : List Sight} → Run E seqs s ws last → sights_of E seqs (length ws) s ≡ ws
  unfolding sights_of
  run-sights done = refl
  run-sights (more {next} {e} step k r) = rw step (ap (λ (vs : List Sight). seen e next ∷ vs) (run-sights r))

  -- a run, and one step more
  pub run-then : {s last : Runner} {ws : List Sight} → Run E seqs s ws last
      → sights_of E seqs (suc (length ws)) s ≡ ws ++ seen (step_of E seqs last).event (step_of E seqs last).runner ∷ []
  unfolding sights_of
  run-then done = refl
  run-then (more {next} {e} step k r) = rw step (ap (λ (vs : List Sight). seen e next ∷ vs) (run-then r))

  pub run-all-quiet : {s last : Runner} {ws : List Sight} → Run E seqs s ws last → AllQuiet ws
  run-all-quiet done = tt
  run-all-quiet (more e k r) = (k, run-all-quiet r)

  quiet-less : (k : ℕ) (s : Runner) → Quiet E seqs (suc k) s → Quiet E seqs k s
  unfolding sights_of
  quiet-less zero s h = tt
  quiet-less (suc k) s h = (h.0, quiet-less k (step_of E seqs s).runner h.1)

  -- a run in front of quiet steps
  pub run-quiet : {s last : Runner} {ws : List Sight} → Run E seqs s ws last → (k : ℕ) → Quiet E seqs k last → Quiet E seqs k s
  unfolding sights_of
  run-quiet done k h = h
  run-quiet (more e q r) zero h = tt
  run-quiet {last} (more e q r) (suc k) h = rw e (q, run-quiet r k (quiet-less k last h))

  pub run-quiet-more : {s last : Runner} {w : Sight} {ws : List Sight} → Run E seqs s (w ∷ ws) last → (k : ℕ) → Quiet E seqs k last → Quiet E seqs (suc k) s
  unfolding sights_of
  run-quiet-more (more e q r) k h = rw e (q, run-quiet r k h)

  pub idle-quiet : (k : ℕ) (s : Runner) → s.running ≡ false → Quiet E seqs k s
  unfolding sights_of
  idle-quiet zero s h = tt
  idle-quiet (suc k) s h = rw (← step-idle E seqs s h) (refl, idle-quiet k s h)

-- ── runs in turns: `at k n` is the runner before turn k, with n turns to come
module _ {E : Env} {seqs : List ℕ} (at : ℕ → ℕ → Runner) (f : ℕ → ℕ → List Sight) (N : ℕ)
    (turn : (k n : ℕ) → k + suc n ≡ N → Run E seqs (at k (suc n)) (f k n) (at (suc k) n)) where
  pub run-turns : (k n : ℕ) → k + n ≡ N → Run E seqs (at k n) (turns k n f) (at N 0)
  run-turns k zero e = let w : k ≡ N = omega arith in subst (λ (x : ℕ). Run E seqs (at k 0) [] (at x 0)) w done
  run-turns k (suc n) e = turn k n e ▸ run-turns (suc k) n (omega arith)
