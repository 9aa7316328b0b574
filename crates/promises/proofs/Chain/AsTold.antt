-- What the check tells of a chain is seen of a runner at the door of its first sequence.
-- Assumes nothing.
use Rattle.std.specs.Prelude.{Result, Ok, Err}
use Prim.Native.Nat.{ℕ, zero, suc, ◌≤◌}
use native.Mathlib.Omega.{arith}
use mathlib.Core.Path.{◌≡◌, refl, sym, ap, ◌∙◌, subst}
use mathlib.Core.Bool.{true, false, true≢false, false≢true}
use mathlib.Core.List.{List, [], ◌∷◌, ◌++◌}
use lib.Dec.{eqb}
use lib.ListN.{length}
use Rattle.octets.proofs.Bools.{by-test}
use Rattle.memory.specs.declared.Format.{Format}
use Rattle.memory.proofs.Laws.{Fair}
use Rattle.sequence.specs.declared.Fault.{Fault}
use Rattle.sequence.specs.Text.{fault, header_of}
use Rattle.sequence.specs.Starts.{among}
use Rattle.sequence.specs.Env.{Env, env_of, text_of}
use Rattle.runner.specs.declared.Runner.{Runner}
use Rattle.runner.specs.declared.Sight.{Sight}
use Rattle.runner.specs.declared.Stepped.{Stepped}
use Rattle.runner.specs.declared.Event.{Event}
use Rattle.runner.specs.declared.Event.TheVariants.{Idle, Enter, Abort}
use Rattle.runner.specs.Events.{Shown, shown_as}
use Rattle.runner.specs.Step.{aborted, entered_by, entered, step_in, step_of}
use Rattle.runner.proofs.Laws.{step-idle}
use Rattle.survey.specs.declared.Ending.{Ending}
use Rattle.survey.specs.declared.Ending.TheVariants.{Unlisted, Finishes, Returns, Faults}
use Rattle.survey.specs.declared.Reason.{Reason}
use Rattle.survey.specs.Chain.{Told}
use Rattle.survey.specs.Report.{EndingShown}
use Rattle.unit.specs.Step.{Outcome}
use Rattle.promises.specs.Runs.{ShownAs, idle, quiet, positions_seen, position_shown, Run, done, more, Aborts, after_steps, sights_of, AllQuiet, Quiet, AtDoor}
use Rattle.promises.specs.Kept.{Ran, AtRest, IsPassed}
use Rattle.promises.specs.Positions.{NonePast}
use Rattle.promises.specs.Demand3.{last_of, Calling, events_of, from_each, landmark, exposed_positions, GoesWell, IsIdle, Works, All, FirstThen, GoesOn, AbortsAt, RunsAsTold}
use Rattle.promises.proofs.Run.Steps.{door, door-is}
use Rattle.promises.proofs.Run.Runs.{run-after, run-sights}
use Rattle.promises.proofs.Chain.Chains.{chain_sights, chain_end, CallsLast, BackTo, KeptFrom, kept-exactly, chain_in}
use Rattle.promises.proofs.Chain.Never.{never}
use Rattle.promises.proofs.Chain.Names.{chain-lists}
use Rattle.promises.proofs.Chain.Unique.{chain_first}
use Rattle.promises.proofs.Run.Shown.{shown}
use Rattle.promises.proofs.Run.Seen.{seen-shown}
use Rattle.promises.proofs.Chain.ChainShown.{chain-shown}
use Rattle.promises.proofs.Chain.Plans.{blind-landmark, passed-planned, passed-positioned}
use Rattle.promises.proofs.Packets.Between.{saws}
use Rattle.promises.proofs.Chain.Working.{is_idle, step-fate, AllBusy, run-busy, chain-busy}

-- ── what is seen, step by step
saws-well : (ws : List Sight) → AllQuiet ws → All GoesWell (saws ws)
saws-well [] q = tt
saws-well (w ∷ ws) (q, qs) = (q, saws-well ws qs)

saws-each : {A : Type 0} (f : Event → List A) (ws : List Sight) → from_each f (events_of (saws ws)) ≡ shown f ws
saws-each f [] = refl
saws-each f (w ∷ ws) = ap (λ zs. f w.event ++ zs) (saws-each f ws)

saws-length : (ws : List Sight) → length (saws ws) ≡ length ws
saws-length [] = refl
saws-length (w ∷ ws) = ap suc (saws-length ws)

not-idle : (e : Event) → is_idle e ≡ false → ShownAs e idle → ⊥
not-idle e b h = true≢false (sym (ap (λ (x : Shown). eqb x.number 0) (h 0)) ∙ b)

module _ (E : Env) (seqs : List ℕ) where
  length-sights : (k : ℕ) (s : Runner) → length (sights_of E seqs k s) ≡ k
  unfolding sights_of
  length-sights zero s = refl
  length-sights (suc k) s = ap suc (length-sights k (step_of E seqs s).runner)

  all-idle : (k : ℕ) (s : Runner) → s.running ≡ false → All IsIdle (saws (sights_of E seqs k s))
  unfolding sights_of
  all-idle zero s e = tt
  all-idle (suc k) s e = rw (← step-idle E seqs s e) (λ count. refl, all-idle k s e)

  -- along a run in which no step is idle each step works, and then it goes on from where the run leads
  run-works : (Q : List Outcome → Type 0) {s last : Runner} {ws : List Sight} → Run E seqs s ws last → AllBusy ws
      → ((j : ℕ) → Q (saws (sights_of E seqs (suc j) last))) → (j : ℕ) → FirstThen (length ws) Works Q (saws (sights_of E seqs j s))
  unfolding sights_of
  run-works Q done b q zero = tt
  run-works Q done b q (suc j) = q j
  run-works Q (more e k r) b q zero = tt
  run-works Q (more {e = v} e k r) (b, bs) q (suc j) = rw e ((k, not-idle v b), run-works Q r bs q j)

  -- ── the step after a run
  run-next : {s last : Runner} {ws : List Sight} → Run E seqs s ws last → Quiet E seqs (suc (length ws)) s → quiet (step_of E seqs last).event ≡ true
  unfolding sights_of
  run-next done q = q.0
  run-next (more e k r) q = run-next r (rw e at q.1)

  -- at the door of a sequence it is entered, if that is no abort
  door-enters : {n m : ℕ} {s : Runner} → AtDoor n m s → quiet (step_of E seqs s).event ≡ true → (step_of E seqs s).event ≡ Enter n
  unfolding step_of step_in entered aborted
  door-enters {n} {m} {s} d =
      subst (λ (x : Runner). quiet (step_of E seqs x).event ≡ true → (step_of E seqs x).event ≡ Enter n) (sym (door-is d)) (go (header_of (text_of E seqs n)))
    where
      at : Runner
      at = door n s.raster m s.rounds

      go : (h : Result ℕ Fault) → quiet (entered_by at h).event ≡ true → (entered_by at h).event ≡ Enter n
      go (Ok k) q = refl
      go (Err f) q = absurd (false≢true q)

  -- at a fault the run has not stopped yet, and the abort stops it
  at-fault : (s : Runner) {n : ℕ} {fault : Fault} → (step_of E seqs s).event ≡ Abort fault.code n fault.place → (s.running ≡ true) × ((step_of E seqs s).runner.running ≡ false)
  at-fault s {n} {fault} e =
      by-test s.running
      (λ r. (r, (step-fate E seqs s r).1 (ap quiet e)))
      (λ r. let i : Idle ≡ Abort fault.code n fault.place = ap (λ (x : Stepped). x.event) (step-idle E seqs s r) ∙ e in absurd (true≢false (ap is_idle i)))

-- ── a chain from the door of sequence n
module _ (F : Format) (lists : List ℕ) (fair : Fair F) (seqs : List ℕ) (n m : ℕ) (r : Runner) (h : n ≤ F.last) (d : AtDoor n m r) where
  abbrev E : Env
  E = env_of F lists

  abbrev t : Told
  t = chain_in E seqs n

  -- the sights of j steps, for a chain that ends in this way
  abbrev Goes : Ending → ℕ → Type 0
  Goes ending j =
      FirstThen t.steps Works (GoesOn F seqs ending t.names) (saws (sights_of E seqs j r))
      × (j ≡ t.steps → (sights_of E seqs j r ≡ chain_sights E seqs t.names m) × (length (positions_seen (sights_of E seqs j r)) ≡ t.exposures))

  goes : (ending : Ending) (P : Runner → Type 0) → ((last : Runner) → P last → Run E seqs r (chain_sights E seqs t.names m) last → (j : ℕ) → GoesOn F seqs ending t.names (saws (sights_of E seqs (suc j) last)))
      → Ran E seqs (chain_sights E seqs t.names m) t.names t.steps t.exposures P r → (j : ℕ) → Goes ending j
  goes ending P q i j =
      let ws = chain_sights E seqs t.names m in
      let busy = chain-busy E seqs t.names m in (
        subst (λ (k : ℕ). FirstThen k Works (GoesOn F seqs ending t.names) (saws (sights_of E seqs j r))) i.taken
            (run-works E seqs (GoesOn F seqs ending t.names) i.run busy (q i.last i.leaves i.run) j),
        λ e.
            let same : sights_of E seqs j r ≡ ws = ap (λ (k : ℕ). sights_of E seqs k r) (e ∙ sym i.taken) ∙ run-sights E seqs i.run in
            (same, ap (λ (vs : List Sight). length (positions_seen vs)) same ∙ ap length i.placed ∙ i.made),
      )

  -- the chain lists its first sequence, so what its last one calls is told by a name
  called-last : (u : ℕ) → CallsLast E seqs n t.names u → Calling F seqs (last_of 0 t.names) u
  called-last u e =
      let (rest, names) = chain_first F seqs lists (chain-lists F lists seqs n h).chain in
      subst (λ (ns : List ℕ). CallsLast E seqs n ns u → Calling F seqs (last_of 0 ns) u) (sym names) (λ w. w) e

  goes-as-told : (ending : Ending) → KeptFrom E seqs n [] t.names ending t.steps t.exposures m r → IsPassed ending → ((k : ℕ) → Quiet E seqs k r) → (j : ℕ) → Goes ending j
  unfolding KeptFrom sights_of among
  goes-as-told (Unlisted code) i y q j = absurd y
  goes-as-told Finishes i y q j = goes Finishes AtRest (λ last e ran k. (λ f. all-idle E seqs (suc k) last e, λ f. absurd (let z = ap (λ (x : EndingShown). x.number) f in omega arith))) i j
  goes-as-told Returns i y q j =
      goes Returns (BackTo E seqs n [] t.names (chain_end E seqs t.names m))
      (λ last b ran k.
      let door = door-enters E seqs b.3 (run-next E seqs ran (q (suc (length (chain_sights E seqs t.names m))))) in
      (λ f. absurd (let z = ap (λ (x : EndingShown). x.number) f in omega arith), λ f. (b.0, called-last b.0 b.4, b.2, λ count. ap (shown_as count) door))) i j
  goes-as-told (Faults q f reason) i y k j = absurd y

  pub as-told : IsPassed t.ending → (j : ℕ) → NonePast 2400 (exposed_positions (events_of (saws (sights_of E seqs j r)))) → RunsAsTold F seqs t (saws (sights_of E seqs j r))
  as-told y j reach =
      let quiet = never E seqs fair n m r h d y in
      let (works, full) = goes-as-told t.ending (kept-exactly E fair seqs n m r h d) y quiet j in
      let ws = sights_of E seqs j r in
      let whole : length (saws ws) ≡ t.steps → j ≡ t.steps = λ e. sym (saws-length ws ∙ length-sights E seqs j r) ∙ e in
      record {
        never = saws-well ws (quiet j);
        in_reach = reach;
        positioned = passed-positioned E seqs n h y;
        steps = works;
        planned = λ e.
            saws-each landmark ws
            ∙ ap (shown landmark) (full (whole e)).0
            ∙ chain-shown landmark blind-landmark E seqs t.names m
            ∙ passed-planned E seqs n h y;
        exposures = λ e. ap length (saws-each position_shown ws ∙ sym (seen-shown ws)) ∙ (full (whole e)).1;
      }

  pub aborts : (code q p : ℕ) (reason : Reason) → t.ending ≡ Faults q (fault code p) reason → (k : ℕ) × ((j : ℕ) → FirstThen k Works (AbortsAt code q p) (saws (sights_of E seqs j r)))
  unfolding KeptFrom sights_of
  aborts code q p reason e =
      let a : Aborts E seqs q (fault code p) r =
      subst (λ (x : Ending). KeptFrom E seqs n [] t.names x t.steps t.exposures m r) e (kept-exactly E fair seqs n m r h d) in
      let (running, stops) = at-fault E seqs a.last a.abort in (
        length a.sights,
        run-works E seqs (AbortsAt code q p) a.ran (run-busy a.ran running).1
            (λ j. (λ count. ap (shown_as count) a.abort, all-idle E seqs j (step_of E seqs a.last).runner stops)),
      )

  -- a chain that returns leads to the door of a listed sequence
  pub returns-at : t.ending ≡ Returns → (u : ℕ) × (u ≤ F.last) × (among u t.names ≡ true) × Calling F seqs (last_of 0 t.names) u × AtDoor u (chain_end E seqs t.names m) (after_steps E seqs t.steps r)
  unfolding KeptFrom among
  returns-at e =
      let i : Ran E seqs (chain_sights E seqs t.names m) t.names t.steps t.exposures (BackTo E seqs n [] t.names (chain_end E seqs t.names m)) r =
      subst (λ (x : Ending). KeptFrom E seqs n [] t.names x t.steps t.exposures m r) e (kept-exactly E fair seqs n m r h d) in
      let b = i.leaves in
      (b.0, b.1, b.2, called-last b.0 b.4, subst (AtDoor b.0 (chain_end E seqs t.names m)) (sym (run-after E seqs i.run) ∙ ap (λ (k : ℕ). after_steps E seqs k r) i.taken) b.3)
