-- A runner that runs is never idle, and stops where it aborts: so each step works until the chain's last command, or until the abort.
-- Assumes nothing.
use Rattle.std.specs.Prelude.{Result, Ok, Err}
use Prim.Native.Nat.{ℕ, zero, suc, ◌+◌}
use native.Mathlib.Omega.{arith}
use mathlib.Core.Path.{◌≡◌, refl, sym, ap, ◌∙◌}
use mathlib.Core.Bool.{Bool, true, false, cond, true≢false}
use mathlib.Core.List.{List, [], ◌∷◌, ◌++◌}
use lib.Dec.{ltb}
use Rattle.octets.specs.Bytes.{byte_at}
use Rattle.octets.proofs.Bools.{choice}
use Rattle.sequence.specs.declared.Fault.{Fault}
use Rattle.sequence.specs.Text.{fault, header_of}
use Rattle.sequence.specs.Raster.{raster_at}
use Rattle.sequence.specs.Env.{Env, text_of}
use Rattle.runner.specs.declared.Runner.{Runner}
use Rattle.runner.specs.declared.Sight.{Sight}
use Rattle.runner.specs.declared.Stepped.{Stepped}
use Rattle.runner.specs.declared.Event.{Event}
use Rattle.runner.specs.declared.Act.{Act}
use Rattle.runner.specs.declared.Act.TheVariants.{Refused, Opens, Exposes, Loops, Waits, Calls, Ends}
use Rattle.runner.specs.Judge.{judge}
use Rattle.runner.specs.Step.{open_of, aborted, entered_by, entered, begun, advances, exposed, looped, delayed, called, ended, act, step_in, step_of}
use Rattle.survey.specs.declared.Item.{Item}
use Rattle.survey.specs.declared.Item.TheVariants.{Pause, Scan}
use Rattle.survey.specs.Turns.{turns}
use Rattle.survey.specs.Items.{positions}
use Rattle.survey.specs.Walk.{Finding, passes, faults, check_one}
use Rattle.promises.specs.Runs.{is_a, quiet, Run, done, more}
use Rattle.promises.proofs.Chain.Chains.{chain_sights}
use Rattle.promises.proofs.Run.Shown.{shown, shots, repeat_shown, items_shown}
use Rattle.promises.proofs.Chain.ChainShown.{finding_shown, chain_shown, chain-shown}
use Rattle.promises.proofs.Range.Steady.{still-running}

-- ── one step
abbrev pub is_idle : Event → Bool
is_idle e = is_a 0 e

-- the step is not idle, and an abort stops the run
abbrev Fate : Stepped → Type 0
Fate r = (is_idle r.event ≡ false) × (quiet r.event ≡ false → r.runner.running ≡ false)

-- of a step that shows no abort
calm : {A : Type 0} → true ≡ false → A
calm h = absurd (true≢false h)

module _ (E : Env) (text : List ℕ) (s : Runner) where
  aborted-fate : (f : Fault) → Fate (aborted f s)
  unfolding aborted
  aborted-fate f = (refl, λ h. refl)

  entered-fate : (h : Result ℕ Fault) → Fate (entered_by s h)
  entered-fate (Ok n) = (refl, calm)
  entered-fate (Err f) = aborted-fate f

  act-fate : (a : Act) → Fate (act E.format text s a)
  unfolding act begun exposed looped delayed called ended
  act-fate (Refused code) = aborted-fate (fault code s.place)
  act-fate Opens = (refl, calm)
  act-fate (Exposes r) =
      choice Fate (advances (raster_at text r.0) s) _ _
      (λ h. choice Fate (ltb 2400 (s.mirror + (raster_at text r.0).step)) _ _ (λ l. aborted-fate (fault 14 s.place)) (λ l. (refl, calm)))
      (λ h. (refl, calm))
  act-fate (Loops t) = choice Fate (ltb 1 s.raster.passes) _ _ (λ h. (refl, calm)) (λ h. choice Fate (ltb 1 s.raster.repeats) _ _ (λ l. (refl, calm)) (λ l. (refl, calm)))
  act-fate Waits = (refl, calm)
  act-fate (Calls n) =
      choice Fate (ltb 1 s.rounds) _ _ (λ h. (refl, calm)) (λ h. choice Fate (ltb E.format.last n) _ _ (λ l. aborted-fate (fault 4 s.place)) (λ l. (refl, calm)))
  act-fate Ends = choice Fate (ltb 1 s.rounds) _ _ (λ h. (refl, calm)) (λ h. (refl, calm))

pub step-fate : (E : Env) (seqs : List ℕ) (s : Runner) → s.running ≡ true → Fate (step_of E seqs s)
unfolding step_of step_in entered
step-fate E seqs s r =
    let text = text_of E seqs s.sequence in
    choice Fate s.running _ _
    (λ h. choice Fate s.entering _ _ (λ e. entered-fate E text s (header_of text)) (λ e. act-fate E text s (judge E.cards text s.place (open_of E.format s))))
    (λ h. absurd (true≢false (sym r ∙ h)))

-- ── a run
-- none of these is idle
abbrev pub AllBusy : List Sight → Type 0
AllBusy [] = Unit {0}
AllBusy (w ∷ ws) = (is_idle w.event ≡ false) × AllBusy ws

-- up to a runner that runs
pub run-busy : {E : Env} {seqs : List ℕ} {s last : Runner} {ws : List Sight} → Run E seqs s ws last → last.running ≡ true → (s.running ≡ true) × AllBusy ws
run-busy done r = (r, tt)
run-busy {E} {seqs} {s} (more e q ran) r =
    let (n, b) = run-busy ran r in
    let here = still-running E seqs s (ap (λ (x : Stepped). x.runner.running) e ∙ n) in
    (here, (ap (λ (x : Stepped). is_idle x.event) (sym e) ∙ (step-fate E seqs s here).0, b))

-- ── a chain, seen through a view that shows idle steps alone
abbrev idleness : Event → List ℕ
idleness e = cond (is_idle e) (0 ∷ []) []

pub nothing-turns : (g : ℕ → ℕ → List ℕ) → ((k n : ℕ) → g k n ≡ []) → (k n : ℕ) → turns k n g ≡ []
nothing-turns g e k zero = refl
nothing-turns g e k (suc n) = rw (e k n) (nothing-turns g e (suc k) n)

nothing-shot : (xs : List ℕ) → shots idleness xs ≡ []
nothing-shot [] = refl
nothing-shot (x ∷ xs) = nothing-shot xs

items-busy : (text : List ℕ) (items : List Item) → items_shown idleness text items ≡ []
items-busy text [] = refl
items-busy text (Pause p ∷ items) = items-busy text items
items-busy text (Scan p t b before from ∷ items) =
    let raster = raster_at text p in
    rw (nothing-turns (λ k r. repeat_shown idleness raster k) (λ k r. nothing-shot (positions raster k)) 0 raster.repeats) (items-busy text items)

finding-busy : (n : ℕ) (text : List ℕ) (v : Finding) → finding_shown idleness n text v ≡ []
finding-busy n text (passes k x items e closing) = nothing-turns (λ r l. items_shown idleness text items) (λ r l. items-busy text items) 0 (byte_at text 3)
finding-busy n text (faults f reason) = refl

names-busy : (E : Env) (seqs names : List ℕ) → chain_shown idleness E seqs names ≡ []
names-busy E seqs [] = refl
names-busy E seqs (n ∷ ns) = rw (finding-busy n (text_of E seqs n) (check_one E (text_of E seqs n))) (names-busy E seqs ns)

busy-by : (ws : List Sight) → shown idleness ws ≡ [] → AllBusy ws
busy-by [] h = tt
busy-by (w ∷ ws) h = go (is_idle w.event) (busy-by ws) h
  where
    go : (b : Bool) → (shown idleness ws ≡ [] → AllBusy ws) → cond b (0 ∷ []) [] ++ shown idleness ws ≡ [] → (b ≡ false) × AllBusy ws
    go true ih h = let z : ◌≡◌ {A = ℕ} 0 1 = cc in absurd (omega arith)
    go false ih h = (refl, ih h)

pub chain-busy : (E : Env) (seqs names : List ℕ) (m : ℕ) → AllBusy (chain_sights E seqs names m)
chain-busy E seqs names m =
    busy-by (chain_sights E seqs names m)
    (chain-shown idleness (record { wait = λ t. refl; loop = λ p. refl; next = refl; done = refl; call = λ n. refl; end = refl }) E seqs names m ∙ names-busy E seqs names)
