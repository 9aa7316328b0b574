-- What is given exactly when a row holds, for anything that a table's code decides; and the tables of the step, the check and the window.
-- Assumes nothing.
use Rattle.std.specs.Prelude.{Ok, Err}
use Prim.Native.Nat.{ℕ, suc, ◌-◌, ◌<◌}
use native.Mathlib.Omega.{arith}
use mathlib.Core.Path.{◌≡◌, refl, sym, ap, ◌∙◌}
use mathlib.Core.Bool.{Bool, true, false, cond, false≢true}
use mathlib.Core.List.{List, []}
use mathlib.Core.Logic.{◌↔◌}
use lib.Dec.{T, eqb}
use borrow.Author.Tests.{eqb-true, ne_eqb}
use Rattle.octets.specs.Rows.{Row, first_code, NoneHolds, FirstBears, coded}
use Rattle.octets.proofs.Laws.{none-holds, no_code, first-bears, bears-first, obeyed-exactly, code-exactly}
use Rattle.memory.specs.declared.Format.{Format}
use Rattle.memory.specs.declared.Range.{Range}
use Rattle.memory.specs.declared.Range.TheVariants.{Sequences, LineLists}
use Rattle.memory.specs.Memory.{tables_wrong, range_at, part_of, window_rows, window_code, window_part}
use Rattle.memory.proofs.Laws.{sizes, right-sizes, shown, hidden}
use Rattle.sequence.specs.Env.{env_of}
use Rattle.runner.specs.declared.Event.{Event}
use Rattle.runner.specs.declared.Stepped.{Stepped}
use Rattle.runner.specs.Step.{step_of}
use Rattle.survey.specs.declared.Closing.TheVariants.{Terminates, CallsOn}
use Rattle.survey.specs.declared.Ending.{Ending}
use Rattle.survey.specs.declared.Ending.TheVariants.{Unlisted, Finishes, Returns, Faults}
use Rattle.survey.specs.Walk.{Finding, passes, faults, finding_of}
use Rattle.survey.specs.Chain.{Told, told, onward, follow, chain_of, check_rows, check_of}
use Rattle.unit.specs.Step.{Outcome}
use Rattle.unit.specs.declared.Unit.{Unit as ControlUnit}
use Rattle.unit.specs.declared.UnitStep.{UnitStep}
use Rattle.unit.specs.State.{out_of_range}
use Rattle.unit.specs.Step.{step_rows, stepped, with_step, unit_step_by, unit_step}
use Rattle.promises.specs.Library.{ours}
use Rattle.promises.specs.Demand2.{StepAcceptedExactly, StepCodeExactly, StepTakes, StepKeeps, CheckExactly, WindowCodeExactly, WindowExactly, WindowShows}
use Rattle.survey.proofs.Listing.{follow-all}
use Rattle.promises.proofs.Formats.{fills-exactly}
use Rattle.promises.proofs.Packets.Tests.{in-sequences, in-line-lists, one-table-exactly}

-- ── one law
module _ (rows : List Row) {X : Type 0} where
  pub obeyed-by : T (coded rows) → (X → first_code rows ≡ 0) → (first_code rows ≡ 0 → X) → X ↔ NoneHolds rows
  obeyed-by t f g = (λ x. none-holds rows t (f x), λ n. g (no_code rows n))

  pub refused-by : (c : ℕ) → 0 < c → (X → first_code rows ≡ c) → (first_code rows ≡ c → X) → X ↔ FirstBears c rows
  refused-by c h f g = (λ x. first-bears rows c h (f x), λ b. g (bears-first rows c b))

-- an answer that the code picks: x where it is 0, else f of it
module _ (rows : List Row) (t : T (coded rows)) {A : Type 0} (x : A) (f : ℕ → A) (apart : (k : ℕ) → x ≡ f k → ⊥) (tells : (k c : ℕ) → f k ≡ f c → k ≡ c) where
  abbrev picked : ℕ → A
  picked k = cond (eqb k 0) x (f k)

  picked_none : (k : ℕ) → picked k ≡ x → k ≡ 0
  picked_none k = go (eqb k 0) refl
    where
      go : (b : Bool) → eqb k 0 ≡ b → cond b x (f k) ≡ x → k ≡ 0
      go true e h = eqb-true k 0 e
      go false e h = absurd (apart k (sym h))

  picked-code : (k c : ℕ) → picked k ≡ f c → k ≡ c
  picked-code k c = go (eqb k 0)
    where
      go : (b : Bool) → cond b x (f k) ≡ f c → k ≡ c
      go true h = absurd (apart c h)
      go false h = tells k c h

  pub picked-exactly : (picked (first_code rows) ≡ x) ↔ NoneHolds rows
  picked-exactly = obeyed-by rows t (picked_none (first_code rows)) (λ e. ap picked e)

  pub given-exactly : (c : ℕ) → 0 < c → (picked (first_code rows) ≡ f c) ↔ FirstBears c rows
  given-exactly c h =
      refused-by rows c h (picked-code (first_code rows) c)
      (λ e. ap picked e ∙ ap (λ (b : Bool). cond b x (f c)) (ne_eqb c 0 (λ z. omega arith)))

-- ── the unit's step
module _ (F : Format) (u : ControlUnit) (seqs lists : List ℕ) where
  abbrev r : Stepped
  r = step_of (env_of F lists) seqs u.runner

  outcome-picked : (unit_step F u seqs lists).outcome ≡ cond (eqb (first_code (step_rows F u seqs lists)) 0) (Ok r.event) (Err (first_code (step_rows F u seqs lists)))
  unfolding unit_step with_step
  outcome-picked = go (eqb (first_code (step_rows F u seqs lists)) 0)
    where
      go : (b : Bool) → (cond b (with_step u r) (stepped (Err (first_code (step_rows F u seqs lists))) u)).outcome ≡ cond b (Ok r.event) (Err (first_code (step_rows F u seqs lists)))
      go true = refl
      go false = refl

saw-apart : (e : Event) (k : ℕ) → ◌≡◌ {A = Outcome} (Ok e) (Err k) → ⊥
saw-apart e k h = let z : ◌≡◌ {A = ℕ} 0 1 = cc in omega arith

denied-tells : (k c : ℕ) → ◌≡◌ {A = Outcome} (Err k) (Err c) → k ≡ c
denied-tells k c h = cc

pub step-accepted-exactly : (F : Format) → StepAcceptedExactly F ours
unfolding step_rows
step-accepted-exactly F u seqs lists =
    rw outcome-picked (picked-exactly (step_rows F u seqs lists) tt (Ok (r F u seqs lists).event) Err (saw-apart (r F u seqs lists).event) denied-tells)

pub step-code-exactly : (F : Format) → StepCodeExactly F ours
unfolding step_rows
step-code-exactly F u seqs lists =
    rw outcome-picked (given-exactly (step_rows F u seqs lists) tt (Ok (r F u seqs lists).event) Err (saw-apart (r F u seqs lists).event) denied-tells)

-- a step is denied with 16 or 17, or it is the runner's
by_code : (P : UnitStep → Type 0) (lent range : Bool) (u : ControlUnit) (r : Stepped)
    → P (with_step u r) → P (stepped (Err 16) u) → P (stepped (Err 17) u) → P (unit_step_by (cond lent 16 (cond range 17 0)) u r)
by_code P true range u r f g h = g
by_code P false true u r f g h = h
by_code P false false u r f g h = f

pub step_case : (F : Format) (P : UnitStep → Type 0) (u : ControlUnit) (seqs lists : List ℕ)
    → P (with_step u (step_of (env_of F lists) seqs u.runner)) → P (stepped (Err 16) u) → P (stepped (Err 17) u) → P (unit_step F u seqs lists)
unfolding unit_step step_rows
step_case F P u seqs lists = by_code P (tables_wrong F seqs lists) (out_of_range F u) u (step_of (env_of F lists) seqs u.runner)

pub step-takes : (F : Format) → StepTakes F ours
unfolding unit_step with_step
step-takes F u seqs lists n = rw (no_code (step_rows F u seqs lists) n) (refl, refl, refl)

-- no step changes what packets set
pub step_keeps : (F : Format) → StepKeeps F ours
unfolding with_step
step_keeps F u seqs lists =
    step_case F (λ (x : UnitStep). (x.unit.ledger ≡ u.ledger) × (x.unit.control ≡ u.control)) u seqs lists (refl, refl) (refl, refl) (refl, refl)

-- ── the check
abbrev listed : Ending → Bool
listed (Unlisted code) = false
listed Finishes = true
listed Returns = true
listed (Faults n f reason) = true

onward-listed : (go : ℕ → Told) (n : ℕ) (found : Finding) → ((m : ℕ) → listed (go m).ending ≡ true) → listed (onward go n found).ending ≡ true
unfolding onward
onward-listed go n (passes k x items p Terminates) h = refl
onward-listed go n (passes k x items p (CallsOn m)) h = h m
onward-listed go n (faults f reason) h = refl

abbrev nothing : ℕ → Told
nothing c = told [] (Unlisted c) 0 0

chain-apart : (F : Format) (found : ℕ → Finding) (n c : ℕ) → chain_of F found n ≡ nothing c → ⊥
unfolding chain_of
chain-apart F found n c h = false≢true (sym (ap (λ (t : Told). listed t.ending) h) ∙ always)
  where
    always : listed (follow found (suc F.last) [] n).ending ≡ true
    always = follow-all found (λ before t. listed t.ending ≡ true) (λ before. refl) (λ before m go e ih. onward-listed go m (found m) ih) (suc F.last) [] n

nothing_tells : (k c : ℕ) → nothing k ≡ nothing c → k ≡ c
nothing_tells k c h = let e : Unlisted k ≡ Unlisted c = ap (λ (t : Told). t.ending) h in cc

pub check-exactly : CheckExactly ours
unfolding check_of check_rows
check-exactly F seqs lists n =
    let rows = check_rows F seqs lists n in
    let found = finding_of (env_of F lists) seqs in
    record {
      followed = picked-exactly rows tt (chain_of F found n) nothing (chain-apart F found n) nothing_tells;
      refused = given-exactly rows tt (chain_of F found n) nothing (chain-apart F found n) nothing_tells;
    }

-- ── the window
pub window-code-exactly : WindowCodeExactly ours
unfolding window_code window_rows
window-code-exactly F seqs lists a len =
    record {
      handed = obeyed-exactly (window_rows F seqs lists a len) tt;
      refused = code-exactly (window_rows F seqs lists a len);
      empty = λ h. sym (hidden F seqs lists a len (window_code F seqs lists a len) refl (λ z. omega arith));
    }

pub window-exactly : WindowExactly ours
unfolding window_rows
window-exactly F seqs lists a len =
    let w = (window-code-exactly F seqs lists a len).handed in
    let range = one-table-exactly a len in (
      λ z. let (f, p, q) = sizes F seqs lists (w.0 z).0 in ((fills-exactly F).0 f, p, q, range.0 (w.0 z).1.0),
      λ (f, p, q, i). w.1 (right-sizes F seqs lists ((fills-exactly F).1 f) p q, (range.1 i, tt)),
    )

pub window-shows : WindowShows ours
window-shows F seqs lists a len z =
    let (f, p, q, (least, most, i)) = (window-exactly F seqs lists a len).0 z in
    let there : (r : Range) → range_at a len ≡ r → window_part F seqs lists a len ≡ part_of seqs lists len r =
    λ r e. sym (shown F seqs lists a len (window_code F seqs lists a len) refl (range_at a len) r z refl e) in (
      λ h. there (Sequences (a - 0x070000)) (in-sequences a len least most h),
      λ h. there (LineLists (a - 0x074000)) (in-line-lists a len least most h),
    )
