-- Laws of the calls over the definitions alone: what a call leaves as it was. Assumes nothing.
use Prim.Native.Nat.{ℕ, zero, suc, ◌+◌, ◌-◌, ◌≤◌, ◌<◌}
use native.Mathlib.Omega.{arith}
use mathlib.Core.Path.{◌≡◌, refl, sym, ap, ◌∙◌}
use mathlib.Core.Bool.{Bool, true, false, cond, not}
use mathlib.Core.List.{List}
use mathlib.Core.Logic.{◌⊎◌, inl, inr}
use lib.Dec.{eqb}
use lib.ListN.{length, get_or, take, drop}
use lib.Seq.{get_or-take, get_or-drop}
use borrow.Author.Tests.{eqb-true, eqb-false, not-false, ne_eqb, lt-leb, le-leb}
use Rattle.octets.specs.Rows.{first_code}
use Rattle.octets.proofs.Bools.{by-test, clash}
use Rattle.octets.proofs.Laws.{none-holds}
use Rattle.octets.proofs.LayoutLaws.{Octets}
use Rattle.memory.specs.declared.Format.{Format}
use Rattle.memory.specs.Memory.{tables_wrong}
use Rattle.sequence.specs.Env.{env_of}
use Rattle.runner.specs.declared.Runner.{Runner}
use Rattle.runner.specs.declared.Event.{Event}
use Rattle.runner.specs.declared.Event.TheVariants.{Idle}
use Rattle.runner.specs.declared.Stepped.{Stepped}
use Rattle.runner.specs.Step.{to, step_of}
use Rattle.runner.specs.Moves.{moves}
use Rattle.runner.proofs.Laws.{step-idle}
use Rattle.runner.proofs.Moves.{Moved, step-moves}
use Rattle.unit.specs.declared.Unit.{Unit}
use Rattle.status.specs.declared.Ledger.{Ledger}
use Rattle.std.specs.Prelude.{Option, Some, None, Ok, Err}
use Rattle.unit.specs.declared.UnitStep.{UnitStep}
use Rattle.unit.specs.Packet.{lent_wrong, code_of}
use Rattle.unit.specs.Answer.{unit_after}
use Rattle.unit.proofs.Laws.{refused-keeps}
use Rattle.status.specs.State.{watched}
use Rattle.unit.specs.Step.{step_rows, stepped, with_step, unit_step_by, unit_step}
use Rattle.unit.specs.State.{with_ledger, with_watch, with_runner, out_of_range}
use Rattle.state.specs.State.{state_sized, state_of, unit_of, flags_wrong}
use Rattle.state.proofs.Laws.{load-save}
use Rattle.keel.specs.Calls.{held_rows, held_code, refused_with, packet_code, state_after, kept_seqs, kept_lists, kept_out, held_step, state_by, state_stepped}

-- ── what the bytes of the state are refused for
abbrev held_by : Bool → Bool → Bool → ℕ
held_by sized lent flags = cond (not sized) 16 (cond lent 16 (cond flags 17 0))

high : (sized lent flags : Bool) → (held_by sized lent flags ≡ 0 → ⊥) → 16 ≤ held_by sized lent flags
high true true flags n = omega arith
high true false true n = omega arith
high true false false n = absurd (n refl)
high false lent flags n = omega arith

-- nothing, or a code above those of the unit's other rules
pub held_high : (lent : Bool) (s : List ℕ) (held : ℕ) → held ≡ held_code lent s → (held ≡ 0 → ⊥) → 16 ≤ held
unfolding held_rows
held_high lent s held e n = rw e (high (state_sized s) lent (flags_wrong s) (λ z. n (e ∙ z)))

pub held-passed : (lent : Bool) (s : List ℕ) → held_code lent s ≡ 0 → (length s ≡ 36) × ((flags_wrong s ≡ false) × (lent ≡ false))
unfolding held_rows
held-passed lent s h =
    let n = none-holds (held_rows lent s) tt h in
    (eqb-true (length s) 36 (not-false (state_sized s) n.0), (n.1.1.0, n.1.0))

-- as the code holds it: no code, or one that is not 0
pub refused_some : (k code : ℕ) (r : Option ℕ) → r ≡ refused_with k → r ≡ Some code → (code ≡ k) × (code ≡ 0 → ⊥)
refused_some k code r e is =
    by-test (eqb k 0) (λ t. absurd (clash (let h : None ≡ Some code = rw t at (sym e ∙ is) in cc)))
    (λ t. let h : Some k ≡ Some code = rw t at (sym e ∙ is) in let same : code ≡ k = cc in (same, λ z. eqb-false k 0 t (sym same ∙ z)))

pub refused_none : (k : ℕ) (r : Option ℕ) → r ≡ refused_with k → ((code : ℕ) → r ≡ Some code → ⊥) → k ≡ 0
refused_none k r e none = by-test (eqb k 0) (λ t. eqb-true k 0 t) (λ t. absurd (none k (e ∙ rw t)))

-- ── a step
-- a step that shows an event changes what the event moves in the run and in what the status takes from it
abbrev pub Took : Unit → Event → Unit → Type 0
Took u e v = v ≡ with_watch (watched e u.watch) (with_runner (moves e v.runner u.runner) u)

took_by : (t : Bool) (u : Unit) (x : Stepped) (code : ℕ) (e : Event) → Moved u.runner x
    → let r : UnitStep = cond t (with_step u x) (stepped (Err code) u) in r.outcome ≡ Ok e → Took u e r.unit
unfolding with_step
took_by true u x code e m o =
    let f : x.event ≡ e = cc in
    rw (← f) (ap (λ (r : Runner). with_watch (watched x.event u.watch) (with_runner r u)) m)
took_by false u x code e m o = let z : ◌≡◌ {A = ℕ} 0 1 = cc in absurd (omega arith)

pub took : (F : Format) (u : Unit) (seqs lists : List ℕ) (e : Event) → (unit_step F u seqs lists).outcome ≡ Ok e → Took u e (unit_step F u seqs lists).unit
unfolding unit_step
took F u seqs lists e =
    let code = first_code (step_rows F u seqs lists) in
    took_by (eqb code 0) u (step_of (env_of F lists) seqs u.runner) code e (step-moves u.runner (env_of F lists) seqs)

rest-by : (t : Bool) (u : Unit) → unit_step_by (cond t 17 0) u (to Idle u.runner) ≡ cond t (stepped (Err 17) u) (stepped (Ok Idle) u)
unfolding with_step
rest-by true u = refl
rest-by false u = refl

-- a unit that does not run idles, unless it is out of range
pub at_rest : (F : Format) (u : Unit) (seqs lists : List ℕ) → tables_wrong F seqs lists ≡ false → u.runner.running ≡ false → unit_step F u seqs lists ≡ cond (out_of_range F u) (stepped (Err 17) u) (stepped (Ok Idle) u)
unfolding step_rows unit_step
at_rest F u seqs lists t n = simp (t, ← step-idle (env_of F lists) seqs u.runner n) (rest-by (out_of_range F u) u)

idle-left : (t : Bool) (held : ℕ) (s : List ℕ) (u : Unit) (r : UnitStep)
    → (t ≡ true → r.outcome ≡ Ok Idle → state_of r.unit ≡ s)
    → let x : UnitStep = cond t r (stepped (Err held) u) in x.outcome ≡ Ok Idle → state_by s x x.outcome ≡ s
idle-left true held s u r k o = rw o (k refl o)
idle-left false held s u r k o = let z : ◌≡◌ {A = ℕ} 0 1 = cc in absurd (omega arith)

module _ (F : Format) (s seqs lists : List ℕ) where
  -- "A step not running is idle and changes nothing."
  pub idle-keeps : Octets s → (held_step F s seqs lists).outcome ≡ Ok Idle → state_stepped F s seqs lists ≡ s
  unfolding held_step state_stepped
  idle-keeps octets =
      let held = held_code (tables_wrong F seqs lists) s in
      let u = unit_of s in
      idle-left (eqb held 0) held s u (unit_step F u seqs lists)
      (λ z o. let (sized, (flags, lent)) = held-passed (tables_wrong F seqs lists) s (eqb-true held 0 z) in ap state_of (took F u seqs lists Idle o) ∙ load-save s sized octets flags)

  -- "16 and 17 leave every lent byte as it was"
  pub denied-keeps : (code : ℕ) → (held_step F s seqs lists).outcome ≡ Err code → state_stepped F s seqs lists ≡ s
  unfolding state_stepped
  denied-keeps code o = rw o

-- ── a packet
-- a refused packet changes the ledger alone
refused-unit : (F : Format) (u : Unit) (seqs lists out p : List ℕ) → (code_of F u seqs lists out p ≡ 0 → ⊥) → with_ledger (unit_after F u seqs lists out p).ledger u ≡ unit_after F u seqs lists out p
refused-unit F u seqs lists out p n =
    let k = refused-keeps F u seqs lists out p 0 n in
    λ i. record { ledger = (unit_after F u seqs lists out p).ledger; control = sym k.control i; watch = sym k.watch i; runner = sym k.runner i }

-- a code of the unit's own rules: the bytes are not refused before them
passed-by : (held code : ℕ) → ((held ≡ 0 → ⊥) → 16 ≤ held) → cond (eqb held 0) code held ≤ 10 → (held ≡ 0) × (cond (eqb held 0) code held ≡ code)
passed-by zero code k h = (refl, refl)
passed-by (suc n) code k h =
    let high = k (λ z. omega arith) in
    let low = simp (ne_eqb (suc n) 0 (λ z. omega arith)) at h in
    absurd (omega arith)

-- the bytes that a refusal does not count in: all but 4 to 9 and 11 to 14
abbrev pub Beside : ℕ → Type 0
Beside i = (i < 4) ⊎ ((i ≡ 10) ⊎ (14 < i))

beside : (x y : List ℕ) → take 4 x ≡ take 4 y → get_or x 10 0 ≡ get_or y 10 0 → drop 15 x ≡ drop 15 y → (i : ℕ) → Beside i → get_or x i 0 ≡ get_or y i 0
beside x y a b d i (inl h) = sym (get_or-take 4 x i 0 h) ∙ ap (λ (l : List ℕ). get_or l i 0) a ∙ get_or-take 4 y i 0 h
beside x y a b d i (inr (inl h)) = rw h b
beside x y a b d i (inr (inr h)) =
    let e : 15 + (i - 15) ≡ i = omega arith in
    rw (← e) (sym (get_or-drop 15 x (i - 15) 0) ∙ ap (λ (l : List ℕ). get_or l (i - 15) 0) d ∙ get_or-drop 15 y (i - 15) 0)

ledger-beside : (l : Ledger) (u : Unit) (i : ℕ) → Beside i → get_or (state_of (with_ledger l u)) i 0 ≡ get_or (state_of u) i 0
unfolding state_of
ledger-beside l u = beside (state_of (with_ledger l u)) (state_of u) refl refl refl

module _ (F : Format) (s : List ℕ) (time : ℕ) (seqs lists out p : List ℕ) where
  -- no table and no output is written
  pub record Unwritten : Type 0 where
    pub sequences : kept_seqs F s seqs lists out p ≡ seqs
    pub linelists : kept_lists F s seqs lists out p ≡ lists
    pub output : kept_out F s time seqs lists out p ≡ out

  unwritten : (packet_code F s seqs lists out p ≡ 0 → ⊥) → Unwritten
  unfolding kept_seqs kept_lists kept_out
  unwritten n = let e = ne_eqb (packet_code F s seqs lists out p) 0 n in record { sequences = simp e; linelists = simp e; output = simp e }

  high-keeps : 16 ≤ packet_code F s seqs lists out p → (state_after F s seqs lists out p ≡ s) × Unwritten
  unfolding state_after
  high-keeps h = (simp (le-leb 16 (packet_code F s seqs lists out p) h), unwritten (λ z. omega arith))

  -- "16 and 17 leave every lent byte as it was."
  pub sixteen-keeps : packet_code F s seqs lists out p ≡ 16 → (state_after F s seqs lists out p ≡ s) × Unwritten
  sixteen-keeps e = high-keeps (omega arith)

  pub seventeen-keeps : packet_code F s seqs lists out p ≡ 17 → (state_after F s seqs lists out p ≡ s) × Unwritten
  seventeen-keeps e = high-keeps (omega arith)

  -- a refused packet changes no byte of the state but those of the counts, the failure and the log
  pub refused-bytes : Octets s → 1 ≤ packet_code F s seqs lists out p → packet_code F s seqs lists out p ≤ 10
      → ((i : ℕ) → Beside i → get_or (state_after F s seqs lists out p) i 0 ≡ get_or s i 0) × Unwritten
  unfolding packet_code state_after
  refused-bytes octets low high =
      let lent = lent_wrong F seqs lists out in
      let u = unit_of s in
      let v = unit_after F u seqs lists out p in
      let (none, code) = passed-by (held_code lent s) (code_of F u seqs lists out p) (held_high lent s (held_code lent s) refl) high in
      let (sized, (flags, fits)) = held-passed lent s none in
      let part = refused-unit F u seqs lists out p (λ z. omega (arith, code)) in
      let after : state_after F s seqs lists out p ≡ state_of (with_ledger v.ledger u) = simp (lt-leb 16 (packet_code F s seqs lists out p) (omega arith)) (ap state_of (sym part)) in
      let before = load-save s sized octets flags in
      (λ i b. ap (λ (l : List ℕ). get_or l i 0) after ∙ ledger-beside v.ledger u i b ∙ ap (λ (l : List ℕ). get_or l i 0) before, unwritten (λ z. omega arith))
