-- A law for each way out of the calls, with the callees' equations as premises. Assumes nothing.
use Prim.Native.Nat.{ℕ, ◌+◌, ◌*◌, ◌≤◌}
use native.Mathlib.Omega.{arith}
use mathlib.Core.Path.{◌≡◌, refl, sym, ap, ◌∙◌}
use mathlib.Core.Bool.{Bool, true, false, cond}
use mathlib.Core.List.{List, [], ◌++◌}
use lib.Dec.{leb, eqb}
use lib.ListN.{length, drop}
use borrow.Author.Tests.{leb-true, le-leb, ne_eqb}
use Rattle.octets.proofs.LayoutLaws.{Octets}
use Rattle.octets.proofs.Bools.{either}
use Rattle.memory.specs.declared.Format.{Format}
use Rattle.memory.specs.Memory.{tables_wrong}
use Rattle.runner.specs.declared.Runner.{Runner}
use Rattle.runner.specs.declared.Event.{Event}
use Rattle.runner.specs.declared.Event.TheVariants.{Idle}
use Rattle.runner.specs.Events.{shown_as}
use Rattle.unit.specs.declared.Unit.{Unit}
use Rattle.telecommand.specs.declared.Telecommand.{Telecommand}
use Rattle.telecommand.specs.declared.Telecommand.TheVariants.{Status, Dump}
use Rattle.unit.specs.declared.Answer.{Answer}
use Rattle.std.specs.Prelude.{Ok, Err}
use Rattle.unit.specs.declared.UnitStep.{UnitStep}
use Rattle.unit.specs.State.{with_runner, out_of_range}
use Rattle.telecommand.specs.Packet.{is, command_of}
use Rattle.unit.specs.Packet.{lent_wrong, code_of}
use Rattle.unit.specs.Status.{status_of}
use Rattle.unit.specs.Answer.{reply, refused_unit, unit_after, reply_of, answer_of, seqs_after, lists_after, out_after}
use Rattle.unit.specs.Step.{stepped, unit_step}
use Rattle.telecommand.proofs.Ways.{dump-short}
use Rattle.state.specs.State.{unit_of, state_of}
use Rattle.state.specs.Parts.{answer_over, step_over}
use Rattle.state.proofs.Laws.{load-save, answer-saved, step-saved}
use Rattle.keel.specs.Calls.{held_code, packet_code, packet_reply, packet_answer, state_after, kept_seqs, kept_lists, kept_out, packed, denied_as, held_step, step_answer, state_stepped}
use Rattle.keel.proofs.Laws.{held_high, held-passed, Took, took, at_rest}

-- ── the unit
-- the unit that was read in two parts is the one that the bytes hold
pub whole : (s : List ℕ) (u : Unit) (r : Runner) → r ≡ (unit_of s).runner → u ≡ with_runner r (unit_of s) → u ≡ unit_of s
whole s u r e f = f ∙ ap (λ (x : Runner). with_runner x (unit_of s)) e

-- ── an answer's length
reply-short : (k : Telecommand) (u : Unit) (time : ℕ) (seqs lists p : List ℕ) → length (reply k u time seqs lists p) ≤ 16384
unfolding reply status_of
reply-short k u time seqs lists p =
    let P : List ℕ → Type 0 = λ l. length l ≤ 16384 in
    either P (is Status k) _ _ (omega arith) (either P (is Dump k) _ [] (dump-short seqs lists p) (omega arith))

-- what answers a packet is never longer than the least output that is lent
pub short : (F : Format) (u : Unit) (time : ℕ) (seqs lists out p : List ℕ) (a : Answer) → a ≡ answer_of F u time seqs lists out p → a.size ≤ 16384
unfolding reply_of answer_of
short F u time seqs lists out p a e =
    rw e (either (λ (l : List ℕ). length l ≤ 16384) (eqb (code_of F u seqs lists out p) 0) (reply (command_of p) u time seqs lists p) [] (reply-short (command_of p) u time seqs lists p) (omega arith))

-- ── a packet
twice : {A : Type 0} (t : Bool) (a b : A) → cond t (cond t a b) b ≡ cond t a b
twice true a b = refl
twice false a b = refl

-- an answer laid over the output, or none
over : (t : Bool) (r out : List ℕ) → cond t (cond t r [] ++ drop (length (cond t r [])) out) out ≡ cond t r [] ++ drop (length (cond t r [])) out
over true r out = refl
over false r out = refl

decided : (t : Bool) (x a b : List ℕ) → (t ≡ true → x ≡ a) → x ≡ b → x ≡ cond t a b
decided true x a b f g = f refl
decided false x a b f g = g

module _ (F : Format) (u : Unit) (time : ℕ) (seqs lists out p : List ℕ) (a : Answer) (e : a ≡ answer_of F u time seqs lists out p) where
  -- 16 and 17 leave the unit as it was
  pub answer-kept : 16 ≤ a.code → a.unit ≡ u
  unfolding answer_of unit_after refused_unit
  answer-kept h = let k = rw e at h in rw e (simp (ne_eqb (code_of F u seqs lists out p) 0 (λ z. omega arith), le-leb 16 (code_of F u seqs lists out p) k))

module _ (F : Format) (s : List ℕ) (time : ℕ) (seqs lists out p : List ℕ) where
  abbrev pub Answered : ℕ → List ℕ → List ℕ → List ℕ → List ℕ → Type 0
  Answered r s' seqs' lists' out' =
      (r ≡ packet_answer F s time seqs lists out p)
      × ((s' ≡ state_after F s seqs lists out p)
      × ((seqs' ≡ kept_seqs F s seqs lists out p)
      × ((lists' ≡ kept_lists F s seqs lists out p)
      × (out' ≡ kept_out F s time seqs lists out p))))

  module _ (lent : Bool) (held : ℕ) (size : lent ≡ lent_wrong F seqs lists out) (told : held ≡ held_code lent s) where
    holds : held ≡ held_code (lent_wrong F seqs lists out) s
    holds = told ∙ ap (λ (t : Bool). held_code t s) size

    -- the bytes are refused before they are read
    pub held_back : (held ≡ 0 → ⊥) → Answered held s seqs lists out
    unfolding packet_code packet_reply packet_answer state_after kept_seqs kept_lists kept_out
    held_back n =
        simp (← holds, ne_eqb held 0 n, le-leb 16 held (held_high lent s held told n)) (omega arith, (refl, (refl, (refl, refl))))

    -- the unit's answer stands, and its state where it is not refused with 16 or 17
    module _ (none : held ≡ 0) (u : Unit) (read : u ≡ unit_of s) (a : Answer) (seqs' lists' out' : List ℕ)
        (e : (a ≡ answer_of F u time seqs lists out p) × ((seqs' ≡ seqs_after F u seqs lists out p) × ((lists' ≡ lists_after F u seqs lists out p) × (out' ≡ out_after F u time seqs lists out p)))) where
      stands : (s' : List ℕ) → s' ≡ cond (leb 16 a.code) s (state_of a.unit) → Answered (a.code + 256 * a.size) s' seqs' lists' out'
      unfolding packet_code packet_reply packet_answer state_after kept_seqs kept_lists kept_out seqs_after lists_after out_after reply_of answer_of
      stands s' f =
          simp (← holds, none, ← read, f, e.1.0, e.1.1.0, e.1.1.1, e.0, twice, over) (refl, (refl, (refl, (refl, refl))))

      pub answered : (s' : List ℕ) → Octets s → s' ≡ answer_over a p s → Answered (a.code + 256 * a.size) s' seqs' lists' out'
      answered s' o w =
          let (sized, (flags, fits)) = held-passed lent s (sym told ∙ none) in
          let same : s ≡ state_of u = sym (ap state_of read ∙ load-save s sized o flags) in
          let f : s' ≡ state_of a.unit = w ∙ rw (same, e.0) (answer-saved F u time seqs lists out p) in
          stands s' (decided (leb 16 a.code) s' s (state_of a.unit) (λ h. f ∙ ap state_of (answer-kept F u time seqs lists out p a e.0 (leb-true 16 a.code h)) ∙ sym same) f)

-- ── a step
module _ (F : Format) (s seqs lists : List ℕ) where
  abbrev pub Stepped : ℕ → List ℕ → Type 0
  Stepped r s' = (r ≡ step_answer F s seqs lists) × (s' ≡ state_stepped F s seqs lists)

  module _ (lent : Bool) (held : ℕ) (size : lent ≡ tables_wrong F seqs lists) (told : held ≡ held_code lent s) where
    by_size : held ≡ held_code (tables_wrong F seqs lists) s
    by_size = told ∙ ap (λ (t : Bool). held_code t s) size

    pub step-held-back : (held ≡ 0 → ⊥) → Stepped (denied_as held) s
    unfolding held_step step_answer state_stepped
    step-held-back n = simp (← by_size, ne_eqb held 0 n) (refl, refl)

    module _ (none : held ≡ 0) (u : Unit) (read : u ≡ unit_of s) where
      module _ (r : UnitStep) (e : r ≡ unit_step F u seqs lists) where
        pub denies : (code : ℕ) → r.outcome ≡ Err code → Stepped (denied_as code) s
        unfolding held_step step_answer state_stepped
        denies code o = simp (← by_size, none, ← read, ← e, o) (refl, refl)

        sees : (event : Event) (s' : List ℕ) → r.outcome ≡ Ok event → s' ≡ state_of r.unit → Stepped (packed (shown_as r.unit.watch.exposures event)) s'
        unfolding held_step step_answer state_stepped
        sees event s' o f = simp (← by_size, none, ← read, ← e, o, f) (refl, refl)

      same : Octets s → s ≡ state_of u
      same octets = let (sized, (flags, fits)) = held-passed lent s (sym told ∙ none) in sym (ap state_of read ∙ load-save s sized octets flags)

      -- a unit that does not run: nothing is written
      module _ (still : u.runner.running ≡ false) where
        rests : unit_step F u seqs lists ≡ cond (out_of_range F u) (stepped (Err 17) u) (stepped (Ok Idle) u)
        rests = let (sized, (flags, fits)) = held-passed lent s (sym told ∙ none) in at_rest F u seqs lists (sym size ∙ fits) still

        pub refuses : out_of_range F u ≡ true → Stepped (denied_as 17) s
        refuses h = denies (stepped (Err 17) u) (sym (simp h at rests)) 17 refl

        pub idles : Octets s → out_of_range F u ≡ false → Stepped 0 s
        idles octets h = sees (stepped (Ok Idle) u) (sym (simp h at rests)) Idle s refl (same octets)

      -- a unit that runs: what the event moves is written
      pub moves-on : (r : UnitStep) → r ≡ unit_step F u seqs lists → Octets s → (event : Event) → r.outcome ≡ Ok event → (s' : List ℕ) → s' ≡ step_over event r.unit s → Stepped (packed (shown_as r.unit.watch.exposures event)) s'
      moves-on r e octets event saw s' f =
          let k : Took u event r.unit = rw e (took F u seqs lists event (rw e at saw)) in
          sees r e event s' saw (f ∙ rw (same octets) (ap (λ (v : Unit). step_over event v (state_of u)) k ∙ step-saved event u r.unit.runner ∙ ap state_of (sym k)))
