-- Demand 1, proved: a code that is not 0 leaves the answer's other cases to the definitions, and a step's outcome tells which way it went.
-- Assumes nothing.
use Rattle.std.specs.Prelude.{Ok, Err}
use Prim.Native.Nat.{ℕ, ◌≤◌, ◌<◌}
use native.Mathlib.Omega.{arith}
use mathlib.Core.Path.{◌≡◌, refl, sym, ap, subst}
use mathlib.Core.Bool.{Bool, true, false, cond, ◌&&◌}
use mathlib.Core.List.{List, [], ◌∷◌}
use mathlib.Core.Logic.{◌⊎◌, inl, inr}
use borrow.Author.Tests.{lt-leb, ne_eqb}
use Rattle.octets.specs.Rows.{Row, first_code}
use Rattle.octets.proofs.Bools.{and_both}
use Rattle.sequence.specs.Starts.{among}
use Rattle.memory.specs.declared.Format.{Format}
use Rattle.sequence.specs.Env.{env_of}
use Rattle.runner.specs.declared.Event.TheVariants.{Idle}
use Rattle.runner.specs.declared.Stepped.{Stepped}
use Rattle.runner.specs.Step.{to}
use Rattle.runner.proofs.Laws.{step-idle}
use Rattle.unit.specs.declared.Unit.{Unit as ControlUnit}
use Rattle.unit.specs.declared.UnitStep.{UnitStep}
use Rattle.status.specs.State.{arrived, failed}
use Rattle.unit.specs.State.{with_ledger}
use Rattle.telecommand.specs.declared.Telecommand.{Telecommand}
use Rattle.telecommand.specs.declared.Telecommand.TheVariants.{Status, Dump, Allow, Mode, Clear, Select, Uplink, Foreign, Unheard}
use Rattle.telecommand.specs.Packet.{telecommand_of}
use Rattle.unit.specs.Packet.{own_rows, packet_rows, code_of}
use Rattle.unit.specs.Answer.{refused_unit, unit_after, reply_of, answer_of}
use Rattle.unit.specs.Step.{with_step}
use Rattle.unit.proofs.Laws.{sixteen-on}
use Rattle.unit.proofs.Laws.{refused-keeps as kept}
use Rattle.promises.specs.Library.{ours}
use Rattle.promises.specs.Runs.{idle}
use Rattle.promises.specs.Sent.{Sent, code, unit_left, bc1, TablesKept, NoAnswer}
use Rattle.promises.specs.Demand1.{answers, NoOtherCode, Refused, RefusedKeeps, Unchanged, SixteenKeeps, SeventeenKeeps, DeniedKeeps, IdleKeeps}
use Rattle.promises.proofs.Run.Events.{outcome-shown}
use Rattle.promises.proofs.Packets.Exactly.{step_case}
use Rattle.promises.proofs.Run.Faults.{idle-stops}

-- ── the codes
-- the code of each row is among the answers
abbrev coded : List Row → Bool
coded [] = true
coded (r ∷ rs) = among r.code answers && coded rs

first-coded : (rs : List Row) → coded rs ≡ true → among (first_code rs) answers ≡ true
unfolding among
first-coded [] h = refl
first-coded (r ∷ rs) h = let (a, b) = and_both (among r.code answers) (coded rs) h in go r.holds a (first-coded rs b)
  where
    go : (t : Bool) → among r.code answers ≡ true → among (first_code rs) answers ≡ true → among (cond t r.code (first_code rs)) answers ≡ true
    go true a b = a
    go false a b = b

own-coded : (F : Format) (k : Telecommand) (u : ControlUnit) (p : List ℕ) → coded (own_rows F k u p) ≡ true
unfolding own_rows among
own-coded F Status u p = refl
own-coded F Dump u p = refl
own-coded F Allow u p = refl
own-coded F Mode u p = refl
own-coded F Clear u p = refl
own-coded F Select u p = refl
own-coded F Uplink u p = refl
own-coded F Foreign u p = refl
own-coded F Unheard u p = refl

pub no-other-code : (F : Format) → NoOtherCode F ours
unfolding answer_of code_of packet_rows among
no-other-code F s = first-coded (packet_rows F s.unit s.seqs s.lists s.out s.bytes) (own-coded F (telecommand_of (bc1 s)) s.unit s.bytes)

-- ── a packet that is not obeyed
module _ {F : Format} (s : Sent F) (refused : code ours s ≡ 0 → ⊥) where
  keeps-tables : TablesKept ours s
  unfolding answer_of
  keeps-tables =
      let k = kept F s.unit s.seqs s.lists s.out s.bytes s.time refused in
      record { sequences = k.sequences; line_lists = k.linelists }

  says_nothing : NoAnswer ours s
  unfolding answer_of reply_of
  says_nothing =
      let c = code_of F s.unit s.seqs s.lists s.out s.bytes in
      record {
        size = simp (ne_eqb c 0 refused);
        output = (kept F s.unit s.seqs s.lists s.out s.bytes s.time refused).output;
      }

module _ {F : Format} (s : Sent F) (some : 0 < code ours s) (below : code ours s < 16) where
  counted-failed : unit_left ours s ≡ with_ledger (failed (bc1 s) (code ours s) (arrived s.bytes s.unit.ledger)) s.unit
  unfolding answer_of unit_after refused_unit
  counted-failed =
      let c = code_of F s.unit s.seqs s.lists s.out s.bytes in
      simp (ne_eqb c 0 (λ z. omega arith), lt-leb 16 c below)

pub refused-keeps : (F : Format) → RefusedKeeps F ours
refused-keeps F s some below = (
  subst (Refused s.bytes (code ours s) s.unit) (sym (counted-failed s some below))
      (record { received = refl; failed = refl; number = refl; code = refl; log = refl; control = refl; watch = refl; runner = refl }),
  keeps-tables s (λ z. omega arith),
  says_nothing s (λ z. omega arith),
)

nothing-changed : {F : Format} (s : Sent F) → 16 ≤ code ours s → Unchanged ours s
unfolding answer_of
nothing-changed {F} s h =
    (sixteen-on F s.unit s.seqs s.lists s.out s.bytes h, keeps-tables s (λ z. omega arith), says_nothing s (λ z. omega arith))

pub sixteen-keeps : (F : Format) → SixteenKeeps F ours
sixteen-keeps F s e = nothing-changed s (omega arith)

pub seventeen-keeps : (F : Format) → SeventeenKeeps F ours
seventeen-keeps F s e = nothing-changed s (omega arith)

-- ── steps
pub denied-keeps : (F : Format) → DeniedKeeps F ours
unfolding with_step
denied-keeps F u seqs lists c =
    step_case F (λ (x : UnitStep). x.outcome ≡ Err c → ((c ≡ 16) ⊎ (c ≡ 17)) × (x.unit ≡ u)) u seqs lists
    (λ e. let z : ◌≡◌ {A = ℕ} 0 1 = cc in absurd (omega arith))
    (λ e. (inl (cc), refl))
    (λ e. (inr (cc), refl))

-- an idle step taken into the unit is the unit
with-step-idle : (u : ControlUnit) (r : Stepped) → r ≡ to Idle u.runner → (with_step u r).unit ≡ u
unfolding with_step
with-step-idle u r e = ap (λ (x : Stepped). (with_step u x).unit) e

pub idle-keeps : (F : Format) → IdleKeeps F ours
unfolding with_step
idle-keeps F u seqs lists h =
    let E = env_of F lists in
    step_case F (λ (x : UnitStep). x.outcome ≡ Ok Idle → x.unit ≡ u) u seqs lists
    (λ e. with-step-idle u _ (sym (step-idle E seqs u.runner (idle-stops E seqs u.runner (cc)))))
    (λ e. refl)
    (λ e. refl) (outcome-shown (ours.steps F u seqs lists).outcome idle h refl)
