-- Every step keeps the runner in range, whatever the tables hold.
-- Assumes nothing.
use Rattle.std.specs.Prelude.{Some, None, Result, Option}
use Prim.Native.Nat.{ℕ, zero, suc, ◌+◌, ◌≤◌, ◌<◌}
use native.Mathlib.Omega.{arith}
use mathlib.Core.Path.{◌≡◌, refl, subst, sym, ap}
use mathlib.Core.Bool.{Bool, true, false, cond, false≢true}
use mathlib.Core.List.{List}
use mathlib.Core.Logic.{inl, inr}
use lib.Dec.{ltb, eqb}
use borrow.Author.Tests.{ltb-true, ltb-false}
use Rattle.memory.specs.declared.Format.{Format}
use Rattle.memory.specs.declared.Place.{Place}
use Rattle.memory.specs.Memory.{place_at}
use Rattle.sequence.specs.declared.Fault.{Fault}
use Rattle.sequence.specs.declared.Command.{Command}
use Rattle.sequence.specs.declared.Command.TheVariants.{RunRaster, Expose, LoopBack, Delay}
use Rattle.sequence.specs.Text.{fault, command_at, size_of, number_of}
use Rattle.sequence.specs.Raster.{raster_at, start_of, strays}
use Rattle.sequence.proofs.Paths.{start-reaches}
use Rattle.sequence.specs.Env.{Env, text_of}
use Rattle.runner.specs.declared.Runner.{Runner}
use Rattle.runner.specs.declared.Stepped.{Stepped}
use Rattle.runner.specs.declared.Event.TheVariants.{Idle}
use Rattle.runner.specs.declared.Opened.{Opened}
use Rattle.runner.specs.declared.Act.{Act}
use Rattle.runner.specs.Judge.{repeat_begun, set_of, judge}
use Rattle.runner.specs.Step.{to, open_by, open_of, past, aborted, entered_by, entered, begun, advances, exposed_at, exposed, looped, delayed, another, called, ended, act, step_in, step_of}
use Rattle.promises.specs.Range.{RunnerInRange, StepInRange}
use Rattle.promises.specs.Runs.{after_steps}
use Rattle.runner.proofs.Laws.{set-small}
use Rattle.promises.proofs.Text.Sound.{Sound}
use Rattle.promises.proofs.Text.Rules.{View, refused, opens, opens-again, exposes, loops, waits, calls, ends, view, size-some, header-case, place_inside}
use Rattle.promises.proofs.Text.Targets.{target-size}

-- the raster that a runner holds open stands at a place
open-held : (F : Format) (s : Runner) {r : Place} {c n : ℕ} → open_of F s ≡ Some (record { place = r; count = c; run = n }) → (s.raster.place < F.size) × (c ≡ s.raster.count)
open-held F s {r} {c} {n} = go (eqb s.raster.place 255) (ltb s.raster.place F.size) refl
  where
    count_in : Option Opened → ℕ
    count_in None = 0
    count_in (Some o) = o.count

    go : (none b : Bool) → ltb s.raster.place F.size ≡ b → cond none None (open_by (cond b (Some (place_at s.raster.place)) None) s.raster) ≡ Some (record { place = r; count = c; run = n })
        → (s.raster.place < F.size) × (c ≡ s.raster.count)
    go false true h e = (ltb-true s.raster.place F.size h, ap count_in (sym e))
    go false false h e = let z : ◌≡◌ {A = ℕ} 0 1 = cc in absurd (omega arith)
    go true b h e = let z : ◌≡◌ {A = ℕ} 0 1 = cc in absurd (omega arith)

-- either answer of a test
choose : {F : Format} (b : Bool) (x y : Stepped) → (b ≡ true → StepInRange F x) → (b ≡ false → StepInRange F y) → StepInRange F (cond b x y)
choose true x y f g = f refl
choose false x y f g = g refl

-- an entry has room for its header
module _ (E : Env) (room : 4 < E.format.size) (seqs : List ℕ) (s : Runner) (ok : RunnerInRange E.format s) where
  abbrev text : List ℕ
  text = text_of E seqs s.sequence

  abort-range : (f : Fault) → f.code ≤ 15 → f.place < E.format.size → StepInRange E.format (aborted f s)
  unfolding aborted
  abort-range f c h =
      (record { sequence = ok.sequence; place = h; raster = ok.raster; count = ok.count; mirror = ok.mirror; known = λ e. absurd (false≢true e) }, c)

  enter-range : StepInRange E.format (entered text s)
  unfolding entered
  enter-range =
      header-case (λ (h : Result ℕ Fault). StepInRange E.format (entered_by s h)) text
      (λ some e. (record { sequence = ok.sequence; place = omega arith; raster = ok.raster; count = ok.count; mirror = ok.mirror; known = ok.known }, tt))
      (λ code place c l e. abort-range (fault code place) c (omega arith))

  -- the command at this place, and so what comes after it, stands at a place
  next_place : (k : Command) → command_at text s.place ≡ k → 0 < size_of (number_of k) → past text s < E.format.size
  next_place k e h = (place_inside E seqs s.sequence s.place (size-some E text s.place k e h)).1

  begun-range : command_at text s.place ≡ RunRaster → Sound (raster_at text s.place) → strays (raster_at text s.place) (repeat_begun (open_of E.format s)) ≡ false
      → StepInRange E.format (begun E.format text s)
  unfolding begun size_of
  begun-range k g z =
      let raster = raster_at text s.place in
      let begins = repeat_begun (open_of E.format s) in
      let m : start_of raster begins ≤ 2400 = omega (arith, start-reaches raster begins z) in (
        record { sequence = ok.sequence; place = next_place RunRaster k (omega arith); raster = inl ok.place; count = omega arith; mirror = m; known = ok.known },
        (m, g.list),
      )

  exposed_at_lem : (t mirror : ℕ) → command_at text s.place ≡ Expose t → s.raster.count < 8 → mirror ≤ 2400 → StepInRange E.format (exposed_at (past text s) mirror s)
  unfolding size_of
  exposed_at_lem t mirror k c h = (
    record { sequence = ok.sequence; place = next_place (Expose t) k (omega arith); raster = ok.raster; count = omega arith; mirror = h; known = ok.known },
    ok.mirror,
  )

  exposed-range : (r : Place) (t : ℕ) → command_at text s.place ≡ Expose t → s.raster.count < set_of (raster_at text r.0) → StepInRange E.format (exposed text r s)
  unfolding exposed
  exposed-range r t k c =
      let raster = raster_at text r.0 in
      let l : s.raster.count < 8 = omega (arith, set-small raster) in
      choose (advances raster s) _ _
      (λ a. choose (ltb 2400 (s.mirror + raster.step)) _ _
      (λ h. abort-range (fault 14 s.place) (omega arith) ok.place)
      (λ h. exposed_at_lem t (s.mirror + raster.step) k l (ltb-false 2400 (s.mirror + raster.step) h)))
      (λ a. exposed_at_lem t s.mirror k l ok.mirror)

  looped-range : (t : ℕ) → command_at text s.place ≡ LoopBack t → s.raster.place < E.format.size → t < E.format.size → StepInRange E.format (looped text t s)
  unfolding looped size_of
  looped-range t k i l =
      choose (ltb 1 s.raster.passes) _ _
      (λ h. (record { sequence = ok.sequence; place = l; raster = ok.raster; count = omega arith; mirror = ok.mirror; known = ok.known }, tt))
      (λ h. choose (ltb 1 s.raster.repeats) _ _
      (λ h. (record { sequence = ok.sequence; place = omega arith; raster = ok.raster; count = ok.count; mirror = ok.mirror; known = ok.known }, tt))
      (λ h.
      (record { sequence = ok.sequence; place = next_place (LoopBack t) k (omega arith); raster = inr refl; count = ok.count; mirror = ok.mirror; known = ok.known }, tt)))

  another-range : StepInRange E.format (another s)
  another-range = (record { sequence = ok.sequence; place = omega arith; raster = ok.raster; count = ok.count; mirror = ok.mirror; known = ok.known }, tt)

  called-range : (n : ℕ) → StepInRange E.format (called E.format n s)
  unfolding called
  called-range n =
      choose (ltb 1 s.rounds) _ _ (λ h. another-range)
      (λ h. choose (ltb E.format.last n) _ _
      (λ l. abort-range (fault 4 s.place) (omega arith) ok.place)
      (λ l.
      let k = ltb-false E.format.last n l in
      (record { sequence = inl k; place = omega arith; raster = ok.raster; count = ok.count; mirror = ok.mirror; known = λ e. k }, tt)))

  ended-range : StepInRange E.format (ended s)
  unfolding ended
  ended-range =
      choose (ltb 1 s.rounds) _ _ (λ h. another-range)
      (λ h. (record { sequence = ok.sequence; place = ok.place; raster = ok.raster; count = ok.count; mirror = ok.mirror; known = λ e. absurd (false≢true e) }, tt))

  act-range : (o : Option Opened) (a : Act) → open_of E.format s ≡ o → View E text s.place o a → StepInRange E.format (act E.format text s a)
  unfolding act delayed size_of
  act-range o a e (refused {code} b) = abort-range (fault code s.place) b ok.place
  act-range o a e (opens k g) = begun-range k g (rw e (g.stays 0 g.repeats))
  act-range o a e (opens-again k g z h) = begun-range k g (rw e z)
  act-range o a e (exposes {r} {c} {t} k h) =
      let (i, w) = open-held E.format s e in
      exposed-range r t k (subst (λ (x : ℕ). x < set_of (raster_at text r.0)) w h)
  act-range o a e (loops {r} {t} k z g) =
      let (i, w) = open-held E.format s e in
      looped-range t k i (place_inside E seqs s.sequence t (target-size text r.0 s.place t g)).0
  act-range o a e (waits {t} k) =
      (record { sequence = ok.sequence; place = next_place (Delay t) k (omega arith); raster = ok.raster; count = ok.count; mirror = ok.mirror; known = ok.known }, tt)
  act-range o a e (calls {n} k) = called-range n
  act-range o a e (ends k) = ended-range

  pub step_range : StepInRange E.format (step_of E seqs s)
  unfolding step_of step_in
  step_range =
      choose s.running _ (to Idle s)
      (λ h. choose s.entering (entered text s) _ (λ h. enter-range)
      (λ h. act-range (open_of E.format s) (judge E.cards text s.place (open_of E.format s)) refl (view E text s.place (open_of E.format s))))
      (λ h. (ok, tt))

-- ── so after any number of steps
pub steps-range : (E : Env) → 4 < E.format.size → (seqs : List ℕ) (k : ℕ) (s : Runner) → RunnerInRange E.format s → RunnerInRange E.format (after_steps E seqs k s)
unfolding after_steps
steps-range E room seqs zero s ok = ok
steps-range E room seqs (suc k) s ok = steps-range E room seqs k (step_of E seqs s).runner (step_range E room seqs s ok).0
