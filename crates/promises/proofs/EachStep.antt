-- Each step, proved: a command that no row refuses is judged as its act, and the act's definition does what is said.
-- Assumes nothing.
use Rattle.std.specs.Prelude.{Option, Some}
use Prim.Native.Nat.{ℕ, ◌+◌, ◌<◌}
use mathlib.Core.Path.{◌≡◌, refl, ap, subst, ◌∙◌}
use mathlib.Core.Bool.{Bool, true, false, ◌&&◌}
use mathlib.Core.List.{List, [], ◌∷◌, ◌++◌}
use lib.Dec.{ltb, eqb}
use borrow.Author.Tests.{lt-ltb, le-ltb, eq-eqb, ltb-true, eqb-true}
use Rattle.octets.specs.Rows.{Row, NoneHolds}
use Rattle.octets.proofs.Laws.{no_code}
use Rattle.octets.proofs.Bools.{and_both}
use Rattle.memory.specs.declared.Place.{Place}
use Rattle.sequence.specs.declared.Command.{Command}
use Rattle.sequence.specs.declared.Command.TheVariants.{RunRaster, Expose, LoopBack, CallSequence, Terminate, Delay}
use Rattle.sequence.specs.declared.RasterWords.{RasterWords}
use Rattle.sequence.specs.Text.{header_rows, header_of}
use Rattle.sequence.specs.Raster.{raster_at, start_of}
use Rattle.sequence.proofs.Paths.{start-whole}
use Rattle.sequence.specs.Env.{Env}
use Rattle.sequence.proofs.Laws.{Bytes, command-bytes}
use Rattle.runner.specs.declared.Runner.{Runner}
use Rattle.runner.specs.declared.Opened.{Opened}
use Rattle.runner.specs.declared.Act.{Act}
use Rattle.runner.specs.declared.Act.TheVariants.{Opens, Exposes, Loops, Waits, Calls, Ends}
use Rattle.runner.specs.Judge.{repeat_begun, set_of, run_rows, expose_rows, close_rows, judged, judge}
use Rattle.runner.specs.declared.Stepped.{Stepped}
use Rattle.runner.specs.declared.Event.{Event}
use Rattle.runner.specs.declared.Event.TheVariants.{Enter, Raster, Exp, Loop, Next, Done, Wait, Call, End}
use Rattle.runner.specs.Events.{Shown, shown_as}
use Rattle.runner.specs.Step.{to, open_of, entered, begun, advances, exposed, looped, delayed, called, ended, act, step_in, step_of}
use Rattle.runner.proofs.Exactly.{run-raster-exactly, expose-exactly, loop-back-exactly, call-exactly, terminate-exactly}
use Rattle.promises.specs.Library.{ours}
use Rattle.promises.specs.Demand2.{advance_rows, call_rows}
use Rattle.status.specs.State.{watched}
use Rattle.promises.specs.EachStep.{here, Obeys, Takes, EnterStep, RasterStep, ExposeAdvances, ExposeStays, LoopJumps, LoopRepeats, LoopCloses, DelayStep, CallRepeats, TerminateRepeats, CallMade, TerminateEnds}
use Rattle.promises.proofs.Text.Sound.{stay}

-- a step with this event shows what the event does
takes : {r : Stepped} {left : Runner} {seen : ℕ → Shown} (e : Event) → r ≡ to e left → ((count : ℕ) → shown_as count e ≡ seen count) → Takes r seen left
takes e p shown = record { shows = λ count. ap (λ (x : Stepped). shown_as count x.event) p ∙ shown count; leaves = ap (λ (x : Stepped). x.runner) p }

pub enter_step : EnterStep ours
unfolding step_of step_in entered header_of
enter_step E seqs s r e n = takes (Enter s.sequence) (simp (r, e, no_code (header_rows (here E seqs s)) n)) (λ count. refl)

-- of two tables, one after the other
front-rows : (rs more : List Row) → NoneHolds (rs ++ more) → NoneHolds rs
front-rows [] more n = tt
front-rows (r ∷ rs) more n = (n.0, front-rows rs more n.1)

back-rows : (rs more : List Row) → NoneHolds (rs ++ more) → NoneHolds more
back-rows [] more n = n
back-rows (r ∷ rs) more n = back-rows rs more n.1

-- ── a step at a command is what the runner does with its judgement
module _ (E : Env) (seqs : List ℕ) (s : Runner) where
  abbrev text : List ℕ
  text = here E seqs s

  abbrev Does : Act → Type 0
  Does a = step_of E seqs s ≡ act E.format text s a

  step-at : (k : Command) (a : Act) → Obeys E seqs s k → judged E.cards text s.place (open_of E.format s) k ≡ a → Does a
  unfolding step_of step_in judge
  step-at k a o j =
      simp (o.running, o.entered)
      (ap (λ (x : Command). act E.format text s (judged E.cards text s.place (open_of E.format s) x)) o.command ∙ ap (act E.format text s) j)

  at-raster : Obeys E seqs s RunRaster → Does Opens
  at-raster o = step-at RunRaster Opens o ((run-raster-exactly E.cards text s.place (open_of E.format s)).obeyed.1 o.accepted)

  at-loop : (t : ℕ) → Obeys E seqs s (LoopBack t) → Does (Loops t)
  at-loop t o = step-at (LoopBack t) (Loops t) o ((loop-back-exactly E.cards text s.place t (open_of E.format s)).obeyed.1 o.accepted)

  at-delay : (time : ℕ) → Obeys E seqs s (Delay time) → Does Waits
  unfolding judged
  at-delay time o = step-at (Delay time) Waits o refl

  at_call : (n : ℕ) → Obeys E seqs s (CallSequence n) → Does (Calls n)
  at_call n o =
      step-at (CallSequence n) (Calls n) o
      ((call-exactly E.cards text s.place n (open_of E.format s)).obeyed.1 (front-rows (close_rows text s.place (open_of E.format s)) (call_rows E.format s n) o.accepted))

  at-terminate : Obeys E seqs s Terminate → Does Ends
  at-terminate o = step-at Terminate Ends o ((terminate-exactly E.cards text s.place (open_of E.format s)).obeyed.1 o.accepted)

  module _ (time : ℕ) (r : Place) (c n : ℕ) (o : Obeys E seqs s (Expose time)) (held : open_of E.format s ≡ Some (record { place = r; count = c; run = n })) where
    none : NoneHolds (expose_rows text time (Some (record { place = r; count = c; run = n })) ++ advance_rows text s (Some (record { place = r; count = c; run = n })))
    none = subst (λ (x : Option Opened). NoneHolds (expose_rows text time x ++ advance_rows text s x)) held o.accepted

    at-expose : Does (Exposes r)
    at-expose =
        step-at (Expose time) (Exposes r) o
        (ap (λ (x : Option Opened). judged E.cards text s.place x (Expose time)) held
        ∙ (expose-exactly E.cards text s.place time (record { place = r; count = c; run = n })).obeyed.1 (front-rows (expose_rows text time (Some (record { place = r; count = c; run = n }))) (advance_rows text s (Some (record { place = r; count = c; run = n }))) none))

    in_reach : (advances (raster_at text r.0) s && ltb 2400 (s.mirror + (raster_at text r.0).step)) ≡ false
    in_reach = (back-rows (expose_rows text time (Some (record { place = r; count = c; run = n }))) (advance_rows text s (Some (record { place = r; count = c; run = n }))) none).0

-- ── the commands
pub raster-step : RasterStep ours
unfolding act begun run_rows
raster-step E seqs s o =
    let raster = raster_at (here E seqs s) s.place in
    let p = at-raster E seqs s o in
    let k = repeat_begun (open_of E.format s) in (
      takes (Raster raster.id (start_of raster k) raster.list) p (λ count. refl),
      start-whole raster k (stay E raster k o.accepted.1).1,
      λ w. ap (λ (x : Stepped). (watched x.event w).list) p,
    )

advances-told : (raster : RasterWords) (s : Runner) → advances raster s ≡ true → (1 < s.raster.passes) × (s.raster.count + 1 ≡ set_of raster)
unfolding advances
advances-told raster s e =
    let (p, q) = and_both (ltb 1 s.raster.passes) (eqb (s.raster.count + 1) (set_of raster)) e in
    (ltb-true 1 s.raster.passes p, eqb-true (s.raster.count + 1) (set_of raster) q)

advances-test : (raster : RasterWords) (s : Runner) → 1 < s.raster.passes → s.raster.count + 1 ≡ set_of raster → advances raster s ≡ true
unfolding advances
advances-test raster s h e = simp (lt-ltb 1 s.raster.passes h, eq-eqb (s.raster.count + 1) (set_of raster) e)

pub expose-advances : ExposeAdvances ours
unfolding act exposed
expose-advances E seqs s time r c n o held h e =
    let a = advances-test (raster_at (here E seqs s) r.0) s h e in
    let past = simp a at (in_reach E seqs s time r c n o held) in
    takes (Exp s.mirror) (at-expose E seqs s time r c n o held ∙ simp (a, past)) (λ count. refl)

pub expose-stays : ExposeStays ours
unfolding act exposed
expose-stays E seqs s time r c n o held f =
    let raster = raster_at (here E seqs s) r.0 in
    let stays : (b : Bool) → advances raster s ≡ b → b ≡ false =
    λ b e. elim b as (λ x. advances raster s ≡ x → x ≡ false) [ true ↦ λ e. let (p, q) = advances-told raster s e in absurd (f p q) | false ↦ λ e. refl ] e in
    takes (Exp s.mirror) (at-expose E seqs s time r c n o held ∙ simp (stays (advances raster s) refl)) (λ count. refl)

pub loop-jumps : LoopJumps ours
unfolding act looped
loop-jumps E seqs s t o h = takes (Loop t) (at-loop E seqs s t o ∙ simp (lt-ltb 1 s.raster.passes h)) (λ count. refl)

pub loop-repeats : LoopRepeats ours
unfolding act looped
loop-repeats E seqs s t o h k = takes Next (at-loop E seqs s t o ∙ simp (le-ltb 1 s.raster.passes h, lt-ltb 1 s.raster.repeats k)) (λ count. refl)

pub loop-closes : LoopCloses ours
unfolding act looped
loop-closes E seqs s t o h k = takes Done (at-loop E seqs s t o ∙ simp (le-ltb 1 s.raster.passes h, le-ltb 1 s.raster.repeats k)) (λ count. refl)

pub delay-step : DelayStep ours
unfolding act delayed
delay-step E seqs s time o =
    let operand = (subst (Bytes (here E seqs s) s.place) o.command (command-bytes (here E seqs s) s.place)).1 in
    takes (Wait time) (at-delay E seqs s time o ∙ simp operand) (λ count. refl)

pub call-repeats : CallRepeats ours
unfolding act called
call-repeats E seqs s n o h = takes Next (at_call E seqs s n o ∙ simp (lt-ltb 1 s.rounds h)) (λ count. refl)

pub terminate-repeats : TerminateRepeats ours
unfolding act ended
terminate-repeats E seqs s o h = takes Next (at-terminate E seqs s o ∙ simp (lt-ltb 1 s.rounds h)) (λ count. refl)

pub call-made : CallMade ours
unfolding act called
call-made E seqs s n o h =
    let low = simp (le-ltb 1 s.rounds h) at (back-rows (close_rows (here E seqs s) s.place (open_of E.format s)) (call_rows E.format s n) o.accepted).0 in
    takes (Call n) (at_call E seqs s n o ∙ simp (le-ltb 1 s.rounds h, low)) (λ count. refl)

pub terminate-ends : TerminateEnds ours
unfolding act ended
terminate-ends E seqs s o h = takes End (at-terminate E seqs s o ∙ simp (le-ltb 1 s.rounds h)) (λ count. refl)
