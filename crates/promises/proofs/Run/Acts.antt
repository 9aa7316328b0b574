-- A step of a run is decided by the rows that refuse it: with no row that holds it works, and with a code it aborts with that code. Every fact
-- of demands 1 and 2 about steps follows from this.
-- Assumes nothing.
use Rattle.std.specs.Prelude.{Ok, Err, Option, Some, None}
use Prim.Native.Nat.{ℕ, ◌+◌, ◌<◌}
use native.Mathlib.Omega.{arith}
use mathlib.Core.Path.{◌≡◌, refl, subst}
use mathlib.Core.Bool.{Bool, true, false, cond, not, ◌&&◌}
use mathlib.Core.List.{List, [], ◌++◌, append-nil}
use lib.Dec.{T, ltb, eqb}
use borrow.Author.Tests.{eqb-true, eqb-false}
use Rattle.octets.specs.Bytes.{byte_at}
use Rattle.octets.specs.Rows.{Row, first_code, coded}
use Rattle.octets.proofs.Bools.{choice}
use Rattle.octets.proofs.Laws.{first-joined}
use Rattle.memory.specs.declared.Place.{Place}
use Rattle.sequence.specs.declared.Command.{Command}
use Rattle.sequence.specs.declared.Command.TheVariants.{RunRaster, Expose, LoopBack, CallSequence, Terminate, Delay, Nothing, Unknown, Unfit}
use Rattle.sequence.specs.Text.{fault, header_rows, header_place, header_of, command_at}
use Rattle.sequence.specs.Raster.{raster_at}
use Rattle.sequence.specs.Env.{Env}
use Rattle.runner.specs.declared.Runner.{Runner}
use Rattle.runner.specs.declared.Stepped.{Stepped}
use Rattle.runner.specs.declared.Event.{Event}
use Rattle.runner.specs.declared.Opened.{Opened}
use Rattle.runner.specs.declared.Act.{Act}
use Rattle.runner.specs.declared.Act.TheVariants.{Refused, Opens, Exposes, Loops, Waits, Calls, Ends}
use Rattle.runner.specs.Judge.{path_rows, raster_rows, run_rows, expose_rows, loop_rows, close_rows, unless, judged, judge}
use Rattle.runner.specs.Step.{open_of, aborted, entered_by, entered, begun, advances, exposed, looped, delayed, called, ended, act, step_in}
use Rattle.runner.proofs.Exactly.{loop-coded}
use Rattle.promises.specs.Runs.{is_a, quiet}
use Rattle.promises.specs.Demand2.{advance_rows, call_rows, command_rows, rows_of_step, fault_place}

-- neither idle nor an abort
abbrev pub works : Event → Bool
works e = quiet e && not (is_a 0 e)

-- a code decides what a step from s comes to
pub record Decides (code : ℕ) (place : ℕ → ℕ) (s : Runner) (r : Stepped) : Type 0 where
  pub obeyed : code ≡ 0 → works r.event ≡ true
  pub refused : 0 < code → r ≡ aborted (fault code (place code)) s

-- either answer of a test works
either : (b : Bool) (x y : Stepped) → works x.event ≡ true → works y.event ≡ true → works (cond b x y).event ≡ true
either b x y h k = choice (λ (r : Stepped). works r.event ≡ true) b x y (λ _. h) (λ _. k)

module _ (place : ℕ → ℕ) (s : Runner) where
  -- what always works, and what always aborts
  at-work : (r : Stepped) → works r.event ≡ true → Decides 0 place s r
  at-work r w = record { obeyed = λ _. w; refused = λ h. absurd (omega arith) }

  at-fault : (k : ℕ) → 0 < k → Decides k place s (aborted (fault k (place k)) s)
  at-fault k h = record { obeyed = λ z. absurd (omega arith); refused = λ _. refl }

  -- a fault that a test finds, after another test went one way
  if-both : (a b : Bool) (k : ℕ) (x y : Stepped) → 0 < k → works x.event ≡ true → works y.event ≡ true
      → Decides (cond (a && b) k 0) place s (cond a (cond b (aborted (fault k (place k)) s) x) y)
  if-both true true k x y h v w = at-fault k h
  if-both true false k x y h v w = at-work x v
  if-both false b k x y h v w = at-work y w

  if-not : (a b : Bool) (k : ℕ) (x y : Stepped) → 0 < k → works x.event ≡ true → works y.event ≡ true
      → Decides (cond (not a && b) k 0) place s (cond a x (cond b (aborted (fault k (place k)) s) y))
  if-not true b k x y h v w = at-work x v
  if-not false true k x y h v w = at-fault k h
  if-not false false k x y h v w = at-work y w

module _ (E : Env) (text : List ℕ) (s : Runner) where
  abbrev does : Act → Stepped
  does a = act E.format text s a

  abbrev DecidesAct : ℕ → Act → Type 0
  DecidesAct code a = Decides code (λ _. s.place) s (does a)

  -- one code in front of another
  in-front : (k k' : ℕ) (a : Act) → DecidesAct k' a → DecidesAct (cond (not (eqb k 0)) k k') (unless k a)
  unfolding act
  in-front k k' a d = go (eqb k 0) refl
    where
      go : (b : Bool) → eqb k 0 ≡ b → DecidesAct (cond (not b) k k') (cond b a (Refused k))
      go true e = d
      go false e = record { obeyed = λ z. absurd (eqb-false k 0 e z); refused = λ h. refl }

  by_rows : (rs more : List Row) (a : Act) → T (coded rs) → DecidesAct (first_code more) a → DecidesAct (first_code (rs ++ more)) (unless (first_code rs) a)
  by_rows rs more a t d =
      let c = first_code rs in let c' = first_code more in
      subst (λ (n : ℕ). DecidesAct n (unless c a)) (first-joined rs more t c c' (cond (not (eqb c 0)) c c') refl refl refl) (in-front c c' a d)

  by-these : (rs : List Row) (a : Act) → T (coded rs) → works (does a).event ≡ true → DecidesAct (first_code rs) (unless (first_code rs) a)
  by-these rs a t w = rw append-nil at (by_rows rs [] a t (at-work (λ _. s.place) s (does a) w))

  -- ── the acts
  loops-work : (t : ℕ) → works (does (Loops t)).event ≡ true
  unfolding act looped
  loops-work t = either (ltb 1 s.raster.passes) _ _ refl (either (ltb 1 s.raster.repeats) _ _ refl refl)

  ends-work : works (does Ends).event ≡ true
  unfolding act ended
  ends-work = either (ltb 1 s.rounds) _ _ refl refl

  opens-work : works (does Opens).event ≡ true
  unfolding act begun
  opens-work = refl

  exposes-decide : (r : Place) → DecidesAct (first_code (advance_rows text s (Some (record { place = r; count = 0; run = 0 })))) (Exposes r)
  unfolding act exposed
  exposes-decide r = if-both (λ _. s.place) s (advances (raster_at text r.0) s) (ltb 2400 (s.mirror + (raster_at text r.0).step)) 14 _ _ (omega arith) refl refl

  calls-decide : (n : ℕ) → DecidesAct (first_code (call_rows E.format s n)) (Calls n)
  unfolding act called
  calls-decide n = if-not (λ _. s.place) s (ltb 1 s.rounds) (ltb E.format.last n) 4 _ _ (omega arith) refl refl

  -- ── the commands
  expose-coded : (time : ℕ) (o : Option Opened) → T (coded (expose_rows text time o ++ advance_rows text s o))
  unfolding expose_rows
  expose-coded time None = tt
  expose-coded time (Some o) = tt

  expose-decides : (time : ℕ) (o : Option Opened) → DecidesAct (first_code (expose_rows text time o ++ advance_rows text s o)) (judged E.cards text s.place o (Expose time))
  unfolding judged expose_rows act
  expose-decides time None = at-fault (λ _. s.place) s 3 (omega arith)
  expose-decides time (Some o) = by_rows (expose_rows text time (Some o)) (advance_rows text s (Some o)) (Exposes o.place) tt (exposes-decide o.place)

  command-decides : (k : Command) → DecidesAct (first_code (command_rows E text s k)) (judged E.cards text s.place (open_of E.format s) k)
  unfolding judged run_rows raster_rows path_rows close_rows act delayed
  command-decides RunRaster = by-these (run_rows E.cards text s.place (open_of E.format s)) Opens tt opens-work
  command-decides (Expose time) = expose-decides time (open_of E.format s)
  command-decides (LoopBack t) = by-these (loop_rows text s.place t (open_of E.format s)) (Loops t) (loop-coded text s.place t (open_of E.format s)) (loops-work t)
  command-decides (CallSequence n) = by_rows (close_rows text s.place (open_of E.format s)) (call_rows E.format s n) (Calls n) tt (calls-decide n)
  command-decides Terminate = by-these (close_rows text s.place (open_of E.format s)) Ends tt ends-work
  command-decides (Delay time) = at-work (λ _. s.place) s (does Waits) refl
  command-decides Nothing = at-fault (λ _. s.place) s 3 (omega arith)
  command-decides Unknown = at-fault (λ _. s.place) s 3 (omega arith)
  command-decides Unfit = at-fault (λ _. s.place) s 3 (omega arith)

  -- ── entering
  enter-decides : Decides (first_code (header_rows text)) header_place s (entered text s)
  unfolding entered header_of
  enter-decides = go (first_code (header_rows text)) (eqb (first_code (header_rows text)) 0) refl
    where
      go : (k : ℕ) (b : Bool) → eqb k 0 ≡ b → Decides k header_place s (entered_by s (cond b (Ok (byte_at text 3)) (Err (fault k (header_place k)))))
      go k true e = record { obeyed = λ _. refl; refused = λ h. absurd (omega (arith, eqb-true k 0 e)) }
      go k false e = record { obeyed = λ z. absurd (eqb-false k 0 e z); refused = λ _. refl }

  pub step-decides : Decides (first_code (rows_of_step E text s)) (fault_place s) s (step_in E text s)
  unfolding step_in judge
  step-decides = go s.entering
    where
      go : (b : Bool) → Decides (first_code (cond b (header_rows text) (command_rows E text s (command_at text s.place)))) (λ c. cond b (header_place c) s.place) s
          (cond b (entered text s) (act E.format text s (judged E.cards text s.place (open_of E.format s) (command_at text s.place))))
      go true = enter-decides
      go false = command-decides (command_at text s.place)

  -- no row bears 0
  command-coded : (k : Command) → T (coded (command_rows E text s k))
  unfolding run_rows raster_rows path_rows close_rows
  command-coded RunRaster = tt
  command-coded (Expose time) = expose-coded time (open_of E.format s)
  command-coded (LoopBack t) = loop-coded text s.place t (open_of E.format s)
  command-coded (CallSequence n) = tt
  command-coded Terminate = tt
  command-coded (Delay time) = tt
  command-coded Nothing = tt
  command-coded Unknown = tt
  command-coded Unfit = tt

  pub step-coded : T (coded (rows_of_step E text s))
  unfolding header_rows
  step-coded = go s.entering
    where
      go : (b : Bool) → T (coded (cond b (header_rows text) (command_rows E text s (command_at text s.place))))
      go true = tt
      go false = command-coded (command_at text s.place)
