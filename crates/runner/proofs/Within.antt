-- A judgement comes from the bytes that are read of a text, and one that is no refusal tells what stands there. Assumes nothing.
use native.Mathlib.Omega.{arith}
use Prim.Native.Nat.{ℕ, ◌+◌, ◌≤◌}
use mathlib.Core.Path.{◌≡◌, refl}
use mathlib.Core.Bool.{false}
use mathlib.Core.List.{List}
use lib.Dec.{T, ltb, eqb}
use borrow.Author.Tests.{ltb-false, eqb-true, not-false}
use Rattle.std.specs.Prelude.{Option, Some, None, Ok, Err}
use Rattle.std.proofs.lemmas.Bool.Decides.{nat_tests}
use Rattle.octets.specs.Rows.{Row, first_code, NoneHolds, coded}
use Rattle.octets.proofs.Laws.{none-holds}
use Rattle.octets.proofs.Bools.{by-test, choice}
use Rattle.sequence.specs.declared.Command.{Command}
use Rattle.sequence.specs.declared.Command.TheVariants.{RunRaster, Expose, LoopBack, CallSequence, Terminate, Delay, Nothing, Unknown, Unfit}
use Rattle.sequence.specs.declared.Marks.{Marks}
use Rattle.sequence.specs.Text.{limit, size_at, command_at, is_run_raster}
use Rattle.sequence.specs.Raster.{raster_at}
use Rattle.sequence.specs.LineList.{ListCard, card_shown}
use Rattle.sequence.specs.Within.{Alike}
use Rattle.sequence.proofs.Within.{is-run, limit-alike, command-alike, size-alike, raster-alike, target-alike}
use Rattle.runner.specs.declared.Opened.{Opened}
use Rattle.runner.specs.declared.Act.{Act}
use Rattle.runner.specs.declared.Act.TheVariants.{Refused, Opens, Exposes, Loops, Waits, Calls, Ends}
use Rattle.runner.specs.Judge.{run_rows, raster_rows, path_rows, expose_rows, loop_rows, close_rows, unless, judged, judge}

-- ── texts that are alike are judged alike: where no run raster stands at the open raster's place, the first row refuses in both
module _ {text text' : List ℕ} (a : Alike text text') where
  expose-alike : (time : ℕ) (o : Option Opened) → first_code (expose_rows text' time o) ≡ first_code (expose_rows text time o)
  unfolding expose_rows
  expose-alike time None = refl
  expose-alike time (Some o) =
      by-test (is_run_raster (command_at text o.place.0))
      (λ t. rw (command-alike a o.place.0, raster-alike a o.place.0 (is-run (command_at text o.place.0) t)))
      (λ t. rw (command-alike a o.place.0, t))

  loop-alike : (p t : ℕ) (o : Option Opened) → first_code (loop_rows text' p t o) ≡ first_code (loop_rows text p t o)
  unfolding loop_rows
  loop-alike p t None = refl
  loop-alike p t (Some o) =
      by-test (is_run_raster (command_at text o.place.0))
      (λ b. rw (command-alike a o.place.0, raster-alike a o.place.0 (is-run (command_at text o.place.0) b), target-alike a o.place.0 p t))
      (λ b. rw (command-alike a o.place.0, b))

  close-alike : (p : ℕ) (o : Option Opened) → first_code (close_rows text' p o) ≡ first_code (close_rows text p o)
  unfolding close_rows
  close-alike p o = rw (size-alike a p, limit-alike a)

  module _ (cards : ℕ → ListCard) (p : ℕ) (o : Option Opened) where
    judged-alike : (k : Command) → command_at text p ≡ k → judged cards text' p o k ≡ judged cards text p o k
    unfolding judged run_rows
    judged-alike RunRaster e = rw (raster-alike a p e)
    judged-alike (Expose t) e = rw (expose-alike t o)
    judged-alike (LoopBack t) e = rw (loop-alike p t o)
    judged-alike (CallSequence n) e = rw (close-alike p o)
    judged-alike Terminate e = rw (close-alike p o)
    judged-alike (Delay t) e = refl
    judged-alike Nothing e = refl
    judged-alike Unknown e = refl
    judged-alike Unfit e = refl

    -- whatever raster is open
    pub judge-alike : judge cards text' p o ≡ judge cards text p o
    unfolding judge
    judge-alike = rw (command-alike a p) (judged-alike (command_at text p) refl)

-- ── what an act tells of the text
-- a run raster stands where the raster was opened
abbrev pub OnRaster : List ℕ → Option Opened → Type 0
OnRaster text None = Unit {0}
OnRaster text (Some o) = command_at text o.place.0 ≡ RunRaster

-- a loop back closes a run raster's raster; a closing command ends at the checksum
abbrev pub Tells : List ℕ → ℕ → Option Opened → Act → Type 0
Tells text p o (Refused code) = Unit {0}
Tells text p o Opens = Unit {0}
Tells text p o (Exposes r) = Unit {0}
Tells text p o (Loops t) = OnRaster text o
Tells text p o Waits = Unit {0}
Tells text p o (Calls n) = p + size_at text p ≡ limit text
Tells text p o Ends = p + size_at text p ≡ limit text

module _ (cards : ℕ → ListCard) (text : List ℕ) (p : ℕ) where
  tells-unless : (o : Option Opened) (rs : List Row) (a : Act) → T (coded rs) → (NoneHolds rs → Tells text p o a) → Tells text p o (unless (first_code rs) a)
  tells-unless o rs a t f = choice (Tells text p o) (eqb (first_code rs) 0) a _ (λ e. f (none-holds rs t (eqb-true (first_code rs) 0 e))) (λ _. tt)

  tells-judged : (o : Option Opened) (k : Command) → Tells text p o (judged cards text p o k)
  unfolding judged run_rows raster_rows path_rows expose_rows loop_rows close_rows
  tells-judged o RunRaster = tells-unless o (run_rows cards text p o) Opens tt (λ _. tt)
  tells-judged None (Expose t) = tt
  tells-judged (Some o) (Expose t) = tells-unless (Some o) (expose_rows text t (Some o)) (Exposes o.place) tt (λ _. tt)
  tells-judged None (LoopBack t) = tt
  tells-judged (Some o) (LoopBack t) = tells-unless (Some o) (loop_rows text p t (Some o)) (Loops t) tt (λ h. is-run _ (not-false _ h.0))
  tells-judged o (CallSequence n) = tells-unless o (close_rows text p o) (Calls n) tt (λ h. eqb-true _ _ (not-false _ h.1.0))
  tells-judged o Terminate = tells-unless o (close_rows text p o) Ends tt (λ h. eqb-true _ _ (not-false _ h.1.0))
  tells-judged o (Delay t) = tt
  tells-judged o Nothing = tt
  tells-judged o Unknown = tt
  tells-judged o Unfit = tt

  -- what the judgement at a place tells
  pub tells : (o : Option Opened) → Tells text p o (judge cards text p o)
  unfolding judge
  tells o = tells-judged o (command_at text p)

-- ── a run raster that is obeyed names a line list that the table has, and that is good
-- an act that is no refusal
abbrev pub Obeyed : Act → Type 0
Obeyed (Refused code) = ⊥
Obeyed Opens = Unit {0}
Obeyed (Exposes r) = Unit {0}
Obeyed (Loops t) = Unit {0}
Obeyed Waits = Unit {0}
Obeyed (Calls n) = Unit {0}
Obeyed Ends = Unit {0}

-- the test's answer is 0 of a good list only
good-shown : (card : ListCard) → ltb 0 (card_shown card).number ≡ false → (marks : Marks) × (card ≡ Ok marks)
good-shown (Ok marks) e = (marks, refl)
good-shown (Err bad) e = grind (arith, nat_tests)

-- the table has this line list, and it is good
abbrev pub ListGood : (ℕ → ListCard) → ℕ → Type 0
ListGood cards k = (k ≤ 47) × ((marks : Marks) × (cards k ≡ Ok marks))

module _ (cards : ℕ → ListCard) (text : List ℕ) (p : ℕ) (o : Option Opened) where
  run-good : NoneHolds (run_rows cards text p o) → ListGood cards (raster_at text p).list
  unfolding run_rows raster_rows
  run-good h = (ltb-false 47 _ h.1.1.1.1.1.0, good-shown _ h.1.1.1.1.1.1.0)

  run-obeyed : (code : ℕ) → Obeyed (unless code Opens) → code ≡ 0
  run-obeyed code y = by-test (eqb code 0) (eqb-true code 0) (λ e. absurd (rw e at y))

  -- the run raster that stands there, whatever raster is open
  pub list-good : Obeyed (judge cards text p o) → command_at text p ≡ RunRaster → ListGood cards (raster_at text p).list
  unfolding judge judged run_rows raster_rows path_rows
  list-good y e = run-good (none-holds (run_rows cards text p o) tt (run-obeyed (first_code (run_rows cards text p o)) (rw e at y)))
