-- Which run rasters come to the test of their line list: of any other command, and of one that is refused before it, no line list's card matters.
-- Assumes nothing.
use Prim.Native.Nat.{ℕ, ◌≤◌}
use native.Mathlib.Omega.{arith}
use mathlib.Core.Path.{◌≡◌, refl, sym, ap, ◌∙◌}
use mathlib.Core.Bool.{true, false, false≢true}
use mathlib.Core.List.{List, [], ◌∷◌, ◌++◌}
use mathlib.Core.Logic.{◌⊎◌, inl, inr, ⊎_elim}
use lib.Dec.{ltb, eqb}
use borrow.Author.Tests.{ltb-false, eqb-true, eqb-false}
use Rattle.std.specs.Prelude.{Option, Some, None}
use Rattle.octets.specs.Rows.{Row, row, first_code}
use Rattle.octets.proofs.Bools.{and_both, by-test, choice}
use Rattle.sequence.specs.declared.Command.{Command}
use Rattle.sequence.specs.declared.Command.TheVariants.{RunRaster, Expose, LoopBack, CallSequence, Terminate, Delay, Nothing, Unknown, Unfit}
use Rattle.sequence.specs.Text.{command_at, is_run_raster}
use Rattle.sequence.specs.Raster.{raster_at}
use Rattle.sequence.specs.LineList.{ListCard, card_shown}
use Rattle.octets.proofs.Laws.{none-holds, first-bears}
use Rattle.sequence.proofs.Within.{is-run}
use Rattle.runner.proofs.Laws.{first_kept}
use Rattle.runner.proofs.Exactly.{nowhere}
use Rattle.runner.specs.declared.Opened.{Opened}
use Rattle.runner.specs.declared.Act.{Act}
use Rattle.runner.specs.declared.Act.TheVariants.{Refused, Opens, Exposes, Loops, Waits, Calls, Ends}
use Rattle.runner.specs.Judge.{open_elsewhere, repeat_begun, count_rows, path_rows, flag_rows, raster_rows, run_rows, expose_rows, loop_rows, close_rows, tests_list, unless, exposes_in, judged, judge}

module _ (text : List ℕ) (p : ℕ) (o : Option Opened) where
  -- ── the rows before the test of the line list, and those from it on
  abbrev before : List Row
  before = row 3 (open_elsewhere p o) ∷ (count_rows (raster_at text p) ++ (row 6 (ltb 47 (raster_at text p).list) ∷ []))

  abbrev after : (ℕ → ListCard) → List Row
  after cards =
      let raster = raster_at text p in
      row 7 (ltb 0 (card_shown (cards raster.list)).number) ∷ (path_rows raster (repeat_begun o) ++ flag_rows cards raster)

  in_order : (cards : ℕ → ListCard) → run_rows cards text p o ≡ before ++ after cards
  unfolding run_rows raster_rows
  in_order cards = refl

  -- a run raster that comes to the test names a line list that the table has
  pub tests-run : tests_list text p o ≡ true → (command_at text p ≡ RunRaster) × ((raster_at text p).list ≤ 47)
  unfolding tests_list
  tests-run t =
      let (run, none) = and_both (is_run_raster (command_at text p)) (eqb (first_code before) 0) t in
      (is-run (command_at text p) run, ltb-false 47 _ (none-holds before tt (eqb-true (first_code before) 0 none)).1.1.1.1.1.0)

  module _ (run : command_at text p ≡ RunRaster) where
    -- one that no row before it refuses comes to the test
    comes-to : first_code before ≡ 0 → tests_list text p o ≡ true
    unfolding tests_list
    comes-to z = rw (run, z)

    -- so does one that is obeyed, and one that is refused with 7
    comes-by : (cards : ℕ → ListCard) (code : ℕ) → (code ≡ 0) ⊎ (code ≡ 7) → first_code (run_rows cards text p o) ≡ code → tests_list text p o ≡ true
    comes-by cards code is e =
        by-test (eqb (first_code before) 0) (λ z. comes-to (eqb-true (first_code before) 0 z))
        (λ n. let k = sym (first_kept before (after cards) (eqb-false (first_code before) 0 n)) ∙ ap first_code (sym (in_order cards)) ∙ e in
        absurd (⊎_elim (λ z. eqb-false (first_code before) 0 n (k ∙ z)) (λ z. nowhere 7 before tt (first-bears before 7 (omega arith) (k ∙ z))) is))

    -- of one that does not, no card matters
    same_rows : (cards cards' : ℕ → ListCard) → (tests_list text p o ≡ true → cards' (raster_at text p).list ≡ cards (raster_at text p).list)
        → first_code (run_rows cards' text p o) ≡ first_code (run_rows cards text p o)
    same_rows cards cards' same =
        by-test (eqb (first_code before) 0) (λ z. rw (in_order cards', in_order cards, same (comes-to (eqb-true (first_code before) 0 z))))
        (λ n. let kept = λ (cs : ℕ → ListCard). ap first_code (in_order cs) ∙ first_kept before (after cs) (eqb-false (first_code before) 0 n) in kept cards' ∙ sym (kept cards))

  -- ── the judgement
  module _ (cards cards' : ℕ → ListCard) (same : tests_list text p o ≡ true → cards' (raster_at text p).list ≡ cards (raster_at text p).list) where
    same-judged : (k : Command) → command_at text p ≡ k → judged cards' text p o k ≡ judged cards text p o k
    unfolding judged
    same-judged RunRaster e = rw (same_rows e cards cards' same)
    same-judged (Expose t) e = refl
    same-judged (LoopBack t) e = refl
    same-judged (CallSequence n) e = refl
    same-judged Terminate e = refl
    same-judged (Delay t) e = refl
    same-judged Nothing e = refl
    same-judged Unknown e = refl
    same-judged Unfit e = refl

    -- it reads the card of one line list at most: the one tested there
    pub tested-judge : judge cards' text p o ≡ judge cards text p o
    unfolding judge
    tested-judge = same-judged (command_at text p) refl

  -- what a judgement tells of the test
  abbrev pub Tests : Act → Type 0
  Tests (Refused code) = code ≡ 7 → command_at text p ≡ RunRaster → tests_list text p o ≡ true
  Tests Opens = tests_list text p o ≡ true
  Tests (Exposes r) = tests_list text p o ≡ false
  Tests (Loops t) = tests_list text p o ≡ false
  Tests Waits = tests_list text p o ≡ false
  Tests (Calls n) = tests_list text p o ≡ false
  Tests Ends = tests_list text p o ≡ false

  module _ (k : Command) (e : command_at text p ≡ k) (other : is_run_raster k ≡ false) where
    no_test : tests_list text p o ≡ false
    unfolding tests_list
    no_test = rw (e, other)

    no_seven : (code : ℕ) → Tests (Refused code)
    no_seven code s run = absurd (false≢true (sym other ∙ ap is_run_raster (sym e ∙ run)))

    by_code : (code : ℕ) (act : Act) → Tests act → Tests (unless code act)
    by_code code act h = choice Tests (eqb code 0) act (Refused code) (λ _. h) (λ _. no_seven code)

  module _ (cards : ℕ → ListCard) where
    tells-tested : (k : Command) → command_at text p ≡ k → Tests (judged cards text p o k)
    unfolding judged
    tells-tested RunRaster e =
        let code = first_code (run_rows cards text p o) in
        choice Tests (eqb code 0) Opens (Refused code) (λ z. comes-by e cards 0 (inl refl) (eqb-true code 0 z)) (λ _ s run. comes-by e cards 7 (inr refl) s)
    tells-tested (Expose t) e = by_code (Expose t) e refl (first_code (expose_rows text t o)) (exposes_in o) (exposed o)
      where
        exposed : (o' : Option Opened) → Tests (exposes_in o')
        exposed None = no_seven (Expose t) e refl 3
        exposed (Some w) = no_test (Expose t) e refl
    tells-tested (LoopBack t) e = by_code (LoopBack t) e refl (first_code (loop_rows text p t o)) (Loops t) (no_test (LoopBack t) e refl)
    tells-tested (CallSequence n) e = by_code (CallSequence n) e refl (first_code (close_rows text p o)) (Calls n) (no_test (CallSequence n) e refl)
    tells-tested Terminate e = by_code Terminate e refl (first_code (close_rows text p o)) Ends (no_test Terminate e refl)
    tells-tested (Delay t) e = no_test (Delay t) e refl
    tells-tested Nothing e = no_seven Nothing e refl 3
    tells-tested Unknown e = no_seven Unknown e refl 3
    tells-tested Unfit e = no_seven Unfit e refl 3

    pub tests : Tests (judge cards text p o)
    unfolding judge
    tests = tells-tested (command_at text p) refl
