-- Laws of the judgement and the step: what a passed table tells, and what the code's numbers fit into. Assumes nothing.
use Prim.Native.Nat.{ℕ, suc, ◌+◌, ◌*◌, ◌-◌, ◌≤◌, ◌<◌}
use native.Mathlib.Omega.{arith}
use mathlib.Core.Path.{◌≡◌, refl, sym, ap, ap₂, ◌∙◌, subst}
use mathlib.Core.Bool.{Bool, true, false, cond, ◌||◌}
use mathlib.Core.List.{List, [], ◌∷◌, ◌++◌}
use lib.Dec.{T, ltb}
use lib.ListN.{length}
use borrow.Author.Tests.{ltb-false}
use Rattle.std.specs.Prelude.{Option, Some, None}
use Rattle.std.proofs.lemmas.Bool.Decides.{nat_tests}
use Rattle.octets.specs.Rows.{Row, first_code, NoneHolds, coded}
use Rattle.octets.proofs.Laws.{none-holds, none-split, none-skipped}
use Rattle.octets.proofs.Bools.{or-neither, by-test}
use Rattle.memory.specs.declared.Format.{Format}
use Rattle.memory.specs.declared.Place.{Place}
use Rattle.memory.specs.Memory.{place_of}
use Rattle.sequence.specs.declared.Command.{Command}
use Rattle.sequence.specs.declared.Command.TheVariants.{Delay}
use Rattle.sequence.specs.declared.RasterWords.{RasterWords}
use Rattle.sequence.specs.Text.{row_of, fault, number_of, size_of, size_at, command_at}
use Rattle.sequence.specs.Raster.{raster_at, needs_mark, asrc_wrong, backward, moved_by, strays, some_strays}
use Rattle.sequence.specs.LineList.{ListCard, card_with}
use Rattle.sequence.specs.Env.{Env, text_of}
use Rattle.runner.specs.declared.Runner.{Runner}
use Rattle.runner.specs.declared.Stepped.{Stepped}
use Rattle.runner.specs.declared.Event.TheVariants.{Idle, Wait}
use Rattle.runner.specs.declared.Opened.{Opened}
use Rattle.runner.specs.declared.AbortCode.{AbortCode}
use Rattle.runner.specs.Judge.{abort_code, repeat_begun, set_of, count_rows, list_rows, path_rows, flag_rows, raster_rows, run_rows, expose_rows, judged, judge}
use Rattle.runner.specs.Step.{to, open_of, aborted, delayed, act, step_in, step_of, Stands}
use Rattle.runner.specs.With.{with_place}
use Rattle.sequence.proofs.Laws.{Bytes, command-bytes, none-past}
use Rattle.sequence.proofs.Paths.{ends-decide, leaves-off, start-reaches, start-forward, moved-less}
use Rattle.sequence.proofs.Flags.{with-shown, with-missing}

-- which repeats decide for all
pub ends_decide : (raster : RasterWords) → (raster.repeats ≡ 0 → ⊥) → some_strays raster raster.repeats ≡ (strays raster 0 || strays raster (raster.repeats - 1))
ends_decide raster n = let e : raster.repeats ≡ suc (raster.repeats - 1) = omega arith in ap (some_strays raster) e ∙ ends-decide raster (raster.repeats - 1)

pub none_decide : (raster : RasterWords) → raster.repeats ≡ 0 → some_strays raster raster.repeats ≡ false
unfolding some_strays
none_decide raster e = rw e

pub ruleset ends = (ends_decide, none_decide)

-- ── the rows of a path with an ASRC byte of 0
pub path_off : (raster : RasterWords) (k : ℕ) → raster.asrc ≡ 0
    → first_code (path_rows raster k)
    ≡ cond (ltb 2400 raster.initial) 14 (cond (ltb 2400 raster.step) 14 (cond (ltb 2400 (raster.initial + (raster.loops - 1) * raster.step)) 14 0))
unfolding path_rows
path_off raster k e =
    let good : asrc_wrong raster ≡ false = rw e in
    ap₂ (λ (w l : Bool). cond w 3 (cond (ltb 2400 raster.initial) 14 (cond (ltb 2400 raster.step) 14 (cond l 14 0)))) good (leaves-off raster e k)

-- ── a repeat whose path no row refuses
module _ (raster : RasterWords) (k : ℕ) (none : NoneHolds (path_rows raster k)) where
  pub initial-low : raster.initial ≤ 2400
  unfolding path_rows
  initial-low = ltb-false 2400 raster.initial none.1.0

  -- no repeat strays, nor the one begun
  pub none-stray : (some_strays raster raster.repeats ≡ false) × (strays raster k ≡ false)
  unfolding path_rows
  none-stray = or-neither (some_strays raster raster.repeats) (strays raster k) none.1.1.1.0

  pub begun-stays : strays raster k ≡ false
  begun-stays = none-stray.1

  -- it is moved by less than the mirror's reach
  pub moved-low : moved_by raster k ≤ 2400
  moved-low =
      by-test (backward raster) (λ b. omega (arith, moved-less raster k begun-stays b, initial-low))
      (λ b. omega (arith, start-forward raster k begun-stays b, start-reaches raster k begun-stays))

-- where no row refuses a raster, none refuses its path
pub path-rows : (cards : ℕ → ListCard) (raster : RasterWords) (k : ℕ) → NoneHolds (raster_rows cards raster k) → NoneHolds (path_rows raster k)
unfolding raster_rows
path-rows cards raster k none =
    let path = path_rows raster k in
    let rest = path ++ flag_rows cards raster in
    let lists = (none-split (count_rows raster) (list_rows cards raster ++ rest) none).1 in
    (none-split path (flag_rows cards raster) (none-split (list_rows cards raster) rest lists).1).0

pub path_passed : (cards : ℕ → ListCard) (text : List ℕ) (p : ℕ) (o : Option Opened) → first_code (run_rows cards text p o) ≡ 0 → NoneHolds (path_rows (raster_at text p) (repeat_begun o))
unfolding run_rows raster_rows path_rows
path_passed cards text p o z = path-rows cards (raster_at text p) (repeat_begun o) (none-holds (run_rows cards text p o) tt z).1

-- ── a raster's rows, from its line list's card without the marks that no flag needs
module _ (cards : ℕ → ListCard) (raster : RasterWords) (card : ListCard) (is : card ≡ card_with (needs_mark raster.science) (cards raster.list)) where
  pub raster_rows_of : (k : ℕ) → first_code (raster_rows (λ n. card) raster k) ≡ first_code (raster_rows cards raster k)
  unfolding raster_rows path_rows
  raster_rows_of k = rw (is, with-shown (needs_mark raster.science) (cards raster.list), with-missing raster.science (cards raster.list))

-- no refusal has the code of what is obeyed
no_refusal : (why : AbortCode) → abort_code why ≡ 0 → ⊥
no_refusal why e = grind arith

-- ── tables one after the other, of which the first has been tested
pub first_kept : (xs ys : List Row) → (first_code xs ≡ 0 → ⊥) → first_code (xs ++ ys) ≡ first_code xs
first_kept [] ys n = absurd (n refl)
first_kept (r ∷ rs) ys n = by-test r.holds (λ h. rw h) (λ h. rw h (first_kept rs ys (λ z. n (rw h z))))

pub refused_first : (xs ys : List Row) (why : AbortCode) → abort_code why ≡ first_code xs → abort_code why ≡ first_code (xs ++ ys)
refused_first xs ys why e = e ∙ sym (first_kept xs ys (λ z. no_refusal why (e ∙ z)))

pub passed_first : (xs ys : List Row) (n : ℕ) → T (coded xs) → 0 ≡ first_code xs → n ≡ first_code ys → n ≡ first_code (xs ++ ys)
passed_first xs ys n t e f = f ∙ sym (none-skipped xs ys (none-holds xs t (sym e)))

module _ (cards : ℕ → ListCard) (raster : RasterWords) (k : ℕ) where
  abbrev after_counts : List Row
  after_counts = list_rows cards raster ++ (path_rows raster k ++ flag_rows cards raster)

  pub counts_refused : (why : AbortCode) → abort_code why ≡ first_code (count_rows raster) → abort_code why ≡ first_code (raster_rows cards raster k)
  unfolding raster_rows
  counts_refused = refused_first (count_rows raster) after_counts

  module _ (counts : 0 ≡ first_code (count_rows raster)) where
    pub lists_refused : (why : AbortCode) → abort_code why ≡ first_code (list_rows cards raster) → abort_code why ≡ first_code (raster_rows cards raster k)
    unfolding raster_rows
    lists_refused why e = passed_first (count_rows raster) after_counts _ tt counts (refused_first (list_rows cards raster) (path_rows raster k ++ flag_rows cards raster) why e)

    module _ (lists : 0 ≡ first_code (list_rows cards raster)) where
      past_lists : (n : ℕ) → n ≡ first_code (path_rows raster k ++ flag_rows cards raster) → n ≡ first_code (raster_rows cards raster k)
      unfolding raster_rows
      past_lists n e = passed_first (count_rows raster) after_counts n tt counts (passed_first (list_rows cards raster) (path_rows raster k ++ flag_rows cards raster) n tt lists e)

      pub path_refused : (why : AbortCode) → abort_code why ≡ first_code (path_rows raster k) → abort_code why ≡ first_code (raster_rows cards raster k)
      path_refused why e = past_lists (abort_code why) (refused_first (path_rows raster k) (flag_rows cards raster) why e)

      pub flags_left : (n : ℕ) → 0 ≡ first_code (path_rows raster k) → n ≡ first_code (flag_rows cards raster) → n ≡ first_code (raster_rows cards raster k)
      unfolding path_rows
      flags_left n e f = past_lists n (passed_first (path_rows raster k) (flag_rows cards raster) n tt e f)

pub ruleset raster_tests = (counts_refused, lists_refused, path_refused, flags_left)

-- ── the place past the command that stands at the runner's
-- a command takes the bytes of its row
row-size : (k : Command) → size_of (number_of k) ≡ (row_of k).size
unfolding size_of
row-size k = grind arith

size-by : (text : List ℕ) (p : ℕ) (k : Command) → k ≡ command_at text p → size_at text p ≡ (row_of k).size
unfolding size_at
size-by text p k e = ap (λ (c : Command). size_of (number_of c)) (sym e) ∙ row-size k

module _ (text : List ℕ) (s : Runner) (k : Command) (stands : Stands text s k) where
  pub size_here : size_at text s.place ≡ (row_of k).size
  size_here = size-by text s.place k stands.here

  pub fits_here : s.place + (row_of k).size < 256
  fits_here = rw (row-size k) at stands.fits

-- ── an exposure is made only where the set has room
pub set-small : (raster : RasterWords) → set_of raster ≤ 8
set-small raster = grind (arith, nat_tests)

pub set_room : (F : Format) (text : List ℕ) (time : ℕ) (s : Runner) (held : Option Opened) → held ≡ open_of F s → 0 ≡ first_code (expose_rows text time held)
    → s.raster.count < 255
unfolding expose_rows
set_room F text time s held e z = grind (arith, nat_tests)

-- ── the step in a text
place_is : (F : Format) (p : ℕ) (r : Place) → place_of F p ≡ Some r → r.0 ≡ p
place_is F p r e = grind (arith, nat_tests)

place-past : (F : Format) (p : ℕ) → place_of F p ≡ None → F.size ≤ p
place-past F p e = grind (arith, nat_tests)

module _ (E : Env) (text : List ℕ) (s : Runner) (inside : s.entering ≡ false) where
  -- past the text no command stands
  pub step_outside : None ≡ place_of E.format s.place → length text ≤ E.format.size → aborted (fault 3 s.place) s ≡ step_in E text s
  unfolding act judge judged step_in
  step_outside of l = let z = place-past E.format s.place (sym of) in rw (inside, none-past text s.place (omega arith))

  -- a delay's time is what was read
  pub step_delays : (place : Place) (time : ℕ) → Some place ≡ place_of E.format s.place → Delay time ≡ command_at text place.0
      → to (Wait time) (with_place (s.place + (row_of (Delay time)).size) s) ≡ step_in E text s
  unfolding act judge judged step_in delayed
  step_delays place time of here =
      let e = here ∙ ap (command_at text) (place_is E.format s.place place (sym of)) in
      let read = (subst (Bytes text s.place) (sym e) (command-bytes text s.place)).1 in
      rw (inside, ← e, size-by text s.place (Delay time) e, ← read)

-- ── the step
module _ (E : Env) (seqs : List ℕ) (s : Runner) where
  pub step-idle : s.running ≡ false → to Idle s ≡ step_of E seqs s
  unfolding step_of
  step-idle e = rw e

  pub step-runs : (text : List ℕ) (x : Stepped) → s.running ≡ true → text ≡ text_of E seqs s.sequence → x ≡ step_in E text s → x ≡ step_of E seqs s
  unfolding step_of
  step-runs text x e t f =
      f ∙ ap (λ (u : List ℕ). step_in E u s) t ∙ sym (ap (λ (b : Bool). cond b (step_in E (text_of E seqs s.sequence) s) (to Idle s)) e)
