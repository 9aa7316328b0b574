-- How many steps and exposures are to be seen, and where the exposures stand.
-- Assumes nothing.
use Prim.Native.Nat.{ℕ, zero, suc, ◌+◌, ◌*◌, ◌-◌, ◌/◌, ◌%◌, ◌≤◌, ◌<◌}
use native.Mathlib.Nat.{mul_comm, mod-lt, le-div_iff_mul-le}
use native.Mathlib.Omega.{arith}
use mathlib.Core.Path.{◌≡◌, refl, ap, ◌∙◌}
use mathlib.Core.Bool.{Bool}
use mathlib.Core.List.{List, [], ◌∷◌}
use lib.Dec.{ltb}
use lib.IntN.{ℤ, pos, ◌+ℤ◌}
use lib.ListN.{length, get_or, replicate, length-append, length-replicate, get_or-replicate}
use Rattle.octets.specs.Rows.{first_code}
use borrow.Author.Tests.{ltb-true, ltb-false}
use Rattle.octets.proofs.Laws.{none-holds}
use Rattle.octets.proofs.Bools.{by-test}
use Rattle.sequence.specs.declared.RasterWords.{RasterWords}
use Rattle.sequence.specs.Text.{size_at}
use Rattle.sequence.specs.Raster.{raster_at, start_of}
use Rattle.sequence.specs.Env.{Env}
use Rattle.runner.specs.Judge.{path_rows, raster_rows}
use Rattle.survey.specs.declared.Item.{Item}
use Rattle.survey.specs.declared.Item.TheVariants.{Pause, Scan}
use Rattle.survey.specs.declared.Closing.{Closing}
use Rattle.survey.specs.Turns.{turns}
use Rattle.survey.specs.Items.{item_steps, item_exposures, steps_of, exposures_of, position_at, positions, item_positions, positions_of}
use Rattle.sequence.proofs.Paths.{start-whole, start-reaches}
use Rattle.promises.specs.Positions.{NonePast}
use Rattle.promises.specs.Demand3.{Positioned, EachPositioned}
use Rattle.promises.proofs.Run.Turns.{some_in, length-turns, nth-turns, past-append, past-replicate, past-turns}
use Rattle.promises.proofs.Text.Sound.{Sound, sound}
use Rattle.promises.proofs.Text.Rules.{opens-sound}
use Rattle.promises.proofs.Run.Sights.{counted, line_sights, back_sight, pass_start, pass_sights, repeat_sights, item_sights, item_end, end_of, body_sights, close_sight, round_start, round_sights, sequence_sights}
use Rattle.promises.proofs.Text.Lines.{End, closed, Body, closes, wrong, torn, pauses, scans}
use Rattle.promises.proofs.Text.TextOrder.{scans_of}

-- ── steps
module _ (text : List ℕ) (n : ℕ) where
  length-line : (raster : RasterWords) (again : Bool) (m len p c : ℕ) → length (line_sights text n raster again m len p c) ≡ len
  length-line raster again m zero p c = refl
  length-line raster again m (suc len) p c = ap suc (length-line raster again m len (p + size_at text p) (counted text p c))

  length-pass : (raster : RasterWords) (p t b from k r j l : ℕ) → length (pass_sights text n raster p t b from k r j l) ≡ from + 1
  length-pass raster p t b from k r j l =
      let m : ℕ = pass_start raster k j in
      length-append (line_sights text n raster (ltb 1 (suc l)) m from t 0) (back_sight text n raster p t b r l m ∷ [])
      ∙ ap (λ (x : ℕ). x + 1) (length-line raster (ltb 1 (suc l)) m from t 0)

  length-repeat : (raster : RasterWords) (p t b before from k r : ℕ) → length (repeat_sights text n raster p t b before from k r) ≡ 1 + before + raster.loops * (from + 1)
  length-repeat raster p t b before from k r =
      let line = line_sights text n raster (ltb 1 raster.loops) (start_of raster k) before (p + size_at text p) 0 in
      let pass = pass_sights text n raster p t b from k r in
      omega (
        arith,
        length-append line (turns 0 raster.loops pass),
        length-line raster (ltb 1 raster.loops) (start_of raster k) before (p + size_at text p) 0,
        length-turns (from + 1) pass (length-pass raster p t b from k r) 0 raster.loops,
      )

  length-item : (i : Item) (m : ℕ) → length (item_sights text n i m) ≡ item_steps text i
  length-item (Pause p) m = refl
  length-item (Scan p t b before from) m =
      let raster = raster_at text p in
      length-turns (1 + before + raster.loops * (from + 1)) (repeat_sights text n raster p t b before from) (length-repeat raster p t b before from) 0 raster.repeats

  length-body : (items : List Item) (m : ℕ) → length (body_sights text n items m) ≡ steps_of text items
  length-body [] m = refl
  length-body (i ∷ items) m =
      omega (arith, length-append (item_sights text n i m) (body_sights text n items (item_end text i m)), length-item i m, length-body items (item_end text i m))

  length-round : (items : List Item) (p : ℕ) (closing : Closing) (m r l : ℕ) → length (round_sights text n items p closing m r l) ≡ steps_of text items + 1
  length-round items p closing m r l =
      omega (arith, length-append (body_sights text n items (round_start text items m r)) (close_sight n p closing l (end_of text items m) ∷ []), length-body items (round_start text items m r))

  pub length-sequence : (q : ℕ) (items : List Item) (p : ℕ) (closing : Closing) (m : ℕ) → length (sequence_sights text n q items p closing m) ≡ 1 + q * (steps_of text items + 1)
  length-sequence q items p closing m =
      omega (arith, length-turns (steps_of text items + 1) (round_sights text n items p closing m) (length-round items p closing m) 0 q)

-- ── exposures
length-positions : (raster : RasterWords) (k : ℕ) → length (positions raster k) ≡ raster.loops * raster.exposures
length-positions raster k =
    length-turns raster.exposures (λ j l. replicate raster.exposures (pass_start raster k j)) (λ j l. length-replicate raster.exposures (pass_start raster k j)) 0 raster.loops

length-item-positions : (text : List ℕ) (i : Item) → length (item_positions text i) ≡ item_exposures text i
length-item-positions text (Pause p) = refl
length-item-positions text (Scan p t b before from) =
    let raster = raster_at text p in
    length-turns (raster.loops * raster.exposures) (λ k r. positions raster k) (λ k r. length-positions raster k) 0 raster.repeats
    ∙ mul_comm raster.repeats (raster.loops * raster.exposures)

length-positions-of : (text : List ℕ) (items : List Item) → length (positions_of text items) ≡ exposures_of text items
length-positions-of text [] = refl
length-positions-of text (i ∷ items) =
    omega (arith, length-append (item_positions text i) (positions_of text items), length-item-positions text i, length-positions-of text items)

pub length-rounds-positions : (text : List ℕ) (items : List Item) (q : ℕ) → length (turns 0 q (λ r l. positions_of text items)) ≡ q * exposures_of text items
length-rounds-positions text items q = length-turns (exposures_of text items) (λ r l. positions_of text items) (λ r l. length-positions-of text items) 0 q

-- ── where they stand
-- "Exposure k of one raster repeat, from 0, is at initial + step x (k / exposures, whole part)", from where the repeat begins.
pub position : (raster : RasterWords) (turn k : ℕ) → k < raster.loops * raster.exposures → get_or (positions raster turn) k 0 ≡ position_at raster turn k
position raster turn k h =
    let e : 0 + k / raster.exposures ≡ k / raster.exposures = omega arith in
    nth-turns raster.exposures (λ j l. replicate raster.exposures (pass_start raster turn j)) (λ j l. length-replicate raster.exposures (pass_start raster turn j)) 0 0 raster.loops k h
    ∙ get_or-replicate raster.exposures (k % raster.exposures) (pass_start raster turn (0 + k / raster.exposures)) 0 (mod-lt k (some_in raster.loops raster.exposures k h))
    ∙ ap (λ (x : ℕ). pass_start raster turn x) e

-- pass j is in reach where the last of L passes is
pass-in-reach : (i s j l L : ℕ) → j + suc l ≡ L → i + (L - 1) * s ≤ 2400 → i + s * j ≤ 2400
pass-in-reach i s j l L e h =
    let w : L - 1 ≡ j + l = omega arith in
    let v : i + (j + l) * s ≤ 2400 = rw w at h in
    omega arith

positions-in-reach : {raster : RasterWords} → Sound raster → (k : ℕ) → k < raster.repeats → NonePast 2400 (positions raster k)
positions-in-reach {raster} g k h =
    past-turns 2400 (λ j l. replicate raster.exposures (pass_start raster k j)) raster.loops
    (λ j l e. past-replicate 2400 raster.exposures (pass_start raster k j) (pass-in-reach (start_of raster k) raster.step j l raster.loops e (start-reaches raster k (g.stays k h))))
    0 raster.loops (omega arith)

-- an exposure is in one of the passes
pass_of : (loops e k : ℕ) → k < loops * e → k / e < loops
pass_of loops e k h =
    by-test (ltb (k / e) loops) (ltb-true (k / e) loops)
    (λ t. let l = (le-div_iff_mul-le {k = e} {x = loops} {y = k} (some_in loops e k h)).0 (ltb-false (k / e) loops t) in absurd (omega arith))

-- exposure k of a turn is where the signed formula has it
pub positioned : {raster : RasterWords} → Sound raster → Positioned raster
positioned {raster} g turn k h l =
    let stays = g.stays turn h in
    let j = k / raster.exposures in
    let q = pass_of raster.loops raster.exposures k l in (
      ap (λ (z : ℤ). z +ℤ pos (raster.step * j)) (start-whole raster turn stays),
      pass-in-reach (start_of raster turn) raster.step j (raster.loops - suc j) raster.loops (omega arith) (start-reaches raster turn stays),
    )

pub body-positioned : {E : Env} {text : List ℕ} {p : ℕ} {items : List Item} {end : End} → Body E text p items end → EachPositioned text (scans_of items)
body-positioned (closes closing j) = tt
body-positioned (wrong j) = tt
body-positioned (torn j l r) = tt
body-positioned (pauses j b) = body-positioned b
body-positioned {E} {text} (scans {p} R b) = (positioned (opens-sound E text p R.run), body-positioned b)

-- no position of a raster that no row refuses is past the end stop
pub none-past-stop : (E : Env) (raster : RasterWords) (begun : ℕ) → first_code (raster_rows E.cards raster begun) ≡ 0 → (k : ℕ) → k < raster.repeats → NonePast 2400 (positions raster k)
unfolding raster_rows path_rows
none-past-stop E raster begun e k h = positions-in-reach (sound E raster begun (none-holds (raster_rows E.cards raster begun) tt e)) k h

body-in-reach : {E : Env} {text : List ℕ} {p e : ℕ} {items : List Item} {closing : Closing} → Body E text p items (closed e closing) → NonePast 2400 (positions_of text items)
body-in-reach (closes closing j) = tt
body-in-reach (pauses j b) = body-in-reach b
body-in-reach {E} {text} (scans {p} {t} {b = q} {before} {from} {items} R b) =
    let raster = raster_at text p in
    past-append 2400 (item_positions text (Scan p t q before from)) (positions_of text items)
    (past-turns 2400 (λ k r. positions raster k) raster.repeats (λ k r e. positions-in-reach (opens-sound E text p R.run) k (omega arith)) 0 raster.repeats (omega arith))
    (body-in-reach b)

pub rounds-in-reach : {E : Env} {text : List ℕ} {e : ℕ} {items : List Item} {closing : Closing} → Body E text 4 items (closed e closing) → (q : ℕ)
    → NonePast 2400 (turns 0 q (λ r l. positions_of text items))
rounds-in-reach {text} {items} b q = past-turns 2400 (λ r l. positions_of text items) q (λ r l e. body-in-reach b) 0 q (omega arith)
