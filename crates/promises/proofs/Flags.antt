-- The science flags are answered as the table has it: one test over its 16 lines of 8, computed for all 256 bytes. Assumes nothing.
use Prim.Native.Nat.{ℕ, ◌<◌}
use mathlib.Core.Path.{◌≡◌, refl, ◌∙◌}
use mathlib.Core.Bool.{Bool, true, false, not, ◌&&◌}
use mathlib.Core.List.{[], ◌∷◌, ◌++◌}
use lib.Dec.{eqb}
use borrow.Author.Tests.{eqb-true, le-ltb}
use Rattle.octets.specs.Rows.{row, first_code}
use Rattle.octets.proofs.Bools.{and_both, all_below, below_all}
use Rattle.octets.proofs.Laws.{none-skipped}
use Rattle.sequence.specs.declared.Marks.{Marks}
use Rattle.sequence.specs.Raster.{raster_at, flags_good, mark_missing}
use Rattle.runner.specs.Judge.{open_elsewhere, repeat_begun, count_rows, list_rows, path_rows, flag_rows, raster_rows, run_rows}
use Rattle.promises.specs.Flags.{in_table, FlagsAsTabled}

abbrev marks_as : Bool → Bool → Bool → Marks
marks_as aec event flare = record { aec = aec; event = event; flare = flare }

-- a test that holds whichever way a bool goes
abbrev both_ways : (Bool → Bool) → Bool
both_ways test = test false && test true

either_way : (test : Bool → Bool) (b : Bool) → both_ways test ≡ true → test b ≡ true
either_way test true e = (and_both (test false) (test true) e).1
either_way test false e = (and_both (test false) (test true) e).0

abbrev answered : Marks → ℕ → Bool
answered marks science = eqb (first_code (row 3 (not (flags_good science)) ∷ row 7 (mark_missing marks science) ∷ [])) (in_table marks science)

abbrev with_all : ℕ → Bool
with_all science = both_ways (λ aec. both_ways (λ event. both_ways (λ flare. answered (marks_as aec event flare) science)))

all-answered : all_below with_all 256 ≡ true
unfolding flags_good mark_missing
all-answered = refl

each-answered : (marks : Marks) (science : ℕ) → science < 256 → answered marks science ≡ true
each-answered marks science h =
    either_way (λ flare. answered (marks_as marks.aec marks.event flare) science) marks.flare
    (either_way (λ event. both_ways (λ flare. answered (marks_as marks.aec event flare) science)) marks.event
    (either_way (λ aec. both_ways (λ event. both_ways (λ flare. answered (marks_as aec event flare) science))) marks.aec (below_all with_all 256 science all-answered h)))

pub flags-as-tabled : FlagsAsTabled
unfolding run_rows raster_rows
flags-as-tabled cards text p o marks alone counts path low good h =
    let raster = raster_at text p in
    let paths = path_rows raster (repeat_begun o) in
    let ends = paths ++ flag_rows cards raster in
    none-skipped (row 3 (open_elsewhere p o) ∷ count_rows raster) (list_rows cards raster ++ ends) (alone, counts)
    ∙ none-skipped (list_rows cards raster) ends (le-ltb 47 raster.list low, (rw good refl, tt))
    ∙ none-skipped paths (flag_rows cards raster) path
    ∙ rw good (eqb-true _ _ (each-answered marks raster.science h))
