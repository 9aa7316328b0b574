-- Samples of the table check beside those of document 01, which are among promises', as rows of one list. Assumes nothing.
use Prim.Native.Nat.{ℕ}
use mathlib.Core.Path.{◌≡◌, refl}
use mathlib.Core.Bool.{true}
use mathlib.Core.List.{List, [], ◌∷◌}
use Rattle.octets.specs.Bytes.{xor_on}
use Rattle.octets.proofs.Samples.{Sample, sample, all_right}
use Rattle.memory.specs.Memory.{flight, format_of, fills, tables_wrong, entry_of}
use Rattle.sequence.specs.Text.{limit, length_good, xor_good, header_rows, header_of, size_of, decoded, none_there, command_at, size_at}
use Rattle.sequence.specs.Starts.{starts, starts_of, among, exposes_between, first_exposure, target_good}
use Rattle.sequence.specs.Raster.{raster_at, flags_good, mark_missing, some_strays}
use Rattle.sequence.specs.LineList.{checksum_of, marked, marks_of, list_card}
use Rattle.sequence.specs.Env.{env_of}
use Rattle.sequence.proofs.SampleTables.{seqs, lists, line_list, the_raster, calls, delays, long_sequence}
use Rattle.runner.specs.Judge.{path_rows, raster_rows, run_rows, expose_rows, loop_rows, close_rows, judged, judge}
use Rattle.survey.specs.Items.{positions_of}
use Rattle.survey.specs.Walk.{Finding, passes, faults, walked, walk, check_one, finding_of}
use Rattle.survey.specs.Chain.{Told, onward, follow, chain_of, check_rows, check_of}
use Rattle.survey.specs.Report.{EndingShown, ending_shown}

-- how the check ends: its number, code, sequence and place; then steps, exposures and the listed sequences
abbrev end_numbers : EndingShown → List ℕ → List ℕ
end_numbers e rest = e.number ∷ e.code ∷ e.sequence ∷ e.place ∷ rest

abbrev pub told_numbers : Told → List ℕ
told_numbers t = end_numbers (ending_shown t.ending) (t.steps ∷ t.exposures ∷ t.names)

abbrev checked_by : ℕ → ℕ → List ℕ → List ℕ → List ℕ
checked_by kind n sequence list = told_numbers (check_of (format_of kind) (seqs sequence) (lists list) n)

abbrev checked : ℕ → List ℕ → List ℕ → List ℕ
checked = checked_by 0

-- where the exposures of one round of sequence 0 are made
abbrev found : List ℕ → Finding → List ℕ
found text (passes k x is p c) = positions_of text is
found text (faults f reason) = []

abbrev exposed : List ℕ → List ℕ → List ℕ
exposed sequence list = found (entry_of flight (seqs sequence) 0) (finding_of (env_of flight (lists list)) (seqs sequence) 0)

-- as many steps as one sequence can have: every count at its greatest, and a command of three bytes wherever one has room
abbrev longest : List ℕ
longest =
    0x80 ∷ 0x00 ∷ 0x01 ∷ 0xFF
    ∷ 0x90 ∷ 0x00 ∷ 0x07 ∷ 0x00 ∷ 0x64 ∷ 0xFF ∷ 0xFF ∷ 0x00 ∷ 0x00 ∷ 0x00 ∷ 0x00 ∷ 0x00 ∷ 0x00 ∷ 0x01 ∷ 0x00 ∷ 0x0F ∷ 0xFF ∷ 0x00 ∷ 0x00 ∷ 0x00 ∷ 0x00 ∷ 0x00 ∷ 0x00
    ∷ 0x91 ∷ 0x00 ∷ 0x64
    ∷ delays 31
    (0x92 ∷ 0x1B
    ∷ 0x93 ∷ 0x00
    ∷ 0x07 ∷ [])

abbrev samples : List Sample
samples =
    sample (exposed the_raster (line_list 1)) (100 ∷ 110 ∷ 120 ∷ 100 ∷ 110 ∷ 120 ∷ [])
    -- no line list
    ∷ sample (checked 0 the_raster []) (3 ∷ 7 ∷ 0 ∷ 4 ∷ 0 ∷ 0 ∷ 0 ∷ [])
    -- a sequence that calls itself, and one whose call goes to a sequence of zeros
    ∷ sample (checked 0 (0x07 ∷ 0x00 ∷ 0x01 ∷ 0x02 ∷ 0x93 ∷ 0x00 ∷ 0x97 ∷ []) []) (2 ∷ 0 ∷ 0 ∷ 0 ∷ 3 ∷ 0 ∷ 0 ∷ [])
    ∷ sample (checked 0 (0x07 ∷ 0x00 ∷ 0x01 ∷ 0x02 ∷ 0x93 ∷ 0x05 ∷ 0x92 ∷ []) []) (3 ∷ 2 ∷ 5 ∷ 0 ∷ 0 ∷ 0 ∷ 0 ∷ 5 ∷ [])
    ∷ sample (checked 0 longest (line_list 1)) (2 ∷ 0 ∷ 0 ∷ 0 ∷ 2258299461856 ∷ 68433285375 ∷ 0 ∷ [])
    ∷ sample (checked 128 [] []) (0 ∷ 7 ∷ 0 ∷ 0 ∷ 0 ∷ 0 ∷ [])
    -- the tables in each other's place
    ∷ sample (told_numbers (check_of flight (lists []) (seqs []) 128)) (0 ∷ 16 ∷ 0 ∷ 0 ∷ 0 ∷ 0 ∷ [])
    -- the old unit: a sequence of 255 bytes with loop targets past 127; in flight it is too long
    ∷ sample (checked_by 1 0 long_sequence (line_list 1)) (1 ∷ 0 ∷ 0 ∷ 0 ∷ 72 ∷ 6 ∷ 0 ∷ [])
    ∷ sample (checked_by 0 0 long_sequence (line_list 1)) (3 ∷ 2 ∷ 0 ∷ 0 ∷ 0 ∷ 0 ∷ 0 ∷ [])
    -- its length byte 0 is 2, a call of 64 is 4, number 63 is its last; kind 2 is 16
    ∷ sample (checked_by 1 0 [] []) (3 ∷ 2 ∷ 0 ∷ 0 ∷ 0 ∷ 0 ∷ 0 ∷ [])
    ∷ sample (checked_by 1 0 (calls 64 0xD5) []) (3 ∷ 4 ∷ 0 ∷ 4 ∷ 0 ∷ 0 ∷ 0 ∷ [])
    ∷ sample (checked_by 1 63 [] []) (3 ∷ 2 ∷ 63 ∷ 0 ∷ 0 ∷ 0 ∷ 63 ∷ [])
    ∷ sample (checked_by 1 64 [] []) (0 ∷ 7 ∷ 0 ∷ 0 ∷ 0 ∷ 0 ∷ [])
    ∷ sample (checked_by 2 0 the_raster (line_list 1)) (0 ∷ 16 ∷ 0 ∷ 0 ∷ 0 ∷ 0 ∷ [])
    ∷ []

pub samples-right : all_right samples ≡ true
unfolding xor_on fills tables_wrong limit length_good xor_good header_rows header_of size_of decoded none_there command_at size_at starts starts_of among exposes_between first_exposure target_good raster_at flags_good mark_missing some_strays checksum_of marked marks_of list_card path_rows raster_rows run_rows expose_rows loop_rows close_rows judged judge walked walk check_one onward follow chain_of check_rows check_of
samples-right = refl
