-- Samples of cards, of those that no tables give, and of what an uplink touches, as rows of one list. Assumes nothing.
use Prim.Native.Nat.{ℕ, ◌+◌, ◌-◌, ◌^◌}
use mathlib.Core.Path.{◌≡◌, refl}
use mathlib.Core.Bool.{true}
use mathlib.Core.List.{List, [], ◌∷◌, ◌++◌, map}
use lib.ListN.{replicate}
use Rattle.octets.specs.Bytes.{eight, xor_on}
use Rattle.octets.specs.Layout.{flag}
use Rattle.octets.proofs.Samples.{Sample, sample, all_right}
use Rattle.memory.specs.Memory.{format_of, fills, tables_wrong, range_of, range_at}
use Rattle.sequence.specs.Text.{limit, length_good, xor_good, header_rows, header_of, size_of, decoded, none_there, command_at, size_at}
use Rattle.sequence.specs.Starts.{starts, starts_of, among, exposes_between, first_exposure, target_good}
use Rattle.sequence.specs.Raster.{raster_at, flags_good, mark_missing, some_strays}
use Rattle.sequence.specs.LineList.{checksum_of, marked, marks_of, list_card}
use Rattle.sequence.specs.Env.{cards_of}
use Rattle.sequence.proofs.SampleTables.{seqs, lists, line_list, the_raster, calls}
use Rattle.runner.specs.Judge.{path_rows, raster_rows, run_rows, expose_rows, loop_rows, close_rows, judged, tests_list, judge}
use Rattle.survey.specs.Walk.{walked, walk, check_one}
use Rattle.survey.specs.Tested.{tested_past, tested_from, tested_in, bits_of, has_list}
use Rattle.summary.specs.Card.{card_of}
use Rattle.summary.specs.Summary.{line_card, seq_card, lines_at, summary_wrong, touches, uses_touched, update_code}
use Rattle.summary.specs.Chain.{card_wrong}

-- the card of sequence 0 of these tables
abbrev card_by : ℕ → List ℕ → List ℕ → List ℕ
card_by kind sequence list = seq_card (format_of kind) (seqs sequence) (cards_of (lists list)) 0

-- a card that passes, with this closing command, target and steps, without exposures and line lists
abbrev plain : ℕ → ℕ → ℕ → List ℕ
plain closing target steps = 0 ∷ 0 ∷ 0 ∷ closing ∷ target ∷ 0 ∷ 0 ∷ 0 ∷ (eight steps ++ replicate 16 0)

abbrev wrong : ℕ → List ℕ → List ℕ
wrong kind card = flag (card_wrong (format_of kind) card) ∷ []

-- which of the first four entries of this size are touched
abbrev touched : ℕ → ℕ → ℕ → List ℕ
touched size at len = map (λ n. flag (touches size at len n)) (0 ∷ 1 ∷ 2 ∷ 3 ∷ [])

-- what an update of a summary of zeros, of so many bytes, is answered
abbrev answered : ℕ → ℕ → ℕ → ℕ → List ℕ
answered kind size address count = update_code (format_of kind) (seqs []) (lists []) (replicate size 0) address count ∷ []

abbrev samples : List Sample
samples =
    -- document 01's raster: it ends, 16 steps, 6 exposures, line list 0
    sample (card_by 0 the_raster (line_list 1)) (0 ∷ 0 ∷ 0 ∷ 1 ∷ 0 ∷ 0 ∷ 0 ∷ 0 ∷ (eight 16 ++ (eight 6 ++ (0x80 ∷ replicate 7 0))))
    -- with a line list of no windows: 7 at place 4, for the window count; the list at fault is one that it uses
    ∷ sample (card_by 0 the_raster []) (1 ∷ 4 ∷ 7 ∷ 0 ∷ 0 ∷ 1 ∷ 0 ∷ 0 ∷ (replicate 16 0 ++ (0x80 ∷ replicate 7 0)))
    -- a call, which is not followed; the same on the bench, which has no such sequence
    ∷ sample (card_by 0 (calls 64 0xD5) []) (plain 2 64 2)
    ∷ sample (card_by 1 (calls 64 0xD5) []) (1 ∷ 4 ∷ 4 ∷ replicate 29 0)
    ∷ sample (line_card (lists (line_list 1)) 0) (0 ∷ 0 ∷ 0 ∷ 0 ∷ [])
    ∷ sample (line_card (lists (line_list 1)) 1) (1 ∷ 0 ∷ 0 ∷ 0 ∷ [])
    ∷ sample (line_card (lists (line_list 2)) 0) (2 ∷ 0 ∷ 0 ∷ 0 ∷ [])
    -- a summary's size
    ∷ sample ((lines_at (format_of 0) + 192) ∷ (lines_at (format_of 1) + 192) ∷ []) (4288 ∷ 2240 ∷ [])
    ∷ sample (answered 0 4288 0x070000 128 ++ (answered 1 2240 0x074000 1 ++ (answered 1 4288 0 1 ++ answered 2 2240 0x070000 1))) (0 ∷ 0 ∷ 16 ∷ 16 ∷ [])
    -- a range that no uplink could have: no bytes, more than 128, over a table's end, in no table
    ∷ sample (answered 0 4288 0x070000 0 ++ (answered 0 4288 0x070000 129 ++ (answered 0 4288 0x073FFF 2 ++ answered 0 4288 0x075EC0 1))) (7 ∷ 7 ∷ 7 ∷ 7 ∷ [])
    -- cards that no tables give, and such as some might
    ∷ sample (wrong 0 (plain 0 0 1) ++ (wrong 0 (plain 3 0 1) ++ (wrong 0 (plain 2 128 1) ++ wrong 1 (plain 2 64 1)))) (1 ∷ 1 ∷ 1 ∷ 1 ∷ [])
    ∷ sample (wrong 0 (plain 1 0 (2 ^ 54)) ++ wrong 0 (2 ∷ replicate 31 0)) (1 ∷ 1 ∷ [])
    ∷ sample (wrong 0 (plain 1 0 (2 ^ 54 - 1)) ++ (wrong 0 (plain 2 127 1) ++ (wrong 1 (plain 2 63 1) ++ wrong 0 (1 ∷ replicate 31 255)))) (0 ∷ 0 ∷ 0 ∷ 0 ∷ [])
    -- what an uplink touches: one entry to its last byte, two, and the bytes on both sides of a boundary
    ∷ sample (touched 128 128 128) (0 ∷ 1 ∷ 0 ∷ 0 ∷ [])
    ∷ sample (touched 128 129 128) (0 ∷ 1 ∷ 1 ∷ 0 ∷ [])
    ∷ sample (touched 256 255 2) (1 ∷ 1 ∷ 0 ∷ 0 ∷ [])
    ∷ sample (touched 164 328 1) (0 ∷ 0 ∷ 1 ∷ 0 ∷ [])
    -- line lists 0 and 1 are touched: a card that uses 1 is worked out again, one that uses 2 is not
    ∷ sample (flag (uses_touched 163 2 (2 ^ 46) 48) ∷ flag (uses_touched 163 2 (2 ^ 45) 48) ∷ []) (1 ∷ 0 ∷ [])
    ∷ []

pub samples-right : all_right samples ≡ true
unfolding xor_on fills tables_wrong limit length_good xor_good header_rows header_of size_of decoded none_there command_at size_at starts starts_of among exposes_between first_exposure target_good raster_at flags_good mark_missing some_strays checksum_of marked marks_of list_card path_rows raster_rows run_rows expose_rows loop_rows close_rows judged tests_list judge walked walk check_one tested_past tested_from tested_in bits_of has_list card_of line_card seq_card summary_wrong uses_touched update_code card_wrong range_at range_of
samples-right = refl
