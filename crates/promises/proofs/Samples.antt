-- The samples of document 01 that it marks with *, and others that pin what those leave open, as rows of one list: what is asked, computed to
-- numbers, and the right numbers. One theorem: every row is right. And the same for `still`. Assumes nothing.
use Prim.Native.Nat.{ℕ, ◌-◌}
use native.Mathlib.Omega.{arith}
use mathlib.Core.Path.{◌≡◌, refl, ap}
use mathlib.Core.Bool.{true}
use mathlib.Core.List.{List, [], ◌∷◌, ◌++◌, map}
use lib.IntN.{pos}
use lib.ListN.{length, set, replicate}
use Rattle.octets.specs.Bytes.{byte_at, xor_on}
use Rattle.octets.proofs.Samples.{Sample, sample, all_right}
use Rattle.memory.specs.Memory.{flight, format_of, fills, tables_wrong, range_of, range_at}
use Rattle.sequence.specs.declared.RasterWords.{RasterWords}
use Rattle.sequence.specs.declared.ReasonNumbers.{ReasonNumbers}
use Rattle.sequence.specs.Text.{limit, length_good, xor_good, header_rows, header_of, size_of, decoded, none_there, command_at, size_at}
use Rattle.sequence.specs.Starts.{starts, starts_of, among, exposes_between, first_exposure, target_good}
use Rattle.sequence.specs.Raster.{raster_at, flags_good, mark_missing, some_strays}
use Rattle.sequence.specs.LineList.{checksum_of, marked, marks_of, list_card, card_shown}
use Rattle.sequence.specs.Env.{cards_of, env_of}
use Rattle.sequence.proofs.SampleTables.{seqs, lists, ends, calls, line_list, fields, raster, raster_at_position, the_raster}
use Rattle.runner.specs.declared.Runner.{Runner}
use Rattle.runner.specs.Judge.{path_rows, raster_rows, run_rows, expose_rows, loop_rows, close_rows, judged, judge}
use Rattle.runner.specs.Step.{aborted, entered, begun, advances, exposed, looped, delayed, called, ended, act, step_in, step_of}
use Rattle.survey.specs.declared.Standing.{Standing}
use Rattle.survey.specs.declared.Standing.TheVariants.{Unpassed, Same, Changed}
use Rattle.survey.specs.Walk.{walked, walk, check_one}
use Rattle.survey.specs.Chain.{onward, follow, chain_of, check_rows, check_of}
use Rattle.survey.specs.Frame.{lists_used}
use Rattle.survey.specs.Still.{in_entries, changed_in, changed_at, first_of, standing_shown, still_of}
use Rattle.survey.specs.Report.{EndingShown, ending_shown, reason_of, reason_shown}
use Rattle.survey.proofs.Samples.{told_numbers}
use Rattle.status.specs.declared.Log.{Log}
use Rattle.unit.specs.declared.Unit.{Unit as ControlUnit}
use Rattle.unit.specs.declared.Answer.{Answer}
use Rattle.unit.specs.State.{power_on, runs_wrong, range_tests, out_of_range, moded, selected}
use Rattle.telecommand.specs.Packet.{telecommand_of}
use Rattle.unit.specs.Packet.{own_rows, lent_wrong, packet_rows, code_of}
use Rattle.unit.specs.Status.{status_of}
use Rattle.unit.specs.Answer.{effect, obeyed_unit, reply, refused_unit, unit_after, reply_of, answer_of, seqs_after, lists_after}
use Rattle.promises.specs.Runs.{positions_seen, sights_of}
use Rattle.promises.specs.Library.{ours}
use Rattle.promises.specs.Demand3.{world, packet, after_all, chain_plan, exposed_positions}

-- ── what is asked
-- the check of sequence 0: how it ends (1 ends, 3 fault) with code, sequence and place; steps, exposures, and the listed sequences
abbrev checked : List ℕ → List ℕ → List ℕ
checked sequence list = told_numbers (check_of flight (seqs sequence) (lists list) 0)

-- where demand 3's own plan has the exposures of sequence 0, and where the interpreter's first steps make them, from the start of that sequence
abbrev planned : List ℕ → List ℕ
planned sequence = exposed_positions (chain_plan flight (seqs sequence) (0 ∷ []))

abbrev started : Runner
started =
    record { sequence = 0; place = 0; running = true; entering = true; raster = record { place = 255; count = 0; passes = 0; repeats = 0; run = 0; shift = pos 0 }; rounds = 0; mirror = 0 }

abbrev seen_in : ℕ → List ℕ → List ℕ → List ℕ
seen_in steps sequence list = positions_seen (sights_of (env_of flight (lists list)) (seqs sequence) steps started)

-- what is wrong with a line list: 0 nothing, 1 window count, 2 length, 3 checksum; and the checksum expected. Of line list 0; and as the reason of
-- the fault that the check of sequence 0 tells, in front of what it tells; 4 is a missing mark
abbrev reason_numbers : ReasonNumbers → List ℕ
reason_numbers r = r.number ∷ r.value ∷ []

abbrev card : List ℕ → List ℕ
card list = reason_numbers (card_shown (cards_of (lists list) 0))

abbrev checked_why : List ℕ → List ℕ → List ℕ
checked_why sequence list = let t = check_of flight (seqs sequence) (lists list) 0 in reason_numbers (reason_shown (reason_of t.ending)) ++ told_numbers t

-- a packet to the unit at power-on: its code, the length of its answer, and the log
abbrev log_numbers : Log → List ℕ
log_numbers l = l.bc1 ∷ l.bc2 ∷ l.bc3 ∷ l.size ∷ []

abbrev answer_numbers : Answer → List ℕ
answer_numbers a = a.code ∷ a.size ∷ log_numbers a.unit.ledger.log

abbrev sent_to : ControlUnit → ℕ → List ℕ → List ℕ
sent_to unit kind bytes = answer_numbers (answer_of (format_of kind) unit 0 (seqs []) (lists []) (seqs []) bytes)

abbrev sent : List ℕ → List ℕ
sent = sent_to power_on 0

-- the unit at power-on, taken to MANUAL
abbrev in_manual : ControlUnit
in_manual = moded 2 power_on

-- the bytes that answer it
abbrev replied_to : List ℕ → List ℕ
replied_to bytes = reply_of flight power_on 0 (seqs []) (lists []) (seqs []) bytes

-- ── the rows
-- document 01's line list with another checksum
abbrev pub bad_sum : List ℕ
bad_sum = set (line_list 1) 3 0x6F

-- document 01's raster sequence with these science flags, and its line list with another low byte of its window's header; each with its checksum
abbrev flagged : ℕ → ℕ → List ℕ
flagged science sum = raster 0x22 (fields 0x00 0x64 3 1 2 0 science) 1 sum

abbrev marked_list : ℕ → ℕ → List ℕ
marked_list low sum = set (set (line_list 1) 15 low) 3 sum

-- document 01's raster sequence with one loop, so many rounds and repeats, this initial position, ASRC byte and skip, and its checksum
abbrev moving : ℕ → ℕ → ℕ → ℕ → ℕ → ℕ → ℕ → List ℕ
moving rounds high low repeats asrc skip sum = set (set (set (raster 0x22 (fields high low 1 1 repeats 0 0) 1 sum) 3 rounds) 18 asrc) 21 skip

-- five repeats from 100 on by 5 after every second
abbrev five_moved : List ℕ
five_moved = moving 1 0x00 0x64 5 0x05 2 0xC2

-- every field of a raster, word by word
abbrev word_numbers : RasterWords → List ℕ
word_numbers w =
    w.id ∷ w.initial ∷ w.loops ∷ w.compression ∷ w.ocbx ∷ w.ocby ∷ w.flush ∷ w.flushes ∷ w.spare ∷ w.exposures ∷ w.asrc ∷ w.nodes ∷ w.repeats
    ∷ w.skip ∷ w.readout ∷ w.step ∷ w.list ∷ w.science ∷ []

abbrev samples : List Sample
samples =
    -- "`06 00 01 01 94 92` passes: 2 steps, 0 exposures. Last byte 93: code 2."
    sample (checked (ends 0x92) []) (1 ∷ 0 ∷ 0 ∷ 0 ∷ 2 ∷ 0 ∷ 0 ∷ [])
    ∷ sample (checked (ends 0x93) []) (3 ∷ 2 ∷ 0 ∷ 0 ∷ 0 ∷ 0 ∷ 0 ∷ [])
    -- "Line list 0: .. good. Byte 2 zero: bad." Byte 2 two: the length; byte 3 6F: the checksum. 25 windows fill the entry, 26 do not fit, whatever
    -- the length and the checksum are
    ∷ sample (card (line_list 1)) (0 ∷ 0 ∷ [])
    ∷ sample (card (line_list 0)) (1 ∷ 0 ∷ [])
    ∷ sample (card (line_list 2)) (2 ∷ 0 ∷ [])
    ∷ sample (card bad_sum) (3 ∷ 0x6E ∷ [])
    ∷ sample (card (0xA4 ∷ 0x00 ∷ 25 ∷ 0xBD ∷ [])) (0 ∷ 0 ∷ [])
    ∷ sample (card (0xAA ∷ 0x00 ∷ 26 ∷ 0xB0 ∷ [])) (1 ∷ 0 ∷ [])
    ∷ sample (card (0xA4 ∷ 0x00 ∷ 26 ∷ 0x00 ∷ [])) (1 ∷ 0 ∷ [])
    -- "With it, [the raster sequence]: 6 exposures at 100, 110, 120, 100, 110, 120; 16 steps."
    ∷ sample (checked the_raster (line_list 1)) (1 ∷ 0 ∷ 0 ∷ 0 ∷ 16 ∷ 6 ∷ 0 ∷ [])
    ∷ sample (planned the_raster) (100 ∷ 110 ∷ 120 ∷ 100 ∷ 110 ∷ 120 ∷ [])
    ∷ sample (seen_in 16 the_raster (line_list 1)) (100 ∷ 110 ∷ 120 ∷ 100 ∷ 110 ∷ 120 ∷ [])
    -- with byte 3 of the line list 6F: 7 at its run raster, and the reason
    ∷ sample (checked_why the_raster bad_sum) (3 ∷ 0x6E ∷ 3 ∷ 7 ∷ 0 ∷ 4 ∷ 0 ∷ 0 ∷ 0 ∷ [])
    -- "Initial 2380, 3 loops, step 10 fits; 2381 gives 14."
    ∷ sample (checked (raster_at_position 0x09 0x4C 0xE1) (line_list 1)) (1 ∷ 0 ∷ 0 ∷ 0 ∷ 16 ∷ 6 ∷ 0 ∷ [])
    ∷ sample (checked (raster_at_position 0x09 0x4D 0xE0) (line_list 1)) (3 ∷ 14 ∷ 0 ∷ 4 ∷ 0 ∷ 0 ∷ 0 ∷ [])
    -- ASRC 05, skip 2: five repeats, and the same in each round
    ∷ sample (checked five_moved (line_list 1)) (1 ∷ 0 ∷ 0 ∷ 0 ∷ 17 ∷ 5 ∷ 0 ∷ [])
    ∷ sample (planned five_moved) (100 ∷ 100 ∷ 105 ∷ 105 ∷ 110 ∷ [])
    ∷ sample (seen_in 17 five_moved (line_list 1)) (100 ∷ 100 ∷ 105 ∷ 105 ∷ 110 ∷ [])
    ∷ sample (seen_in 33 (moving 2 0x00 0x64 5 0x05 2 0xC1) (line_list 1)) (100 ∷ 100 ∷ 105 ∷ 105 ∷ 110 ∷ 100 ∷ 100 ∷ 105 ∷ 105 ∷ 110 ∷ [])
    -- ASRC 85, skip 3, from 4 on: three repeats pass, the fourth would begin below 0: 14
    ∷ sample (checked (moving 1 0x00 0x04 3 0x85 3 0x25) (line_list 1)) (1 ∷ 0 ∷ 0 ∷ 0 ∷ 11 ∷ 3 ∷ 0 ∷ [])
    ∷ sample (checked (moving 1 0x00 0x04 4 0x85 3 0x22) (line_list 1)) (3 ∷ 14 ∷ 0 ∷ 4 ∷ 0 ∷ 0 ∷ 0 ∷ [])
    -- ASRC 80: 3, also with initial 2401; so is ASRC 05 with skip 0; ASRC 0 with skip 0 passes
    ∷ sample (checked (moving 1 0x00 0x64 2 0x80 1 0x43) (line_list 1)) (3 ∷ 3 ∷ 0 ∷ 4 ∷ 0 ∷ 0 ∷ 0 ∷ [])
    ∷ sample (checked (moving 1 0x09 0x61 2 0x80 1 0x4F) (line_list 1)) (3 ∷ 3 ∷ 0 ∷ 4 ∷ 0 ∷ 0 ∷ 0 ∷ [])
    ∷ sample (checked (moving 1 0x00 0x64 2 0x05 0 0xC7) (line_list 1)) (3 ∷ 3 ∷ 0 ∷ 4 ∷ 0 ∷ 0 ∷ 0 ∷ [])
    ∷ sample (checked (moving 1 0x00 0x64 2 0x00 0 0xC2) (line_list 1)) (1 ∷ 0 ∷ 0 ∷ 0 ∷ 8 ∷ 2 ∷ 0 ∷ [])
    -- science bit 2 alone; bits 2 and 4: 3
    ∷ sample (checked (flagged 0x20 0xE0) (line_list 1)) (1 ∷ 0 ∷ 0 ∷ 0 ∷ 16 ∷ 6 ∷ 0 ∷ [])
    ∷ sample (checked (flagged 0x28 0xE8) (line_list 1)) (3 ∷ 3 ∷ 0 ∷ 4 ∷ 0 ∷ 0 ∷ 0 ∷ [])
    -- bit 3 with its mark, and with bit 2 too; without it, with that of bit 4, and with its own in a window past the count: 7, and the reason
    ∷ sample (checked (flagged 0x10 0xD0) (marked_list 0x13 0x7E)) (1 ∷ 0 ∷ 0 ∷ 0 ∷ 16 ∷ 6 ∷ 0 ∷ [])
    ∷ sample (checked (flagged 0x30 0xF0) (marked_list 0x13 0x7E)) (1 ∷ 0 ∷ 0 ∷ 0 ∷ 16 ∷ 6 ∷ 0 ∷ [])
    ∷ sample (checked_why (flagged 0x10 0xD0) (line_list 1)) (4 ∷ 0 ∷ 3 ∷ 7 ∷ 0 ∷ 4 ∷ 0 ∷ 0 ∷ 0 ∷ [])
    ∷ sample (checked_why (flagged 0x10 0xD0) (marked_list 0x0B 0x66)) (4 ∷ 0 ∷ 3 ∷ 7 ∷ 0 ∷ 4 ∷ 0 ∷ 0 ∷ 0 ∷ [])
    ∷ sample (checked_why (flagged 0x10 0xD0) (line_list 1 ++ (0x00 ∷ 0x10 ∷ []))) (4 ∷ 0 ∷ 3 ∷ 7 ∷ 0 ∷ 4 ∷ 0 ∷ 0 ∷ 0 ∷ [])
    -- bits 4 and 5 without a mark: 3, as the flags are tested first
    ∷ sample (checked_why (flagged 0x0C 0xCC) (line_list 1)) (0 ∷ 0 ∷ 3 ∷ 3 ∷ 0 ∷ 4 ∷ 0 ∷ 0 ∷ 0 ∷ [])
    -- a call of 128: 4
    ∷ sample (checked (calls 128 0x15) []) (3 ∷ 4 ∷ 0 ∷ 4 ∷ 0 ∷ 0 ∷ 0 ∷ [])
    -- 8 exposures; 9: 5
    ∷ sample (checked (raster 0x37 (fields 0x00 0x64 3 8 2 0 0) 8 0x29) (line_list 1)) (1 ∷ 0 ∷ 0 ∷ 0 ∷ 58 ∷ 48 ∷ 0 ∷ [])
    ∷ sample (checked (raster 0x22 (fields 0x00 0x64 3 9 2 0 0) 1 0xC8) (line_list 1)) (3 ∷ 5 ∷ 0 ∷ 4 ∷ 0 ∷ 0 ∷ 0 ∷ [])
    -- line list 47; 48: 6
    ∷ sample (checked (raster 0x22 (fields 0x00 0x64 3 1 2 47 0) 1 0xEF) (replicate 7708 0 ++ line_list 1)) (1 ∷ 0 ∷ 0 ∷ 0 ∷ 16 ∷ 6 ∷ 0 ∷ [])
    ∷ sample (checked (raster 0x22 (fields 0x00 0x64 3 1 2 48 0) 1 0xF0) (line_list 1)) (3 ∷ 6 ∷ 0 ∷ 4 ∷ 0 ∷ 0 ∷ 0 ∷ [])
    -- loops 0: 11
    ∷ sample (checked (raster 0x22 (fields 0x00 0x64 0 1 2 0 0) 1 0xC3) (line_list 1)) (3 ∷ 11 ∷ 0 ∷ 4 ∷ 0 ∷ 0 ∷ 0 ∷ [])
    -- eleven words, no byte of which is like another: every field at its place
    ∷ sample
    (word_numbers
    (raster_at
    (0x90 ∷ 0x11 ∷ 0x1B ∷ 0x25 ∷ 0x2F ∷ 0x39 ∷ 0x43 ∷ 0x4D ∷ 0x57 ∷ 0x61 ∷ 0x6B ∷ 0x75 ∷ 0x7F ∷ 0x89 ∷ 0x93 ∷ 0x9D ∷ 0xA7 ∷ 0xB1 ∷ 0xBB ∷ 0xC5 ∷ 0xCF ∷ 0xD9 ∷ 0xE3 ∷ []) 0))
    (0x111B ∷ 0x252F ∷ 0x3943 ∷ 0x4D57 ∷ 0x61 ∷ 0x6B ∷ 0x75 ∷ 0x7F ∷ 0x8 ∷ 0x9 ∷ 0x93 ∷ 0x9 ∷ 0xDA7 ∷ 0xB1 ∷ 0xBB ∷ 0xC5CF ∷ 0xD9 ∷ 0xE3 ∷ [])
    -- "Count 128 at 0x073F80 fits; at 0x073F81, code 7." A dump, and an uplink
    ∷ sample (sent (0x07 ∷ 0x07 ∷ 0x3F ∷ 0x80 ∷ 0x00 ∷ 0x00 ∷ 0x80 ∷ [])) (0 ∷ 128 ∷ 0x07 ∷ 0x07 ∷ 0x3F ∷ 0x07 ∷ [])
    ∷ sample (replied_to (0x07 ∷ 0x07 ∷ 0x3F ∷ 0x80 ∷ 0x00 ∷ 0x00 ∷ 0x80 ∷ [])) (replicate 128 0)
    ∷ sample (sent (0x07 ∷ 0x07 ∷ 0x3F ∷ 0x81 ∷ 0x00 ∷ 0x00 ∷ 0x80 ∷ [])) (7 ∷ 0 ∷ 0x07 ∷ 0x07 ∷ 0x3F ∷ 0x07 ∷ [])
    ∷ sample (sent (0xE7 ∷ 0x07 ∷ 0x3F ∷ 0x80 ∷ 0x80 ∷ replicate 128 0xAA)) (0 ∷ 0 ∷ 0xE7 ∷ 0x07 ∷ 0x3F ∷ 0x85 ∷ [])
    ∷ sample (sent (0xE7 ∷ 0x07 ∷ 0x3F ∷ 0x81 ∷ 0x80 ∷ replicate 128 0xAA)) (7 ∷ 0 ∷ 0xE7 ∷ 0x07 ∷ 0x3F ∷ 0x85 ∷ [])
    -- "Uplink of 100 bytes to 0x060000 by E5: code 6, log E5 06 00 69."
    ∷ sample (sent (0xE5 ∷ 0x06 ∷ 0x00 ∷ 0x00 ∷ 0x64 ∷ replicate 100 0xAA)) (6 ∷ 0 ∷ 0xE5 ∷ 0x06 ∷ 0x00 ∷ 0x69 ∷ [])
    -- the power-on status, which is not logged: mode 1, one request, byte 17; the rest 0
    ∷ sample (sent (0x01 ∷ [])) (0 ∷ 104 ∷ 0 ∷ 0 ∷ 0 ∷ 0 ∷ [])
    ∷ sample (replied_to (0x01 ∷ [])) (0x01 ∷ 0x00 ∷ 0x00 ∷ 0x64 ∷ 0x10 ∷ 0x10 ∷ 0x00 ∷ 0x01 ∷ replicate 13 0 ++ (0x22 ∷ replicate 82 0))
    -- the old unit: a selection of 63 is obeyed, 64 is 7; kind 2 is 16, and nothing is logged
    ∷ sample (sent_to in_manual 1 (0x83 ∷ 63 ∷ [])) (0 ∷ 0 ∷ 0x83 ∷ 63 ∷ 0 ∷ 2 ∷ [])
    ∷ sample (sent_to in_manual 1 (0x83 ∷ 64 ∷ [])) (7 ∷ 0 ∷ 0x83 ∷ 64 ∷ 0 ∷ 2 ∷ [])
    ∷ sample (sent_to in_manual 2 (0x83 ∷ 0 ∷ [])) (16 ∷ 0 ∷ 0 ∷ 0 ∷ 0 ∷ 0 ∷ [])
    ∷ []

pub samples-right : all_right samples ≡ true
unfolding xor_on fills tables_wrong range_of range_at limit length_good xor_good header_rows header_of size_of decoded none_there command_at size_at starts starts_of among exposes_between first_exposure target_good raster_at flags_good mark_missing some_strays checksum_of marked marks_of list_card path_rows raster_rows run_rows expose_rows loop_rows close_rows judged judge aborted entered begun advances exposed looped delayed called ended act step_in step_of walked walk check_one onward follow chain_of check_rows check_of power_on runs_wrong range_tests out_of_range moded selected telecommand_of own_rows lent_wrong packet_rows code_of status_of effect obeyed_unit reply refused_unit unit_after reply_of answer_of sights_of
samples-right = refl

-- ── whether a pass still stands, and what the check and the run tell then
-- of sequence n, over the tables of then and those of now: 0 there was none, with how the check ended, its code, sequence and place; 1 it stands; 2
-- with the lowest address that was touched
abbrev ending_numbers : EndingShown → List ℕ
ending_numbers e = e.number ∷ e.code ∷ e.sequence ∷ e.place ∷ []

abbrev standing_numbers : Standing → List ℕ
standing_numbers (Unpassed ending) = (standing_shown (Unpassed ending)).number ∷ ending_numbers (ending_shown ending)
standing_numbers Same = (standing_shown Same).number ∷ []
standing_numbers (Changed a) = (standing_shown (Changed a)).number ∷ (standing_shown (Changed a)).address ∷ []

abbrev stands_in : ℕ → ℕ → List ℕ → List ℕ → List ℕ → List ℕ → List ℕ
stands_in kind n sequence list sequence' list' = standing_numbers (still_of (format_of kind) (seqs sequence) (lists list) (seqs sequence') (lists list') n)

abbrev stands : List ℕ → List ℕ → List ℕ → List ℕ → List ℕ
stands = stands_in 0 0

-- bytes and zeros after them, as many as this in all, and other bytes after those
abbrev followed : ℕ → List ℕ → List ℕ → List ℕ
followed size bytes others = bytes ++ replicate (size - length bytes) 0 ++ others

-- sequence 0 calls 1, in entries of this size
abbrev pub calls_on : ℕ → List ℕ → List ℕ
calls_on size called = followed size (calls 0x01 0x94) called

-- document 01's raster sequence and line list, with another byte past the length of each, and another sequence and line list after it
abbrev the_raster_else : List ℕ
the_raster_else = followed 128 (the_raster ++ (0xAA ∷ [])) (ends 0x92)

abbrev line_list_else : List ℕ
line_list_else = followed 164 (line_list 1 ++ (0xAA ∷ [])) (line_list 1)

-- the check of sequence 0 after these packets, sent one after another to the unit at power-on
abbrev checked_after : List (List ℕ) → List ℕ → List ℕ → List ℕ
checked_after packets sequence list =
    let v = after_all {F = flight} ours (map (λ bytes. packet (seqs []) 0 bytes) packets) (world power_on (seqs sequence) (lists list)) in told_numbers (check_of flight v.seqs v.lists 0)

-- an uplink of one byte to sequence 0, at place 4
abbrev uplinked : ℕ → List ℕ
uplinked b = 0xE7 ∷ 0x07 ∷ 0x00 ∷ 0x04 ∷ 0x01 ∷ b ∷ []

abbrev standings : List Sample
standings =
    -- over tables that differ past the lengths, in a sequence that is not listed and in a line list that is not used
    sample (stands the_raster (line_list 1) the_raster_else line_list_else) (1 ∷ [])
    -- there the check tells what it told (16 steps, 6 exposures), the run shows what it showed, and a fault has its place, code and reason
    ∷ sample (checked the_raster_else line_list_else) (checked the_raster (line_list 1))
    ∷ sample (seen_in 16 the_raster_else line_list_else) (100 ∷ 110 ∷ 120 ∷ 100 ∷ 110 ∷ 120 ∷ [])
    ∷ sample (checked_why the_raster_else (set line_list_else 3 0x6F)) (checked_why the_raster bad_sum)
    -- after uplinks: a byte given its old value again, and sequence 5; the byte left as it is
    ∷ sample (checked_after (uplinked 0x00 ∷ uplinked 0x90 ∷ (0xE7 ∷ 0x07 ∷ 0x02 ∷ 0x80 ∷ 0x06 ∷ ends 0x92) ∷ []) the_raster (line_list 1)) (1 ∷ 0 ∷ 0 ∷ 0 ∷ 16 ∷ 6 ∷ 0 ∷ [])
    ∷ sample (checked_after (uplinked 0x00 ∷ []) the_raster (line_list 1)) (3 ∷ 2 ∷ 0 ∷ 0 ∷ 0 ∷ 0 ∷ 0 ∷ [])
    -- the lowest byte that is another, its sequence's last, its line list's last; the length of the sequence that is called; the call of a chain that
    -- returns
    ∷ sample (stands the_raster (line_list 1) (set (set the_raster 8 0x65) 0x21 0xC1) bad_sum) (2 ∷ 0x070008 ∷ [])
    ∷ sample (stands the_raster (line_list 1) (set the_raster 0x21 0xC1) bad_sum) (2 ∷ 0x070021 ∷ [])
    ∷ sample (stands the_raster (line_list 1) the_raster_else (set line_list_else 0x13 0x21)) (2 ∷ 0x074013 ∷ [])
    ∷ sample (stands (calls_on 128 (ends 0x92)) [] (calls_on 128 (set (ends 0x92) 0 0x07)) []) (2 ∷ 0x070080 ∷ [])
    ∷ sample (stands (calls 0x00 0x95) [] (calls_on 128 (ends 0x92)) []) (2 ∷ 0x070005 ∷ [])
    -- a fault then; number 128: 7; tables of now that are too short, also for number 128, and tables of then: 16
    ∷ sample (stands (ends 0x93) [] (ends 0x92) []) (0 ∷ 3 ∷ 2 ∷ 0 ∷ 0 ∷ [])
    ∷ sample (stands_in 0 128 (ends 0x92) [] (ends 0x92) []) (0 ∷ 0 ∷ 7 ∷ 0 ∷ 0 ∷ [])
    ∷ sample (standing_numbers (still_of flight (seqs (ends 0x92)) (lists []) (ends 0x92) (lists []) 128)) (0 ∷ 0 ∷ 16 ∷ 0 ∷ 0 ∷ [])
    ∷ sample (standing_numbers (still_of flight (ends 0x92) (lists []) (seqs (ends 0x92)) (lists []) 0)) (0 ∷ 0 ∷ 16 ∷ 0 ∷ 0 ∷ [])
    -- the old unit: the sequence that is called stands at 0x070100; number 64 is 7; kind 2 is 16
    ∷ sample (stands_in 1 0 (calls_on 256 (ends 0x92)) [] (calls_on 256 (ends 0x93)) []) (2 ∷ 0x070105 ∷ [])
    ∷ sample (stands_in 1 64 (ends 0x92) [] (ends 0x92) []) (0 ∷ 0 ∷ 7 ∷ 0 ∷ 0 ∷ [])
    ∷ sample (stands_in 2 0 (ends 0x92) [] (ends 0x92) []) (0 ∷ 0 ∷ 16 ∷ 0 ∷ 0 ∷ [])
    ∷ []

pub standings-right : all_right standings ≡ true
unfolding xor_on fills tables_wrong limit length_good xor_good header_rows header_of size_of decoded none_there command_at size_at starts starts_of among exposes_between first_exposure target_good raster_at flags_good mark_missing some_strays checksum_of marked marks_of list_card path_rows raster_rows run_rows expose_rows loop_rows close_rows judged judge walked walk check_one onward follow chain_of check_rows check_of lists_used in_entries changed_in changed_at first_of still_of aborted entered begun advances exposed looped ended act step_in step_of sights_of range_of range_at power_on runs_wrong range_tests out_of_range telecommand_of own_rows lent_wrong packet_rows code_of effect obeyed_unit unit_after answer_of seqs_after lists_after
standings-right = refl

-- the tables over which a pass stands in the first row are others
pub tables-differ : (seqs the_raster_else ≡ seqs the_raster → ⊥) × (lists line_list_else ≡ lists (line_list 1) → ⊥)
tables-differ = (
  λ e. let z : ◌≡◌ {A = ℕ} 0xAA 0 = ap (λ (t : List ℕ). byte_at t 0x22) e in omega arith,
  λ e. let z : ◌≡◌ {A = ℕ} 0xAA 0 = ap (λ (t : List ℕ). byte_at t 0x14) e in omega arith,
)
