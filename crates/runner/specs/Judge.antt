-- What the command at a place comes to, from the text, the place, the open raster and what is known of the line lists alone.
-- The step acts on this judgement and the table check walks the text with it.
use Rattle.std.specs.Prelude.{ℕ, ◌+◌, Bool, true, false, cond, not, ◌&&◌, List, [], ◌∷◌, ◌++◌, ltb, leb, eqb, Option, Some, None, Result, Ok, Err}
use Rattle.octets.specs.Rows.{Row, row, first_code}
use Rattle.memory.specs.declared.Place.{Place}
use Rattle.sequence.specs.declared.Command.{Command}
use Rattle.sequence.specs.declared.Command.TheVariants.{RunRaster, Expose, LoopBack, CallSequence, Terminate, Delay, Nothing, Unknown, Unfit}
use Rattle.sequence.specs.declared.RasterWords.{RasterWords}
use Rattle.sequence.specs.Text.{limit, size_at, command_at, is_run_raster}
use Rattle.sequence.specs.Starts.{target_good}
use Rattle.sequence.specs.Raster.{raster_at, flags_good, mark_missing, asrc_wrong, leaves}
use Rattle.sequence.specs.LineList.{ListCard, card_shown, marks_in}
use Rattle.runner.specs.declared.AbortCode.{AbortCode}
use Rattle.runner.specs.declared.AbortCode.TheVariants.{Forbidden, SequenceOutOfRange, ExposureCount, ListOutOfRange, ListError, RasterRepeats, MirrorOutOfRange}
use Rattle.runner.specs.declared.Opened.{Opened}
use Rattle.runner.specs.declared.Act.{Act}
use Rattle.runner.specs.declared.Act.TheVariants.{Refused, Opens, Exposes, Loops, Waits, Calls, Ends}

-- ── why a command is refused
-- the code of each case, which its rows below bear; the step itself gives 4, "call above 127 gives 4"
abbrev pub abort_code : AbortCode → ℕ
abort_code Forbidden = 3
abort_code SequenceOutOfRange = 4
abort_code ExposureCount = 5
abort_code ListOutOfRange = 6
abort_code ListError = 7
abort_code RasterRepeats = 11
abort_code MirrorOutOfRange = 14

-- for the code: that of a test, 0 where it passes
abbrev pub abort_code_in : {A : Type 0} → Result A AbortCode → ℕ
abort_code_in (Ok passed) = 0
abort_code_in (Err why) = abort_code why

-- ── the open raster
-- "raster open"
abbrev pub is_open : Option Opened → Bool
is_open None = false
is_open (Some o) = true

-- "raster already open": at its own place a run raster is a repeat's jump back
abbrev pub open_elsewhere : ℕ → Option Opened → Bool
open_elsewhere p None = false
open_elsewhere p (Some o) = not (eqb o.place.0 p)

-- the number, from 0, of the repeat that a run raster begins: the run number, and 0 where it opens the raster
abbrev pub repeat_begun : Option Opened → ℕ
repeat_begun None = 0
repeat_begun (Some o) = o.run

-- how many exposures fill a set: the raster's, and never more than 8
abbrev pub set_of : RasterWords → ℕ
set_of raster = cond (leb raster.exposures 8) raster.exposures 8

-- the set of the raster at r is full with c exposures
abbrev pub full : List ℕ → Place → ℕ → Bool
full text r c = leb (set_of (raster_at text r.0)) c

-- ── the refusals of each command, in order
-- "loops or repeats 0, 11; exposures not 1-8, 5"
abbrev pub count_rows : RasterWords → List Row
count_rows raster =
    row 11 (eqb raster.loops 0)
    ∷ row 11 (eqb raster.repeats 0)
    ∷ row 5 (eqb raster.exposures 0)
    ∷ row 5 (ltb 8 raster.exposures)
    ∷ []

-- "line list above 47, 6; line list bad 7": the number of the test's answer is not 0, good; which it is does not matter here
abbrev pub list_rows : (ℕ → ListCard) → RasterWords → List Row
list_rows cards raster = row 6 (ltb 47 raster.list) ∷ row 7 (ltb 0 (card_shown (cards raster.list)).number) ∷ []

-- "an ASRC byte other than 0 with no steps, or with skip 0, is 3, tested .. just before 14"; "initial or step above 2400", 14, or "a position
-- out of range in any repeat, or in the one begun", repeat k
unfoldable pub path_rows : RasterWords → ℕ → List Row
path_rows raster k =
    row 3 (asrc_wrong raster)
    ∷ row 14 (ltb 2400 raster.initial)
    ∷ row 14 (ltb 2400 raster.step)
    ∷ row 14 (leaves raster k)
    ∷ []

-- "two forbidden flags stay 3; a missing mark is 7, checked after the flags"
abbrev pub flag_rows : (ℕ → ListCard) → RasterWords → List Row
flag_rows cards raster =
    row 3 (not (flags_good raster.science))
    ∷ row 7 (mark_missing (marks_in (cards raster.list)) raster.science)
    ∷ []

unfoldable pub raster_rows : (ℕ → ListCard) → RasterWords → ℕ → List Row
raster_rows cards raster k = count_rows raster ++ (list_rows cards raster ++ (path_rows raster k ++ flag_rows cards raster))

-- "Run raster: raster already open 3 (a repeat's jump back isn't that ..)"
unfoldable pub run_rows : (ℕ → ListCard) → List ℕ → ℕ → Option Opened → List Row
run_rows cards text p o = row 3 (open_elsewhere p o) ∷ raster_rows cards (raster_at text p) (repeat_begun o)

-- the command at p is a run raster that comes to the test of its line list: no row before it refuses
unfoldable pub tests_list : List ℕ → ℕ → Option Opened → Bool
tests_list text p o =
    is_run_raster (command_at text p)
    && eqb (first_code (row 3 (open_elsewhere p o) ∷ (count_rows (raster_at text p) ++ (row 6 (ltb 47 (raster_at text p).list) ∷ [])))) 0

-- "Expose: no open raster, time 0, or the set already full, 3."
unfoldable pub expose_rows : List ℕ → ℕ → Option Opened → List Row
expose_rows text time None = row 3 true ∷ []
expose_rows text time (Some o) =
    row 3 (not (is_run_raster (command_at text o.place.0)))
    ∷ row 3 (eqb time 0)
    ∷ row 3 (full text o.place o.count)
    ∷ []

-- "Loop back: no open raster, set not full, or target not the start of a command .., 3."
unfoldable pub loop_rows : List ℕ → ℕ → ℕ → Option Opened → List Row
loop_rows text p t None = row 3 true ∷ []
loop_rows text p t (Some o) =
    row 3 (not (is_run_raster (command_at text o.place.0)))
    ∷ row 3 (not (full text o.place o.count))
    ∷ row 3 (not (target_good text o.place.0 p t))
    ∷ []

-- "Call, terminate: raster open, or not ending at the checksum, 3."
unfoldable pub close_rows : List ℕ → ℕ → Option Opened → List Row
close_rows text p o = row 3 (is_open o) ∷ row 3 (not (eqb (p + size_at text p) (limit text))) ∷ []

-- ── the judgement
-- the act, unless a row refused it
abbrev pub unless : ℕ → Act → Act
unless code act = cond (eqb code 0) act (Refused code)

-- an exposure in the open raster
abbrev pub exposes_in : Option Opened → Act
exposes_in None = Refused 3
exposes_in (Some o) = Exposes o.place

-- "No command there .., an unknown number, or one that doesn't fit before the checksum: 3."
unfoldable pub judged : (ℕ → ListCard) → List ℕ → ℕ → Option Opened → Command → Act
judged cards text p o RunRaster = unless (first_code (run_rows cards text p o)) Opens
judged cards text p o (Expose time) = unless (first_code (expose_rows text time o)) (exposes_in o)
judged cards text p o (LoopBack t) = unless (first_code (loop_rows text p t o)) (Loops t)
judged cards text p o (CallSequence n) = unless (first_code (close_rows text p o)) (Calls n)
judged cards text p o Terminate = unless (first_code (close_rows text p o)) Ends
judged cards text p o (Delay time) = Waits
judged cards text p o Nothing = Refused 3
judged cards text p o Unknown = Refused 3
judged cards text p o Unfit = Refused 3

unfoldable pub judge : (ℕ → ListCard) → List ℕ → ℕ → Option Opened → Act
judge cards text p o = judged cards text p o (command_at text p)
