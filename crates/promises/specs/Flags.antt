-- The science flags as a table: what a run raster is answered for each set of flags over a good line list with each set of marks, where
-- nothing else is wrong with it.
use Rattle.std.specs.Prelude.{ℕ, ◌+◌, ◌*◌, ◌/◌, ◌%◌, ◌≤◌, ◌<◌, ◌≡◌, Bool, false, cond, List, [], ◌∷◌, get_or, replicate, Ok, Option}
use Rattle.octets.specs.Rows.{first_code, NoneHolds}
use Rattle.sequence.specs.LineList.{ListCard}
use Rattle.sequence.specs.declared.Marks.{Marks}
use Rattle.sequence.specs.Raster.{raster_at}
use Rattle.runner.specs.declared.Opened.{Opened}
use Rattle.runner.specs.Judge.{open_elsewhere, repeat_begun, count_rows, path_rows, run_rows}

-- the answers of one line: for the marks of header bits 11, 12 and 13, from none of them to all
abbrev pub across : ℕ → ℕ → ℕ → ℕ → ℕ → ℕ → ℕ → ℕ → List ℕ
across none flare event event_flare aec aec_flare aec_event all = none ∷ flare ∷ event ∷ event_flare ∷ aec ∷ aec_flare ∷ aec_event ∷ all ∷ []

abbrev pub obeyed : List ℕ
obeyed = replicate 8 0

abbrev pub forbidden : List ℕ
forbidden = replicate 8 3

-- a line for each set of science bits 2 to 5: XRT flare trigger, AEC, event, flare
abbrev pub flag_table : List (List ℕ)
flag_table =
    obeyed  -- 0000
    ∷ across 7 0 7 0 7 0 7 0  -- 0001 flare
    ∷ across 7 7 0 0 7 7 0 0  -- 0010 event
    ∷ forbidden  -- 0011
    ∷ across 7 7 7 7 0 0 0 0  -- 0100 AEC
    ∷ forbidden  -- 0101
    ∷ forbidden  -- 0110
    ∷ forbidden  -- 0111
    ∷ obeyed  -- 1000 XRT
    ∷ forbidden  -- 1001
    ∷ forbidden  -- 1010
    ∷ forbidden  -- 1011
    ∷ across 7 7 7 7 0 0 0 0  -- 1100 XRT and AEC
    ∷ forbidden  -- 1101
    ∷ forbidden  -- 1110
    ∷ forbidden  -- 1111
    ∷ []

abbrev bit : Bool → ℕ
bit b = cond b 1 0

abbrev pub in_table : Marks → ℕ → ℕ
in_table marks science = get_or (get_or flag_table (science / 4 % 16) []) (bit marks.aec * 4 + bit marks.event * 2 + bit marks.flare) 0

-- A run raster with any of the 256 science bytes, over a good line list with any marks, is answered as the table has it, where no other raster is
-- open and its counts and its path are not refused.
abbrev pub FlagsAsTabled : Type 0
FlagsAsTabled = (cards : ℕ → ListCard) (text : List ℕ) (p : ℕ) (o : Option Opened) (marks : Marks) → let raster = raster_at text p in open_elsewhere p o ≡ false
    → NoneHolds (count_rows raster) → NoneHolds (path_rows raster (repeat_begun o))
    → raster.list ≤ 47 → cards raster.list ≡ Ok marks → raster.science < 256
    → first_code (run_rows cards text p o) ≡ in_table marks raster.science
