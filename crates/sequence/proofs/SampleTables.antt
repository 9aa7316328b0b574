-- The bytes of the sample tables: those of document 01, and others made like them. Assumes nothing.
use Rattle.std.proofs.Common.{ℕ, zero, suc, ◌-◌, List, [], ◌∷◌, ◌++◌, length, replicate}

-- tables that begin with these bytes, 0 in the rest
abbrev table : ℕ → List ℕ → List ℕ
table size bytes = bytes ++ replicate (size - length bytes) 0

abbrev pub seqs : List ℕ → List ℕ
seqs bytes = table 16384 bytes

abbrev pub lists : List ℕ → List ℕ
lists bytes = table 7872 bytes

-- sequences that terminate at once, with this checksum, and that call another at once
abbrev pub ends : ℕ → List ℕ
ends sum = 0x06 ∷ 0x00 ∷ 0x01 ∷ 0x01 ∷ 0x94 ∷ sum ∷ []

abbrev pub calls : ℕ → ℕ → List ℕ
calls number sum = 0x07 ∷ 0x00 ∷ 0x00 ∷ 0x01 ∷ 0x93 ∷ number ∷ sum ∷ []

-- a line list with this many windows
abbrev pub line_list : ℕ → List ℕ
line_list windows =
    0x14 ∷ 0x00 ∷ windows ∷ 0x6E ∷ 0x08 ∷ 0x00 ∷ 0x00 ∷ 0x32 ∷ 0x04 ∷ 0x00 ∷ 0x00 ∷ 0x00 ∷ 0x02 ∷ 0x00 ∷ 0x00 ∷ 0x03 ∷ 0x00 ∷ 0x64 ∷ 0x00 ∷ 0x20 ∷ []

-- what the samples change of a raster: the initial position in two bytes, loops, exposures, repeats, line list and science control
pub record Fields : Type 0 where
  pub high : ℕ
  pub low : ℕ
  pub loops : ℕ
  pub exposures : ℕ
  pub repeats : ℕ
  pub list : ℕ
  pub science : ℕ

abbrev pub fields : ℕ → ℕ → ℕ → ℕ → ℕ → ℕ → ℕ → Fields
fields high low loops exposures repeats list science =
    record { high = high; low = low; loops = loops; exposures = exposures; repeats = repeats; list = list; science = science }

-- a raster from there on by 10, so many exposures in its text, with a loop back to this place; and a sequence of this length with one, and the
-- checksum that goes with it
abbrev exposes : ℕ → List ℕ → List ℕ
exposes zero rest = rest
exposes (suc n) rest = 0x91 ∷ 0x00 ∷ 0x64 ∷ exposes n rest

abbrev raster_to : Fields → ℕ → ℕ → List ℕ → List ℕ
raster_to f shots target rest =
    0x90 ∷ 0x00 ∷ 0x07 ∷ f.high ∷ f.low ∷ 0x00 ∷ f.loops ∷ 0x00 ∷ 0x00 ∷ 0x00 ∷ 0x00 ∷ 0x02 ∷ 0x01 ∷ f.exposures ∷ 0x00 ∷ 0xF0 ∷ f.repeats ∷ 0x00 ∷ 0x03 ∷ 0x00 ∷ 0x0A ∷ f.list ∷ f.science
    ∷ exposes shots
    (0x92 ∷ target
    ∷ rest)

abbrev pub raster : ℕ → Fields → ℕ → ℕ → List ℕ
raster size f shots sum =
    size ∷ 0x00 ∷ 0x02 ∷ 0x01
    ∷ raster_to f shots 0x1B
    (0x94
    ∷ sum ∷ [])

-- the raster sequence of document 01, and with another initial position
abbrev pub raster_at_position : ℕ → ℕ → ℕ → List ℕ
raster_at_position high low sum = raster 0x22 (fields high low 3 1 2 0 0) 1 sum

abbrev pub the_raster : List ℕ
the_raster = raster_at_position 0x00 0x64 0xC0

-- delays of 1
abbrev pub delays : ℕ → List ℕ → List ℕ
delays zero rest = rest
delays (suc n) rest = 0x95 ∷ 0x00 ∷ 0x01 ∷ delays n rest

-- a sequence of 255 bytes, for the old unit: delays, and three rasters of two passes at the places 169, 197 and 225, each with its exposure and its
-- loop's target 23 further on
abbrev pub long_sequence : List ℕ
long_sequence =
    let two : Fields = fields 0x00 0x64 2 1 1 0 0 in
    0xFF ∷ 0x00 ∷ 0x01 ∷ 0x01 ∷ delays 55 (raster_to two 1 192 (raster_to two 1 220 (raster_to two 1 248 (0x94 ∷ 0x77 ∷ []))))
