-- A sequence's text: its length, its checksum, its repeats, and the command at a place.
use Rattle.std.specs.Prelude.{ℕ, ◌+◌, ◌-◌, Bool, true, false, cond, not, ◌&&◌, ◌||◌, List, [], ◌∷◌, map, length, take, ◌==◌, nat_le, nat_lt, Result, Ok, Err}
use Rattle.octets.specs.Bytes.{byte_at, word_at, xor_of}
use Rattle.octets.specs.Rows.{Row, row, first_code}
use Rattle.sequence.specs.declared.Command.{Command}
use Rattle.sequence.specs.declared.Command.TheVariants.{RunRaster, Expose, LoopBack, CallSequence, Terminate, Delay, Nothing, Unknown, Unfit}
use Rattle.sequence.specs.declared.CommandRow.{CommandRow}
use Rattle.sequence.specs.declared.Fault.{Fault}

-- "byte 0 length 6 to 128": an entry's size is the length of its text
unfoldable pub length_good : List ℕ → Bool
length_good text = nat_le 6 (byte_at text 0) && nat_le (byte_at text 0) (length text)

-- the checksum's place
unfoldable pub limit : List ℕ → ℕ
limit text = byte_at text 0 - 1

-- "last byte the XOR of all before it"
unfoldable pub xor_good : List ℕ → Bool
xor_good text = xor_of (take (limit text) text) == byte_at text (limit text)

-- a fault is a code at a place
abbrev pub fault : ℕ → ℕ → Fault
fault code place = record { code = code; place = place }

-- "bad length or XOR, code 2 at place 0; then repeats 0, code 10 at place 3"
unfoldable pub header_rows : List ℕ → List Row
header_rows text = row 2 (not (length_good text)) ∷ row 2 (not (xor_good text)) ∷ row 10 (byte_at text 3 == 0) ∷ []

abbrev pub header_place : ℕ → ℕ
header_place code = cond (code == 10) 3 0

abbrev pub header_by : ℕ → ℕ → Result ℕ Fault
header_by repeats code = cond (code == 0) (Ok repeats) (Err (fault code (header_place code)))

unfoldable pub header_of : List ℕ → Result ℕ Fault
header_of text = header_by (byte_at text 3) (first_code (header_rows text))

-- "Six commands, numbers ours: 90 run raster (23 bytes), 91 expose (word: time, not 0), 92 loop back (byte: place), 93 call (byte),
-- 94 terminate, 95 delay (word, any)": row by row, the number and the bytes that the command takes
abbrev pub takes : ℕ → ℕ → CommandRow
takes op size = record { op = op; size = size }

abbrev pub row_of : Command → CommandRow
row_of RunRaster = takes 0x90 23
row_of (Expose time) = takes 0x91 3
row_of (LoopBack target) = takes 0x92 2
row_of (CallSequence n) = takes 0x93 2
row_of Terminate = takes 0x94 1
row_of (Delay time) = takes 0x95 3
row_of Nothing = takes 0 0
row_of Unknown = takes 0 0
row_of Unfit = takes 0 0

abbrev pub number_of : Command → ℕ
number_of k = (row_of k).op

-- the six, with the operands that stand at a place
abbrev pub commands_at : List ℕ → ℕ → List Command
commands_at text at =
    RunRaster ∷ Expose (word_at text at) ∷ LoopBack (byte_at text at) ∷ CallSequence (byte_at text at) ∷ Terminate ∷ Delay (word_at text at) ∷ []

abbrev pub command_table : List CommandRow
command_table = map row_of (commands_at [] 0)

-- the bytes in the row of a number; a number that has no row takes none
abbrev pub size_in : ℕ → List CommandRow → ℕ
size_in n [] = 0
size_in n (r ∷ rs) = cond (n == r.op) r.size (size_in n rs)

unfoldable pub size_of : ℕ → ℕ
size_of n = size_in n command_table

-- the one among these commands that has a number
abbrev pub command_in : ℕ → List Command → Command
command_in n [] = Unknown
command_in n (k ∷ ks) = cond (n == number_of k) k (command_in n ks)

-- the command of the number at a place, with its operand
unfoldable pub decoded : List ℕ → ℕ → Command
decoded text p = command_in (byte_at text p) (commands_at text (p + 1))

-- "No command there (also: place below 4, or length byte not 6 to 128)"
unfoldable pub none_there : List ℕ → ℕ → Bool
none_there text p = nat_lt p 4 || (not (length_good text) || nat_le (limit text) p)

-- "an unknown number, or one that doesn't fit before the checksum"
unfoldable pub command_at : List ℕ → ℕ → Command
command_at text p =
    cond (none_there text p) Nothing
    (cond (size_of (byte_at text p) == 0) Unknown
    (cond (nat_lt (limit text) (p + size_of (byte_at text p))) Unfit
    (decoded text p)))

-- the bytes that the command at a place takes, 0 where none stands there whole
unfoldable pub size_at : List ℕ → ℕ → ℕ
size_at text p = size_of (number_of (command_at text p))

-- whether it is a run raster
abbrev pub is_run_raster : Command → Bool
is_run_raster RunRaster = true
is_run_raster (Expose t) = false
is_run_raster (LoopBack t) = false
is_run_raster (CallSequence n) = false
is_run_raster Terminate = false
is_run_raster (Delay t) = false
is_run_raster Nothing = false
is_run_raster Unknown = false
is_run_raster Unfit = false
