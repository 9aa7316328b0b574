-- Bytes and memory: the tables' places, addresses and ranges, the part that a range shows, and what a write leaves.
use Rattle.std.specs.Prelude.{ℕ, ◌+◌, ◌*◌, ◌-◌, Bool, true, false, cond, not, ◌&&◌, ◌||◌, List, [], ◌∷◌, ◌++◌, ltb, leb, eqb, length, take, drop, Option, Some, None}
use Rattle.octets.specs.Rows.{Row, row, first_code}
use Rattle.memory.specs.declared.Format.{Format}
use Rattle.memory.specs.declared.Place.{Place}
use Rattle.memory.specs.declared.Address.{Address}
use Rattle.memory.specs.declared.Range.{Range}
use Rattle.memory.specs.declared.Range.TheVariants.{Sequences, LineLists, Wrong}

-- "64 entries of 256 bytes in the same 16,384, or 128 of 128": an entry's size and the last number, of the old unit on the bench and in flight
abbrev pub bench : Format
bench = record { size = 256; last = 63 }

abbrev pub flight : Format
flight = record { size = 128; last = 127 }

-- the format of a kind's tables; another number is no kind, and entries of no bytes fill no table
abbrev pub format_of : ℕ → Format
format_of kind = cond (eqb kind 0) flight (cond (eqb kind 1) bench (record { size = 0; last = 0 }))

-- a format that fills the table: a place is a byte's number, so an entry has at most 256 bytes, and there are at most 128 sequences
unfoldable pub fills : Format → Bool
fills F = eqb (F.size * (F.last + 1)) 16384 && (leb F.size 256 && leb F.last 127)

-- sequence n's own bytes
abbrev pub entry_of : Format → List ℕ → ℕ → List ℕ
entry_of F seqs n = take F.size (drop (n * F.size) seqs)

-- "Line lists: 48 entries of 164 bytes"
abbrev pub list_of : List ℕ → ℕ → List ℕ
list_of lists n = take 164 (drop (n * 164) lists)

-- "The caller lends both, 16,384 and 7,872 bytes exactly"; "an unknown kind is 16"
unfoldable pub tables_wrong : Format → List ℕ → List ℕ → Bool
tables_wrong F seqs lists = not (fills F) || (not (eqb (length seqs) 16384) || not (eqb (length lists) 7872))

-- "A place in a sequence and an address in memory are kept apart"
abbrev pub place_at : ℕ → Place
place_at n = record { 0 = n }

abbrev pub place_of : Format → ℕ → Option Place
place_of F n = cond (ltb n F.size) (Some (place_at n)) None

-- "addresses 0x070000 to 0x073FFF .. 0x074000 to 0x075EBF"
abbrev pub address_of : ℕ → Option Address
address_of n = cond (ltb n 0x070000) None (cond (ltb n 0x075EC0) (Some (record { 0 = n })) None)

-- len bytes from address a lie in the table of this size at address first
abbrev pub within : ℕ → ℕ → ℕ → ℕ → Bool
within first size a len = leb first a && leb (a + len) (first + size)

-- "A range lies wholly in one table; it may cross entries."
unfoldable pub range_of : ℕ → ℕ → Range
range_of a len =
    cond (eqb len 0 || ltb 16384 len) Wrong
    (cond (within 0x070000 16384 a len) (Sequences (a - 0x070000))
    (cond (within 0x074000 7872 a len) (LineLists (a - 0x074000))
    Wrong))

-- the range from an address that may be any number
abbrev pub range_from : Option Address → ℕ → Range
range_from None len = Wrong
range_from (Some a) len = range_of a.0 len

unfoldable pub range_at : ℕ → ℕ → Range
range_at a len = range_from (address_of a) len

abbrev pub is_wrong : Range → Bool
is_wrong (Sequences at) = false
is_wrong (LineLists at) = false
is_wrong Wrong = true

-- the bytes of a range
abbrev pub part_of : List ℕ → List ℕ → ℕ → Range → List ℕ
part_of seqs lists len (Sequences at) = take len (drop at seqs)
part_of seqs lists len (LineLists at) = take len (drop at lists)
part_of seqs lists len Wrong = []

-- "wrong tables give 16, then a bad length or range 7, each with an empty part"
unfoldable pub window_rows : Format → List ℕ → List ℕ → ℕ → ℕ → List Row
window_rows F seqs lists a len = row 16 (tables_wrong F seqs lists) ∷ row 7 (is_wrong (range_at a len)) ∷ []

unfoldable pub window_code : Format → List ℕ → List ℕ → ℕ → ℕ → ℕ
window_code F seqs lists a len = first_code (window_rows F seqs lists a len)

unfoldable pub window_part : Format → List ℕ → List ℕ → ℕ → ℕ → List ℕ
window_part F seqs lists a len = cond (eqb (window_code F seqs lists a len) 0) (part_of seqs lists len (range_at a len)) []

-- a table with bytes written over it from an offset on, where they fit
abbrev pub written : List ℕ → ℕ → List ℕ → List ℕ
written t at d = cond (leb (at + length d) (length t)) (take at t ++ (d ++ drop (at + length d) t)) t

-- what a write into a range leaves in each table
abbrev pub seqs_written : Range → List ℕ → List ℕ → List ℕ
seqs_written (Sequences at) t d = written t at d
seqs_written (LineLists at) t d = t
seqs_written Wrong t d = t

abbrev pub lists_written : Range → List ℕ → List ℕ → List ℕ
lists_written (Sequences at) t d = t
lists_written (LineLists at) t d = written t at d
lists_written Wrong t d = t
