-- A packet by its own bytes: whose command it is, its length, the range that it names.
use Rattle.std.specs.Prelude.{ℕ, ◌+◌, Bool, true, cond, not, ◌&&◌, List, [], ◌∷◌, leb, eqb, length}
use Rattle.octets.specs.Bytes.{byte_at, triple_at}
use Rattle.octets.specs.Rows.{Row, row, some}
use Rattle.memory.specs.declared.Range.{Range}
use Rattle.memory.specs.declared.Range.TheVariants.{Wrong}
use Rattle.memory.specs.Memory.{range_at}
use Rattle.telecommand.specs.declared.Telecommand.{Telecommand}
use Rattle.telecommand.specs.declared.Telecommand.TheVariants.{Status, Dump, Allow, Mode, Clear, Select, Uplink, Foreign, Unheard}

-- from a to b
abbrev pub from_to : ℕ → ℕ → ℕ → Bool
from_to a b n = leb a n && leb n b

-- "BC1 is 00, 10-1F, E0-E4, F0-F4 or F6-FF"
abbrev pub foreign : ℕ → Bool
foreign n = some (eqb n 0x00 ∷ from_to 0x10 0x1F n ∷ from_to 0xE0 0xE4 n ∷ from_to 0xF0 0xF4 n ∷ from_to 0xF6 0xFF n ∷ [])

-- the column "BC1"; for those that have no row, the first number of another subsystem and the first that nobody has
abbrev pub bc1_of : Telecommand → ℕ
bc1_of Status = 0x01
bc1_of Dump = 0x07
bc1_of Allow = 0x20
bc1_of Mode = 0x21
bc1_of Clear = 0x23
bc1_of Select = 0x83
bc1_of Uplink = 0xE7
bc1_of Foreign = 0x00
bc1_of Unheard = 0x02

abbrev pub is : Telecommand → Telecommand → Bool
is c k = eqb (bc1_of k) (bc1_of c)

-- "Commands the unit obeys"
abbrev pub obeyable : List Telecommand
obeyable = Status ∷ Dump ∷ Allow ∷ Mode ∷ Clear ∷ Select ∷ Uplink ∷ []

-- the one of some commands that has this number, or another
abbrev pub numbered : ℕ → List Telecommand → Telecommand → Telecommand
numbered n [] other = other
numbered n (k ∷ ks) other = cond (eqb n (bc1_of k)) k (numbered n ks other)

unfoldable pub telecommand_of : ℕ → Telecommand
telecommand_of n = numbered n obeyable (cond (foreign n) Foreign Unheard)

abbrev pub command_of : List ℕ → Telecommand
command_of p = telecommand_of (byte_at p 0)

-- the column "length"
abbrev pub size_good : Telecommand → List ℕ → Bool
size_good Status p = eqb (length p) 1
size_good Dump p = eqb (length p) 7
size_good Allow p = from_to 1 2 (length p)
size_good Mode p = eqb (length p) 2
size_good Clear p = eqb (length p) 1
size_good Select p = eqb (length p) 2
size_good Uplink p = eqb (length p) (5 + byte_at p 4)
size_good Foreign p = true
size_good Unheard p = true

-- "5, 6 (BC1), 1": whose command it is, and its length
abbrev pub shape_rows : Telecommand → List ℕ → List Row
shape_rows k p = row 5 (is Foreign k) ∷ row 6 (is Unheard k) ∷ row 1 (not (size_good k p)) ∷ []

-- "BC2-4 address, BC5-7 count" and "BC2-4 address, BC5 count"; an uplink's count above 128 makes a packet longer than 133
abbrev pub dump_range : List ℕ → Range
dump_range p = range_at (triple_at p 1) (triple_at p 4)

abbrev pub uplink_range : List ℕ → Range
uplink_range p = range_at (triple_at p 1) (byte_at p 4)

-- the range that its data goes into: an uplink's, or none
abbrev pub writes_to : Telecommand → List ℕ → Range
writes_to k p = cond (is Uplink k) (uplink_range p) Wrong

-- "Only 1-2, 2-1, 2-3 and 3-2 are allowed."
abbrev pub pair_allowed : ℕ → ℕ → Bool
pair_allowed a b = some ((eqb a 1 && eqb b 2) ∷ (eqb a 2 && eqb b 1) ∷ (eqb a 2 && eqb b 3) ∷ (eqb a 3 && eqb b 2) ∷ [])
