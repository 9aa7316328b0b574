-- Whether a pass still stands: what it rests on are the bytes of the listed sequences, and of the line lists that those use, within their lengths.
use Rattle.std.specs.Prelude.{ℕ, zero, suc, ◌+◌, ◌*◌, ◌-◌, ◌/◌, ◌%◌, Bool, cond, not, ◌&&◌, List, [], ◌∷◌, ◌++◌, ltb, eqb, Option, Some, None}
use Rattle.octets.specs.Bytes.{byte_at}
use Rattle.memory.specs.declared.Address.{Address}
use Rattle.memory.specs.declared.Format.{Format}
use Rattle.memory.specs.Memory.{entry_of, tables_wrong, address_of}
use Rattle.sequence.specs.Starts.{among}
use Rattle.survey.specs.declared.Ending.{Ending}
use Rattle.survey.specs.declared.Ending.TheVariants.{Unlisted, Finishes, Returns, Faults}
use Rattle.survey.specs.declared.Standing.{Standing}
use Rattle.survey.specs.declared.Standing.TheVariants.{Unpassed, Same, Changed}
use Rattle.survey.specs.Chain.{check_of}
use Rattle.survey.specs.Frame.{lists_used}

-- the line lists that these sequences use
abbrev pub lists_over : Format → List ℕ → List ℕ → List ℕ
lists_over F seqs [] = []
lists_over F seqs (n ∷ ns) = lists_used (entry_of F seqs n) ++ lists_over F seqs ns

-- "byte of a listed sequence", "of a line list": in a table of entries of this size the byte at this offset is in one of these entries, within
-- the length that its byte 0 says
unfoldable pub in_entries : ℕ → List ℕ → List ℕ → ℕ → Bool
in_entries size table entries at = among (at / size) entries && ltb (at % size) (byte_at table (at / size * size))

-- "a touched byte given its old value again counts as untouched": the byte at this offset is another now
abbrev pub another : List ℕ → List ℕ → ℕ → Bool
another was is at = not (eqb (byte_at was at) (byte_at is at))

-- and it is one of those bytes
unfoldable pub changed_in : ℕ → List ℕ → List ℕ → List ℕ → ℕ → Bool
changed_in size was is entries at = in_entries size was entries at && another was is at

-- the same by address
unfoldable pub changed_at : Format → List ℕ → List ℕ → List ℕ → List ℕ → List ℕ → ℕ → Bool
changed_at F seqs lists seqs' lists' names a =
    cond (ltb a 0x074000) (changed_in F.size seqs seqs' names (a - 0x070000)) (changed_in 164 lists lists' (lists_over F seqs names) (a - 0x074000))

-- the first of so many numbers, from this one on, of which the test holds; where it holds of none, the number after them
unfoldable pub first_of : (ℕ → Bool) → ℕ → ℕ → ℕ
first_of test zero at = at
first_of test (suc more) at = cond (test at) at (first_of test more (at + 1))

-- "the lowest address of such a byte that differs", of all addresses; where none does, the number after them
abbrev pub lowest_changed : Format → List ℕ → List ℕ → List ℕ → List ℕ → List ℕ → ℕ
lowest_changed F seqs lists seqs' lists' names = first_of (changed_at F seqs lists seqs' lists' names) 24256 0x070000

-- that number is no address, and nothing has changed
abbrev pub standing_at : Option Address → Standing
standing_at (Some a) = Changed a
standing_at None = Same

-- by number and value: 0 there was no pass, 1 it stands, 2 it does not, and the lowest address
pub record StandingShown : Type 0 where
  pub number : ℕ
  pub address : ℕ

abbrev pub standing_as : ℕ → ℕ → StandingShown
standing_as number address = record { number = number; address = address }

abbrev pub standing_shown : Standing → StandingShown
standing_shown (Unpassed ending) = standing_as 0 0
standing_shown Same = standing_as 1 0
standing_shown (Changed a) = standing_as 2 a.0

-- a check that lists nothing or ends at a fault has no pass that could stand
abbrev pub standing_by : Standing → Ending → Standing
standing_by found (Unlisted code) = Unpassed (Unlisted code)
standing_by found Finishes = found
standing_by found Returns = found
standing_by found (Faults n f reason) = Unpassed (Faults n f reason)

-- the check of sequence n over the tables of then, held against those of now; 16 for either of a wrong size
unfoldable pub still_of : Format → List ℕ → List ℕ → List ℕ → List ℕ → ℕ → Standing
still_of F seqs lists seqs' lists' n =
    cond (tables_wrong F seqs' lists') (Unpassed (Unlisted 16))
    (let t = check_of F seqs lists n in
    standing_by (standing_at (address_of (lowest_changed F seqs lists seqs' lists' t.names))) t.ending)
