-- What is read of an entry, a sequence's or a line list's: its first four bytes, and those within the length that its byte 0 says.
use Rattle.std.specs.Prelude.{◌≡◌, ℕ, ◌<◌, ◌⊎◌, List, length}
use Rattle.octets.specs.Bytes.{byte_at}

abbrev pub Read : List ℕ → ℕ → Type 0
Read entry i = (i < length entry) × ((i < 4) ⊎ (i < byte_at entry 0))

-- the second entry is as long as the first, and has its bytes where it is read
pub record Alike (entry entry' : List ℕ) : Type 0 where
  pub long : length entry' ≡ length entry
  pub bytes : (i : ℕ) → Read entry i → byte_at entry' i ≡ byte_at entry i
