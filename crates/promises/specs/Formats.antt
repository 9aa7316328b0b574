-- The formats of the sequence table that the demands speak of.
use Rattle.std.specs.Prelude.{◌+◌, ◌*◌, ◌≤◌, ◌≡◌}
use Rattle.memory.specs.declared.Format.{Format}

-- "64 entries of 256 bytes in the same 16,384, or 128 of 128. .. proved once for any such entry size and count": the entries fill the table. A
-- place is a byte's number, so an entry has at most 256; and there are at most 128 sequences, as many as a report has room for. No statement asks
-- more of a format than this.
pub record Fills (F : Format) : Type 0 where
  pub whole : F.size * (F.last + 1) ≡ 16384
  pub size : F.size ≤ 256
  pub last : F.last ≤ 127
