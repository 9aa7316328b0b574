-- A raster's fields from its eleven words, the tests of its science flags, and where its repeats stand.
use Rattle.std.specs.Prelude.{ℕ, zero, suc, ◌+◌, ◌-◌, ◌*◌, ◌/◌, ◌%◌, Bool, true, false, cond, not, ◌&&◌, ◌||◌, List, ℤ, pos, negsuc, ◌+ℤ◌, neg_ℤ, ◌==◌, nat_lt, unsigned_abs}
use Rattle.octets.specs.Bytes.{byte_at, word_at, byte_bit}
use Rattle.sequence.specs.declared.RasterWords.{RasterWords}
use Rattle.sequence.specs.declared.Marks.{Marks}

-- "ID; initial position; loops; compression; OCB-X, OCB-Y; flush ID, flushes; 4 spare bits, exposures (4 bits), ASRC (8);
-- nodes (4), repeats (12); ASRC skip, read-out ID; step; line list, science control"
unfoldable pub raster_at : List ℕ → ℕ → RasterWords
raster_at text p =
    record {
      id = word_at text (p + 1);
      initial = word_at text (p + 3);
      loops = word_at text (p + 5);
      compression = word_at text (p + 7);
      ocbx = byte_at text (p + 9);
      ocby = byte_at text (p + 10);
      flush = byte_at text (p + 11);
      flushes = byte_at text (p + 12);
      spare = byte_at text (p + 13) / 16;
      exposures = byte_at text (p + 13) % 16;
      asrc = byte_at text (p + 14);
      nodes = byte_at text (p + 15) / 16;
      repeats = word_at text (p + 15) % 4096;
      skip = byte_at text (p + 17);
      readout = byte_at text (p + 18);
      step = word_at text (p + 19);
      list = byte_at text (p + 21);
      science = byte_at text (p + 22);
    }

-- "bits 2 and 3 may be set together, any other pair not": of science bits 2 to 5
abbrev pub both_set : ℕ → ℕ → ℕ → Bool
both_set a b science = byte_bit a science && byte_bit b science

unfoldable pub flags_good : ℕ → Bool
flags_good science = not (both_set 2 4 science || (both_set 2 5 science || (both_set 3 4 science || (both_set 3 5 science || both_set 4 5 science))))

-- "each of bits 3, 4 and 5 needs a window of that line list with its own mark": one that is set has none
unfoldable pub mark_missing : Marks → ℕ → Bool
mark_missing marks science =
    (byte_bit 3 science && not marks.aec) || ((byte_bit 4 science && not marks.event) || (byte_bit 5 science && not marks.flare))

-- for the code: one of them is set
unfoldable pub needs_mark : ℕ → Bool
needs_mark science = byte_bit 3 science || (byte_bit 4 science || byte_bit 5 science)

-- ── the mirror's positions
-- "the ASRC byte of document 002: bit 0 direction (0 forward, 1 backward), seven bits of mirror steps, with the skip byte"
abbrev pub backward : RasterWords → Bool
backward raster = byte_bit 0 raster.asrc

abbrev pub asrc_steps : RasterWords → ℕ
asrc_steps raster = raster.asrc % 128

-- "an ASRC byte other than 0 with no steps, or with skip 0"
abbrev pub asrc_wrong : RasterWords → Bool
asrc_wrong raster = not (raster.asrc == 0) && (asrc_steps raster == 0 || raster.skip == 0)

-- "In raster repeat k, from 0, the initial position moves by steps times the whole part of k / skip"; a byte of 0 has no steps, whatever its skip
abbrev pub moved_by : RasterWords → ℕ → ℕ
moved_by raster k = asrc_steps raster * (k / raster.skip)

-- "forward (added) or back (taken off)": the signed shift
abbrev pub shift_of : RasterWords → ℕ → ℤ
shift_of raster k = cond (backward raster) (neg_ℤ (pos (moved_by raster k))) (pos (moved_by raster k))

-- where repeat k begins: a signed sum, never cut
abbrev pub begins_at : RasterWords → ℕ → ℤ
begins_at raster k = pos raster.initial +ℤ shift_of raster k

-- and as the mirror's number, where it is one
abbrev pub start_of : RasterWords → ℕ → ℕ
start_of raster k = unsigned_abs (begins_at raster k)

-- out of "0 to 2400"
abbrev pub outside : ℤ → Bool
outside (pos n) = nat_lt 2400 n
outside (negsuc n) = true

-- a position of repeat k is: its first pass's, or its last's, (loops - 1) x step further on
abbrev pub strays : RasterWords → ℕ → Bool
strays raster k = outside (begins_at raster k) || outside (begins_at raster k +ℤ pos ((raster.loops - 1) * raster.step))

-- one of the first n repeats strays
unfoldable pub some_strays : RasterWords → ℕ → Bool
some_strays raster zero = false
some_strays raster (suc k) = strays raster k || some_strays raster k

-- "a position out of range in any repeat, or in the one begun", repeat k
abbrev pub leaves : RasterWords → ℕ → Bool
leaves raster k = some_strays raster raster.repeats || strays raster k
