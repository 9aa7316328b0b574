-- The unit's state in 36 lent bytes, words high byte first.
use Rattle.std.specs.Prelude.{ℕ, Bool, cond, List, [], ◌∷◌, eqb, length}
use Rattle.octets.specs.Layout.{Field, field, laid, reads, wrong, number_at, flag_at, integer_at}
use Rattle.octets.specs.Layout.Cell.{Byte, Word, Signed, Flag}
use Rattle.unit.specs.declared.Unit.{Unit}
use Rattle.unit.specs.State.{power_on}

-- "0 mode; 1 mode changes allowed; 2-3 STATUS_PC; 4-5 received; 6-7 failed; 8 failed code; 9 failed number; 10 abort code; 11-14 log;
-- 15 selection, 255 none; 16 status sequence, 255 none; 17 place; 18 line list; 19-20 exposures; 21-22 mirror; 23 running; 24 entering;
-- 25 open raster's place, 255 none; 26 exposures in the set; 27-28 passes left; 29-30 raster repeats left; 31 rounds left;
-- 32-33 run number; 34-35 the shift, two's complement"
abbrev pub state_fields : Unit → List Field
state_fields u =
    field 0 (Byte u.control.mode)
    ∷ field 1 (Flag u.control.allowed)
    ∷ field 2 (Word u.control.requests)
    ∷ field 4 (Word u.ledger.received)
    ∷ field 6 (Word u.ledger.failed)
    ∷ field 8 (Byte u.ledger.code)
    ∷ field 9 (Byte u.ledger.number)
    ∷ field 10 (Byte u.watch.abort)
    ∷ field 11 (Byte u.ledger.log.bc1)
    ∷ field 12 (Byte u.ledger.log.bc2)
    ∷ field 13 (Byte u.ledger.log.bc3)
    ∷ field 14 (Byte u.ledger.log.size)
    ∷ field 15 (Byte u.control.selection)
    ∷ field 16 (Byte u.runner.sequence)
    ∷ field 17 (Byte u.runner.place)
    ∷ field 18 (Byte u.watch.list)
    ∷ field 19 (Word u.watch.exposures)
    ∷ field 21 (Word u.runner.mirror)
    ∷ field 23 (Flag u.runner.running)
    ∷ field 24 (Flag u.runner.entering)
    ∷ field 25 (Byte u.runner.raster.place)
    ∷ field 26 (Byte u.runner.raster.count)
    ∷ field 27 (Word u.runner.raster.passes)
    ∷ field 29 (Word u.runner.raster.repeats)
    ∷ field 31 (Byte u.runner.rounds)
    ∷ field 32 (Word u.runner.raster.run)
    ∷ field 34 (Signed u.runner.raster.shift)
    ∷ []

unfoldable pub state_of : Unit → List ℕ
state_of u = laid (state_fields u)

-- the unit with these fields
abbrev pub unit_from : List Field → Unit
unit_from f =
    record {
      ledger =
          record {
            received = number_at f 4;
            failed = number_at f 6;
            code = number_at f 8;
            number = number_at f 9;
            log = record { bc1 = number_at f 11; bc2 = number_at f 12; bc3 = number_at f 13; size = number_at f 14 };
          };
      control = record { mode = number_at f 0; allowed = flag_at f 1; requests = number_at f 2; selection = number_at f 15 };
      watch = record { list = number_at f 18; exposures = number_at f 19; abort = number_at f 10 };
      runner =
          record {
            sequence = number_at f 16;
            place = number_at f 17;
            running = flag_at f 23;
            entering = flag_at f 24;
            raster = record { place = number_at f 25; count = number_at f 26; passes = number_at f 27; repeats = number_at f 29; run = number_at f 32; shift = integer_at f 34 };
            rounds = number_at f 31;
            mirror = number_at f 21;
          };
    }

abbrev pub state_sized : List ℕ → Bool
state_sized s = eqb (length s) 36

-- the fields stand where they do in any unit's table
abbrev pub held_unit : List ℕ → Unit
held_unit s = unit_from (reads (state_fields power_on) s)

-- bytes of another size hold the unit at power-on
unfoldable pub unit_of : List ℕ → Unit
unit_of s = cond (state_sized s) (held_unit s) power_on

-- "A flag byte above 1 is 17."
unfoldable pub flags_wrong : List ℕ → Bool
flags_wrong s = wrong (state_fields power_on) s
