-- The unit's state: at power-on, in range, and changed.
use Rattle.std.specs.Prelude.{ℕ, Bool, true, false, cond, not, ◌&&◌, ◌||◌, List, [], ◌∷◌, ltb, leb, eqb, pos}
use Rattle.octets.specs.Rows.{some}
use Rattle.memory.specs.declared.Format.{Format}
use Rattle.runner.specs.declared.Runner.{Runner}
use Rattle.runner.specs.With.{with_sequence, with_place, with_running, with_entering, with_raster, open_at}
use Rattle.status.specs.declared.Ledger.{Ledger}
use Rattle.status.specs.declared.Control.{Control}
use Rattle.status.specs.declared.Watch.{Watch}
use Rattle.status.specs.State.{with_mode, with_selection, with_exposures, with_abort}
use Rattle.unit.specs.declared.Unit.{Unit}

-- ── a unit with one part changed
abbrev pub with_ledger : Ledger → Unit → Unit
with_ledger x u = record { ledger = x; control = u.control; watch = u.watch; runner = u.runner }

abbrev pub with_control : Control → Unit → Unit
with_control x u = record { ledger = u.ledger; control = x; watch = u.watch; runner = u.runner }

abbrev pub with_watch : Watch → Unit → Unit
with_watch x u = record { ledger = u.ledger; control = u.control; watch = x; runner = u.runner }

abbrev pub with_runner : Runner → Unit → Unit
with_runner x u = record { ledger = u.ledger; control = u.control; watch = u.watch; runner = x }

-- ── power-on
-- "At power-on mode is 1, byte 17 is 0x22, the rest of the state is 0 or none."
unfoldable pub power_on : Unit
power_on =
    record {
      ledger = record { received = 0; failed = 0; code = 0; number = 0; log = record { bc1 = 0; bc2 = 0; bc3 = 0; size = 0 } };
      control = record { mode = 1; allowed = false; requests = 0; selection = 255 };
      watch = record { list = 0; exposures = 0; abort = 0 };
      runner =
          record {
            sequence = 255;
            place = 0;
            running = false;
            entering = false;
            raster = record { place = 255; count = 0; passes = 0; repeats = 0; run = 0; shift = pos 0 };
            rounds = 0;
            mirror = 0;
          };
    }

-- ── the range
abbrev pub is_none : ℕ → Bool
is_none n = eqb n 255

-- "above 127 (unless none)", or above the last number of the kind
abbrev pub beyond : ℕ → ℕ → Bool
beyond last n = ltb last n && not (is_none n)

-- "or running outside AUTO or with selection or status sequence none"
unfoldable pub runs_wrong : Unit → Bool
runs_wrong u =
    u.runner.running && (not (eqb u.control.mode 3) || (is_none u.control.selection || is_none u.runner.sequence))

-- "Out of range means: mode not 1-3, failed or abort code above 15, sequence or selection above 127 (unless none), place or open
-- raster's place above 127, line list above 47, mirror above 2400, exposures in the set above 8, or running .."
unfoldable pub range_tests : Format → Unit → List Bool
range_tests F u =
    ltb u.control.mode 1
    ∷ ltb 3 u.control.mode
    ∷ ltb 15 u.ledger.code
    ∷ ltb 15 u.watch.abort
    ∷ beyond F.last u.runner.sequence
    ∷ beyond F.last u.control.selection
    ∷ leb F.size u.runner.place
    ∷ (leb F.size u.runner.raster.place && not (is_none u.runner.raster.place))
    ∷ ltb 47 u.watch.list
    ∷ ltb 2400 u.runner.mirror
    ∷ ltb 8 u.runner.raster.count
    ∷ runs_wrong u
    ∷ []

unfoldable pub out_of_range : Format → Unit → Bool
out_of_range F u = some (range_tests F u)

-- ── modes
-- "2-3 .. starts it: status sequence is the selection, place, exposures and abort code are 0, no raster is open, entering comes first."
abbrev pub started : Unit → Unit
started u =
    with_watch (with_exposures 0 (with_abort 0 u.watch))
    (with_runner (with_sequence u.control.selection (with_place 0 (with_raster (open_at 255 u.runner.raster) (with_running true (with_entering true u.runner))))) u)

-- "3-2 while it runs stops it with abort code 1, the place kept."
abbrev pub stopped : Unit → Unit
stopped u = with_watch (with_abort 1 u.watch) (with_runner (with_running false u.runner) u)

-- the mode changed to m: to AUTO a start, from a running sequence a stop
unfoldable pub moded : ℕ → Unit → Unit
moded m u = with_control (with_mode m u.control) (cond (eqb m 3) (started u) (cond u.runner.running (stopped u) u))

-- "83 also puts its number in the status, place 0."
unfoldable pub selected : ℕ → Unit → Unit
selected n u = with_control (with_selection n u.control) (with_runner (with_sequence n (with_place 0 u.runner)) u)
