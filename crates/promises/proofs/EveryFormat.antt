-- Demand 3, and all that goes with it, of tables of every format that fills them: proved once, whatever the size of an entry and the count.
-- The two kinds' formats are such by computing. Assumes nothing.
use native.Mathlib.Omega.{arith}
use mathlib.Core.Path.{refl}
use Rattle.memory.specs.declared.Format.{Format}
use Rattle.memory.specs.Memory.{flight, bench}
use Rattle.promises.specs.Formats.{Fills}
use Rattle.promises.specs.Library.{ours}
use Rattle.promises.specs.Demand3.{Demand3, Applies, SelectionObeyed, Starts, Passed, Faulted, Returning, EveryLap}
use Rattle.promises.specs.Stays.{Stays, FaultStays, StaysAfter, StaysUntouched, StaysRuns, FaultRuns, PlanStays, StillExact}
use Rattle.promises.specs.Cards.{Fresh, Kept, CardsTold, Least, UsedEnough}
use Rattle.promises.specs.Refuted.{CheckDecided}
use Rattle.promises.proofs.Packets.Starts.{applies, selects, starts}
use Rattle.promises.proofs.Demand3.{demand3, passed, faulted, returning}
use Rattle.promises.proofs.EveryLap.{every-lap}
use Rattle.promises.proofs.Stays.Rests.{stays, fault-stays}
use Rattle.promises.proofs.Stays.Planned.{plan-stays}
use Rattle.promises.proofs.Stays.Since.{stays_after_lem, stays-untouched}
use Rattle.promises.proofs.Stays.Begun.{stays-runs, fault-runs}
use Rattle.promises.proofs.Stays.Still.{still-exact}
use Rattle.promises.proofs.Cards.{fresh, kept, cards-told, least, used-enough}
use Rattle.promises.proofs.Decided.{check-decided}

pub record Promised (F : Format) : Type 0 where
  pub demand3 : Demand3 F ours
  pub applies : Applies F ours
  pub selects : SelectionObeyed F ours
  pub starts : Starts F ours
  pub passed : Passed F ours
  pub faulted : Faulted F ours
  pub returning : Returning F ours
  pub every_lap : EveryLap F ours
  pub decided : CheckDecided F
  pub stays : Stays F ours
  pub fault_stays : FaultStays F ours
  pub stays_after : StaysAfter F ours
  pub stays_untouched : StaysUntouched F ours
  pub stays_runs : StaysRuns F ours
  pub fault_runs : FaultRuns F ours
  pub plan_stays : PlanStays F ours
  pub still_exact : StillExact F ours
  pub fresh : Fresh F ours
  pub kept : Kept F ours
  pub cards_told : CardsTold F ours
  pub least : Least F ours
  pub used_enough : UsedEnough F ours

pub every-format : (F : Format) → Fills F → Promised F
every-format F full =
    record {
      demand3 = demand3 full;
      applies = applies full;
      selects = selects full;
      starts = starts full;
      passed = passed full;
      faulted = faulted full;
      returning = returning full;
      every_lap = every-lap full;
      decided = check-decided full;
      stays = stays;
      fault_stays = fault-stays;
      stays_after = stays_after_lem;
      stays_untouched = stays-untouched;
      stays_runs = stays-runs full;
      fault_runs = fault-runs full;
      plan_stays = plan-stays;
      still_exact = still-exact full;
      fresh = fresh;
      kept = kept;
      cards_told = cards-told;
      least = least;
      used_enough = used-enough;
    }

pub flight-fills : Fills flight
flight-fills = record { whole = refl; size = omega arith; last = omega arith }

pub bench-fills : Fills bench
bench-fills = record { whole = refl; size = omega arith; last = omega arith }

pub in-flight : Promised flight
in-flight = every-format flight flight-fills

pub on-bench : Promised bench
on-bench = every-format bench bench-fills
