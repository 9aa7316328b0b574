-- Every state reached from power-on is in range, with tables of the right sizes: so no step of it is denied, and no exposure is past the stop.
-- Assumes nothing.
use Rattle.std.specs.Prelude.{Ok}
use Prim.Native.Nat.{ℕ, ◌≤◌, ◌<◌}
use native.Mathlib.Omega.{arith}
use mathlib.Core.Path.{◌≡◌, refl, sym, ap, ◌∙◌, subst}
use mathlib.Core.Bool.{true, false, true≢false, false≢true}
use mathlib.Core.List.{List}
use mathlib.Core.Logic.{inl, inr}
use lib.ListN.{length}
use Rattle.octets.specs.Rows.{first_code}
use Rattle.octets.proofs.Bools.{by-test}
use Rattle.memory.specs.declared.Format.{Format}
use Rattle.memory.specs.Memory.{tables_wrong}
use Rattle.memory.proofs.Laws.{right-sizes}
use Rattle.sequence.specs.Env.{Env, env_of}
use Rattle.runner.specs.declared.Runner.{Runner}
use Rattle.runner.specs.declared.Stepped.{Stepped}
use Rattle.runner.specs.declared.Event.{Event}
use Rattle.runner.specs.declared.Event.TheVariants.{Idle, Enter, Raster, Exp, Loop, Next, Done, Wait, Call, End, Abort}
use Rattle.runner.specs.Step.{step_of}
use Rattle.runner.proofs.Laws.{step-idle}
use Rattle.status.specs.declared.Watch.{Watch}
use Rattle.unit.specs.declared.Unit.{Unit as ControlUnit}
use Rattle.unit.specs.declared.UnitStep.{UnitStep}
use Rattle.unit.specs.State.{power_on}
use Rattle.unit.specs.Answer.{answer_of}
use Rattle.status.specs.State.{watched}
use Rattle.unit.specs.Step.{step_rows, with_step, unit_step_by, unit_step}
use Rattle.promises.specs.Range.{StepInRange, Shows}
use Rattle.promises.specs.Formats.{Fills}
use Rattle.promises.specs.Library.{ours}
use Rattle.promises.specs.Demand3.{World, world, Action, step, packet, after, Reached, powered, lent, acted}
use Rattle.promises.proofs.Formats.{fills-exactly, fair-in, room_in}
use Rattle.promises.proofs.Range.Ranges.{step_range}
use Rattle.promises.proofs.Range.Units.{InOrder, order-in}
use Rattle.promises.proofs.Packets.Packets.{Free, packet-order, packet-free, packet-sizes}

pub record Steady {F : Format} (w : World F) : Type 0 where
  pub full : Fills F
  pub seqs : length w.seqs ≡ 16384
  pub lists : length w.lists ≡ 7872
  pub order : InOrder F w.unit
  pub free : Free w.unit

pub tables-right : {F : Format} {w : World F} → Steady w → tables_wrong F w.seqs w.lists ≡ false
tables-right {F} {w} g = right-sizes F w.seqs w.lists ((fills-exactly F).1 g.full) g.seqs g.lists

-- ── a step
-- the runner's step of a world
abbrev pub runner_step : {F : Format} → World F → Stepped
runner_step {F} w = step_of (env_of F w.lists) w.seqs w.unit.runner

step_is : {F : Format} {w : World F} → Steady w → unit_step F w.unit w.seqs w.lists ≡ with_step w.unit (runner_step w)
unfolding unit_step step_rows
step_is {F} {w} g = ap (λ (c : ℕ). unit_step_by c w.unit (runner_step w)) none
  where
    none : first_code (step_rows F w.unit w.seqs w.lists) ≡ 0
    none = rw (tables-right g, order-in (fair-in g.full) w.unit g.order)

pub step-shows : {F : Format} {w : World F} → Steady w → StepInRange F (runner_step w)
step-shows {F} {w} g = step_range (env_of F w.lists) (room_in g.full) w.seqs w.unit.runner g.order.runner

-- only a unit that runs runs after a step
pub still-running : (E : Env) (seqs : List ℕ) (s : Runner) → (step_of E seqs s).runner.running ≡ true → s.running ≡ true
still-running E seqs s r =
    by-test s.running (λ e. e) (λ e. absurd (true≢false (sym r ∙ ap (λ (x : Stepped). x.runner.running) (sym (step-idle E seqs s e)) ∙ e)))

watched-order : (e : Event) (w : Watch) → Shows e → w.list ≤ 47 → w.abort ≤ 15 → ((watched e w).list ≤ 47) × ((watched e w).abort ≤ 15)
watched-order Idle w x l a = (l, a)
watched-order (Enter n) w x l a = (l, a)
watched-order (Raster id pos list) w x l a = (x.1, a)
watched-order (Exp pos) w x l a = (l, a)
watched-order (Loop place) w x l a = (l, a)
watched-order Next w x l a = (l, a)
watched-order Done w x l a = (l, a)
watched-order (Wait t) w x l a = (l, a)
watched-order (Call n) w x l a = (l, a)
watched-order End w x l a = (l, a)
watched-order (Abort code n place) w x l a = (l, x)

-- ── the unit after a step, part by part
module _ {F : Format} {w : World F} (g : Steady w) where
  pub step-outcome : (ours.steps F w.unit w.seqs w.lists).outcome ≡ Ok (runner_step w).event
  unfolding with_step
  step-outcome = ap (λ (r : UnitStep). r.outcome) (step_is g)

  step-mirror : (after ours step w).unit.runner.mirror ≡ (runner_step w).runner.mirror
  unfolding with_step
  step-mirror = let e = ap (λ (r : UnitStep). r.unit.runner.mirror) (step_is g) in omega arith

  pub step-runner : (after ours step w).unit.runner ≡ (runner_step w).runner
  unfolding with_step
  step-runner =
      let e : (i : 𝕀) → Runner = λ i. (step_is g i).unit.runner in
      λ i. record {
        sequence = (e i).sequence;
        place = (e i).place;
        running = (e i).running;
        entering = (e i).entering;
        raster = (e i).raster;
        rounds = (e i).rounds;
        mirror = step-mirror i;
      }

  pub step-control : (after ours step w).unit.control ≡ w.unit.control
  unfolding with_step
  step-control = ap (λ (r : UnitStep). r.unit.control) (step_is g)

  step-ledger : (after ours step w).unit.ledger ≡ w.unit.ledger
  unfolding with_step
  step-ledger = ap (λ (r : UnitStep). r.unit.ledger) (step_is g)

  step-watch : (after ours step w).unit.watch ≡ watched (runner_step w).event w.unit.watch
  unfolding with_step
  step-watch = ap (λ (r : UnitStep). r.unit.watch) (step_is g)

  step-unit : (after ours step w).unit ≡ (with_step w.unit (runner_step w)).unit
  unfolding with_step
  step-unit = λ i. record { ledger = step-ledger i; control = step-control i; watch = step-watch i; runner = step-runner i }

with-step-order : {F : Format} {w : World F} → Steady w → InOrder F (with_step w.unit (runner_step w)).unit
unfolding with_step
with-step-order {F} {w} g =
    let u = w.unit in
    let (r, x) = step-shows g in
    let (l, a) = watched-order (runner_step w).event u.watch x g.order.list g.order.abort in
    record {
      low = g.order.low;
      high = g.order.high;
      code = g.order.code;
      abort = a;
      selection = g.order.selection;
      list = l;
      runner = r;
      auto = λ h. g.order.auto (still-running (env_of F w.lists) w.seqs u.runner h);
    }

-- ── whatever is done
pub steady-after : {F : Format} {w : World F} (a : Action) → Steady w → Steady (after ours a w)
unfolding with_step answer_of
steady-after {F} {w} step g =
    subst (λ (u : ControlUnit). Steady {F = F} (world u w.seqs w.lists)) (sym (step-unit g))
    (record { full = g.full; seqs = g.seqs; lists = g.lists; order = with-step-order g; free = g.free })
steady-after {F} {w} (packet out time bytes) g =
    record {
      full = g.full;
      seqs = (packet-sizes F _ w.seqs w.lists out bytes).0 ∙ g.seqs;
      lists = (packet-sizes F _ w.seqs w.lists out bytes).1 ∙ g.lists;
      order = packet-order F w.unit w.seqs w.lists out bytes g.order;
      free = packet-free F w.unit w.seqs w.lists out bytes g.free;
    }

power-on-order : {F : Format} → 4 < F.size → InOrder F power_on
unfolding power_on
power-on-order room =
    record {
      low = omega arith;
      high = omega arith;
      code = omega arith;
      abort = omega arith;
      selection = inr refl;
      list = omega arith;
      runner = record { sequence = inr refl; place = omega arith; raster = inr refl; count = omega arith; mirror = omega arith; known = λ r. absurd (false≢true r) };
      auto = λ r. absurd (false≢true r);
    }

pub steady : {F : Format} {w : World F} → Fills F → Reached ours w → Steady w
unfolding power_on
steady full (powered seqs lists s l) = record { full = full; seqs = s; lists = l; order = power-on-order (room_in full); free = inl refl }
steady full (lent seqs lists s l r) = let g = steady full r in record { full = full; seqs = s; lists = l; order = g.order; free = g.free }
steady full (acted a r) = steady-after a (steady full r)
