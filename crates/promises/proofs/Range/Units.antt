-- The unit's range as facts: none of its tests then holds.
-- Assumes nothing.
use Prim.Native.Nat.{ℕ, ◌≤◌}
use native.Mathlib.Omega.{arith}
use mathlib.Core.Path.{◌≡◌}
use mathlib.Core.Bool.{true, false}
use mathlib.Core.Logic.{inl, inr}
use borrow.Author.Tests.{eqb-false}
use Rattle.memory.specs.declared.Format.{Format}
use Rattle.memory.proofs.Laws.{Fair}
use Rattle.unit.specs.declared.Unit.{Unit as ControlUnit}
use Rattle.unit.specs.State.{is_none, out_of_range}
use Rattle.promises.specs.Range.{RunnerInRange}
use Rattle.promises.specs.Demand2.{UpToOrNone}
use Rattle.promises.proofs.Packets.Tests.{range-exactly}

pub record InOrder (F : Format) (u : ControlUnit) : Type 0 where
  pub low : 1 ≤ u.control.mode
  pub high : u.control.mode ≤ 3
  pub code : u.ledger.code ≤ 15
  pub abort : u.watch.abort ≤ 15
  pub selection : UpToOrNone F.last u.control.selection
  pub list : u.watch.list ≤ 47
  pub runner : RunnerInRange F u.runner
  -- "running outside AUTO or with selection .. none"
  pub auto : u.runner.running ≡ true → (u.control.mode ≡ 3) × (u.control.selection ≤ F.last)

pub some_known : {last n : ℕ} → UpToOrNone last n → is_none n ≡ false → n ≤ last
some_known (inl h) e = h
some_known {n} (inr h) e = absurd (eqb-false n 255 e h)

pub order-in : {F : Format} → Fair F → (u : ControlUnit) → InOrder F u → out_of_range F u ≡ false
order-in {F} fair u g =
    (range-exactly F u).1
    (record {
      least = g.low;
      most = g.high;
      failed = g.code;
      abort = g.abort;
      sequence = g.runner.sequence;
      selection = g.selection;
      place = g.runner.place;
      raster = g.runner.raster;
      list = g.list;
      mirror = g.runner.mirror;
      count = g.runner.count;
      runs = λ r. let last = fair.last in let (m, s) = g.auto r in let q = g.runner.known r in (m, λ e. omega arith, λ e. omega arith);
    })
