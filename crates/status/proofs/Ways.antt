-- The status as it is written: part by part over zeros, and over the output's start. Assumes nothing.
use Prim.Native.Nat.{ℕ, ◌≤◌}
use mathlib.Core.Path.{◌≡◌, ap, ◌∙◌}
use mathlib.Core.List.{List, ◌++◌}
use lib.Dec.{T}
use lib.ListN.{length, drop}
use borrow.Author.Tests.{le-leb}
use Rattle.octets.specs.Layout.{tiles}
use Rattle.memory.specs.Memory.{written}
use Rattle.runner.specs.declared.Runner.{Runner}
use Rattle.status.specs.declared.Ledger.{Ledger}
use Rattle.status.specs.declared.Control.{Control}
use Rattle.status.specs.declared.Watch.{Watch}
use Rattle.status.specs.Status.{status_fields, status_bytes}

-- the status block's fields stand one after another, from 0 to 100
pub status-tiles : (l : Ledger) (c : Control) (w : Watch) (r : Runner) (time : ℕ) → T (tiles 0 (status_fields l c w r time) 100)
status-tiles l c w r time = tt

module _ (l : Ledger) (c : Control) (w : Watch) (n : Runner) (time : ℕ) (out : List ℕ) where
  pub over-start : (x : List ℕ) → 104 ≤ length out → x ≡ status_bytes l c w n time → x ++ drop 104 out ≡ written out 0 (status_bytes l c w n time)
  over-start x h e = ap (λ (b : List ℕ). b ++ drop 104 out) e ∙ simp (le-leb 104 (length out) h)
