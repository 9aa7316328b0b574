-- A bit's number, where it is set, comes behind what is laid.
use Prim.Native.Nat.{◌+◌}
use native.Mathlib.Omega.{arith}
use mathlib.Core.List.{◌++◌}
use lib.ListN.{length-append}
use borrow.Author.Tests.{ne_eqb}
use Rattle.line.specs.Writing.{member}
use Rattle.line.proofs.WritingLaws.{laid_on, after_on, bit_set, bit_clear, bits_done}
use Rattle.line.proofs.put_bits.Goals as goal
use Rattle.line.proofs.put_bits.Goals.{then-bits-k-eq1, else-bits-k-eq1}

pub loop-k-preserved : goal.loop-k-preserved
loop-k-preserved c =
    let l = c.loop-k in
    let a = c.args in
    let text = l.invariant.0 in
    let whole = l.invariant.1.1 in
    elim c.if-bits-k-eq1.branch [
      | then-bits-k-eq1 w ↦ (
        text ++ member l.others (a.first + l.k),
        (
          grind (arith, laid_on, after_on, length-append),
          rw w.others-is (bit_set a.bits l.k a.first l.others text _ c.loop-k-test.true whole w.if-bits-k-eq1.true),
        ),
      )
      | else-bits-k-eq1 w ↦
          (text, (rw (w.out-is, w.p-is) l.invariant.1.0, rw w.others-is (bit_clear a.bits l.k a.first l.others text _ c.loop-k-test.true whole w.if-bits-k-eq1.false)))
    ]

pub returns : goal.returns
returns c =
    let l = c.loop-k in
    let a = c.args in
    let (laid, whole) = l.invariant.1 in
    rw (ne_eqb a.bits 0 c.if-bits-eq0.false, ← whole, bits_done a.bits l.k (a.first + l.k) l.others l.invariant.0 c.loop-k-test.false) laid
