-- A byte that the count tells for a header's low byte adds its bits to what was seen, and any other none.
use Rattle.std.proofs.Common.{◌∙◌, sym, refl, inl, inr, arith, rules, tests}
use Rattle.octets.proofs.Laws.{xor_step, xor-end}
use Rattle.sequence.proofs.Windows.{seen_none, seen-on}
use Rattle.sequence.proofs.walk_list.Goals as goal
use Rattle.sequence.proofs.walk_list.Goals.{then-count-eq0+then-count-le48, else-count-eq0, else-count-eq0-via-then-count-eq0+else-count-le48, else-count-eq0-via-else-count-eq0}

pub loop-byte-init : goal.loop-byte-init
loop-byte-init c = record { xored = refl; counted = refl; seen = seen_none _ }

pub loop-byte-preserved : goal.loop-byte-preserved
loop-byte-preserved c = let l = c.loop-byte in record {
  xored = xor_step _ _ _ c.loop-byte-test.true ∙ l.invariant.xored;
  counted = omega arith;
  seen = seen-on _ l.seen _ l.byte-index l.count (omega arith) l.invariant.counted
      (elim c.if-count-eq0.branch [
        | then-count-eq0+then-count-le48 w ↦ inl (search (rules, tests), w.seen-is)
        | else-count-eq0 w ↦ inr (
          elim w.else-count-eq0.branch [
            | else-count-eq0-via-then-count-eq0+else-count-le48 v ↦ search (rules, tests)
            | else-count-eq0-via-else-count-eq0 v ↦ search (rules, tests)
          ],
          w.seen-is,
        )
      ])
      l.invariant.seen;
}

pub returns-clause-sum_value : goal.returns-clause-sum_value
returns-clause-sum_value c = sym (xor-end _ _ _ c.loop-byte-test.false) ∙ c.loop-byte.invariant.xored
