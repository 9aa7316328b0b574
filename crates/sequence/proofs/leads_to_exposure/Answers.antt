-- What is found from here, with what was seen so far, is what is found from the first place on.
use Rattle.std.proofs.Common.{sym, ◌∙◌, arith}
use Rattle.sequence.proofs.Targets.{seen_by, leads-past, leads-off, leads-on, leads-at}
use Rattle.sequence.proofs.leads_to_exposure.Goals as goal

pub returns-then-size-eq0 : goal.returns-then-size-eq0
returns-then-size-eq0 c = λ r h. let l = c.loop-at in
    sym (l.invariant.same r h ∙ leads-off _ r _ _ l.seen l.at _ c.requires c.size_at-size.ensures.value c.if-size-eq0.true)

pub returns-then-text-at : goal.returns-then-text-at
returns-then-text-at c = λ r h. let l = c.loop-at in
    leads-at _ r _ _ l.at _ c.size_at-size.ensures.value c.if-size-eq0.false l.seen (omega arith) c.loop-at-test.true c.if-text-at.true l.invariant.before
    ∙ sym (l.invariant.same r h)

pub loop-at-preserved : goal.loop-at-preserved
loop-at-preserved c = let l = c.loop-at in record {
  on = omega arith;
  before = λ e. omega (arith, seen_by l.at _ l.seen l.invariant.before e);
  same = λ r h. l.invariant.same r h
      ∙ leads-on _ r _ _ l.at _ c.size_at-size.ensures.value c.if-size-eq0.false l.seen (omega arith) c.loop-at-test.true c.if-text-at.false;
}

pub returns : goal.returns
returns c = λ r h. let l = c.loop-at in
    sym (l.invariant.same r h ∙ leads-past _ r _ _ l.seen l.at c.requires c.loop-at-test.false)
