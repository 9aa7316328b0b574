-- Each turn by the law of the count: the target is here, or past this command, or no more are counted.
use native.Mathlib.Omega.{arith}
use Rattle.survey.proofs.Laws.{between-here, between-over, between-on}
use Rattle.survey.proofs.Text.between.Goals as goal

pub returns-then-at-t : goal.returns-then-at-t
returns-then-at-t c = let a = c.args in let l = c.loop-n in between-here a.self.bytes.now a.most a.t _ l.at l.n l.invariant c.if-at-t.true

pub loop-n-preserved : goal.loop-n-preserved
loop-n-preserved c = let a = c.args in let l = c.loop-n in
    between-on a.self.bytes.now a.most a.t _ l.at l.n l.invariant _ c.loop-n-test.true c.if-at-t.false c.past-at.ensures

pub returns : goal.returns
returns c = let a = c.args in let l = c.loop-n in
    let e = between-over a.self.bytes.now a.most a.t _ l.at l.n l.invariant c.loop-n-test.false in
    omega arith
