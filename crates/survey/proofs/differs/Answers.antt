-- Each turn by the law of the search: this byte is another, or is not, or none is left.
use Rattle.std.proofs.Common.{sym, ◌∙◌, arith}
use Rattle.survey.specs.Still.{another}
use Rattle.survey.proofs.Search.{first_on, found-here, found-over}
use Rattle.survey.proofs.Changes.{another-so, another-not}
use Rattle.survey.proofs.differs.Goals as goal

pub returns-then-was-at : goal.returns-then-was-at
returns-then-was-at c = let a = c.args in let l = c.loop-at in
    found-here (another a.was.now a.is.now) l.at a.end _ l.invariant c.loop-at-test.true (another-so a.was.now a.is.now l.at c.if-was-at.true)

pub loop-at-preserved : goal.loop-at-preserved
loop-at-preserved c = let a = c.args in let l = c.loop-at in
    sym (first_on (another a.was.now a.is.now) l.at a.end c.loop-at-test.true (another-not a.was.now a.is.now l.at c.if-was-at.false)) ∙ l.invariant

pub returns : goal.returns
returns c = let a = c.args in let l = c.loop-at in
    found-over (another a.was.now a.is.now) l.at a.end _ l.invariant (omega (arith, c.loop-at-test.false))
