-- Each turn, and the end, by the laws of the search through marked entries.
use Rattle.std.proofs.Common.{sym, ◌∙◌, arith}
use Rattle.survey.proofs.Changes.{looking-past, looking-found, looking-on, looking-over}
use Rattle.survey.proofs.first_changed.Goals as goal
use Rattle.survey.proofs.first_changed.Goals.{then-marks-n+in_default, else-marks-n}

pub returns-in-Some-clause-by_index : goal.returns-in-Some-clause-by_index
returns-in-Some-clause-by_index c =
    let a = c.args in
    let t = c.loop-n-test.true in
    λ entries m.
    let its = m c.loop-n.n (omega (arith, t, c.requires.1)) in
    looking-found a.size a.was.now a.is.now entries a.count c.loop-n.n t (sym its ∙ c.if-marks-n.true) _ (sym c.entry_changed.ensures ∙ c.in-Some.is) (c.loop-n.invariant entries m)

pub loop-n-preserved : goal.loop-n-preserved
loop-n-preserved c =
    let t = c.loop-n-test.true in
    λ entries m.
    let its = m c.loop-n.n (omega (arith, t, c.requires.1)) in
    let a = c.args in
    let l = c.loop-n in
    elim c.if-marks-n.branch [
      | then-marks-n+in_default w ↦ looking-on a.size a.was.now a.is.now entries a.count l.n t (sym its ∙ w.if-marks-n.true) (sym w.entry_changed.ensures ∙ w.in_default.is) (l.invariant entries m)
      | else-marks-n w ↦ looking-past a.size a.was.now a.is.now entries a.count l.n t (sym its ∙ w.if-marks-n.false) (l.invariant entries m)
    ]

pub returns-clause-by_index : goal.returns-clause-by_index
returns-clause-by_index c = let a = c.args in
    λ entries m. looking-over a.size a.was.now a.is.now entries a.count c.loop-n.n (omega (arith, c.loop-n-test.false)) (omega (arith, c.loop-n.auto)) (c.loop-n.invariant entries m)
