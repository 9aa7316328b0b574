-- Each turn, and the end, by the laws of the marks.
use Rattle.std.proofs.Common.{refl, arith}
use Rattle.survey.proofs.Rests.{resting-start, resting-on, resting-over}
use Rattle.survey.proofs.Tables.rest_of.Goals as goal

pub loop-n-init : goal.loop-n-init
loop-n-init c = let s = c.args.self in resting-start s.format s.seqs.now c.args.listed.now

pub loop-n-preserved : goal.loop-n-preserved
loop-n-preserved c =
    let s = c.args.self in
    let more = rw c.text.ensures.entry at c.mark_lists.ensures in
    resting-on s.format s.seqs.now c.args.listed.now c.loop-n.n-index _ c.loop-n.sequences c.loop-n.lists _ c.loop-n-test.true refl more c.loop-n.invariant

pub returns : goal.returns
returns c =
    let s = c.args.self in
    resting-over s.format s.seqs.now c.args.listed.now c.loop-n.n-index c.loop-n.sequences c.loop-n.lists (omega (arith, c.loop-n-test.false)) c.loop-n.invariant
