-- Each way out of a turn, and on to the next, is a law of the marking.
use Rattle.std.proofs.Common.{◌≡◌, ◌+◌, ◌-◌, length}
use mathlib.Core.Logic.{inl, inr}
use native.Mathlib.Omega.{arith}
use native.Mathlib.Nat.{le_trans}
use borrow.Author.Rules.{rules}
use Rattle.survey.proofs.Laws.{placed-outside, none-outside}
use Rattle.survey.proofs.Rests.{marking-start, marking-none, marking-over, marking-stop, marking-next}
use Rattle.survey.proofs.Text.mark_lists.Goals as goal
use Rattle.survey.proofs.Text.mark_lists.Goals.{else-raster_stands, then-raster_stands}

pub loop-init : goal.loop-init
loop-init c =
    let all : length c.args.self.bytes.now - 0 ≡ length c.args.self.bytes.now = omega arith in
    (search rules, rw all (marking-start c.args.self.bytes.now c.args.marks.now))

pub returns-in_default : goal.returns-in_default
returns-in_default c = marking-none c.args.self.bytes.now c.args.marks.now (length c.args.self.bytes.now - c.loop.counter) c.loop.place c.loop.marks
    (none-outside c.args.self.bytes.now c.loop.place (le_trans c.args.self.short (placed-outside c.args.self.format _ _ c.of.ensures c.in_default.is))) c.loop.invariant.1

pub returns-then-next-place : goal.returns-then-next-place
returns-then-next-place c = marking-stop c.args.self.bytes.now c.args.marks.now c.args.self.format c.loop.place _ c.of.ensures _ c.in-Some.is _ c.past-next.ensures (length c.args.self.bytes.now - c.loop.counter) c.loop.marks c.if-next-place.true c.loop.invariant.1

pub loop-preserved : goal.loop-preserved
loop-preserved c =
    let fewer : length c.args.self.bytes.now - (c.loop.counter + 1) ≡ length c.args.self.bytes.now - c.loop.counter - 1 = omega arith in
    rw fewer (marking-next c.args.self.bytes.now c.args.marks.now c.args.self.format c.loop.place _ c.of.ensures _ c.in-Some.is _ c.past-next.ensures
    (length c.args.self.bytes.now - c.loop.counter) c.loop.marks c.if-raster_stands.marks _ (omega (arith, c.loop-test.true)) c.if-next-place.false c.raster_stands.ensures
    ((elim c.if-raster_stands.branch [ then-raster_stands w ↦ inl (w.if-raster_stands.true, _, w.list_at.ensures, w.marks-is) | else-raster_stands w ↦ inr (w.if-raster_stands.false, w.marks-is) ])) c.loop.invariant)

pub returns : goal.returns
returns c = marking-over c.args.self.bytes.now c.args.marks.now (length c.args.self.bytes.now - c.loop.counter) c.loop.place c.loop.marks (omega (arith, c.loop-test.false)) c.loop.invariant.1
