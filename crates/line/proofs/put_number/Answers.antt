-- `put_number` meets its contract: at each turn the digits that are made, after those of the number that is left, are those of the
-- whole. Assumes nothing.
use mathlib.Core.Path.{refl}
use borrow.Author.Rules.{rules}
use Rattle.line.proofs.DigitLaws.{made_none, made-room, made_more, made_all}
use Rattle.line.proofs.put_number.Goals as goal

pub loop-left-init : goal.loop-left-init
loop-left-init c = made_none _ c.args.n (search rules) refl

pub overflow_sub-from : goal.overflow_sub-from
overflow_sub-from c = made-room c.loop-left.invariant c.loop-left-test.true

pub loop-left-preserved : goal.loop-left-preserved
loop-left-preserved c = made_more c.loop-left.invariant c.digit.result c.loop-left-test.true c.digit.ensures

pub returns : goal.returns
returns c =
    let l = c.loop-left in
    rw (made_all l.invariant c.digit-2.result c.loop-left-test.false c.digit-2.ensures) at c.put_word.ensures
