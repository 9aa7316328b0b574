-- Of fewer than eight bytes there is room for one more; in the end the number is that of the slice's own first bytes.
use Rattle.std.proofs.Common.{◌≡◌, length, min, ◌≤◌, ap, ◌∙◌, arith}
use lib.ListN.{length-take}
use Rattle.octets.proofs.Laws.{number-room, number-part}
use Rattle.octets.proofs.number.Goals as goal

pub overflow_mul-n : goal.overflow_mul-n
overflow_mul-n c = let l = c.loop-b in omega (arith, number-room l.b-index l.n (omega arith) l.invariant.1)

pub returns : goal.returns
returns c =
    let s = c.args.s.now in
    let few : min (length s) 8 ≤ 8 = omega arith in
    let all : c.loop-b.b-index ≡ min (length s) 8 = omega (arith, ap length c.part-b-items.ensures, length-take 8 s) in
    rw (← all) (c.loop-b.invariant.0 ∙ rw (c.part-b-items.ensures) (number-part s 0 8 _ (omega arith)))
