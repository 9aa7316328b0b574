-- Past the length what is left of the definition is the checksum, the byte found against the one expected, and the marks.
use Rattle.std.proofs.Common.{◌≡◌, ℕ, cond, not, eqb, take, ap, ◌∙◌, arith, eq-eqb, ne_eqb, le-leb, Ok, Err}
use Rattle.sequence.specs.declared.BadList.TheVariants.{Checksum}
use Rattle.sequence.specs.LineList.{marks_of, list_card}
use Rattle.sequence.proofs.Sums.{list-sum}
use Rattle.sequence.proofs.Windows.{marks-seen}
use Rattle.sequence.proofs.list_card.Goals as goal
use Rattle.sequence.proofs.list_card.Goals.{After-walk_list-walk}

by-sum : (c : After-walk_list-walk) → let sum = c.walk_list-walk.result.sum in
    list_card c.args.list.now ≡ cond (not (eqb c.byte-found.result sum)) (Err (Checksum sum)) (Ok (marks_of c.args.list.now))
unfolding list_card
by-sum c = let n = c.byte-len in
    let (f, e) = list-sum c.args.list.now _ n.result _ _ (omega arith) n.ensures c.part-whole.ensures c.byte-found.ensures c.walk_list-walk.ensures.sum_value in
    simp (← n.ensures, ← c.byte-windows.ensures, le-leb 1 c.byte-windows.result (omega arith), le-leb c.byte-windows.result 25 (omega arith), eq-eqb _ _ c.if-len-windows.false, ← f, ← e)

pub returns-then-found-walk : goal.returns-then-found-walk
returns-then-found-walk c = rw (by-sum (goal.at.returns-then-found-walk c).After-walk_list-walk, ne_eqb _ _ c.if-found-walk.true)

pub returns : goal.returns
returns c = let l = c.args.list.now in
    rw (by-sum (goal.at.returns c).After-walk_list-walk, eq-eqb _ _ c.if-found-walk.false)
    (ap Ok (c.from.ensures ∙ marks-seen l _ _ c.args.wanted _ c.byte-windows.ensures (c.part-whole.ensures ∙ ap (λ (n : ℕ). take n l) c.if-len-windows.false) c.walk_list-walk.ensures.by_index))
