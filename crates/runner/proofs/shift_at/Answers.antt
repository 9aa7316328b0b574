-- What is moved is small, since no row refuses the path.
use Rattle.std.proofs.Common.{◌≡◌, ◌≤◌, rules, arith}
use Rattle.std.proofs.lemmas.Int.{ints, to_z-of_z}
use Rattle.sequence.specs.Raster.{raster_at, moved_by}
use Rattle.runner.proofs.Laws.{moved-low}
use Rattle.runner.proofs.shift_at.Goals as goal
use Rattle.runner.proofs.shift_at.Goals.{After-moved_by-moved}

is : (c : After-moved_by-moved) → c.moved_by-moved.result ≡ moved_by (raster_at c.args.text.now c.args.at.0) c.args.k
is c = rw (← c.asrc_at-asrc.ensures, ← c.skip_at.ensures) c.moved_by-moved.ensures.0

low : (c : After-moved_by-moved) → c.moved_by-moved.result ≤ 2400
low c = rw (is c) (moved-low (raster_at c.args.text.now c.args.at.0) c.args.k c.requires)

pub overflow_cast-moved : goal.overflow_cast-moved
overflow_cast-moved c = let h = low c in search rules

pub overflow_sub-result : goal.overflow_sub-result
overflow_sub-result c = let h = low (goal.at.overflow_sub-result c).After-moved_by-moved in omega (arith, ints)

pub returns-then-backward : goal.returns-then-backward
returns-then-backward c =
    let h = low (goal.at.returns-then-backward c).After-moved_by-moved in
    let e = is (goal.at.returns-then-backward c).After-moved_by-moved in
    grind (arith, ints, to_z-of_z)

pub returns-else-backward : goal.returns-else-backward
returns-else-backward c =
    let h = low (goal.at.returns-else-backward c).After-moved_by-moved in
    let e = is (goal.at.returns-else-backward c).After-moved_by-moved in
    grind (arith, ints, to_z-of_z)
