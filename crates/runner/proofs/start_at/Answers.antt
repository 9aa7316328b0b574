-- The sum is in reach, since no row refuses the path.
use Rattle.std.proofs.Common.{arith}
use Rattle.std.proofs.lemmas.Int.{ints, to_z-of_z}
use Rattle.sequence.proofs.Paths.{start-whole, start-reaches}
use Rattle.sequence.specs.Raster.{raster_at}
use Rattle.runner.proofs.Laws.{begun-stays}
use Rattle.runner.proofs.start_at.Goals as goal

pub overflow_cast-result-3 : goal.overflow_cast-result-3
overflow_cast-result-3 c =
    let raster = raster_at c.args.text.now c.args.at.0 in
    let stays = begun-stays raster c.args.k c.requires.none in
    let e = start-whole raster c.args.k stays in
    let l = start-reaches raster c.args.k stays in
    let shifted = c.requires.shifted in
    grind (arith, ints, to_z-of_z)
