-- `raster_exposures` meets its contract: counts no wider than their fields keep each product small. Assumes nothing.
use mathlib.Core.Path.{refl}
use Rattle.survey.proofs.Totals.{narrow, exposures-most}
use Rattle.survey.proofs.raster_exposures.Goals as goal

pub returns : goal.returns
returns c =
    rw (c.repeats_at.ensures, c.exposures_at.ensures, c.loops_at.ensures)
    (refl, exposures-most _ (narrow c.args.text.now c.args.at.0 (λ k. (c.type_inv.text k).fits)))
