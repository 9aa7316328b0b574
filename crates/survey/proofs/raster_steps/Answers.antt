-- `raster_steps` meets its contract: counts no wider than their fields keep each product small. Assumes nothing.
use native.Mathlib.Omega.{arith}
use mathlib.Core.Path.{refl}
use Rattle.survey.proofs.Totals.{narrow, steps-most}
use Rattle.survey.proofs.raster_steps.Goals as goal

pub returns : goal.returns
returns c = let a = c.args in
    rw (c.repeats_at.ensures, c.loops_at.ensures)
    (refl, steps-most _ (narrow a.text.now a.at.0 (λ k. (c.type_inv.text k).fits)) a.before a.from (omega arith) (omega arith))
