-- A run raster is judged by its rows, with the cards of what is lent.
use Rattle.runner.specs.Judge.{judged, judge}
use Rattle.runner.proofs.judge.Goals as goal

pub returns-in-RunRaster-clause-value : goal.returns-in-RunRaster-clause-value
unfolding judged judge
returns-in-RunRaster-clause-value c = let a = c.args in rw (c.unless.ensures, c.run_fault.ensures, ← c.in-RunRaster.ensures.value)
