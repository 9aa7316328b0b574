-- What is found from here is what is found from place 4, as long as the raster lies ahead. The measure is what is left of the text.
use Rattle.std.proofs.Common.{◌≡◌, ◌-◌, false, length}
use Rattle.sequence.specs.Starts.{target_good}
use Rattle.sequence.proofs.Targets.{leads}
use Rattle.sequence.proofs.target_good.Given as goal

abbrev pub invariant-loop-at : goal.invariant-loop-at
invariant-loop-at l = target_good l.text l.raster l.q.0 l.t ≡ leads l.text l.raster l.q.0 l.t false l.at

abbrev pub decreases-loop-at : goal.decreases-loop-at
decreases-loop-at l = length l.text - l.at
