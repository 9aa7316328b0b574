-- What is found from here, with what was seen so far, is what is found from the first place on. The measure is what is left of the text.
use Rattle.std.proofs.Common.{◌≡◌, ℕ, ◌-◌, ◌<◌, ◌≤◌, true, false, length}
use Rattle.sequence.proofs.Targets.{leads}
use Rattle.sequence.proofs.leads_to_exposure.Given as goal

abbrev pub invariant-loop-at : goal.invariant-loop-at
invariant-loop-at l = record {
  on : l.from ≤ l.at;
  before : l.seen ≡ true → l.t < l.at;
  same : (r : ℕ) → r < l.from → leads l.text r l.q l.t false l.from ≡ leads l.text r l.q l.t l.seen l.at;
}

abbrev pub decreases-loop-at : goal.decreases-loop-at
decreases-loop-at l = length l.text - l.at
