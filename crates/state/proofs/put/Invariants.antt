-- `put` meets its contract: at each turn the bytes that are left, written from here on, give the whole.
use Rattle.std.proofs.Common.{◌≡◌, ◌+◌, drop}
use Rattle.std.proofs.lemmas.List.Edits.{sets}
use Rattle.state.proofs.put.Given as goal

abbrev pub invariant-loop-k : goal.invariant-loop-k
invariant-loop-k g l = sets l.state (l.at + l.k) (drop l.k l.byte-items) ≡ sets l.initial.state l.at l.byte-items
