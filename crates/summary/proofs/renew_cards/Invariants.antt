-- The cards up to this one are worked out where they are named.
use Prim.Native.Nat.{ℕ}
use mathlib.Core.Bool.{Bool}
use mathlib.Core.List.{List}
use Rattle.memory.specs.Memory.{format_of}
use Rattle.summary.specs.Summary.{card_in}
use Rattle.summary.specs.Held.{Tests, Renews}
use Rattle.summary.proofs.renew_cards.Given as goal

abbrev pub invariant-loop-n : goal.invariant-loop-n
invariant-loop-n g l =
    (test : List ℕ → Bool) → Tests g.F.Fn l.named test → Renews (format_of l.kind) l.seqs l.lines (λ n. test (card_in l.initial.cards n)) l.first l.n l.initial.cards l.cards
