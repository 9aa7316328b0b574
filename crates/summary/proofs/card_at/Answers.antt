-- The library's chunks are the cards.
use native.Mathlib.Omega.{arith}
use mathlib.Core.Path.{ap, ◌∙◌}
use mathlib.Core.List.{List, []}
use Prim.Native.Nat.{ℕ, ◌/◌}
use lib.ListN.{length, get_or}
use Rattle.summary.proofs.Parts.{chunk-at}
use Rattle.summary.proofs.card_at.Goals as goal

pub returns : goal.returns
returns c =
    let cards = c.args.cards.now in
    ap (λ (x : List (List ℕ)). get_or x c.args.n []) c.as_chunks.ensures.front ∙ chunk-at 32 (length cards / 32) c.args.n cards (omega (arith, c.requires))
