-- The ways out past the card's numbers are laws of its bytes.
use Prim.Native.Nat.{ℕ, ◌^◌, ◌≤◌, ◌<◌}
use native.Mathlib.Omega.{arith}
use mathlib.Core.Path.{◌≡◌, sym, ◌∙◌}
use mathlib.Core.Bool.{true, false, ◌||◌, or-true}
use mathlib.Core.List.{List}
use mathlib.Core.Logic.{◌⊎◌, inl, inr}
use lib.Dec.{leb}
use lib.ListN.{length}
use borrow.Author.Rules.{rules}
use borrow.Author.Tests.{le-leb, lt-leb}
use Rattle.octets.specs.Bytes.{number_at}
use Rattle.summary.proofs.Numbers.{part-number}
use Rattle.summary.proofs.Sayings.{said-many, said-closed}
use Rattle.summary.proofs.said_by.Goals as goal
use Rattle.summary.proofs.said_by.Goals.{After-number-exposures}

-- the two numbers of the card
module _ (c : After-number-exposures) where
  abbrev card : List ℕ
  card = c.args.card.now

  long : length card ≡ 32
  long = search rules

  steps : c.number-steps.result ≡ number_at card 8 8
  steps = c.number-steps.ensures ∙ part-number card 8 8 (omega arith) (omega (arith, long))

  exposures : c.number-exposures.result ≡ number_at card 16 8
  exposures = c.number-exposures.ensures ∙ part-number card 16 8 (omega arith) (omega (arith, long))

many : (k x : ℕ) → ((2 ^ 54 ≤ k) ⊎ ((k < 2 ^ 54) × (2 ^ 54 ≤ x))) → (leb (2 ^ 54) k || leb (2 ^ 54) x) ≡ true
many k x (inl a) = rw (le-leb (2 ^ 54) k a)
many k x (inr (a, b)) = rw (le-leb (2 ^ 54) x b, or-true (leb (2 ^ 54) k))

pub returns-then-steps-ge-TOO_MANY : goal.returns-then-steps-ge-TOO_MANY
returns-then-steps-ge-TOO_MANY c =
    let a = (goal.at.returns-then-steps-ge-TOO_MANY c).After-number-exposures in
    said-many c.args.format c.args.card.now c.in-0.is (rw (← steps a, ← exposures a) (many _ _ c.then-steps-ge-TOO_MANY.either))

pub returns-else-exposures-ge-TOO_MANY : goal.returns-else-exposures-ge-TOO_MANY
returns-else-exposures-ge-TOO_MANY c =
    let a = (goal.at.returns-else-exposures-ge-TOO_MANY c).After-number-exposures in
    let few : (leb (2 ^ 54) (number_at (card a) 8 8) || leb (2 ^ 54) (number_at (card a) 16 8)) ≡ false =
    rw (← steps a, ← exposures a, lt-leb (2 ^ 54) c.number-steps.result c.if-steps-ge-TOO_MANY.false, lt-leb (2 ^ 54) c.number-exposures.result c.if-exposures-ge-TOO_MANY.false) in
    rw (steps a, exposures a) (said-closed c.args.format (card a) c.in-0.is c.in_ok-closing-in-0.closing (sym c.closing_in.ensures ∙ c.in_ok-closing-in-0.was) few)
