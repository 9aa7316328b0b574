-- For the proofs of the code, what it holds on its way.
use Rattle.std.specs.Prelude.{ℕ, ◌+◌, ◌*◌, ◌≤◌, ◌<◌, ◌≡◌, Bool, true, cond, ◌&&◌, ◌||◌, List, ◌⊎◌, leb, eqb, length, take, drop, Option, Some, None, Result, Ok, Err}
use Rattle.std.specs.Fn.{Shared, FnReturnsAt}
use denote.Ref.{Bor}
use Rattle.octets.specs.Bytes.{byte_at}
use Rattle.memory.specs.declared.Format.{Format}
use Rattle.memory.specs.Memory.{fills}
use Rattle.sequence.specs.declared.Fault.{Fault}
use Rattle.sequence.specs.Env.{cards_kept}
use Rattle.survey.specs.declared.Closed.{Closed}
use Rattle.survey.specs.declared.Closing.{Closing}
use Rattle.survey.specs.declared.Closing.TheVariants.{Terminates, CallsOn}
use Rattle.survey.specs.declared.Reason.{Reason}
use Rattle.survey.specs.Walk.{Finding, passes, faults}
use Rattle.survey.specs.Tested.{has_list}
use Rattle.summary.specs.Card.{used_in}
use Rattle.summary.specs.Summary.{line_card, seq_card, lines_at}
use Rattle.summary.specs.Chain.{card_wrong, said_by}

-- a summary of a format's size
pub record Sized (F : Format) (s : List ℕ) : Type 0 where
  pub fill : fills F ≡ true
  pub long : length s ≡ lines_at F + 192

-- whether a card uses one of two line lists
abbrev pub names : ℕ → ℕ → List ℕ → Bool
names first last card = has_list (used_in card) first || has_list (used_in card) last

-- a closure answers this test of a card
pub record Tests {C : Type 0} (g : Shared C (Bor (List ℕ) × Unit {0}) Bool) (f : C) (test : List ℕ → Bool) : Type 0 where
  pub tells : (card : List ℕ) (r : Bool) → length card ≡ 32 → FnReturnsAt g f card r → r ≡ test card

-- parts of one size: those from one up to another that a test names are these, the others as they were
pub record Renewed (size : ℕ) (part : ℕ → List ℕ) (test : ℕ → Bool) (first past : ℕ) (s s' : List ℕ) : Type 0 where
  pub long : length s' ≡ length s
  pub done : (k : ℕ) → first ≤ k → k < past → take size (drop (k * size) s') ≡ cond (test k) (part k) (take size (drop (k * size) s))
  pub rest : (k : ℕ) → (k < first) ⊎ (past ≤ k) → take size (drop (k * size) s') ≡ take size (drop (k * size) s)

-- the cards of the line lists from one up to another are those of a table, the others as they were
abbrev pub Lines : List ℕ → ℕ → ℕ → List ℕ → List ℕ → Type 0
Lines lists first past lines lines' = Renewed 4 (line_card lists) (λ k. true) first past lines lines'

-- the cards of the sequences from one up to another that a test names are worked out from what is kept of the line lists, the others are as they were
abbrev pub Renews : Format → List ℕ → List ℕ → (ℕ → Bool) → ℕ → ℕ → List ℕ → List ℕ → Type 0
Renews F seqs lines test first past cards cards' = Renewed 32 (seq_card F seqs (cards_kept lines)) test first past cards cards'

-- how the sequence of a card closes, where some tables give such a card
abbrev pub closing_said : Format → List ℕ → Option Closing
closing_said F c =
    cond (eqb (byte_at c 3) 1) (Some Terminates) (cond (eqb (byte_at c 3) 2 && leb (byte_at c 4) F.last) (Some (CallsOn (byte_at c 4))) None)

-- what a card says, as the code holds it
abbrev pub said_in : Finding → Result Closed (Fault × Reason)
said_in (passes k x is p c) = Ok (record { place = p; closing = c; steps = k; exposures = x })
said_in (faults f reason) = Err (f, reason)

abbrev pub said_of : Format → List ℕ → Option (Result Closed (Fault × Reason))
said_of F c = cond (card_wrong F c) None (Some (said_in (said_by c)))
