-- The chain check from cards alone.
use Rattle.std.specs.Prelude.{ℕ, ◌^◌, Bool, false, cond, not, ◌&&◌, ◌||◌, List, [], ◌∷◌, ltb, leb, eqb}
use Rattle.octets.specs.Bytes.{byte_at, number_at}
use Rattle.octets.specs.Rows.{Row, row, first_code}
use Rattle.memory.specs.declared.Format.{Format}
use Rattle.sequence.specs.declared.BadList.TheVariants.{WindowCount, Length, Checksum}
use Rattle.sequence.specs.Text.{fault}
use Rattle.survey.specs.declared.Closing.{Closing}
use Rattle.survey.specs.declared.Closing.TheVariants.{Terminates, CallsOn}
use Rattle.survey.specs.declared.Reason.{Reason}
use Rattle.survey.specs.declared.Reason.TheVariants.{None, OfList, Mark}
use Rattle.survey.specs.Walk.{Finding, passes, faults}
use Rattle.survey.specs.Chain.{Told, chain_of, check_by}
use Rattle.summary.specs.Summary.{summary_wrong, card_in}

-- "a card that no tables give (passing without a closing command, a call past the last number, a first byte above 1, steps or exposures of 2^54 or more)"
unfoldable pub card_wrong : Format → List ℕ → Bool
card_wrong F c =
    ltb 1 (byte_at c 0)
    || (eqb (byte_at c 0) 0
    && (not (eqb (byte_at c 3) 1 || eqb (byte_at c 3) 2)
    || ((eqb (byte_at c 3) 2 && ltb F.last (byte_at c 4)) || (leb (2 ^ 54) (number_at c 8 8) || leb (2 ^ 54) (number_at c 16 8)))))

-- a reason from its number and value
abbrev pub reason_read : ℕ → ℕ → Reason
reason_read number value =
    cond (eqb number 0) None
    (cond (eqb number 1) (OfList WindowCount)
    (cond (eqb number 2) (OfList Length)
    (cond (eqb number 3) (OfList (Checksum value))
    Mark)))

abbrev pub closing_of : List ℕ → Closing
closing_of c = cond (eqb (byte_at c 3) 2) (CallsOn (byte_at c 4)) Terminates

-- what a card says of its sequence; it holds neither the items nor the closing command's place
unfoldable pub said_by : List ℕ → Finding
said_by c =
    cond (eqb (byte_at c 0) 0) (passes (number_at c 8 8) (number_at c 16 8) [] 0 (closing_of c))
    (faults (fault (byte_at c 2) (byte_at c 1)) (reason_read (byte_at c 5) (byte_at c 6)))

abbrev pub sayings : List ℕ → ℕ → Finding
sayings s n = said_by (card_in s n)

-- "met on the way": one of these sequences has such a card
abbrev pub some_wrong : Format → List ℕ → List ℕ → Bool
some_wrong F s [] = false
some_wrong F s (n ∷ names) = card_wrong F (card_in s n) || some_wrong F s names

-- "is 17 with nothing listed"
abbrev pub unless_wrong : Format → List ℕ → Told → Told
unless_wrong F s t = check_by (first_code (row 17 (some_wrong F s t.names) ∷ [])) t

-- "16, then 7, then the report of the table check"
unfoldable pub cards_rows : Format → List ℕ → ℕ → List Row
cards_rows F s n = row 16 (summary_wrong F s) ∷ row 7 (ltb F.last n) ∷ []

unfoldable pub check_cards : Format → List ℕ → ℕ → Told
check_cards F s n = check_by (first_code (cards_rows F s n)) (unless_wrong F s (chain_of F (sayings s) n))
