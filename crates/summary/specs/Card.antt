-- A sequence's card: what is known of it, taken alone, in 32 bytes.
use Rattle.std.specs.Prelude.{ℕ, List, [], ◌∷◌, ◌++◌, drop, Ok, Err}
use Rattle.octets.specs.Bytes.{number_at, eight}
use Rattle.sequence.specs.Env.{Env}
use Rattle.survey.specs.declared.Alone.{Alone}
use Rattle.survey.specs.declared.Closing.{Closing}
use Rattle.survey.specs.declared.Closing.TheVariants.{Terminates, CallsOn}
use Rattle.survey.specs.declared.Reason.{Reason}
use Rattle.survey.specs.Report.{Walked, reason_shown, alone_in}
use Rattle.summary.specs.declared.Head.{Head}

-- "0 passes, 1 fault; .. the fault's place; .. its code; .. closing command (0 none, 1 terminate, 2 call); .. its target; .. the reason's number of a 7, ..
-- the expected value"
abbrev pub passing : ℕ → ℕ → Head
passing closing target = record { fault = 0; place = 0; code = 0; closing = closing; target = target; number = 0; value = 0 }

abbrev pub closing_head : Closing → Head
closing_head Terminates = passing 1 0
closing_head (CallsOn m) = passing 2 m

abbrev pub head_of : Walked → Reason → Head
head_of (Err f) reason =
    record {
      fault = 1;
      place = f.place;
      code = f.code;
      closing = 0;
      target = 0;
      number = (reason_shown reason).number;
      value = (reason_shown reason).value;
    }
head_of (Ok c) reason = closing_head c.closing

-- "a faulty card has .. totals 0"
abbrev pub steps_in : Walked → ℕ
steps_in (Err f) = 0
steps_in (Ok c) = c.steps

abbrev pub exposures_in : Walked → ℕ
exposures_in (Err f) = 0
exposures_in (Ok c) = c.exposures

-- bytes 0 to 6 in that order, "7 zero; 8-15 steps; 16-23 exposures; 24-29 the line lists used, list 0 the most significant bit; 30-31 zero"
abbrev pub laid_out : Head → ℕ → ℕ → ℕ → List ℕ
laid_out h steps exposures used =
    (h.fault ∷ h.place ∷ h.code ∷ h.closing ∷ h.target ∷ h.number ∷ h.value ∷ 0 ∷ [])
    ++ (eight steps ++ (eight exposures ++ (drop 2 (eight used) ++ (0 ∷ 0 ∷ []))))

abbrev pub bytes_of : Alone → List ℕ
bytes_of a = laid_out (head_of a.found a.reason) (steps_in a.found) (exposures_in a.found) a.tested

unfoldable pub card_of : Env → List ℕ → List ℕ
card_of E text = bytes_of (alone_in E text)

-- the line lists that a card uses
abbrev pub used_in : List ℕ → ℕ
used_in card = number_at card 24 6
