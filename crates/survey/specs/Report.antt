-- The check's answer as the code holds it: the chain in an array of 128 numbers, and the paper's number and values for each ending.
use Rattle.std.specs.Prelude.{ℕ, ◌-◌, cond, List, ◌++◌, length, take, replicate, Result, Ok, Err, None}
use Rattle.memory.specs.declared.Format.{Format}
use Rattle.memory.specs.Memory.{fills}
use Rattle.sequence.specs.declared.Fault.{Fault}
use Rattle.sequence.specs.declared.ReasonNumbers.{ReasonNumbers}
use Rattle.sequence.specs.Text.{fault}
use Rattle.sequence.specs.LineList.{reason_as, bad_shown}
use Rattle.sequence.specs.LineList.{ListCard}
use Rattle.sequence.specs.Env.{Env, env_of}
use Rattle.survey.specs.declared.Ending.{Ending}
use Rattle.survey.specs.declared.Ending.TheVariants.{Unlisted, Finishes, Returns, Faults}
use Rattle.survey.specs.declared.Reason.{Reason}
use Rattle.survey.specs.declared.Reason.TheVariants.{None, OfList, Mark}
use Rattle.survey.specs.declared.Closed.{Closed}
use Rattle.survey.specs.declared.Closing.{Closing}
use Rattle.survey.specs.declared.Alone.{Alone}
use Rattle.survey.specs.declared.Report.{Report}
use Rattle.survey.specs.Walk.{Finding, passes, faults, check_one}
use Rattle.survey.specs.Tested.{tested_in, bits_of}
use Rattle.survey.specs.Chain.{Told}

-- 0 nothing listed, 1 ends, 2 returns, 3 fault; its code; a fault's sequence and place
pub record EndingShown : Type 0 where
  pub number : ℕ
  pub code : ℕ
  pub sequence : ℕ
  pub place : ℕ

abbrev pub ending_as : ℕ → ℕ → ℕ → ℕ → EndingShown
ending_as number code sequence place = record { number = number; code = code; sequence = sequence; place = place }

abbrev pub ending_shown : Ending → EndingShown
ending_shown (Unlisted code) = ending_as 0 code 0 0
ending_shown Finishes = ending_as 1 0 0 0
ending_shown Returns = ending_as 2 0 0 0
ending_shown (Faults n f reason) = ending_as 3 f.code n f.place

-- a fault's reason, none where there is no fault; and its number and value: 0 none, then those of the line list test, 4 a missing mark
abbrev pub reason_of : Ending → Reason
reason_of (Unlisted code) = None
reason_of Finishes = None
reason_of Returns = None
reason_of (Faults n f reason) = reason

abbrev pub reason_shown : Reason → ReasonNumbers
reason_shown None = reason_as 0 0
reason_shown (OfList bad) = bad_shown bad
reason_shown Mark = reason_as 4 0

-- the names, and zeros after them
unfoldable pub padded : List ℕ → List ℕ
padded names = names ++ replicate (128 - length names) 0

unfoldable pub report_of : Told → Report
report_of t = record { ending = t.ending; listed = padded t.names; count = length t.names; steps = t.steps; exposures = t.exposures }

-- how a sequence closes, or its fault
abbrev pub Walked : Type 0
Walked = Result Closed Fault

abbrev pub closed_at : ℕ → Closing → ℕ → ℕ → Walked
closed_at place closing steps exposures = Ok (record { place = place; closing = closing; steps = steps; exposures = exposures })

-- what one sequence's text comes to, without the items and a fault's reason
abbrev pub walked_of : Finding → Walked
walked_of (passes k x is p c) = closed_at p c k x
walked_of (faults f reason) = Err f

-- one sequence's text, taken alone, of at most an entry's bytes; "an unknown kind is 16"
unfoldable pub check_alone : Format → List ℕ → List ℕ → Walked
check_alone F lists text = cond (fills F) (walked_of (check_one (env_of F lists) (take F.size text))) (Err (fault 16 0))

-- a fault's reason
abbrev pub reason_found : Finding → Reason
reason_found (passes k x is p c) = None
reason_found (faults f reason) = reason

-- and with the reason, and the line lists that the check came to test
abbrev pub alone_in : Env → List ℕ → Alone
alone_in E text = record { found = walked_of (check_one E text); reason = reason_found (check_one E text); tested = bits_of 48 (tested_in E.cards text) }

unfoldable pub alone_of : Format → (ℕ → ListCard) → List ℕ → Alone
alone_of F cards text =
    cond (fills F) (alone_in (record { format = F; cards = cards }) (take F.size text)) (record { found = Err (fault 16 0); reason = None; tested = 0 })
