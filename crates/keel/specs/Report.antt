-- keel_check's report of 152 bytes: "0 code (0 passed; a fault's code; 16; 7); 1: 0 nothing listed, 1 ends, 2 returns, 3 fault; 2 fault's
-- sequence; 3 its place; 6-7 how many are listed; 8-15 steps; 16-23 exposures, high byte first; 24-151 the chain, zeros after it; all else 0".
-- P4 puts the number of the fault's reason at 4 and the checksum expected at 5.
use Rattle.std.specs.Prelude.{ℕ, Bool, cond, List, ◌∷◌, ◌++◌, eqb, length}
use Rattle.octets.specs.Bytes.{two, eight}
use Rattle.memory.specs.declared.Format.{Format}
use Rattle.survey.specs.declared.Report.{Report}
use Rattle.survey.specs.Chain.{Told, check_of}
use Rattle.survey.specs.Report.{ending_shown, reason_of, reason_shown, report_of}
use Rattle.summary.specs.Chain.{check_cards}

-- of what a check found
abbrev pub report_laid : Report → List ℕ
report_laid r =
    ((ending_shown r.ending).code ∷ (ending_shown r.ending).number ∷ (ending_shown r.ending).sequence ∷ (ending_shown r.ending).place
    ∷ (reason_shown (reason_of r.ending)).number ∷ (reason_shown (reason_of r.ending)).value ∷ two r.count)
    ++ (eight r.steps ++ (eight r.exposures ++ r.listed))

-- of what a check tells
unfoldable pub report_bytes : Told → List ℕ
report_bytes t = report_laid (report_of t)

abbrev pub report_sized : List ℕ → Bool
report_sized r = eqb (length r) 152

-- "another size: 16, untouched": the answer to a check that tells this, and the report after it
unfoldable pub told_answer : Told → List ℕ → ℕ
told_answer t r = cond (report_sized r) (ending_shown t.ending).code 16

unfoldable pub told_report : Told → List ℕ → List ℕ
told_report t r = cond (report_sized r) (report_bytes t) r

-- of the table check
unfoldable pub check_answer : Format → List ℕ → List ℕ → ℕ → List ℕ → ℕ
check_answer F seqs lists n r = told_answer (check_of F seqs lists n) r

unfoldable pub report_after : Format → List ℕ → List ℕ → ℕ → List ℕ → List ℕ
report_after F seqs lists n r = told_report (check_of F seqs lists n) r

-- of the check from cards alone
unfoldable pub cards_answer : Format → List ℕ → ℕ → List ℕ → ℕ
cards_answer F s n r = told_answer (check_cards F s n) r

unfoldable pub cards_report : Format → List ℕ → ℕ → List ℕ → List ℕ
cards_report F s n r = told_report (check_cards F s n) r
