-- The table check: each sequence's check, then that of the sequence it calls, until one ends or is listed already.
use Rattle.std.specs.Prelude.{ℕ, zero, suc, ◌+◌, cond, List, [], ◌∷◌, ltb, eqb}
use Rattle.octets.specs.Rows.{Row, row, first_code}
use Rattle.memory.specs.declared.Format.{Format}
use Rattle.memory.specs.Memory.{tables_wrong}
use Rattle.sequence.specs.Starts.{among}
use Rattle.sequence.specs.Env.{env_of}
use Rattle.survey.specs.declared.Closing.TheVariants.{Terminates, CallsOn}
use Rattle.survey.specs.declared.Ending.{Ending}
use Rattle.survey.specs.declared.Ending.TheVariants.{Unlisted, Finishes, Returns, Faults}
use Rattle.survey.specs.Walk.{Finding, passes, faults, finding_of}

-- "The check names the chain's sequences in order, says whether it ends or returns, and gives exposures and steps over the listed ones once each."
pub record Told : Type 0 where
  pub names : List ℕ
  pub ending : Ending
  pub steps : ℕ
  pub exposures : ℕ

abbrev pub told : List ℕ → Ending → ℕ → ℕ → Told
told names ending steps exposures = record { names = names; ending = ending; steps = steps; exposures = exposures }

-- "A fault gives sequence, place, code, the chain through that sequence, and totals 0."
abbrev pub total : Ending → ℕ → ℕ → ℕ
total (Unlisted code) a b = 0
total Finishes a b = a + b
total Returns a b = a + b
total (Faults n f reason) a b = 0

-- sequence n, with its steps and exposures, in front of the rest of the chain
abbrev pub front : ℕ → ℕ → ℕ → Told → Told
front n k x t = told (n ∷ t.names) t.ending (total t.ending k t.steps) (total t.ending x t.exposures)

-- "follows the call, and ends at terminate or at a sequence already listed"
unfoldable pub onward : (ℕ → Told) → ℕ → Finding → Told
onward go n (faults f reason) = told (n ∷ []) (Faults n f reason) 0 0
onward go n (passes k x is p Terminates) = told (n ∷ []) Finishes k x
onward go n (passes k x is p (CallsOn m)) = front n k x (go m)

-- the chain from sequence n on, over what is found of each, where `names` are listed already; each turn lists one more
unfoldable pub follow : (ℕ → Finding) → ℕ → List ℕ → ℕ → Told
follow found zero names n = told [] Returns 0 0
follow found (suc f) names n =
    cond (among n names) (told [] Returns 0 0) (onward (λ m. follow found f (n ∷ names) m) n (found n))

-- the chain from sequence n
unfoldable pub chain_of : Format → (ℕ → Finding) → ℕ → Told
chain_of F found n = follow found (suc F.last) [] n

-- "Given tables (wrong size: 16) and a sequence number (above 127: 7)", or above the last of its kind; "either answers with nothing listed and totals 0."
unfoldable pub check_rows : Format → List ℕ → List ℕ → ℕ → List Row
check_rows F seqs lists n = row 16 (tables_wrong F seqs lists) ∷ row 7 (ltb F.last n) ∷ []

abbrev pub check_by : ℕ → Told → Told
check_by code t = cond (eqb code 0) t (told [] (Unlisted code) 0 0)

unfoldable pub check_of : Format → List ℕ → List ℕ → ℕ → Told
check_of F seqs lists n = check_by (first_code (check_rows F seqs lists n)) (chain_of F (finding_of (env_of F lists) seqs) n)
