-- The check, sentence by sentence: what is shown of one sequence, over the whole chain. Assumes nothing.
use Prim.Native.Nat.{ℕ, suc, ◌+◌}
use native.Mathlib.Omega.{arith}
use mathlib.Core.Path.{◌≡◌, refl, sym, ap, ap₂, subst, subst₂, ◌∙◌}
use mathlib.Core.Bool.{true, false≢true}
use mathlib.Core.List.{List, [], ◌∷◌}
use mathlib.Core.Logic.{◌⊎◌, inl, inr}
use borrow.Author.Tests.{lt-ltb}
use Rattle.octets.proofs.Bools.{by-test}
use Rattle.memory.specs.declared.Format.{Format}
use Rattle.memory.specs.Memory.{entry_of, tables_wrong}
use Rattle.memory.proofs.Laws.{sizes, right-sizes}
use Rattle.sequence.specs.declared.Fault.{Fault}
use Rattle.sequence.specs.Text.{fault}
use Rattle.sequence.specs.Starts.{among}
use Rattle.sequence.specs.Env.{Env, env_of}
use Rattle.survey.specs.declared.Closing.TheVariants.{Terminates, CallsOn}
use Rattle.survey.specs.declared.Ending.{Ending}
use Rattle.survey.specs.declared.Ending.TheVariants.{Unlisted, Finishes, Returns, Faults}
use Rattle.survey.specs.declared.Reason.{Reason}
use Rattle.survey.specs.Walk.{Finding, passes, faults, finding_of}
use Rattle.survey.specs.Chain.{Told, told, total, onward, chain_of, check_rows, check_of}
use Rattle.survey.specs.Report.{ending_as}
use Rattle.promises.specs.Library.{ours}
use Rattle.promises.specs.Kept.{IsPassed}
use Rattle.promises.specs.Demand3.{Lists}
use Rattle.promises.specs.EachCheck.{Given, CheckSixteen, CheckSeven, Passes, Breaks, FaultIn, RulesApplied, CallsFollowed, steps_of_sequence, exposures_of_sequence, sum_over, TotalsTold}
use Rattle.promises.proofs.Formats.{fills-exactly}
use Rattle.promises.proofs.Run.Events.{fault-so, passed-so}
use Rattle.survey.proofs.Listing.{among-case, follow-all}
use Rattle.promises.proofs.Chain.Chains.{check-is}
use Rattle.promises.proofs.Text.Walks.{passed-read}
use Rattle.promises.proofs.Chain.Names.{chain-lists}
use Rattle.promises.proofs.Text.InOrder.{one-checked}
use Rattle.promises.proofs.Text.Counting.{counted-steps, counted-exposures}

-- ── 16 and 7
pub check-sixteen : CheckSixteen ours
unfolding check_of check_rows
check-sixteen F seqs lists n x =
    by-test (tables_wrong F seqs lists)
    (λ e. rw e)
    (λ e. let (f, p, q) = sizes F seqs lists e in absurd (x ((fills-exactly F).0 f, p, q)))

pub check-seven : CheckSeven ours
unfolding check_of check_rows
check-seven F seqs lists n f s l h = rw (right-sizes F seqs lists ((fills-exactly F).1 f) s l, lt-ltb F.last n h)

-- ── over the chain
module _ (F : Format) (lists seqs : List ℕ) where
  abbrev E : Env
  E = env_of F lists

  abbrev found : ℕ → Finding
  found n = finding_of E seqs n

  -- each listed sequence passes, or it is told to be faulty; one that is told to be so breaks the rules; the totals of what passes
  record Verdict (t : Told) : Type 0 where
    each : (m : ℕ) → among m t.names ≡ true → Passes E (entry_of F seqs m) ⊎ FaultIn m t.ending
    broken : (code m place : ℕ) (reason : Reason) → t.ending ≡ Faults m (fault code place) reason → Breaks E (entry_of F seqs m) code place
    totals : IsPassed t.ending → (t.steps ≡ sum_over F steps_of_sequence seqs t.names) × (t.exposures ≡ sum_over F exposures_of_sequence seqs t.names)

  none-listed : Verdict (told [] Returns 0 0)
  unfolding among
  none-listed =
      record { each = λ m a. absurd (false≢true a); broken = λ code m place r e. (let z : ◌≡◌ {A = ℕ} 0 1 = cc in absurd (omega arith)); totals = λ y. (refl, refl) }

  -- sequence n, which passes, in front of the rest
  front : (n k x : ℕ) (t : Told) → Passes E (entry_of F seqs n) → k ≡ steps_of_sequence (entry_of F seqs n) → x ≡ exposures_of_sequence (entry_of F seqs n) → Verdict t
      → Verdict (told (n ∷ t.names) t.ending (total t.ending k t.steps) (total t.ending x t.exposures))
  front n k x t p ek ex v =
      record {
        each = λ m a. among-case m n t.names a (λ w. subst (λ (z : ℕ). Passes E (entry_of F seqs z) ⊎ FaultIn z t.ending) w (inl p)) (λ w. v.each m w);
        broken = v.broken;
        totals = λ y. sums t.ending y (v.totals y);
      }
    where
      sums : (e : Ending) → IsPassed e → (t.steps ≡ sum_over F steps_of_sequence seqs t.names) × (t.exposures ≡ sum_over F exposures_of_sequence seqs t.names)
          → (total e k t.steps ≡ sum_over F steps_of_sequence seqs (n ∷ t.names)) × (total e x t.exposures ≡ sum_over F exposures_of_sequence seqs (n ∷ t.names))
      sums (Unlisted code) y s = absurd y
      sums Finishes y (s, z) = (ap₂ (λ (a b : ℕ). a + b) ek s, ap₂ (λ (a b : ℕ). a + b) ex z)
      sums Returns y (s, z) = (ap₂ (λ (a b : ℕ). a + b) ek s, ap₂ (λ (a b : ℕ). a + b) ex z)
      sums (Faults m f reason) y s = absurd y

  onward-verdict : (n : ℕ) (go : ℕ → Told) → ((m : ℕ) → Verdict (go m)) → (v : Finding) → found n ≡ v → Verdict (onward go n v)
  unfolding onward among
  onward-verdict n go ih (faults f reason) says =
      record {
        each = λ m a. among-case m n [] a (λ w. inr (f.code, f.place, ap (λ (z : ℕ). ending_as 3 f.code z f.place) w)) (λ w. absurd (false≢true w));
        broken =
            λ c m p r e.
            let (b, d) : (f ≡ fault c p) × (n ≡ m) = (cc, cc) in
            subst₂ (λ (w : Fault) (z : ℕ). Breaks E (entry_of F seqs z) w.code w.place) b d (one-checked E (entry_of F seqs n) (faults f reason) says);
        totals = λ y. absurd y;
      }
  onward-verdict n go ih (passes k x items e Terminates) says =
      let (b, ek, ex) = passed-read E (entry_of F seqs n) says in
      let p = one-checked E (entry_of F seqs n) (passes k x items e Terminates) says in
      record {
        each = λ m a. among-case m n [] a (λ w. subst (λ (z : ℕ). Passes E (entry_of F seqs z) ⊎ FaultIn z Finishes) w (inl p)) (λ w. absurd (false≢true w));
        broken = λ c m place r w. (let z : ◌≡◌ {A = ℕ} 0 1 = cc in absurd (omega arith));
        totals = λ y. (let s = ek ∙ counted-steps b in let z = ex ∙ counted-exposures b in (omega arith, omega arith));
      }
  onward-verdict n go ih (passes k x items e (CallsOn m)) says =
      let (b, ek, ex) = passed-read E (entry_of F seqs n) says in
      front n k x (go m) (one-checked E (entry_of F seqs n) (passes k x items e (CallsOn m)) says) (ek ∙ counted-steps b) (ex ∙ counted-exposures b) (ih m)

  verdict : (n : ℕ) → Given F seqs lists n → Verdict (ours.checks F seqs lists n)
  unfolding chain_of
  verdict n g = subst Verdict (sym (check-is F seqs lists n (right-sizes F seqs lists ((fills-exactly F).1 g.format) g.sequences g.line_lists) g.number))
      (follow-all found (λ before t. Verdict t) (λ before. none-listed) (λ before m go e ih. onward-verdict m go ih (found m) refl) (suc F.last) [] n)

pub rules-applied : RulesApplied ours
rules-applied F seqs lists n g = let v = verdict F lists seqs n g in (v.each, λ code m place e. v.broken code m place _ (fault-so e))

pub calls-followed : CallsFollowed ours
calls-followed F seqs lists n g =
    subst (Lists F seqs lists n) (sym (check-is F seqs lists n (right-sizes F seqs lists ((fills-exactly F).1 g.format) g.sequences g.line_lists) g.number)) (chain-lists F lists seqs n g.number)

pub totals-told : TotalsTold ours
totals-told F seqs lists n g y = (verdict F lists seqs n g).totals (passed-so (ours.checks F seqs lists n).ending y)
