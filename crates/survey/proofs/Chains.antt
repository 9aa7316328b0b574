-- Laws of the chain: what it keeps as it grows, and one law for each way out of the cycle of the two checks. Assumes nothing.
use Prim.Native.Nat.{ℕ, zero, suc, ◌+◌, ◌-◌, ◌≤◌, ◌<◌, ◌^◌, zero-le}
use native.Mathlib.Nat.{le_of_suc-le-suc, not-suc-le-zero, add-zero, zero-add, add_assoc}
use native.Mathlib.Decide.{ℕ_discrete}
use native.Mathlib.Omega.{arith}
use mathlib.Core.Path.{◌≡◌, refl, sym, ap, ap₂, ◌∙◌, subst}
use mathlib.Core.Bool.{Bool, true, false, ◌||◌, true≢false}
use mathlib.Core.List.{List, [], ◌∷◌, ◌++◌, reverse, reverse-cons, append-nil}
use lib.Dec.{eqb}
use lib.ListN.{length, get_or, set, replicate, length-set, length-append, length-reverse, get_or-replicate}
use lib.Seq.{get_or-set_same, get_or-set_other, set_at, append_snoc}
use borrow.Author.Tests.{eq-eqb, ne_eqb, lt-ltb, le-ltb}
use Rattle.std.specs.Prelude.{Ok, Err, None}
use Rattle.octets.proofs.Bools.{either}
use Rattle.memory.specs.declared.Format.{Format}
use Rattle.memory.specs.Memory.{tables_wrong, entry_of}
use Rattle.memory.proofs.Laws.{Fair}
use Rattle.sequence.specs.declared.Fault.{Fault}
use Rattle.sequence.specs.LineList.{ListCard}
use Rattle.sequence.specs.Starts.{among}
use Rattle.sequence.specs.Env.{Env, env_of, text_of}
use Rattle.survey.specs.declared.Closing.{Closing}
use Rattle.survey.specs.declared.Closing.TheVariants.{Terminates, CallsOn}
use Rattle.survey.specs.declared.Closed.{Closed}
use Rattle.survey.specs.declared.Ending.{Ending}
use Rattle.survey.specs.declared.Ending.TheVariants.{Unlisted, Finishes, Returns, Faults}
use Rattle.survey.specs.declared.Reason.{Reason}
use Rattle.survey.specs.declared.Reason.TheVariants.{None}
use Rattle.survey.specs.declared.Chain.{Chain}
use Rattle.survey.specs.declared.Checked.{Checked}
use Rattle.survey.specs.declared.Report.{Report}
use Rattle.survey.specs.Walk.{Finding, passes, faults, reason_for, finding_of}
use Rattle.survey.specs.Chain.{Told, told, total, front, onward, follow, chain_of, check_rows, check_of}
use Rattle.survey.specs.Report.{Walked, padded, report_of, walked_of}
use Rattle.survey.specs.Held.{AtMost, unmarked, Marked, Free, Is, LowCall, joined, ahead, empty_chain, reasoned, reported}
use Rattle.survey.proofs.Names.{low-one}
use Rattle.survey.proofs.Listing.{unlisted-most, follow-enough}
use Rattle.survey.proofs.Reasons.{Right, right-one}
use Rattle.survey.proofs.Laws.{one-low}

-- ── marks
-- one mark more is one unmarked fewer
pub unmarked-set : (ms : List Bool) (n : ℕ) → n < length ms → get_or ms n false ≡ false → unmarked ms ≡ suc (unmarked (set ms n true))
unfolding unmarked
unmarked-set [] n h e = absurd (not-suc-le-zero h)
unmarked-set (false ∷ ms) zero h e = refl
unmarked-set (true ∷ ms) zero h e = absurd (true≢false e)
unmarked-set (true ∷ ms) (suc n) h e = unmarked-set ms n (le_of_suc-le-suc h) e
unmarked-set (false ∷ ms) (suc n) h e = ap suc (unmarked-set ms n (le_of_suc-le-suc h) e)

-- ── a sequence more
-- listed and marked
abbrev pub listed_with : Chain → ℕ → Chain
listed_with chain n =
    record {
      listed = set chain.listed chain.count n;
      marks = set chain.marks n true;
      count = chain.count + 1;
      steps = chain.steps;
      exposures = chain.exposures;
    }

-- and its totals added
abbrev pub added : Chain → ℕ → ℕ → Chain
added chain k x =
    record { listed = chain.listed; marks = chain.marks; count = chain.count; steps = chain.steps + k; exposures = chain.exposures + x }

module _ (chain : Chain) (n : ℕ) (free : Free chain n) where
  pub one_fewer : unmarked chain.marks ≡ suc (unmarked (set chain.marks n true))
  one_fewer = unmarked-set chain.marks n (omega (arith, free.kept.marks-long)) free.new

  -- there is a place for one more
  pub room : chain.count < 128
  room = omega (arith, one_fewer, free.kept.all)

  -- one more name, in the padded list
  padded-more : (names : List ℕ) → length names < 128 → set (padded names) (length names) n ≡ padded (names ++ n ∷ [])
  unfolding padded
  padded-more names h =
      let e : 128 - length names ≡ suc (127 - length names) = omega arith in
      let d : 128 - length (names ++ n ∷ []) ≡ 127 - length names = simp length-append (omega arith) in
      rw (e, d) (set_at names 0 (replicate (127 - length names) 0) n (length names) refl ∙ sym (append_snoc names n (replicate (127 - length names) 0)))

  pub is-entered : (names : List ℕ) → Is chain names → Is (listed_with chain n) (n ∷ names)
  unfolding among
  is-entered names is =
      let l : length (reverse names) ≡ length names = length-reverse names in
      let c : chain.count ≡ length (reverse names) = is.count ∙ sym l in
      record {
        list = ap₂ (λ (xs : List ℕ) (k : ℕ). set xs k n) is.list c ∙ padded-more (reverse names) (omega (arith, room)) ∙ ap padded (sym (reverse-cons n names));
        count = omega arith;
        marks = λ k h. mark k h (ℕ_discrete k n);
      }
    where
      mark : (k : ℕ) → k < 128 → Dec (k ≡ n) → get_or (set chain.marks n true) k false ≡ (eqb n k || among k names)
      mark k h (yes e) = rw (e, eq-eqb n n refl) (get_or-set_same chain.marks n true false (omega (arith, free.kept.marks-long, free.low)))
      mark k h (no d) = rw (ne_eqb n k (λ e. d (sym e))) (get_or-set_other chain.marks n k true false d ∙ is.marks k h)

-- ── what the rest of a chain is told to be
total-join : (e : Ending) (a k s : ℕ) → total e a (total e k s) ≡ total e (a + k) s
total-join (Unlisted code) a k s = refl
total-join Finishes a k s = sym (add_assoc a k s)
total-join Returns a k s = sym (add_assoc a k s)
total-join (Faults n f reason) a k s = refl

-- the names so far and one sequence in front of the rest are the names with that sequence, and the rest
pub joined-front : (names : List ℕ) (a b n k x : ℕ) (t : Told) → joined names a b (front n k x t) ≡ joined (n ∷ names) (a + k) (b + x) t
joined-front names a b n k x t =
    rw (total-join t.ending a k, total-join t.ending b x, reverse-cons n names, append_snoc (reverse names) n t.names)

-- what was found of sequence n, and where its closing command leads; why: the reason of a fault
abbrev steps_in : Walked → ℕ
steps_in (Err f) = 0
steps_in (Ok c) = c.steps

abbrev exposures_of : Walked → ℕ
exposures_of (Err f) = 0
exposures_of (Ok c) = c.exposures

abbrev leads : (ℕ → Told) → ℕ → (Fault → Reason) → Walked → Told
leads go n why (Err f) = told [] (Faults n f (why f)) 0 0
leads go n why (Ok c) = ahead go c.closing

onward-leads : (cards : ℕ → ListCard) (text : List ℕ) (go : ℕ → Told) (n : ℕ) (found : Finding) → Right cards text found
    → onward go n found ≡ front n (steps_in (walked_of found)) (exposures_of (walked_of found)) (leads go n (reason_for cards text) (walked_of found))
unfolding onward
onward-leads cards text go n (passes k x is p Terminates) r = rw (add-zero k, add-zero x)
onward-leads cards text go n (passes k x is p (CallsOn m)) r = refl
onward-leads cards text go n (faults f reason) r = rw r.told

-- ── the report of a chain that ends here
abbrev pub checked : Chain → Ending → Checked
checked chain e = record { chain = chain; ending = e }

module _ (E : Env) (seqs : List ℕ) where
  end-said : (chain : Chain) (names : List ℕ) → Is chain names → (e : Ending)
      → reported E seqs (checked chain e) ≡ report_of (joined names chain.steps chain.exposures (told [] (reasoned E seqs e) 0 0))
  unfolding reported report_of
  end-said chain names is e = rw (append-nil (reverse names), length-reverse names, is.list, is.count)

  -- what is reported, given what stands ahead of the names so far
  abbrev Reports : Chain → (List ℕ → Told) → Checked → Type 0
  Reports chain rest r = (names : List ℕ) → Is chain names → reported E seqs r ≡ report_of (joined names chain.steps chain.exposures (rest names))

-- ── each way out of a closing command
pub follow-back : (found : ℕ → Finding) (f : ℕ) (names : List ℕ) (m : ℕ) → among m names ≡ true → follow found f names m ≡ told [] Returns 0 0
unfolding follow
follow-back found zero names m e = refl
follow-back found (suc f) names m e = rw e

module _ (E : Env) (seqs : List ℕ) (chain : Chain) (c : Closing) where
  pub close-stop : c ≡ Terminates → Reports E seqs chain (λ names. ahead (follow (finding_of E seqs) (unmarked chain.marks) names) c) (checked chain Finishes)
  close-stop e names is = rw e (end-said E seqs chain names is Finishes)

  module _ (m : ℕ) (e : c ≡ CallsOn m) where
    pub close-back : m < 128 → get_or chain.marks m false ≡ true
        → Reports E seqs chain (λ names. ahead (follow (finding_of E seqs) (unmarked chain.marks) names) c) (checked chain Returns)
    close-back l q names is =
        rw (e, follow-back (finding_of E seqs) (unmarked chain.marks) names m (sym (is.marks m l) ∙ q)) (end-said E seqs chain names is Returns)

-- ── each way out of a sequence
-- the turns left once sequence n is listed
abbrev left : Chain → ℕ → ℕ
left chain n = unmarked (set chain.marks n true)

-- sequence n is not listed yet, and w was found of its text
pub record Visit (F : Format) (lists seqs : List ℕ) (chain : Chain) (n : ℕ) (w : Walked) : Type 0 where
  pub fair : Fair F
  pub most : AtMost (2 ^ 54) w
  pub free : Free chain n
  pub found : w ≡ walked_of (finding_of (env_of F lists) seqs n)

module _ {F : Format} {lists seqs : List ℕ} {chain : Chain} {n : ℕ} {w : Walked} (v : Visit F lists seqs chain n w) where
  abbrev E : Env
  E = env_of F lists

  abbrev found : ℕ → Finding
  found = finding_of E seqs

  turned : (names : List ℕ) → Is chain names → (a b : ℕ) → joined names a b (follow found (unmarked chain.marks) names n)
      ≡ joined (n ∷ names) (a + steps_in w) (b + exposures_of w) (leads (follow found (left chain n) (n ∷ names)) n (reason_for E.cards (text_of E seqs n)) w)
  unfolding follow
  turned names is a b =
      let go : ℕ → Told = follow found (left chain n) (n ∷ names) in
      let new : among n names ≡ false = sym (is.marks n v.free.low) ∙ v.free.new in
      rw (one_fewer chain n v.free, new, onward-leads E.cards (text_of E seqs n) go n (found n) (right-one E (text_of E seqs n)), ← v.found)
      (joined-front names a b n (steps_in w) (exposures_of w) (leads go n (reason_for E.cards (text_of E seqs n)) w))

  pub seq-fault : (f : Fault) → w ≡ Err f
      → Reports E seqs chain (λ names. follow found (unmarked chain.marks) names n) (checked (listed_with chain n) (Faults n f None))
  seq-fault f e names is =
      rw (turned names is chain.steps chain.exposures, e)
      (end-said E seqs (listed_with chain n) (n ∷ names) (is-entered chain n v.free names is) (Faults n f None))

  module _ (c : Closed) (e : w ≡ Ok c) where
    most : (c.steps ≤ 2 ^ 54) × (c.exposures ≤ 2 ^ 54)
    most =
        subst (AtMost (2 ^ 54)) e v.most

    pub next_low : LowCall c.closing
    next_low = one-low (env_of F lists) (entry_of F seqs n) w v.found v.fair.last c e

    pub next_fits : (chain.steps + c.steps < 2 ^ 64) × (chain.exposures + c.exposures < 2 ^ 64)
    next_fits = omega (arith, most, room chain n v.free, v.free.kept.steps-fit, v.free.kept.exposures-fit)

    pub next-kept : Marked (added (listed_with chain n) c.steps c.exposures)
    next-kept =
        record {
          listed-long = length-set chain.listed chain.count n ∙ v.free.kept.listed-long;
          marks-long = length-set chain.marks n true ∙ v.free.kept.marks-long;
          all = omega (arith, one_fewer chain n v.free, v.free.kept.all);
          steps-fit = omega (arith, most, v.free.kept.steps-fit);
          exposures-fit = omega (arith, most, v.free.kept.exposures-fit);
        }

    pub next-fewer : left chain n + left chain n + 1 < unmarked chain.marks + unmarked chain.marks
    next-fewer = omega (arith, one_fewer chain n v.free)

    pub seq-next : (r : Checked) → Reports E seqs (added (listed_with chain n) c.steps c.exposures) (λ names. ahead (follow found (left chain n) names) c.closing) r
        → Reports E seqs chain (λ names. follow found (unmarked chain.marks) names n) r
    seq-next r h names is =
        let i = is-entered chain n v.free names is in
        rw (turned names is chain.steps chain.exposures, e)
        (h (n ∷ names) record { list = i.list; count = i.count; marks = i.marks })

-- ── the check
marks-start : (n : ℕ) → n < 128 → get_or empty_chain.marks n false ≡ false
marks-start n l = get_or-replicate 128 n false false l

pub kept-start : Marked empty_chain
unfolding unmarked
kept-start = record { listed-long = refl; marks-long = refl; all = refl; steps-fit = zero-le; exposures-fit = zero-le }

pub is-start : Is empty_chain []
unfolding padded among
is-start = record { list = refl; count = refl; marks = λ k h. get_or-replicate 128 k false false h }

pub free-start : (start : Chain) (n : ℕ) → start ≡ empty_chain → n < 128 → Free start n
free-start start n e l = rw e (record { kept = kept-start; low = l; new = marks-start n l })

-- a chain's own totals, with nothing in front of them
total-none : (e : Ending) (k s : ℕ) → total e 0 (total e k s) ≡ total e k s
total-none e k s = total-join e 0 k s ∙ ap (λ (a : ℕ). total e a s) (zero-add k)

onward-whole : (go : ℕ → Told) (n : ℕ) (found : Finding) → joined [] 0 0 (onward go n found) ≡ onward go n found
unfolding onward
onward-whole go n (passes k x is p Terminates) = rw (zero-add k, zero-add x)
onward-whole go n (passes k x is p (CallsOn m)) = rw (total-none (go m).ending k, total-none (go m).ending x)
onward-whole go n (faults f reason) = refl

pub follow-whole : (found : ℕ → Finding) (f : ℕ) (names : List ℕ) (n : ℕ) → joined [] 0 0 (follow found f names n) ≡ follow found f names n
unfolding follow
follow-whole found zero names n = refl
follow-whole found (suc f) names n =
    let go : ℕ → Told = λ m. follow found f (n ∷ names) m in
    either (λ (t : Told). joined [] 0 0 t ≡ t) (among n names) (told [] Returns 0 0) (onward go n (found n)) refl (onward-whole go n (found n))

module _ (F : Format) (seqs lists : List ℕ) (n : ℕ) (wrong : Bool) (ew : wrong ≡ tables_wrong F seqs lists) {r : Report} where
  pub check-wrong : wrong ≡ true → r ≡ report_of (told [] (Unlisted 16) 0 0) → r ≡ report_of (check_of F seqs lists n)
  unfolding check_of check_rows
  check-wrong t h = rw (← ew, t) h

  pub check-high : wrong ≡ false → F.last < n → r ≡ report_of (told [] (Unlisted 7) 0 0) → r ≡ report_of (check_of F seqs lists n)
  unfolding check_of check_rows
  check-high t l h = rw (← ew, t, lt-ltb F.last n l) h

  pub check-runs : (start : Chain) → start ≡ empty_chain → F.last ≤ 127 → wrong ≡ false → n ≤ F.last → (d : Checked)
      → Reports (env_of F lists) seqs start (λ names. follow (finding_of (env_of F lists) seqs) (unmarked start.marks) names n) d → r ≡ reported (env_of F lists) seqs d → r ≡ report_of (check_of F seqs lists n)
  unfolding check_of check_rows chain_of unmarked
  check-runs start es fits t l d h er =
      let i : Is start [] = rw es is-start in
      let found = finding_of (env_of F lists) seqs in
      rw (← ew, t, le-ltb F.last n l)
      (er ∙ (rw es at (h [] i)) ∙ ap report_of (follow-whole found 128 [] n ∙ follow-enough F.last found (λ m. low-one (env_of F lists) _) (suc F.last) 128 [] n (omega arith) l (unlisted-most (suc F.last) [])))
