-- The names that the check lists are the chain's, no one of them twice, and a fault's reason is right. Assumes nothing.
use Rattle.std.specs.Prelude.{Ok, Err}
use Prim.Native.Nat.{ℕ, zero, suc, ◌≤◌}
use native.Mathlib.Omega.{arith}
use mathlib.Core.Path.{◌≡◌, refl, sym, subst, ◌∙◌}
use mathlib.Core.Bool.{Bool, true, false, ◌||◌, true≢false, or-true}
use mathlib.Core.List.{List, [], ◌∷◌}
use lib.Dec.{eqb}
use borrow.Author.Tests.{eqb-true, eq-eqb, ne_eqb}
use Rattle.octets.proofs.Bools.{by-test}
use Rattle.memory.specs.declared.Format.{Format}
use Rattle.memory.specs.Memory.{entry_of}
use Rattle.sequence.specs.declared.Fault.{Fault}
use Rattle.sequence.specs.LineList.{ListCard}
use Rattle.sequence.specs.Starts.{among}
use Rattle.sequence.specs.Raster.{raster_at}
use Rattle.sequence.specs.Env.{Env, env_of, text_of}
use Rattle.survey.specs.declared.Closing.TheVariants.{Terminates, CallsOn}
use Rattle.survey.specs.declared.Ending.{Ending}
use Rattle.survey.specs.declared.Ending.TheVariants.{Unlisted, Finishes, Returns, Faults}
use Rattle.survey.specs.declared.Reason.{Reason}
use Rattle.runner.proofs.Exactly.{ListRefused}
use Rattle.survey.specs.Walk.{Finding, passes, faults, reason_in, finding_of}
use Rattle.survey.specs.Chain.{Told, told, total, onward, follow, chain_of}
use Rattle.survey.specs.Report.{ending_shown}
use Rattle.survey.proofs.Reasons.{one_right}
use Rattle.promises.specs.Demand3.{SevenFor, Reasoned, Chain, last-terminates, last-returns, last-faulty, then-called, Differ, Lists}
use Rattle.survey.proofs.Listing.{unlisted, unlisted-most, unlisted-less, all_listed, among_first, among-case, follow-all}
use Rattle.promises.proofs.Chain.Never.{called-known}
use Rattle.promises.proofs.Chain.Chains.{chain_in}
use Rattle.promises.proofs.Text.Walks.{passed-read}
use Rattle.promises.proofs.Text.TextOrder.{closing-of}

-- ── no name twice
-- each name is new to those listed before it
abbrev Fresh : List ℕ → List ℕ → Type 0
Fresh before [] = Unit {0}
Fresh before (n ∷ ns) = (among n before ≡ false) × Fresh (n ∷ before) ns

fresh-none : (before names : List ℕ) → Fresh before names → (u : ℕ) → among u before ≡ true → among u names ≡ false
unfolding among
fresh-none before [] x u a = refl
fresh-none before (n ∷ ns) (e, x) u a = go (eqb n u) refl (fresh-none (n ∷ before) ns x u (rw a (or-true (eqb n u))))
  where
    go : (b : Bool) → eqb n u ≡ b → among u ns ≡ false → (b || among u ns) ≡ false
    go true i ih = let w = eqb-true n u i in absurd (true≢false (sym a ∙ rw w at e))
    go false i ih = ih

fresh-differ : (before names : List ℕ) → Fresh before names → Differ names
fresh-differ before [] x = tt
fresh-differ before (n ∷ ns) (e, x) = (fresh-none (n ∷ before) ns x n (among_first n before), fresh-differ (n ∷ before) ns x)

-- ── totals 0 at a fault
abbrev Totals : Ending → ℕ → ℕ → Type 0
Totals e steps exposures = (ending_shown e).number ≡ 3 → (steps ≡ 0) × (exposures ≡ 0)

totals-front : (e : Ending) (k k' x x' : ℕ) → Totals e (total e k k') (total e x x')
totals-front (Unlisted code) k k' x x' h = absurd (omega arith)
totals-front Finishes k k' x x' h = absurd (omega arith)
totals-front Returns k k' x x' h = absurd (omega arith)
totals-front (Faults n f reason) k k' x x' h = (refl, refl)

totals-onward : (go : ℕ → Told) (n : ℕ) (v : Finding) → let t = onward go n v in Totals t.ending t.steps t.exposures
unfolding onward
totals-onward go n (faults f reason) h = (refl, refl)
totals-onward go n (passes k x items p Terminates) h = absurd (omega arith)
totals-onward go n (passes k x items p (CallsOn m)) h = totals-front (go m).ending k (go m).steps x (go m).exposures h

-- all of these are among those
abbrev Part : List ℕ → List ℕ → Type 0
Part names listed = (u : ℕ) → among u names ≡ true → among u listed ≡ true

module _ (F : Format) (lists seqs : List ℕ) where
  abbrev E : Env
  E = env_of F lists

  abbrev found : ℕ → Finding
  found n = finding_of E seqs n

  -- where n was listed before, no more is
  follow-listed : (f : ℕ) (before : List ℕ) (n : ℕ) → among n before ≡ true → follow found f before n ≡ told [] Returns 0 0
  unfolding follow
  follow-listed zero before n a = refl
  follow-listed (suc f) before n a = rw a

  follow-new : (f : ℕ) (before : List ℕ) (n : ℕ) → among n before ≡ false → follow found (suc f) before n ≡ onward (λ m. follow found f (n ∷ before) m) n (found n)
  unfolding follow
  follow-new f before n a = rw a

  fresh-onward : (before : List ℕ) (n : ℕ) (go : ℕ → Told) → ((m : ℕ) → Fresh (n ∷ before) (go m).names) → among n before ≡ false
      → (v : Finding) → Fresh before (onward go n v).names
  unfolding onward
  fresh-onward before n go ih e (faults f reason) = (e, tt)
  fresh-onward before n go ih e (passes k x items p Terminates) = (e, tt)
  fresh-onward before n go ih e (passes k x items p (CallsOn m)) = (e, ih m)

  fresh-follow : (f : ℕ) (before : List ℕ) (n : ℕ) → Fresh before (follow found f before n).names
  fresh-follow = follow-all found (λ before t. Fresh before t.names) (λ before. tt) (λ before n go e ih. fresh-onward before n go ih e (found n))

  -- ── a fault's reason
  seven-for : (card : ListCard) (science : ℕ) (reason : Reason) → reason ≡ reason_in card → ListRefused card science → SevenFor card science reason
  seven-for (Ok marks) science reason e missing = (e, missing)
  seven-for (Err bad) science reason e _ = e

  fault-reasoned : (n : ℕ) (f : Fault) (reason : Reason) → found n ≡ faults f reason → Reasoned (entry_of F seqs n) lists f reason
  fault-reasoned n f reason says =
      let right = one_right E (entry_of F seqs n) f reason says in
      let raster = raster_at (entry_of F seqs n) f.place in
      record {
        seven =
            λ e. let (run, _, why) = right.refused e in (run, seven-for (E.cards raster.list) raster.science reason (rw (eq-eqb f.code 7 e) at right.told) why);
        other = λ d. rw (ne_eqb f.code 7 d) at right.told;
      }

  -- ── the names in order
  abbrev Follows : List ℕ → ℕ → Told → Type 0
  Follows listed n t = Part t.names listed → Chain F seqs lists listed n t.names t.ending

  -- `go` is the chain after sequence n, and `ih` says it of that
  chain-onward : (before listed : List ℕ) (n : ℕ) (go : ℕ → Told) → Part before listed
      → ((m : ℕ) → among m (n ∷ before) ≡ true → go m ≡ told [] Returns 0 0)
      → ((m : ℕ) → m ≤ F.last → among m (n ∷ before) ≡ false → Part (n ∷ before) listed → Follows listed m (go m))
      → (v : Finding) → found n ≡ v → Follows listed n (onward go n v)
  unfolding onward among
  chain-onward before listed n go p back ih (faults f reason) says q = last-faulty (fault-reasoned n f reason says)
  chain-onward before listed n go p back ih (passes k x items e Terminates) says q = last-terminates (closing-of (passed-read E (text_of E seqs n) says).0)
  chain-onward before listed n go p back ih (passes k x items e (CallsOn m)) says q =
      let call = closing-of (passed-read E (text_of E seqs n) says).0 in
      let mine : among n listed ≡ true = q n (among_first n (go m).names) in
      let both : Part (n ∷ before) listed = λ u a. among-case u n before a (λ w. subst (λ (z : ℕ). among z listed ≡ true) w mine) (λ w. p u w) in
      by-test (among m (n ∷ before))
      (λ a. subst (λ (t : Told). Chain F seqs lists listed n (n ∷ t.names) t.ending) (sym (back m a)) (last-returns call (both m a)))
      (λ a. then-called call (ih m (called-known E seqs n says) a both (λ u w. q u (rw w (or-true (eqb n u))))))

  chain-follow : (f : ℕ) (before listed : List ℕ) (n : ℕ) → unlisted (suc F.last) before ≤ f → n ≤ F.last → among n before ≡ false → Part before listed
      → Follows listed n (follow found f before n)
  chain-follow zero before listed n u h a p = absurd (true≢false (sym (all_listed (suc F.last) n before u (omega arith)) ∙ a))
  chain-follow (suc f) before listed n u h a p =
      let less = unlisted-less (suc F.last) n before (omega arith) a in
      subst (Follows listed n) (sym (follow-new f before n a))
      (chain-onward before listed n (λ m. follow found f (n ∷ before) m) p (λ m b. follow-listed f (n ∷ before) m b)
      (λ m l b q. chain-follow f (n ∷ before) listed m (omega arith) l b q) (found n) refl)

  pub chain-lists : (n : ℕ) → n ≤ F.last → Lists F seqs lists n (chain_in E seqs n)
  unfolding chain_of among
  chain-lists n h =
      let t = follow found (suc F.last) [] n in
      record {
        chain = chain-follow (suc F.last) [] t.names n (unlisted-most (suc F.last) []) h refl (λ u a. absurd (true≢false (sym a))) (λ u a. a);
        differ = fresh-differ [] t.names (fresh-follow (suc F.last) [] n);
        totals = subst (λ (t : Told). Totals t.ending t.steps t.exposures) (sym (follow-new F.last [] n refl)) (totals-onward (λ m. follow found F.last (n ∷ []) m) n (found n));
      }
