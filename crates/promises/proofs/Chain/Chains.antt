-- What the check tells of a chain of sequences is kept by the run.
-- Assumes nothing.
use Prim.Native.Nat.{ℕ, zero, suc, ◌+◌, ◌≤◌}
use native.Mathlib.Omega.{arith}
use mathlib.Core.Path.{◌≡◌, refl, ap, ◌∙◌}
use mathlib.Core.Bool.{Bool, true, false, cond, ◌||◌}
use mathlib.Core.List.{List, [], ◌∷◌, ◌++◌}
use lib.Dec.{eqb}
use lib.ListN.{length-append}
use borrow.Author.Tests.{le-ltb}
use Rattle.octets.specs.Bytes.{byte_at}
use Rattle.memory.specs.declared.Format.{Format}
use Rattle.memory.specs.Memory.{tables_wrong}
use Rattle.memory.proofs.Laws.{Fair}
use Rattle.sequence.specs.declared.Command.TheVariants.{CallSequence}
use Rattle.sequence.specs.Starts.{among}
use Rattle.sequence.specs.Env.{Env, env_of, text_of}
use Rattle.runner.specs.declared.Runner.{Runner}
use Rattle.runner.specs.declared.Sight.{Sight}
use Rattle.survey.specs.declared.Item.{Item}
use Rattle.survey.specs.declared.Closing.{Closing}
use Rattle.survey.specs.declared.Closing.TheVariants.{Terminates, CallsOn}
use Rattle.survey.specs.declared.Ending.{Ending}
use Rattle.survey.specs.declared.Ending.TheVariants.{Unlisted, Finishes, Returns, Faults}
use Rattle.survey.specs.Turns.{turns}
use Rattle.survey.specs.Items.{positions_of}
use Rattle.survey.specs.Walk.{Finding, passes, faults, check_one, finding_of}
use Rattle.survey.specs.Chain.{Told, told, total, onward, follow, chain_of, check_rows, check_of}
use Rattle.promises.specs.Runs.{done, Aborts, AtDoor}
use Rattle.promises.specs.Positions.{chain_positions}
use Rattle.promises.specs.Demand3.{last_of, closing_of}
use Rattle.promises.specs.Kept.{Ran, AtRest, KeptBy, Kept}
use Rattle.promises.proofs.Run.Turns.{past-append}
use Rattle.promises.proofs.Run.Runs.{◌▸◌}
use Rattle.promises.proofs.Run.Sights.{end_of, sequence_sights}
use Rattle.promises.proofs.Run.Rounds.{After}
use Rattle.promises.proofs.Run.Counts.{length-sequence, length-rounds-positions, rounds-in-reach}
use Rattle.promises.proofs.Run.Seen.{seen-both, sequence-seen}
use Rattle.promises.proofs.Run.Sequences.{Passed, One, one-sequence}
use Rattle.survey.proofs.Listing.{unlisted, unlisted-most, unlisted-less, all_listed, or-move}
use Rattle.promises.proofs.Text.TextOrder.{command_of, closing-of}

-- ── what is to be seen of a chain, from the mirror at m, and where the mirror then is
abbrev pub finding_sights : List ℕ → ℕ → Finding → ℕ → List Sight
finding_sights text n (passes k x items e closing) m = sequence_sights text n (byte_at text 3) items e closing m
finding_sights text n (faults f reason) m = []

abbrev pub finding_end : List ℕ → Finding → ℕ → ℕ
finding_end text (passes k x items e closing) m = end_of text items m
finding_end text (faults f reason) m = m

unfoldable pub chain_sights : Env → List ℕ → List ℕ → ℕ → List Sight
chain_sights E seqs [] m = []
chain_sights E seqs (n ∷ ns) m =
    finding_sights (text_of E seqs n) n (check_one E (text_of E seqs n)) m ++ chain_sights E seqs ns (finding_end (text_of E seqs n) (check_one E (text_of E seqs n)) m)

unfoldable pub chain_end : Env → List ℕ → List ℕ → ℕ → ℕ
chain_end E seqs [] m = m
chain_end E seqs (n ∷ ns) m = chain_end E seqs ns (finding_end (text_of E seqs n) (check_one E (text_of E seqs n)) m)

-- u is the sequence that the last of these names calls; where there is none it is the first itself
abbrev pub CallsLast : Env → List ℕ → ℕ → List ℕ → ℕ → Type 0
CallsLast E seqs first [] u = first ≡ u
CallsLast E seqs first (n ∷ ns) u = closing_of (text_of E seqs (last_of n ns)) ≡ CallSequence u

-- at the door of that sequence, which was listed before or is listed now
abbrev pub BackTo : Env → List ℕ → ℕ → List ℕ → List ℕ → ℕ → Runner → Type 0
BackTo E seqs first before names m s = (n : ℕ) × (n ≤ E.format.last) × ((among n before || among n names) ≡ true) × AtDoor n m s × CallsLast E seqs first names n

-- the promise for a chain from the first sequence with these names, where others are listed before
unfoldable pub KeptFrom : Env → List ℕ → ℕ → List ℕ → List ℕ → Ending → ℕ → ℕ → ℕ → Runner → Type 0
KeptFrom E seqs first before names (Unlisted code) k x m s = ⊥
KeptFrom E seqs first before names Finishes k x m s = Ran E seqs (chain_sights E seqs names m) names k x AtRest s
KeptFrom E seqs first before names Returns k x m s = Ran E seqs (chain_sights E seqs names m) names k x (BackTo E seqs first before names (chain_end E seqs names m)) s
KeptFrom E seqs first before names (Faults n f reason) k x m s = Aborts E seqs n f s

module _ (E : Env) (seqs : List ℕ) where
  abbrev text : ℕ → List ℕ
  text n = text_of E seqs n

  -- no more is listed
  kept_back : (before : List ℕ) (n m : ℕ) (s : Runner) → n ≤ E.format.last → AtDoor n m s → among n before ≡ true → KeptFrom E seqs n before [] Returns 0 0 m s
  unfolding KeptFrom chain_sights chain_end chain_positions
  kept_back before n m s h d a = record { last = s; run = done; taken = refl; placed = refl; made = refl; in_reach = tt; leaves = (n, h, rw a, d, refl) }

  -- a sequence in front of what comes after it
  module _ (n m k x : ℕ) {e : ℕ} {items : List Item} {closing : Closing} (s : Runner) (says : check_one E (text n) ≡ passes k x items e closing)
      (o : Passed E seqs n m k x items e closing s) where
    in-front : (names : List ℕ) (k' x' : ℕ) (P Q : Runner → Type 0) → ((s' : Runner) → P s' → Q s')
        → Ran E seqs (chain_sights E seqs names (end_of (text n) items m)) names k' x' P o.last
        → Ran E seqs (chain_sights E seqs (n ∷ names) m) (n ∷ names) (k + k') (x + x') Q s
    unfolding chain_sights chain_positions
    in-front names k' x' P Q f i =
        let q = byte_at (text n) 3 in
        let mine = sequence_sights (text n) n q items e closing m in
        let rest = chain_sights E seqs names (end_of (text n) items m) in
        let shots = turns 0 q (λ (r l : ℕ). positions_of (text n) items) in
        record {
          last = i.last;
          run = rw says (o.ran ▸ i.run);
          taken = rw says (omega (arith, length-append mine rest, length-sequence (text n) n q items e closing m, o.counted.1, i.taken));
          placed = rw says (seen-both mine rest (sequence-seen E (text n) n o.counted.0 q m) i.placed);
          made = rw says (omega (arith, length-append shots (chain_positions E seqs names), length-rounds-positions (text n) items q, o.counted.2, i.made));
          in_reach = rw says (past-append 2400 shots (chain_positions E seqs names) (rounds-in-reach o.counted.0 q) i.in_reach);
          leaves = f i.last i.leaves;
        }

    -- n calls the first of what comes after it
    called : (u : ℕ) → closing ≡ CallsOn u → (names : List ℕ) (v : ℕ) → CallsLast E seqs u names v → CallsLast E seqs n (n ∷ names) v
    called u c [] v e = closing-of o.counted.0 ∙ ap command_of c ∙ ap CallSequence e
    called u c (x ∷ names) v e = e

    kept-front : (u : ℕ) → closing ≡ CallsOn u → (before names : List ℕ) (ending : Ending) (k' x' : ℕ)
        → KeptFrom E seqs u (n ∷ before) names ending k' x' (end_of (text n) items m) o.last
        → KeptFrom E seqs n before (n ∷ names) ending (total ending k k') (total ending x x') m s
    unfolding KeptFrom chain_end among
    kept-front u c before names (Unlisted code) k' x' i = i
    kept-front u c before names Finishes k' x' i = in-front names k' x' AtRest AtRest (λ s' p. p) i
    kept-front u c before names Returns k' x' i =
        in-front names k' x' (BackTo E seqs u (n ∷ before) names (chain_end E seqs names (end_of (text n) items m))) (BackTo E seqs n before (n ∷ names) (chain_end E seqs (n ∷ names) m))
        (λ s' b. (b.0, b.1, or-move (eqb n b.0) (among b.0 before) (among b.0 names) b.2, rw says b.3, called u c names b.0 b.4)) i
    kept-front u c before names (Faults q f reason) k' x' i = record { sights = _; last = i.last; ran = o.ran ▸ i.ran; abort = i.abort }

  abbrev KeptTold : ℕ → List ℕ → Told → ℕ → Runner → Type 0
  KeptTold first before t m s = KeptFrom E seqs first before t.names t.ending t.steps t.exposures m s

  -- `go` is the chain after sequence n, and `ih` what it promises
  kept-onward : (before : List ℕ) (n : ℕ) (go : ℕ → Told) → ((u m : ℕ) (s : Runner) → u ≤ E.format.last → AtDoor u m s → KeptTold u (n ∷ before) (go u) m s)
      → (m : ℕ) (s : Runner) (v : Finding) → check_one E (text n) ≡ v → One E seqs n m v s → KeptTold n before (onward go n v) m s
  unfolding onward KeptFrom One After chain_sights chain_positions
  kept-onward before n go ih m s (faults f reason) says o = o
  kept-onward before n go ih m s (passes k x items e Terminates) says o =
      let y : k + 0 ≡ k = omega arith in
      let z : x + 0 ≡ x = omega arith in
      rw (y, z) at
      (in-front n m k x s says o [] 0 0 AtRest AtRest (λ s' p. p)
      (record { last = o.last; run = done; taken = refl; placed = refl; made = refl; in_reach = tt; leaves = o.after }))
  kept-onward before n go ih m s (passes k x items e (CallsOn u)) says o =
      kept-front n m k x s says o u refl before (go u).names (go u).ending (go u).steps (go u).exposures (ih u (end_of (text n) items m) o.last o.after.0 o.after.1)

  kept-follow : Fair E.format → (f : ℕ) (before : List ℕ) (n m : ℕ) (s : Runner) → unlisted (suc E.format.last) before ≤ f → n ≤ E.format.last → AtDoor n m s
      → KeptTold n before (follow (finding_of E seqs) f before n) m s
  unfolding follow
  kept-follow fair zero before n m s u h d = kept_back before n m s h d (all_listed (suc E.format.last) n before u (omega arith))
  kept-follow fair (suc f) before n m s u h d =
      go (among n before) refl
      (λ e v m' s' l d'. kept-follow fair f (n ∷ before) v m' s' (let w = unlisted-less (suc E.format.last) n before (omega arith) e in omega arith) l d')
    where
      Rest : Type 0
      Rest = (v m' : ℕ) (s' : Runner) → v ≤ E.format.last → AtDoor v m' s' → KeptTold v (n ∷ before) (follow (finding_of E seqs) f (n ∷ before) v) m' s'

      go : (b : Bool) → among n before ≡ b → (among n before ≡ false → Rest)
          → KeptTold n before (cond b (told [] Returns 0 0) (onward (λ v. follow (finding_of E seqs) f (n ∷ before) v) n (check_one E (text n)))) m s
      go true e ih = kept_back before n m s h d e
      go false e ih = kept-onward before n (λ v. follow (finding_of E seqs) f (n ∷ before) v) (ih e) m s (check_one E (text n)) refl (one-sequence E fair seqs n m s d)

-- ── the whole check: nothing is listed before
abbrev pub chain_in : Env → List ℕ → ℕ → Told
chain_in E seqs n = chain_of E.format (finding_of E seqs) n

pub kept-exactly : (E : Env) → Fair E.format → (seqs : List ℕ) (n m : ℕ) (s : Runner) → n ≤ E.format.last → AtDoor n m s
    → KeptFrom E seqs n [] (chain_in E seqs n).names (chain_in E seqs n).ending (chain_in E seqs n).steps (chain_in E seqs n).exposures m s
unfolding chain_of
kept-exactly E fair seqs n m s h d = kept-follow E seqs fair (suc E.format.last) [] n m s (unlisted-most (suc E.format.last) []) h d

-- the promise, whatever is seen on the way
kept_from : (E : Env) (seqs : List ℕ) (first : ℕ) (t : Told) (m : ℕ) (s : Runner) (ending : Ending) → KeptFrom E seqs first [] t.names ending t.steps t.exposures m s → KeptBy E seqs t s ending
unfolding KeptFrom among
kept_from E seqs first t m s (Unlisted code) i = i
kept_from E seqs first t m s Finishes i = (chain_sights E seqs t.names m, i)
kept_from E seqs first t m s Returns i = (
  chain_sights E seqs t.names m,
  record {
    last = i.last;
    run = i.run;
    taken = i.taken;
    placed = i.placed;
    made = i.made;
    in_reach = i.in_reach;
    leaves = (i.leaves.0, chain_end E seqs t.names m, i.leaves.1, i.leaves.2, i.leaves.3);
  },
)
kept_from E seqs first t m s (Faults n f reason) i = i

pub kept : (E : Env) → Fair E.format → (seqs : List ℕ) (n m : ℕ) (s : Runner) → n ≤ E.format.last → AtDoor n m s → Kept E seqs (chain_in E seqs n) s
kept E fair seqs n m s h d = kept_from E seqs n (chain_in E seqs n) m s (chain_in E seqs n).ending (kept-exactly E fair seqs n m s h d)

-- ── the check as it is asked for
pub check-is : (F : Format) (seqs lists : List ℕ) (n : ℕ) → tables_wrong F seqs lists ≡ false → n ≤ F.last → check_of F seqs lists n ≡ chain_in (env_of F lists) seqs n
unfolding check_of check_rows
check-is F seqs lists n t h = rw (t, le-ltb F.last n h)
