-- A chain that the check passes never aborts, however far it is stepped: its sequences call only listed ones.
-- Assumes nothing.
use Prim.Native.Nat.{ℕ, zero, suc, ◌≤◌}
use native.Mathlib.Omega.{arith}
use mathlib.Core.Path.{◌≡◌, refl, subst}
use mathlib.Core.Bool.{Bool, true, false, cond, ◌||◌, false≢true, or-true}
use mathlib.Core.List.{List, [], ◌∷◌}
use lib.Dec.{eqb}
use Rattle.memory.proofs.Laws.{Fair}
use Rattle.sequence.specs.Starts.{among}
use Rattle.sequence.specs.Env.{Env, text_of}
use Rattle.runner.specs.declared.Runner.{Runner}
use Rattle.survey.specs.declared.Item.{Item}
use Rattle.survey.specs.declared.Closing.{Closing}
use Rattle.survey.specs.declared.Closing.TheVariants.{Terminates, CallsOn}
use Rattle.survey.specs.declared.Ending.TheVariants.{Returns}
use Rattle.survey.specs.Walk.{Finding, passes, faults, check_one, finding_of}
use Rattle.survey.specs.Chain.{Told, told, onward, follow, chain_of}
use Rattle.survey.proofs.Names.{Low, low-one}
use Rattle.promises.specs.Runs.{sights_of, Quiet, AtDoor}
use Rattle.promises.specs.Kept.{IsPassed}
use Rattle.promises.proofs.Run.Runs.{run-quiet-more, idle-quiet}
use Rattle.promises.proofs.Run.Rounds.{After}
use Rattle.promises.proofs.Run.Sequences.{Passed, One, one-sequence}
use Rattle.promises.proofs.Chain.Chains.{chain_in}
use Rattle.survey.proofs.Listing.{unlisted, unlisted-most, unlisted-less, all_listed, or-move, among_first, among-case}

-- what is called has P
abbrev pub Leads : (ℕ → Type 0) → Closing → Type 0
Leads P Terminates = Unit {0}
Leads P (CallsOn n) = P n

-- the check passes sequence n, which calls only what has P
pub record Fine (E : Env) (seqs : List ℕ) (P : ℕ → Type 0) (n : ℕ) : Type 0 where
  pub k : ℕ
  pub x : ℕ
  pub items : List Item
  pub e : ℕ
  pub closing : Closing
  pub says : check_one E (text_of E seqs n) ≡ passes k x items e closing
  pub leads : Leads P closing

-- the sequence was listed before or is listed now
abbrev pub Listed : List ℕ → List ℕ → ℕ → Type 0
Listed before names u = (among u before || among u names) ≡ true

module _ (E : Env) (seqs : List ℕ) where
  fine-map : (P Q : ℕ → Type 0) → ((u : ℕ) → P u → Q u) → {n : ℕ} → Fine E seqs P n → Fine E seqs Q n
  fine-map P Q f g = record { k = g.k; x = g.x; items = g.items; e = g.e; closing = g.closing; says = g.says; leads = lead g.closing g.leads }
    where
      lead : (c : Closing) → Leads P c → Leads Q c
      lead Terminates w = w
      lead (CallsOn u) w = f u w

  runs_as : Fair E.format → {n k x e : ℕ} {items : List Item} {closing : Closing} → check_one E (text_of E seqs n) ≡ passes k x items e closing
      → (s : Runner) (m : ℕ) → AtDoor n m s → Passed E seqs n m k x items e closing s
  unfolding One
  runs_as fair {n} says s m d = subst (λ (v : Finding). One E seqs n m v s) says (one-sequence E fair seqs n m s d)

  -- sequences that the check passes one by one, and whose calls stay among them
  safe : Fair E.format → (P : ℕ → Type 0) → ((n : ℕ) → P n → Fine E seqs P n) → (k n : ℕ) → P n → (s : Runner) (m : ℕ) → AtDoor n m s → Quiet E seqs k s
  unfolding sights_of After
  safe fair P f zero n p s m d = tt
  safe fair P f (suc k) n p s m d = go g.closing g.leads (runs_as fair g.says s m d) (λ u p' s' m' d'. safe fair P f k u p' s' m' d')
    where
      g : Fine E seqs P n
      g = f n p

      go : (c : Closing) → Leads P c → Passed E seqs n m g.k g.x g.items g.e c s → ((u : ℕ) → P u → (s' : Runner) (m' : ℕ) → AtDoor u m' s' → Quiet E seqs k s')
          → Quiet E seqs (suc k) s
      go Terminates w o ih = run-quiet-more E seqs o.ran k (idle-quiet E seqs k o.last o.after)
      go (CallsOn u) w o ih = run-quiet-more E seqs o.ran k (ih u w o.last _ o.after.1)

  -- a sequence that passes calls no number past the last
  pub called-known : (n : ℕ) {k x e u : ℕ} {items : List Item} → check_one E (text_of E seqs n) ≡ passes k x items e (CallsOn u) → u ≤ E.format.last
  called-known n says = subst (Low E.format.last) says (low-one E (text_of E seqs n))

  -- every listed sequence is fine, and the chain's first is listed
  abbrev AllFine : List ℕ → ℕ → Told → Type 0
  AllFine before n t = ((u : ℕ) → among u t.names ≡ true → Fine E seqs (Listed before t.names) u) × Listed before t.names n

  none_more : (before : List ℕ) (n : ℕ) → among n before ≡ true → AllFine before n (told [] Returns 0 0)
  unfolding among
  none_more before n a = (λ u e. absurd (false≢true e), rw a)

  first-listed : (before : List ℕ) (n : ℕ) (names : List ℕ) → Listed before (n ∷ names) n
  first-listed before n names = rw (among_first n names) (or-true (among n before))

  -- `go` is the chain after sequence n, and `ih` says it of that
  fine-onward : (before : List ℕ) (n : ℕ) (go : ℕ → Told) → ((u : ℕ) → u ≤ E.format.last → IsPassed (go u).ending → AllFine (n ∷ before) u (go u))
      → (v : Finding) → check_one E (text_of E seqs n) ≡ v → IsPassed (onward go n v).ending → AllFine before n (onward go n v)
  unfolding onward among
  fine-onward before n go ih (faults f reason) says y = absurd y
  fine-onward before n go ih (passes k x items e Terminates) says y = (each, first-listed before n [])
    where
      each : (u : ℕ) → among u (n ∷ []) ≡ true → Fine E seqs (Listed before (n ∷ [])) u
      each u h =
          among-case u n [] h
          (λ w. subst (Fine E seqs (Listed before (n ∷ []))) w (record { k = k; x = x; items = items; e = e; closing = Terminates; says = says; leads = tt }))
          (λ w. absurd (false≢true w))
  fine-onward before n go ih (passes k x items e (CallsOn c)) says y = (each (ih c (called-known n says) y), first-listed before n names)
    where
      names : List ℕ
      names = (go c).names

      each : AllFine (n ∷ before) c (go c) → (u : ℕ) → among u (n ∷ names) ≡ true → Fine E seqs (Listed before (n ∷ names)) u
      each (all, known) u h =
          among-case u n names h
          (λ w. subst (Fine E seqs (Listed before (n ∷ names))) w
          (record { k = k; x = x; items = items; e = e; closing = CallsOn c; says = says; leads = or-move (eqb n c) (among c before) (among c names) known }))
          (λ w. fine-map (Listed (n ∷ before) names) (Listed before (n ∷ names)) (λ v. or-move (eqb n v) (among v before) (among v names)) (all u w))

  fine-follow : (f : ℕ) (before : List ℕ) (n : ℕ) → unlisted (suc E.format.last) before ≤ f → n ≤ E.format.last → IsPassed (follow (finding_of E seqs) f before n).ending
      → AllFine before n (follow (finding_of E seqs) f before n)
  unfolding follow
  fine-follow zero before n u h y = none_more before n (all_listed (suc E.format.last) n before u (omega arith))
  fine-follow (suc f) before n u h y =
      go (among n before) refl y
      (λ e v l y'. fine-follow f (n ∷ before) v (let w = unlisted-less (suc E.format.last) n before (omega arith) e in omega arith) l y')
    where
      after : ℕ → Told
      after v = follow (finding_of E seqs) f (n ∷ before) v

      go : (b : Bool) → among n before ≡ b → IsPassed (cond b (told [] Returns 0 0) (onward after n (check_one E (text_of E seqs n)))).ending
          → (among n before ≡ false → (v : ℕ) → v ≤ E.format.last → IsPassed (after v).ending → AllFine (n ∷ before) v (after v))
          → AllFine before n (cond b (told [] Returns 0 0) (onward after n (check_one E (text_of E seqs n))))
      go true e y ih = none_more before n e
      go false e y ih = fine-onward before n after (ih e) (check_one E (text_of E seqs n)) refl y

  -- every sequence that a passed chain lists is fine, and calls only listed ones
  pub listed-fine : (n : ℕ) → n ≤ E.format.last → IsPassed (chain_in E seqs n).ending
      → ((u : ℕ) → among u (chain_in E seqs n).names ≡ true → Fine E seqs (λ v. among v (chain_in E seqs n).names ≡ true) u) × (among n (chain_in E seqs n).names ≡ true)
  unfolding chain_of among
  listed-fine n h y = fine-follow (suc E.format.last) [] n (unlisted-most (suc E.format.last) []) h y

  pub never : Fair E.format → (n m : ℕ) (s : Runner) → n ≤ E.format.last → AtDoor n m s → IsPassed (chain_in E seqs n).ending → (k : ℕ) → Quiet E seqs k s
  never fair n m s h d y k =
      let (all, known) = listed-fine n h y in
      safe fair (λ u. among u (chain_in E seqs n).names ≡ true) all k n known s m d
