-- The tables decide a chain: its names, whether it ends or returns, and why it has its fault. So a chain that returns lists what comes again as its
-- last part.
-- Assumes nothing.
use Rattle.std.specs.Prelude.{Ok, Err}
use Prim.Native.Nat.{ℕ, suc}
use native.Mathlib.Omega.{arith}
use mathlib.Core.Path.{◌≡◌, refl, sym, ap, subst, subst₂, ◌∙◌}
use mathlib.Core.Bool.{true, true≢false, false≢true, or-true}
use mathlib.Core.List.{List, [], ◌∷◌, ◌++◌, append_assoc}
use lib.Dec.{eqb}
use lib.ListN.{length, length-append}
use borrow.Author.Tests.{eqb-true, eqb-false}
use Rattle.octets.proofs.Bools.{by-test}
use Rattle.memory.specs.declared.Format.{Format}
use Rattle.memory.specs.Memory.{entry_of}
use Rattle.sequence.specs.declared.Fault.{Fault}
use Rattle.sequence.specs.LineList.{ListCard}
use Rattle.sequence.specs.Starts.{among}
use Rattle.sequence.specs.Raster.{raster_at}
use Rattle.sequence.specs.Env.{cards_of}
use Rattle.sequence.specs.declared.Command.{Command}
use Rattle.sequence.specs.declared.Command.TheVariants.{CallSequence, Terminate}
use Rattle.survey.specs.declared.Ending.{Ending}
use Rattle.survey.specs.declared.Ending.TheVariants.{Unlisted, Finishes, Returns, Faults}
use Rattle.survey.specs.declared.Reason.{Reason}
use Rattle.promises.specs.Kept.{IsPassed}
use Rattle.promises.specs.Demand3.{last_of, Calling, SevenFor, Reasoned, Chain, last-terminates, last-returns, last-faulty, then-called, Differ}
use Rattle.survey.proofs.Listing.{among_first, among-case}

-- ── names that differ
differ-part : (xs ys : List ℕ) → Differ (xs ++ ys) → Differ ys
differ-part [] ys d = d
differ-part (x ∷ xs) ys (_, d) = differ-part xs ys d

among_there : (m : ℕ) (xs ys : List ℕ) → among m (xs ++ (m ∷ ys)) ≡ true
unfolding among
among_there m [] ys = among_first m ys
among_there m (x ∷ xs) ys = rw (among_there m xs ys) (or-true (eqb x m))

not-again : (m : ℕ) (xs ys : List ℕ) → Differ (xs ++ (m ∷ ys)) → among m xs ≡ true → ⊥
unfolding among
not-again m [] ys d h = false≢true h
not-again m (x ∷ xs) ys (e, d) h =
    among-case m x xs h
    (λ w. true≢false (sym (among_there m xs ys) ∙ rw w at e))
    (λ w. not-again m xs ys d w)

-- a name splits the names into those before it and those from it on
split_at : (m : ℕ) (names : List ℕ) → among m names ≡ true → (once : List ℕ) × (again : List ℕ) × (names ≡ once ++ (m ∷ again))
unfolding among
split_at m [] a = absurd (false≢true a)
split_at m (x ∷ xs) a =
    among-case m x xs a
    (λ w. ([], xs, ap (λ (y : ℕ). y ∷ xs) w))
    (λ w. let (once, again, e) = split_at m xs w in (x ∷ once, again, ap (λ (ns : List ℕ). x ∷ ns) e))

not_none : (once again : List ℕ) (m x : ℕ) {n : ℕ} → n ∷ [] ≡ x ∷ (once ++ (m ∷ again)) → ⊥
not_none once again m x e = let l = ap length e in omega (arith, length-append once (m ∷ again))

pub last-part : (d d' : ℕ) (once again : List ℕ) (m : ℕ) → last_of d (once ++ (m ∷ again)) ≡ last_of d' (m ∷ again)
last-part d d' [] again m = refl
last-part d d' (x ∷ once) again m = last-part x d' once again m

-- ── the command with which a text ends is one
pub call_same : {m k : ℕ} {c : Command} → c ≡ CallSequence m → c ≡ CallSequence k → m ≡ k
call_same e w = cc

pub no_call : {m : ℕ} {c : Command} → c ≡ Terminate → c ≡ CallSequence m → ⊥
no_call e w = let z : ◌≡◌ {A = ℕ} 0 1 = cc in omega arith

-- where a chain has its fault: one more than the sequence's number, 0 for none
abbrev pub fault_at : Ending → ℕ
fault_at (Unlisted code) = 0
fault_at Finishes = 0
fault_at Returns = 0
fault_at (Faults n f reason) = suc n

pub passed_none : (e : Ending) → IsPassed e → fault_at e ≡ 0
passed_none (Unlisted code) y = refl
passed_none Finishes y = refl
passed_none Returns y = refl
passed_none (Faults n f reason) y = absurd y

module _ (F : Format) (seqs lists : List ℕ) where
  pub chain_first : {listed names : List ℕ} {n : ℕ} {e : Ending} → Chain F seqs lists listed n names e → (rest : List ℕ) × (names ≡ n ∷ rest)
  chain_first (last-terminates a) = ([], refl)
  chain_first (last-returns a b) = ([], refl)
  chain_first (last-faulty r) = ([], refl)
  chain_first (then-called {names} a c) = (names, refl)

  -- no chain refuses to answer
  pub no_answer : {listed names : List ℕ} {n code : ℕ} → Chain F seqs lists listed n names (Unlisted code) → ⊥
  no_answer (then-called a c) = no_answer c

  -- a fault has one reason, whatever was listed on the way to it
  told-why : {listed names : List ℕ} {n q : ℕ} {f : Fault} {r : Reason} → Chain F seqs lists listed n names (Faults q f r) → Reasoned (entry_of F seqs q) lists f r
  told-why (last-faulty r) = r
  told-why (then-called a c) = told-why c

  one-seven : (card : ListCard) (science : ℕ) {r r' : Reason} → SevenFor card science r → SevenFor card science r' → r ≡ r'
  one-seven (Ok marks) science (e, _) (e', _) = e ∙ sym e'
  one-seven (Err bad) science e e' = e ∙ sym e'

  pub one-reason : {listed listed' names names' : List ℕ} {n n' q : ℕ} {f : Fault} {r r' : Reason}
      → Chain F seqs lists listed n names (Faults q f r) → Chain F seqs lists listed' n' names' (Faults q f r') → r ≡ r'
  one-reason {q} {f} c c' =
      let raster = raster_at (entry_of F seqs q) f.place in
      by-test (eqb f.code 7)
      (λ e. let w = eqb-true f.code 7 e in one-seven (cards_of lists raster.list) raster.science ((told-why c).seven w).1 ((told-why c').seven w).1)
      (λ e. let w = eqb-false f.code 7 e in (told-why c).other w ∙ sym ((told-why c').other w))

  fault-among : {listed names : List ℕ} {n q : ℕ} {e : Ending} → Chain F seqs lists listed n names e → fault_at e ≡ suc q → among q names ≡ true
  unfolding among
  fault-among (last-terminates a) y = absurd (omega arith)
  fault-among (last-returns a l) y = absurd (omega arith)
  fault-among {q} (last-faulty {n} r) y = let w : n ≡ q = omega arith in rw (← w) (among_first n [])
  fault-among {q} (then-called {n} a c) y = rw (fault-among c y) (or-true (eqb n q))

  -- what comes after n differs from n and from all before it
  pub returns-short : (before rest : List ℕ) (n m : ℕ) {listed' : List ℕ} {e : Ending} → among m (before ++ (n ∷ [])) ≡ true
      → Chain F seqs lists listed' m rest e → Differ (before ++ (n ∷ rest)) → ⊥
  returns-short before rest n m a c d =
      let (more, e) = chain_first c in
      let whole : before ++ (n ∷ rest) ≡ (before ++ (n ∷ [])) ++ (m ∷ more) = ap (λ (ns : List ℕ). before ++ (n ∷ ns)) e ∙ sym (append_assoc before (n ∷ []) (m ∷ more)) in
      not-again m (before ++ (n ∷ [])) more (subst Differ whole d) a

  fault-short : (before rest : List ℕ) (n : ℕ) {m : ℕ} {listed' : List ℕ} {e : Ending} → Chain F seqs lists listed' m rest e → fault_at e ≡ suc n → Differ (before ++ (n ∷ rest)) → ⊥
  fault-short before rest n l y d = true≢false (sym (fault-among l y) ∙ (differ-part before (n ∷ rest) d).0)

  pub same_names : {listed listed' : List ℕ} (before : List ℕ) {xs ys : List ℕ} {n : ℕ} {e e' : Ending} → Chain F seqs lists listed n xs e → Chain F seqs lists listed' n ys e'
      → listed ≡ before ++ xs → listed' ≡ before ++ ys → Differ listed → Differ listed' → fault_at e ≡ fault_at e' → (xs ≡ ys) × (IsPassed e → e ≡ e')
  same_names before (last-terminates a) (last-terminates b) h h' d d' y = (refl, λ p. refl)
  same_names before (last-terminates a) (last-returns b l) h h' d d' y = absurd (no_call a b)
  same_names before (last-terminates a) (last-faulty r) h h' d d' y = absurd (omega arith)
  same_names before (last-terminates a) (then-called b c) h h' d d' y = absurd (no_call a b)
  same_names before (last-returns a l) (last-terminates b) h h' d d' y = absurd (no_call b a)
  same_names before (last-returns a l) (last-returns b k) h h' d d' y = (refl, λ p. refl)
  same_names before (last-returns a l) (last-faulty r) h h' d d' y = absurd (omega arith)
  same_names before (last-returns a l) (then-called {n} {m} {names} b c) h h' d d' y =
      absurd (returns-short before names n m (subst₂ (λ (x : ℕ) (ns : List ℕ). among x ns ≡ true) (call_same a b) h l) c (subst Differ h' d'))
  same_names before (last-faulty r) (last-terminates b) h h' d d' y = absurd (omega arith)
  same_names before (last-faulty r) (last-returns b k) h h' d d' y = absurd (omega arith)
  same_names before (last-faulty r) (last-faulty r') h h' d d' y = (refl, λ p. absurd p)
  same_names before (last-faulty {n} r) (then-called {names} b c) h h' d d' y = absurd (fault-short before names n c (sym y) (subst Differ h' d'))
  same_names before (then-called a c) (last-terminates b) h h' d d' y = absurd (no_call b a)
  same_names before (then-called {n} {m} {names} a c) (last-returns b k) h h' d d' y =
      absurd (returns-short before names n m (subst₂ (λ (x : ℕ) (ns : List ℕ). among x ns ≡ true) (call_same b a) h' k) c (subst Differ h d))
  same_names before (then-called {names} a c) (last-faulty {n} r) h h' d d' y = absurd (fault-short before names n c y (subst Differ h d))
  same_names {listed'} before (then-called {n} {names} a c) (then-called {names = names'} {ending = ending'} b c') h h' d d' y =
      let on : (ns : List ℕ) → before ++ (n ∷ ns) ≡ (before ++ (n ∷ [])) ++ ns = λ ns. sym (append_assoc before (n ∷ []) ns) in
      let (same, ends) = same_names (before ++ (n ∷ [])) c (subst (λ (x : ℕ). Chain F seqs lists listed' x names' ending') (call_same b a) c') (h ∙ on names) (h' ∙ on names') d d' y in
      (ap (λ (ns : List ℕ). n ∷ ns) same, ends)

  -- ── a chain that returns
  -- the last one calls a listed one
  pub chain_back : {listed : List ℕ} (d : ℕ) {names : List ℕ} {n : ℕ} → Chain F seqs lists listed n names Returns → (m : ℕ) × Calling F seqs (last_of d names) m × (among m listed ≡ true)
  chain_back d (last-returns {m} a l) = (m, a, l)
  chain_back d (then-called {n} a c) = chain_back n c

  part-from : (once again : List ℕ) (m : ℕ) {listed names : List ℕ} {n : ℕ} {e : Ending} → Chain F seqs lists listed n names e → names ≡ once ++ (m ∷ again) → Chain F seqs lists listed m (m ∷ again) e
  part-from [] again m {listed} {e = ending} c e =
      let (rest, f) = chain_first c in
      subst₂ (λ (x : ℕ) (ns : List ℕ). Chain F seqs lists listed x ns ending) (cc (sym f ∙ e)) e c
  part-from (x ∷ once) again m (last-terminates a) e = absurd (not_none once again m x e)
  part-from (x ∷ once) again m (last-returns a l) e = absurd (not_none once again m x e)
  part-from (x ∷ once) again m (last-faulty r) e = absurd (not_none once again m x e)
  part-from (x ∷ once) again m (then-called {n} {names} a c) e = part-from once again m c (cc)

  -- what it calls at last is among others
  relisted : {listed listed' : List ℕ} (d : ℕ) {names : List ℕ} {n m : ℕ} → Chain F seqs lists listed n names Returns → Calling F seqs (last_of d names) m → among m listed' ≡ true
      → Chain F seqs lists listed' n names Returns
  relisted d (last-returns a l) b k = last-returns b k
  relisted d (then-called {n} a c) b k = then-called a (relisted n c b k)

  -- so the part from there on is what a chain from there lists, and that returns too
  pub comes-again : (n m : ℕ) (names part : List ℕ) (e : Ending) → Chain F seqs lists names n names Returns → Differ names → Calling F seqs (last_of 0 names) m → among m names ≡ true
      → Chain F seqs lists part m part e → Differ part → IsPassed e → (once : List ℕ) × (names ≡ once ++ part) × (e ≡ Returns)
  comes-again n m names part e c d b l c' d' y =
      let (once, again, whole) = split_at m names l in
      let from = part-from once again m c whole in
      let call = subst (λ (x : ℕ). Calling F seqs x m) (ap (last_of 0) whole ∙ last-part 0 0 once again m) b in
      let (same, ends) = same_names [] c' (relisted 0 from call (among_first m again)) refl refl d' (differ-part once (m ∷ again) (subst Differ whole d)) (passed_none e y) in
      (once, whole ∙ ap (λ (ns : List ℕ). once ++ ns) (sym same), ends y)
