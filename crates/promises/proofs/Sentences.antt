-- The sentences on the check leave no way out: a check that keeps them all tells what ours tells. In one text the rules stop at one place with
-- one verdict; so two chains from one sequence stop at one name. Assumes nothing.
use Rattle.std.specs.Prelude.{Option}
use Prim.Native.Nat.{ℕ, suc}
use native.Mathlib.Omega.{arith}
use mathlib.Core.Path.{◌≡◌, refl, sym, ap, subst, subst₂, ◌∙◌}
use mathlib.Core.Bool.{true, false, true≢false, or-true}
use mathlib.Core.List.{List, [], ◌∷◌, ◌++◌, append_assoc}
use mathlib.Core.Logic.{◌⊎◌, inl, inr}
use lib.Dec.{leb, eqb}
use lib.ListN.{length}
use borrow.Author.Tests.{leb-true, leb-false}
use Rattle.octets.specs.Rows.{Row, NoneHolds, FirstBears}
use Rattle.octets.proofs.Laws.{bears-first}
use Rattle.octets.proofs.Bools.{by-test}
use Rattle.memory.specs.declared.Format.{Format}
use Rattle.memory.specs.Memory.{entry_of, tables_wrong}
use Rattle.memory.proofs.Laws.{sizes, right-sizes}
use Rattle.sequence.specs.declared.Fault.{Fault}
use Rattle.sequence.specs.Text.{fault, header_rows, header_place, command_at}
use Rattle.sequence.specs.Starts.{among}
use Rattle.sequence.specs.Env.{Env, env_of}
use Rattle.runner.specs.declared.Opened.{Opened}
use Rattle.survey.specs.declared.Ending.{Ending}
use Rattle.survey.specs.declared.Ending.TheVariants.{Unlisted, Finishes, Returns, Faults}
use Rattle.survey.specs.Chain.{Told}
use Rattle.survey.specs.Report.{ending_shown, reason_of}
use Rattle.promises.specs.Formats.{Fills}
use Rattle.promises.specs.Library.{ours}
use Rattle.promises.specs.Kept.{IsPassed}
use Rattle.promises.specs.Demand3.{Chain, last-terminates, last-returns, last-faulty, then-called, Differ, Lists, EndsOrReturns, HasFault}
use Rattle.promises.specs.EachCheck.{Given, rules_at, is_closing, UpTo, there, next, Passes, Breaks, FaultIn, steps_of_sequence, exposures_of_sequence, sum_over, SentencesDecide}
use Rattle.promises.proofs.Formats.{fills-exactly}
use Rattle.promises.proofs.Run.Events.{fault-so}
use Rattle.survey.proofs.Listing.{among_first}
use Rattle.promises.proofs.Chain.Unique.{call_same, no_call, fault_at, no_answer, one-reason, returns-short, same_names}
use Rattle.promises.proofs.EachCheck.{check-sixteen, check-seven, rules-applied, calls-followed, totals-told}

-- ── one text, one verdict
none-bears : (code : ℕ) (rs : List Row) → NoneHolds rs → FirstBears code rs → ⊥
none-bears code [] _ b = elim b [ ]
none-bears code (r ∷ rs) (h, hs) (inl (t, _)) = true≢false (sym t ∙ h)
none-bears code (r ∷ rs) (h, hs) (inr (_, b)) = none-bears code rs hs b

bears-same : (c c' : ℕ) (rs : List Row) → FirstBears c rs → FirstBears c' rs → c ≡ c'
bears-same c c' rs b b' = sym (bears-first rs c b) ∙ bears-first rs c' b'

module _ (E : Env) (text : List ℕ) where
  -- a place at which the rules stop
  abbrev Stops : ℕ → Option Opened → Type 0
  Stops q o = is_closing (command_at text q) ≡ false → NoneHolds (rules_at E text q o) → ⊥

  stop-same : {q q' : ℕ} {o' : Option Opened} {p : ℕ} {o'' o : Option Opened} → UpTo E text q o' p o → UpTo E text q' o'' p o → Stops q o' → Stops q' o'' → (q ≡ q') × (o' ≡ o'')
  stop-same there there s s' = (refl, refl)
  stop-same there (next c n u) s s' = absurd (s c n)
  stop-same (next c n u) there s s' = absurd (s' c n)
  stop-same (next c n u) (next c' n' u') s s' = stop-same u u' s s'

  not-both : (code place : ℕ) → Passes E text → Breaks E text code place → ⊥
  not-both code place p (inl (b, _)) = none-bears code (header_rows text) p.header b
  not-both code place p (inr b) =
      let (q, o) = stop-same p.before b.before (λ c n. true≢false (sym p.closes ∙ c)) (λ c n. none-bears code (rules_at E text place b.held) n b.broken) in
      none-bears code (rules_at E text place b.held) (subst₂ (λ (x : ℕ) (y : Option Opened). NoneHolds (rules_at E text x y)) q o p.obeyed) b.broken

  one-fault : (c p c' p' : ℕ) → Breaks E text c p → Breaks E text c' p' → (c ≡ c') × (p ≡ p')
  one-fault c p c' p' (inl (b, e)) (inl (b', e')) =
      let same = bears-same c c' (header_rows text) b b' in
      (same, e ∙ ap header_place same ∙ sym e')
  one-fault c p c' p' (inl (b, e)) (inr b') = absurd (none-bears c (header_rows text) b'.header b)
  one-fault c p c' p' (inr b) (inl (b', e)) = absurd (none-bears c' (header_rows text) b.header b')
  one-fault c p c' p' (inr b) (inr b') =
      let (q, o) =
      stop-same b.before b'.before (λ x n. none-bears c (rules_at E text p b.held) n b.broken) (λ x n. none-bears c' (rules_at E text p' b'.held) n b'.broken) in
      (bears-same c c' (rules_at E text p' b'.held) (subst₂ (λ (x : ℕ) (y : Option Opened). FirstBears c (rules_at E text x y)) q o b.broken) b'.broken, q)

-- ── one chain, one ending
module _ (F : Format) (lists seqs : List ℕ) where
  -- what is told of the names of a chain that ends so
  pub record Judged (names : List ℕ) (e : Ending) : Type 0 where
    pub each : (m : ℕ) → among m names ≡ true → Passes (env_of F lists) (entry_of F seqs m) ⊎ FaultIn m e
    pub broken : (code m place : ℕ) → HasFault code m place e → Breaks (env_of F lists) (entry_of F seqs m) code place

  rest-judged : (n : ℕ) (names : List ℕ) (e : Ending) → Judged (n ∷ names) e → Judged names e
  unfolding among
  rest-judged n names e j = record { each = λ m a. j.each m (rw a (or-true (eqb n m))); broken = j.broken }

  -- where one breaks the rules, another that lists it has its fault there too
  fault-alike : (n : ℕ) (f : Fault) (rest : List ℕ) (e : Ending) → Breaks (env_of F lists) (entry_of F seqs n) f.code f.place → Judged (n ∷ rest) e → fault_at e ≡ suc n
  fault-alike n f rest e b j = go (j.each n (among_first n rest))
    where
      go : Passes (env_of F lists) (entry_of F seqs n) ⊎ FaultIn n e → fault_at e ≡ suc n
      go (inl p) = absurd (not-both (env_of F lists) (entry_of F seqs n) f.code f.place p b)
      go (inr (c, q, h)) = let w : e ≡ Faults n (fault c q) (reason_of e) = fault-so h in ap fault_at w

  alike : {listed listed' : List ℕ} (before : List ℕ) {xs ys : List ℕ} {n : ℕ} {e e' : Ending} → Chain F seqs lists listed n xs e → Chain F seqs lists listed' n ys e'
      → listed ≡ before ++ xs → listed' ≡ before ++ ys → Differ listed → Differ listed' → Judged xs e → Judged ys e' → fault_at e ≡ fault_at e'
  alike before (last-terminates a) (last-terminates b) h h' d d' j j' = refl
  alike before (last-terminates a) (last-returns b l) h h' d d' j j' = refl
  alike before (last-terminates {n} a) (last-faulty {fault} r) h h' d d' j j' = fault-alike n fault [] Finishes (j'.broken fault.code n fault.place refl) j
  alike before (last-terminates a) (then-called b c) h h' d d' j j' = absurd (no_call a b)
  alike before (last-returns a l) (last-terminates b) h h' d d' j j' = refl
  alike before (last-returns a l) (last-returns b k) h h' d d' j j' = refl
  alike before (last-returns {n} a l) (last-faulty {fault} r) h h' d d' j j' = fault-alike n fault [] Returns (j'.broken fault.code n fault.place refl) j
  alike before (last-returns a l) (then-called {n} {m} {names} b c) h h' d d' j j' =
      absurd (returns-short F seqs lists before names n m (subst₂ (λ (x : ℕ) (ns : List ℕ). among x ns ≡ true) (call_same a b) h l) c (subst Differ h' d'))
  alike before (last-faulty {n} {fault} r) (last-terminates b) h h' d d' j j' = sym (fault-alike n fault [] Finishes (j.broken fault.code n fault.place refl) j')
  alike before (last-faulty {n} {fault} r) (last-returns b k) h h' d d' j j' = sym (fault-alike n fault [] Returns (j.broken fault.code n fault.place refl) j')
  alike before (last-faulty r) (last-faulty r') h h' d d' j j' = refl
  alike before (last-faulty {n} {fault} r) (then-called {names} {ending} b c) h h' d d' j j' = sym (fault-alike n fault names ending (j.broken fault.code n fault.place refl) j')
  alike before (then-called a c) (last-terminates b) h h' d d' j j' = absurd (no_call b a)
  alike before (then-called {n} {m} {names} a c) (last-returns b k) h h' d d' j j' =
      absurd (returns-short F seqs lists before names n m (subst₂ (λ (x : ℕ) (ns : List ℕ). among x ns ≡ true) (call_same b a) h' k) c (subst Differ h d))
  alike before (then-called {names} {ending} a c) (last-faulty {n} {fault} r) h h' d d' j j' = fault-alike n fault names ending (j'.broken fault.code n fault.place refl) j
  alike {listed'} before (then-called {n} {names} {ending} a c) (then-called {names = names'} {ending = ending'} b c') h h' d d' j j' =
      let on : (ns : List ℕ) → before ++ (n ∷ ns) ≡ (before ++ (n ∷ [])) ++ ns = λ ns. sym (append_assoc before (n ∷ []) ns) in
      alike (before ++ (n ∷ [])) c (subst (λ (x : ℕ). Chain F seqs lists listed' x names' ending') (call_same b a) c') (h ∙ on names) (h' ∙ on names') d d'
      (rest-judged n names ending j) (rest-judged n names' ending' j')

  -- the same sequence at fault, the same fault
  same-ending : {n : ℕ} {listed listed' : List ℕ} (e e' : Ending) (xs ys : List ℕ) → Chain F seqs lists listed n xs e → Chain F seqs lists listed' n ys e' → fault_at e ≡ fault_at e' → (IsPassed e → e ≡ e') → Judged xs e → Judged ys e' → e ≡ e'
  same-ending (Unlisted c) e' xs ys l l' y f j j' = absurd (no_answer F seqs lists l)
  same-ending Finishes e' xs ys l l' y f j j' = f tt
  same-ending Returns e' xs ys l l' y f j j' = f tt
  same-ending (Faults n v r) (Unlisted c') xs ys l l' y f j j' = absurd (omega arith)
  same-ending (Faults n v r) Finishes xs ys l l' y f j j' = absurd (omega arith)
  same-ending (Faults n v r) Returns xs ys l l' y f j j' = absurd (omega arith)
  same-ending {n = m} {listed} (Faults n v r) (Faults n' v' r') xs ys l l' y f j j' =
      let w : n ≡ n' = omega arith in
      let b = subst (λ (x : ℕ). Breaks (env_of F lists) (entry_of F seqs x) v.code v.place) w (j.broken v.code n v.place refl) in
      let (code, place) = one-fault (env_of F lists) (entry_of F seqs n') v.code v.place v'.code v'.place b (j'.broken v'.code n' v'.place refl) in
      let same : Faults n v r ≡ Faults n' v' r = λ i. Faults (w i) (fault (code i) (place i)) r in
      same ∙ ap (Faults n' v') (one-reason F seqs lists (subst (Chain F seqs lists listed m xs) same l) l')

  -- the same totals: the sums over the same names, or 0 at a fault
  abbrev Sums : Told → Type 0
  Sums t = (t.steps ≡ sum_over F steps_of_sequence seqs t.names) × (t.exposures ≡ sum_over F exposures_of_sequence seqs t.names)

  same-totals : (n : ℕ) (t u : Told) (e : Ending) → Lists F seqs lists n t → Lists F seqs lists n u → t.names ≡ u.names → t.ending ≡ e → u.ending ≡ e
      → (EndsOrReturns t.ending → Sums t) → (EndsOrReturns u.ending → Sums u) → (t.steps ≡ u.steps) × (t.exposures ≡ u.exposures)
  same-totals n t u e a b names w z f g = go e w z
    where
      sums : Sums t → Sums u → (t.steps ≡ u.steps) × (t.exposures ≡ u.exposures)
      sums (k, x) (k', x') = (k ∙ ap (sum_over F steps_of_sequence seqs) names ∙ sym k', x ∙ ap (sum_over F exposures_of_sequence seqs) names ∙ sym x')

      go : (e : Ending) → t.ending ≡ e → u.ending ≡ e → (t.steps ≡ u.steps) × (t.exposures ≡ u.exposures)
      go (Unlisted c) w z = absurd (no_answer F seqs lists (subst (Chain F seqs lists t.names n t.names) w a.chain))
      go Finishes w z = sums (f (inl (ap ending_shown w))) (g (inl (ap ending_shown z)))
      go Returns w z = sums (f (inr (ap ending_shown w))) (g (inr (ap ending_shown z)))
      go (Faults q v r) w z =
          let (k, x) = a.totals (ap (λ (v : Ending). (ending_shown v).number) w) in
          let (k', x') = b.totals (ap (λ (v : Ending). (ending_shown v).number) z) in
          (k ∙ sym k', x ∙ sym x')

  same-told : (n : ℕ) (t u : Told) → Lists F seqs lists n t → Lists F seqs lists n u → Judged t.names t.ending → Judged u.names u.ending
      → (EndsOrReturns t.ending → Sums t) → (EndsOrReturns u.ending → Sums u) → t ≡ u
  same-told n t u a b j j' f g =
      let y = alike [] a.chain b.chain refl refl a.differ b.differ j j' in
      let (names, ends) = same_names F seqs lists [] a.chain b.chain refl refl a.differ b.differ y in
      let ending = same-ending t.ending u.ending t.names u.names a.chain b.chain y ends j j' in
      let (k, x) = same-totals n t u u.ending a b names ending refl f g in
      λ i. record { names = names i; ending = ending i; steps = k i; exposures = x i }

pub sentences-decide : SentencesDecide
sentences-decide L sixteen seven rules calls totals F seqs lists n =
    by-test (tables_wrong F seqs lists)
    (λ wrong.
    let not_right : Fills F × (length seqs ≡ 16384) × (length lists ≡ 7872) → ⊥ = λ (f, s, l). true≢false (sym wrong ∙ right-sizes F seqs lists ((fills-exactly F).1 f) s l) in
    sixteen F seqs lists n not_right ∙ sym (check-sixteen F seqs lists n not_right))
    (λ right.
    let (full, s, l) = sizes F seqs lists right in
    let f = (fills-exactly F).0 full in
    by-test (leb n F.last)
    (λ low.
    let g : Given F seqs lists n = record { format = f; sequences = s; line_lists = l; number = leb-true n F.last low } in
    let (each, broken) = rules F seqs lists n g in
    let (each', broken') = rules-applied F seqs lists n g in
    same-told F lists seqs n (L.checks F seqs lists n) (ours.checks F seqs lists n) (calls F seqs lists n g) (calls-followed F seqs lists n g)
    (record { each = each; broken = broken }) (record { each = each'; broken = broken' }) (totals F seqs lists n g) (totals-told F seqs lists n g))
    (λ high. seven F seqs lists n f s l (leb-false n F.last high) ∙ sym (check-seven F seqs lists n f s l (leb-false n F.last high))))
