-- Beside our unit demand 3 decides what the check tells: the chain gives the names, the ending and a fault's reason, a run the steps, the exposures
-- and a fault. Assumes nothing.
use Prim.Native.Nat.{ℕ, zero, suc, ◌+◌, ◌<◌}
use native.Mathlib.Omega.{arith}
use mathlib.Core.Path.{◌≡◌, refl, sym, ap, subst, subst₂, ◌∙◌}
use mathlib.Core.Bool.{false≢true}
use mathlib.Core.List.{List, [], ◌∷◌, ◌++◌}
use lib.Dec.{ltb}
use lib.ListN.{length, length-append, replicate}
use borrow.Author.Tests.{ltb-true, ltb-false}
use Rattle.octets.proofs.Bools.{by-test}
use Rattle.memory.specs.declared.Format.{Format}
use Rattle.sequence.specs.declared.Fault.{Fault}
use Rattle.sequence.specs.Text.{fault}
use Rattle.survey.specs.declared.Ending.{Ending}
use Rattle.survey.specs.declared.Ending.TheVariants.{Unlisted, Finishes, Returns, Faults}
use Rattle.survey.specs.declared.Reason.{Reason}
use Rattle.survey.specs.Chain.{Told}
use Rattle.survey.specs.Report.{ending_shown}
use Rattle.unit.specs.Step.{Outcome}
use Rattle.promises.specs.Formats.{Fills}
use Rattle.promises.specs.Library.{Library, ours}
use Rattle.promises.specs.Runs.{Showing, enters, aborts}
use Rattle.promises.specs.Kept.{IsPassed}
use Rattle.promises.specs.Demand3.{World, step, packet, after, outcomes, Reached, powered, lent, acted, selecting, starting, Chain, Lists, chain_plan, events_of, from_each, landmark, GoesWell, Works, All, FirstThen, GoesOn, AbortsAt, RunsAsTold, KeepsPassed, KeepsFaulted}
use Rattle.promises.specs.Refuted.{with_check, CheckDecided}
use Rattle.promises.proofs.Run.Events.{outcome-shown, so-passed}
use Rattle.promises.proofs.Chain.Unique.{passed_none, no_answer, one-reason, same_names}
use Rattle.promises.proofs.Chain.Plans.{each_append}
use Rattle.promises.proofs.Packets.Actions.{steps, steps-seen, stepped-on, events-append}
use Rattle.promises.proofs.Packets.Starts.{selects, starts}
use Rattle.promises.proofs.Demand3.{demand3}

-- ── what is seen after the first steps
-- from the k-th step on it aborts so, and is idle after
abbrev Aborting : ℕ → ℕ → ℕ → ℕ → List Outcome → Type 0
Aborting k code n place os = FirstThen k Works (AbortsAt code n place) os

abort-not-well : (o : Outcome) (code n place : ℕ) → Showing o (aborts code n place) → GoesWell o → ⊥
abort-not-well o code n place h = subst (λ (z : Outcome). GoesWell z → ⊥) (sym (outcome-shown o (aborts code n place) h refl)) false≢true

aborts-not-well : (k code n place : ℕ) (os : List Outcome) → Aborting k code n place os → k < length os → All GoesWell os → ⊥
aborts-not-well k code n place [] x h g = omega arith
aborts-not-well zero code n place (o ∷ os) (e, _) h (g, _) = abort-not-well o code n place e g
aborts-not-well (suc k) code n place (o ∷ os) (_, x) h (_, g) = aborts-not-well k code n place os x (omega arith) g

same-abort : (k j c n p c' n' p' : ℕ) (reason : Reason) (os : List Outcome) → Aborting k c n p os → Aborting j c' n' p' os
    → k < length os → j < length os → Faults n (fault c p) reason ≡ Faults n' (fault c' p') reason
same-abort k j c n p c' n' p' reason [] x y h l = absurd (omega arith)
same-abort zero zero c n p c' n' p' reason (o ∷ os) (e, _) (e', _) h l =
    let a = sym (outcome-shown o (aborts c n p) e refl) ∙ outcome-shown o (aborts c' n' p') e' refl in cc
same-abort zero (suc j) c n p c' n' p' reason (o ∷ os) (e, _) (w, _) h l = absurd (abort-not-well o c n p e w.0)
same-abort (suc k) zero c n p c' n' p' reason (o ∷ os) (w, _) (e, _) h l = absurd (abort-not-well o c' n' p' e w.0)
same-abort (suc k) (suc j) c n p c' n' p' reason (o ∷ os) (_, x) (_, y) h l = same-abort k j c n p c' n' p' reason os x y (omega arith) (omega arith)

-- a chain that ends is idle after its steps, so another has no more
idle-after : (F : Format) (seqs : List ℕ) (k j : ℕ) (names : List ℕ) (Q : List Outcome → Type 0) (os : List Outcome) → FirstThen k Works (GoesOn F seqs Finishes names) os → FirstThen j Works Q os
    → k < length os → k < j → ⊥
idle-after F seqs k j names Q [] x y h l = omega arith
idle-after F seqs k zero names Q (o ∷ os) x y h l = omega arith
idle-after F seqs zero (suc j) names Q (o ∷ os) (e, _) (w, _) h l = w.1 (e refl).0
idle-after F seqs (suc k) (suc j) names Q (o ∷ os) (_, x) (_, y) h l = idle-after F seqs k j names Q os x y (omega arith) (omega arith)

then-comes : (k : ℕ) (P : Outcome → Type 0) (Q : List Outcome → Type 0) (xs : List Outcome) (o : Outcome) (ys : List Outcome)
    → length xs ≡ k → FirstThen k P Q (xs ++ (o ∷ ys)) → Q (o ∷ ys)
then-comes zero P Q [] o ys e x = x
then-comes zero P Q (y ∷ xs) o ys e x = absurd (omega arith)
then-comes (suc k) P Q [] o ys e x = absurd (omega arith)
then-comes (suc k) P Q (y ∷ xs) o ys e (_, x) = then-comes k P Q xs o ys (omega arith) x

seen-split : {F : Format} (k m : ℕ) (w : World F) → k < m → (o : Outcome) × (rest : List Outcome) × (outcomes ours (steps m) w ≡ outcomes ours (steps k) w ++ (o ∷ rest))
seen-split k zero w h = absurd (omega arith)
seen-split {F} zero (suc m) w h = ((ours.steps F w.unit w.seqs w.lists).outcome, outcomes ours (steps m) (after ours step w), refl)
seen-split {F} (suc k) (suc m) w h =
    let (o, rest, e) = seen-split k m (after ours step w) (omega arith) in
    (o, rest, ap (λ (os : List Outcome). (ours.steps F w.unit w.seqs w.lists).outcome ∷ os) e)

tri : (a b : ℕ) → (a < b → ⊥) → (b < a → ⊥) → a ≡ b
tri a b f g = by-test (ltb a b) (λ h. absurd (f (ltb-true a b h))) (λ h. by-test (ltb b a) (λ k. absurd (g (ltb-true b a k))) (λ k. let x = ltb-false a b h in let y = ltb-false b a k in omega arith))

-- ── two accounts of one run
-- a chain passes or has a fault
data Kind (t : Told) : Type 0 where
  passes : IsPassed t.ending → Kind t
  faulty : (n : ℕ) (fault : Fault) (reason : Reason) → t.ending ≡ Faults n fault reason → Kind t

kind : (F : Format) (seqs lists : List ℕ) (n : ℕ) (t : Told) → Lists F seqs lists n t → Kind t
kind F seqs lists n t a = go t.ending refl
  where
    go : (e : Ending) → t.ending ≡ e → Kind t
    go (Unlisted code) e = absurd (no_answer F seqs lists (subst (Chain F seqs lists t.names n t.names) e a.chain))
    go Finishes e = passes (subst IsPassed (sym e) tt)
    go Returns e = passes (subst IsPassed (sym e) tt)
    go (Faults m f r) e = faulty m f r e

module _ {F : Format} (s : World F) where
  abbrev seen : ℕ → List Outcome
  seen k = outcomes ours (steps k) s

  abbrev Runs : Told → Type 0
  Runs t = (k : ℕ) → RunsAsTold F s.seqs t (seen k)

  -- both pass it: one that lists the same names and ends in the same way has no more steps
  no_longer : (t u : Told) → Runs t → Runs u → t.names ≡ u.names → (e : Ending) → t.ending ≡ e → IsPassed e → t.steps < u.steps → ⊥
  no_longer t u r q n (Unlisted code) w y h = y
  no_longer t u r q n Finishes w y h =
      let l = steps-seen ours u.steps s in
      idle-after F s.seqs t.steps u.steps t.names (GoesOn F s.seqs u.ending u.names) (seen u.steps)
      (subst (λ (z : Ending). FirstThen t.steps Works (GoesOn F s.seqs z t.names) (seen u.steps)) w (r u.steps).steps) (q u.steps).steps (omega arith) h
  no_longer t u r q n Returns w y h =
      let (o, rest, same) = seen-split t.steps u.steps s h in
      let Q = GoesOn F s.seqs Returns t.names in
      let after = subst (FirstThen t.steps Works Q) same (subst (λ (z : Ending). FirstThen t.steps Works (GoesOn F s.seqs z t.names) (seen u.steps)) w (r u.steps).steps) in
      let (m, _, _, shown) = (then-comes t.steps Works Q (seen t.steps) o rest (steps-seen ours t.steps s) after).1 refl in
      let enter = outcome-shown o (enters m) shown refl in
      let both : from_each landmark (events_of (seen u.steps)) ≡ from_each landmark (events_of (seen t.steps)) ++ from_each landmark (events_of (o ∷ rest)) =
      ap (λ (os : List Outcome). from_each landmark (events_of os)) same
      ∙ ap (from_each landmark) (events-append (seen t.steps) (o ∷ rest))
      ∙ each_append landmark (events_of (seen t.steps)) (events_of (o ∷ rest)) in
      let mine = (r t.steps).planned (steps-seen ours t.steps s) ∙ ap (chain_plan F s.seqs) n in
      let its = (q u.steps).planned (steps-seen ours u.steps s) in
      let more : ◌≡◌ {A = ℕ} (length (from_each landmark (events_of (o ∷ rest)))) (suc (length (from_each landmark (events_of rest)))) = ap (λ (z : Outcome). length (from_each landmark (events_of (z ∷ rest)))) enter in
      let a = ap length its in
      let b = ap length mine in
      let c = ap length both in
      omega (arith, length-append (from_each landmark (events_of (seen t.steps))) (from_each landmark (events_of (o ∷ rest))))
  no_longer t u r q n (Faults m f reason) w y h = y

  same-passed : (n : ℕ) (t u : Told) → Lists F s.seqs s.lists n t → Lists F s.seqs s.lists n u → Runs t → Runs u → IsPassed t.ending → IsPassed u.ending → t ≡ u
  same-passed n t u a b r q y z =
      let (names, ending) = same_names F s.seqs s.lists [] a.chain b.chain refl refl a.differ b.differ (passed_none t.ending y ∙ sym (passed_none u.ending z)) in
      let l : t.steps ≡ u.steps = tri t.steps u.steps (no_longer t u r q names t.ending refl y) (no_longer u t q r (sym names) u.ending refl z) in
      let x : t.exposures ≡ u.exposures =
      sym ((r u.steps).exposures (steps-seen ours u.steps s ∙ sym l)) ∙ (q u.steps).exposures (steps-seen ours u.steps s) in
      λ i. record { names = names i; ending = ending y i; steps = l i; exposures = x i }

  same-faulty : (n q : ℕ) (fault : Fault) (reason reason' : Reason) (t u : Told) → Lists F s.seqs s.lists n t → Lists F s.seqs s.lists n u → t.ending ≡ Faults q fault reason → u.ending ≡ Faults q fault reason' → t ≡ u
  same-faulty n q fault reason reason' t u a b e w =
      let c = subst (Chain F s.seqs s.lists t.names n t.names) e a.chain in
      let c' = subst (Chain F s.seqs s.lists u.names n u.names) w b.chain in
      let names = (same_names F s.seqs s.lists [] c c' refl refl a.differ b.differ refl).0 in
      let ending = e ∙ ap (Faults q fault) (one-reason F s.seqs s.lists c c') ∙ sym w in
      let (k, x) = a.totals (ap (λ (z : Ending). (ending_shown z).number) e) in
      let (k', x') = b.totals (ap (λ (z : Ending). (ending_shown z).number) w) in
      let l : t.steps ≡ u.steps = k ∙ sym k' in
      let v : t.exposures ≡ u.exposures = x ∙ sym x' in
      λ i. record { names = names i; ending = ending i; steps = l i; exposures = v i }

-- ── another check changes nothing of what is seen
module _ (f : Format → List ℕ → List ℕ → ℕ → Told) where
  abbrev L : Library
  L = with_check f

  same_seen : {F : Format} (k : ℕ) (w : World F) → outcomes L (steps k) w ≡ outcomes ours (steps k) w
  same_seen zero w = refl
  same_seen {F} (suc k) w = ap (λ (os : List Outcome). (ours.steps F w.unit w.seqs w.lists).outcome ∷ os) (same_seen k (after ours step w))

  reached-too : {F : Format} {w : World F} → Reached ours w → Reached L w
  reached-too (powered seqs lists s l) = powered seqs lists s l
  reached-too (lent seqs lists s l r) = lent seqs lists s l (reached-too r)
  reached-too (acted step r) = acted step (reached-too r)
  reached-too (acted (packet out time bytes) r) = acted (packet out time bytes) (reached-too r)

  -- t is what it tells, u is what ours tells, and both are kept from s on
  module _ {F : Format} (n : ℕ) (s : World F) (t u : Told) (a : Lists F s.seqs s.lists n t) (b : Lists F s.seqs s.lists n u)
      (p : KeepsPassed L t s) (q : KeepsFaulted L t s) (p' : KeepsPassed ours u s) (q' : KeepsFaulted ours u s) where
    runs : IsPassed t.ending → Runs s t
    runs y k = subst (RunsAsTold F s.seqs t) (same_seen k s) (p (so-passed t.ending y) (steps k) (stepped-on L k s))

    runs' : IsPassed u.ending → Runs s u
    runs' y k = p' (so-passed u.ending y) (steps k) (stepped-on ours k s)

    abbrev Fails : ℕ → ℕ → ℕ → Type 0
    Fails code m place = (k : ℕ) × ((j : ℕ) → Aborting k code m place (seen s j))

    fails : (m : ℕ) (w : Fault) (r : Reason) → t.ending ≡ Faults m w r → Fails w.code m w.place
    fails m w r e =
        let (k, g) = q w.code m w.place (ap ending_shown e) in
        (k, λ j. subst (Aborting k w.code m w.place) (same_seen j s) (g (steps j) (stepped-on L j s)))

    fails' : (m : ℕ) (w : Fault) (r : Reason) → u.ending ≡ Faults m w r → Fails w.code m w.place
    fails' m w r e = let (k, g) = q' w.code m w.place (ap ending_shown e) in (k, λ j. g (steps j) (stepped-on ours j s))

    not-both : (w : Told) (code m place : ℕ) → Fails code m place → Runs s w → ⊥
    not-both w code m place (k, g) r =
        let l = steps-seen ours (suc k) s in
        aborts-not-well k code m place (seen s (suc k)) (g (suc k)) (omega arith) (r (suc k)).never

    decided : Kind t → Kind u → t ≡ u
    decided (passes y) (passes z) = same-passed s n t u a b (runs y) (runs' z) y z
    decided (passes y) (faulty m v r e) = absurd (not-both t v.code m v.place (fails' m v r e) (runs y))
    decided (faulty m v r e) (passes z) = absurd (not-both u v.code m v.place (fails m v r e) (runs' z))
    decided (faulty m v r e) (faulty m' v' r' w) =
        let (k, g) = fails m v r e in
        let (j, g') = fails' m' v' r' w in
        let l = steps-seen ours (suc (k + j)) s in
        let same = same-abort k j v.code m v.place v'.code m' v'.place r (seen s (suc (k + j))) (g (suc (k + j))) (g' (suc (k + j))) (omega arith) (omega arith) in
        same-faulty s n m' v' r r' t u a b (e ∙ same) w

pub check-decided : {F : Format} → Fills F → CheckDecided F
check-decided {F} full f d w r m n h =
    let room : List ℕ = replicate 16384 0 in
    let t = f F w.seqs w.lists n in
    let u = ours.checks F w.seqs w.lists n in
    let s = after ours (packet room 0 starting) (after ours (packet room 0 (selecting n)) w) in
    let (_, _, a, p, q) = d w (reached-too f r) m n h room room (omega arith) (omega arith) 0 0 in
    let (_, _, b, p', q') = demand3 full w r m n h room room (omega arith) (omega arith) 0 0 in
    let (_, selected, vs, vl) = selects full w r m n h room (omega arith) 0 in
    let (_, _, ss, sl) = starts full n (after ours (packet room 0 (selecting n)) w) selected room (omega arith) 0 in
    let still : w.seqs ≡ s.seqs = sym (ss ∙ vs) in
    let kept : w.lists ≡ s.lists = sym (sl ∙ vl) in
    decided f n s t u (subst₂ (λ (x y : List ℕ). Lists F x y n t) still kept a) (subst₂ (λ (x y : List ℕ). Lists F x y n u) still kept b) p q p' q'
    (kind F w.seqs w.lists n t a) (kind F w.seqs w.lists n u b)
