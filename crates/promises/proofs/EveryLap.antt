-- A chain that returns goes round for good: its first pass, and then the part that comes again, lap by lap. Assumes nothing.
use Prim.Native.Nat.{ℕ, zero, suc, ◌+◌, ◌*◌, ◌-◌, ◌≤◌, ◌<◌}
use native.Mathlib.Nat.{suc-mul}
use native.Mathlib.Omega.{arith}
use mathlib.Core.Path.{◌≡◌, refl, sym, ap, ap₂, subst, subst₂, ◌∙◌}
use mathlib.Core.List.{List, [], ◌∷◌, ◌++◌}
use mathlib.Core.Logic.{inr}
use lib.Dec.{leb}
use lib.ListN.{length}
use borrow.Author.Tests.{leb-true, leb-false}
use Rattle.octets.proofs.Bools.{by-test}
use Rattle.memory.specs.declared.Format.{Format}
use Rattle.runner.specs.declared.Event.{Event}
use Rattle.survey.specs.Turns.{turns}
use Rattle.survey.specs.Chain.{Told}
use Rattle.survey.specs.Report.{ending_shown}
use Rattle.unit.specs.Step.{Outcome}
use Rattle.promises.specs.Formats.{Fills}
use Rattle.promises.specs.Library.{ours}
use Rattle.promises.specs.Demand3.{World, Action, after_all, outcomes, last_of, Calling, chain_plan, AboutToEnter, NeverCalledBack, events_of, from_each, landmark, Works, All, FirstThen, ComesBack, EndsOrReturns, GoesOn, laps_plan, EveryLap}
use Rattle.promises.proofs.Chain.Unique.{chain_first, call_same, last-part}
use Rattle.promises.proofs.Chain.Plans.{each_append}
use Rattle.promises.proofs.Packets.Actions.{steps_in, steps, steps-append, Cut, cut, events-append, all_append, steps-taken, steps-seen, seen-append, never-parts, never-append, stepped-on}
use Rattle.promises.proofs.Demand3.{passed, lists-so, Next, next, again, enters-next}

module _ {F : Format} (fits : Fills F) where
  abbrev told : ℕ → World F → Told
  told n s = ours.checks F s.seqs s.lists n

  -- ── one lap, and what comes after it
  module _ (n : ℕ) (s : World F) (g : AboutToEnter ours n s) (y : ComesBack (told n s).ending) where
    passes : EndsOrReturns (told n s).ending
    passes = inr y

    -- it takes a step at least: its sequence is entered
    some-steps : 0 < (told n s).steps
    some-steps = go (told n s).steps refl
      where
        go : (k : ℕ) → (told n s).steps ≡ k → 0 < k
        go zero e =
            let (rest, names) = chain_first F s.seqs s.lists (lists-so fits n s g.reached g.known).chain in
            let none : [] ≡ chain_plan F s.seqs (n ∷ rest) = (passed fits n s g passes [] tt).planned (sym e) ∙ ap (chain_plan F s.seqs) names in
            let z : ◌≡◌ {A = ℕ} 0 1 = cc in absurd (omega arith)
        go (suc k) e = omega arith

    -- its steps, those after them, and the unit that is about to enter the next sequence between the two
    pub record Lap (m : ℕ) (acts : List Action) : Type 0 where
      pub parts : Cut (told n s).steps acts
      pub never : NeverCalledBack ours parts.first s
      pub full : length (outcomes ours parts.first s) ≡ (told n s).steps
      pub onward : NeverCalledBack ours parts.rest (after_all ours parts.first s)
      pub enters : AboutToEnter ours m (after_all ours parts.first s)
      pub same : told m (after_all ours parts.first s) ≡ told m s
      pub table : (after_all ours parts.first s).seqs ≡ s.seqs

    lap : (m : ℕ) → Next fits n s g y m → (acts : List Action) → NeverCalledBack ours acts s → (told n s).steps ≤ steps_in acts → Lap m acts
    lap m k acts x h =
        let c = cut (told n s).steps acts h in
        let (x₁, x₂) = never-parts ours c.first c.rest s (subst (λ (xs : List Action). NeverCalledBack ours xs s) (sym c.whole) x) in
        let full = steps-taken ours c.first s ∙ c.taken in
        let (enters, seqs, lists) = enters-next fits n s g y m k c.first x₁ full in
        record { parts = c; never = x₁; full = full; onward = x₂; enters = enters; same = ap₂ (λ (q l : List ℕ). ours.checks F q l m) seqs lists; table = seqs }

  -- ── every step works: those of a lap, and those of the laps after it
  first-all : (k : ℕ) (P : Outcome → Type 0) (Q : List Outcome → Type 0) (os : List Outcome) → FirstThen k P Q os → length os ≤ k → All P os
  first-all k P Q [] x h = tt
  first-all zero P Q (o ∷ os) x h = absurd (omega arith)
  first-all (suc k) P Q (o ∷ os) (p, x) h = (p, first-all k P Q os x (omega arith))

  lap-works : (n : ℕ) (s : World F) (g : AboutToEnter ours n s) (y : ComesBack (told n s).ending) (acts : List Action) → NeverCalledBack ours acts s
      → steps_in acts ≤ (told n s).steps → All Works (outcomes ours acts s)
  lap-works n s g y acts x h =
      let t = told n s in
      let e = steps-taken ours acts s in
      first-all t.steps Works (GoesOn F s.seqs t.ending t.names) (outcomes ours acts s) (passed fits n s g (passes n s g y) acts x).steps (omega arith)

  all-work : (most n : ℕ) (s : World F) → AboutToEnter ours n s → ComesBack (told n s).ending → (acts : List Action) → NeverCalledBack ours acts s → steps_in acts ≤ most
      → All Works (outcomes ours acts s)
  all-work zero n s g y acts x h = lap-works n s g y acts x (omega arith)
  all-work (suc most) n s g y acts x h =
      by-test (leb (steps_in acts) (told n s).steps)
      (λ b. lap-works n s g y acts x (leb-true (steps_in acts) (told n s).steps b))
      (λ b.
      let less = leb-false (steps_in acts) (told n s).steps b in
      let some = some-steps n s g y in
      let (m, k) = next fits n s g y in
      let l = lap n s g y m k acts x (omega arith) in
      let c = l.parts in
      let returns : ComesBack (told m (after_all ours c.first s)).ending = ap (λ (t : Told). ending_shown t.ending) l.same ∙ (again fits n s g y m k).returns in
      let fewer : steps_in c.rest ≤ most = (let e = c.left in omega arith) in
      let taken = c.taken in
      subst (All Works) (sym (seen-append ours c.first c.rest s) ∙ ap (λ (xs : List Action). outcomes ours xs s) c.whole)
      (all_append Works (outcomes ours c.first s) (outcomes ours c.rest (after_all ours c.first s)) (lap-works n s g y c.first l.never (omega arith))
      (all-work most m (after_all ours c.first s) l.enters returns c.rest l.onward fewer)))

  -- ── what is seen
  abbrev landmarks : List Outcome → List Event
  landmarks os = from_each landmark (events_of os)

  landmarks-append : (first rest acts : List Action) (s : World F) → first ++ rest ≡ acts
      → landmarks (outcomes ours acts s) ≡ landmarks (outcomes ours first s) ++ landmarks (outcomes ours rest (after_all ours first s))
  landmarks-append first rest acts s e =
      let xs = outcomes ours first s in
      let ys = outcomes ours rest (after_all ours first s) in
      ap (λ (zs : List Action). landmarks (outcomes ours zs s)) (sym e)
      ∙ ap landmarks (seen-append ours first rest s)
      ∙ ap (from_each landmark) (events-append xs ys)
      ∙ each_append landmark (events_of xs) (events_of ys)

  -- a lap shows the chain's plan, and then what comes after it is seen
  lap-seen : (n : ℕ) (s : World F) (g : AboutToEnter ours n s) (y : ComesBack (told n s).ending) (m : ℕ) (acts : List Action) (l : Lap n s g y m acts)
      → landmarks (outcomes ours acts s) ≡ chain_plan F s.seqs (told n s).names ++ landmarks (outcomes ours l.parts.rest (after_all ours l.parts.first s))
  lap-seen n s g y m acts l =
      let c = l.parts in
      landmarks-append c.first c.rest acts s c.whole
      ∙ ap (λ (es : List Event). es ++ landmarks (outcomes ours c.rest (after_all ours c.first s))) ((passed fits n s g (passes n s g y) c.first l.never).planned l.full)

  none_seen : (os : List Outcome) → length os ≡ 0 → landmarks os ≡ []
  none_seen [] e = refl
  none_seen (o ∷ os) e = absurd (omega arith)

  -- k laps of a chain that returns to where it began
  laps-from : (seqs : List ℕ) (a : Told) (m k j : ℕ) (s : World F) → AboutToEnter ours m s → s.seqs ≡ seqs → told m s ≡ a → ComesBack a.ending
      → Calling F seqs (last_of 0 a.names) m → (acts : List Action) → NeverCalledBack ours acts s → steps_in acts ≡ k * a.steps
      → landmarks (outcomes ours acts s) ≡ turns j k (λ lap left. chain_plan F seqs a.names)
  laps-from seqs a m zero j s g q w y b acts x h = none_seen (outcomes ours acts s) (let e = steps-taken ours acts s in omega arith)
  laps-from seqs a m (suc k) j s g q w y b acts x h =
      let ends : ComesBack (told m s).ending = ap (λ (t : Told). ending_shown t.ending) w ∙ y in
      let many : (told m s).steps ≡ a.steps = ap (λ (t : Told). t.steps) w in
      let count = suc-mul k a.steps in
      let (u, v) = next fits m s g ends in
      let here : Calling F s.seqs (last_of 0 (told m s).names) m = subst₂ (λ (z : List ℕ) (t : Told). Calling F z (last_of 0 t.names) m) (sym q) (sym w) b in
      let back : u ≡ m = call_same v.2 here in
      let l = lap m s g ends u v acts x (omega arith) in
      let c = l.parts in
      let left : steps_in c.rest ≡ k * a.steps = (let e = c.left in omega arith) in
      let plan : chain_plan F s.seqs (told m s).names ≡ chain_plan F seqs a.names = ap₂ (λ (z : List ℕ) (t : Told). chain_plan F z t.names) q w in
      lap-seen m s g ends u acts l
      ∙ ap₂ (◌++◌) plan
      (laps-from seqs a m k (suc j) (after_all ours c.first s) (subst (λ (z : ℕ). AboutToEnter ours z (after_all ours c.first s)) back l.enters) (l.table ∙ q)
      (subst (λ (z : ℕ). told z (after_all ours c.first s) ≡ told z s) back l.same ∙ w) y b c.rest l.onward left)

  module _ (n : ℕ) (s : World F) (g : AboutToEnter ours n s) (y : ComesBack (told n s).ending) (m : ℕ) (k : Next fits n s g y m) where
    abbrev part : Told
    part = told m s

    -- the part that comes again returns to where it began
    to-itself : Calling F s.seqs (last_of 0 part.names) m
    to-itself =
        let r = again fits n s g y m k in
        let (rest, names) = chain_first F s.seqs s.lists (lists-so fits m s g.reached k.0).chain in
        let same : last_of 0 (told n s).names ≡ last_of 0 part.names =
        ap (last_of 0) (r.part ∙ ap (λ (ns : List ℕ). r.once ++ ns) names) ∙ last-part 0 0 r.once rest m ∙ ap (last_of 0) (sym names) in
        subst (λ (z : ℕ). Calling F s.seqs z m) same r.called

    laps-seen : (laps : ℕ) (acts : List Action) → NeverCalledBack ours acts s → length (outcomes ours acts s) ≡ (told n s).steps + laps * part.steps
        → landmarks (outcomes ours acts s) ≡ laps_plan F s.seqs (told n s).names part.names laps
    laps-seen laps acts x h =
        let e = steps-taken ours acts s in
        let l = lap n s g y m k acts x (omega arith) in
        let c = l.parts in
        let left : steps_in c.rest ≡ laps * part.steps = (let d = c.left in omega arith) in
        lap-seen n s g y m acts l
        ∙ ap (λ (es : List Event). chain_plan F s.seqs (told n s).names ++ es)
        (laps-from s.seqs part m laps 0 (after_all ours c.first s) l.enters l.table l.same (again fits n s g y m k).returns to-itself c.rest l.onward left)

    -- stepped on to the end of a lap
    begins : (laps : ℕ) (acts : List Action) → NeverCalledBack ours acts s → length (outcomes ours acts s) ≤ (told n s).steps + laps * part.steps
        → (rest : List Event) × (landmarks (outcomes ours acts s) ++ rest ≡ laps_plan F s.seqs (told n s).names part.names laps)
    begins laps acts x h =
        let more = steps ((told n s).steps + laps * part.steps - steps_in acts) in
        let v = after_all ours acts s in
        let e = steps-taken ours acts s in
        let e' = steps-taken ours (acts ++ more) s in
        let d = steps-append acts more in
        let f = steps-taken ours more v in
        let f' = steps-seen ours ((told n s).steps + laps * part.steps - steps_in acts) v in (
          landmarks (outcomes ours more v),
          sym (landmarks-append acts more (acts ++ more) s refl)
              ∙ laps-seen laps (acts ++ more) (never-append ours acts more s x (stepped-on ours ((told n s).steps + laps * part.steps - steps_in acts) v)) (omega arith),
        )

  pub every-lap : EveryLap F ours
  every-lap n s g y =
      let (m, k) = next fits n s g y in (
        m,
        again fits n s g y m k,
        λ acts x.
            record {
              works = all-work (steps_in acts) n s g y acts x (omega arith);
              laps = λ laps. laps-seen n s g y m k laps acts x;
              under-way = λ laps. begins n s g y m k laps acts x;
            },
      )
