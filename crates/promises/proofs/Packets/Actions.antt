-- Actions one after another: what is seen of them, how many are steps, and where they are cut. Assumes nothing.
use Rattle.std.specs.Prelude.{Ok, Err}
use Prim.Native.Nat.{ℕ, zero, suc, ◌+◌, ◌≤◌}
use native.Mathlib.Omega.{arith}
use mathlib.Core.Path.{◌≡◌, refl, ap}
use mathlib.Core.List.{List, [], ◌∷◌, ◌++◌}
use lib.ListN.{length}
use Rattle.memory.specs.declared.Format.{Format}
use Rattle.runner.specs.declared.Event.{Event}
use Rattle.unit.specs.Step.{Outcome}
use Rattle.promises.specs.Library.{Library}
use Rattle.promises.specs.Demand3.{World, Action, step, packet, after, after_all, outcomes, Reached, acted, NeverCalledBack, events_of, All}

abbrev pub steps_in : List Action → ℕ
steps_in [] = 0
steps_in (step ∷ acts) = suc (steps_in acts)
steps_in (packet out time bytes ∷ acts) = steps_in acts

-- so many steps and nothing else
abbrev pub steps : ℕ → List Action
steps zero = []
steps (suc k) = step ∷ steps k

pub steps-append : (first rest : List Action) → steps_in (first ++ rest) ≡ steps_in first + steps_in rest
steps-append [] rest = omega arith
steps-append (step ∷ first) rest = let e = steps-append first rest in omega arith
steps-append (packet out time bytes ∷ first) rest = steps-append first rest

-- the actions up to the k-th step, and the rest
pub record Cut (k : ℕ) (acts : List Action) : Type 0 where
  pub first : List Action
  pub rest : List Action
  pub whole : first ++ rest ≡ acts
  pub taken : steps_in first ≡ k
  pub left : steps_in acts ≡ k + steps_in rest

pub cut : (k : ℕ) (acts : List Action) → k ≤ steps_in acts → Cut k acts
cut k acts h = let (first, rest, e, t) = go k acts h in
    record { first = first; rest = rest; whole = e; taken = t; left = (let a = ap steps_in e in let b = steps-append first rest in omega arith) }
  where
    go : (k : ℕ) (acts : List Action) → k ≤ steps_in acts → (first : List Action) × (rest : List Action) × (first ++ rest ≡ acts) × (steps_in first ≡ k)
    go zero acts h = ([], acts, refl, refl)
    go (suc k) [] h = absurd (omega arith)
    go (suc k) (step ∷ acts) h =
        let (first, rest, e, t) = go k acts (omega arith) in
        (step ∷ first, rest, ap (λ (xs : List Action). step ∷ xs) e, ap suc t)
    go (suc k) (packet out time bytes ∷ acts) h =
        let (first, rest, e, t) = go (suc k) acts h in
        (packet out time bytes ∷ first, rest, ap (λ (xs : List Action). packet out time bytes ∷ xs) e, t)

pub events-append : (xs ys : List Outcome) → events_of (xs ++ ys) ≡ events_of xs ++ events_of ys
events-append [] ys = refl
events-append (Err code ∷ xs) ys = events-append xs ys
events-append (Ok e ∷ xs) ys = ap (λ (es : List Event). e ∷ es) (events-append xs ys)

pub all_append : (P : Outcome → Type 0) (xs ys : List Outcome) → All P xs → All P ys → All P (xs ++ ys)
all_append P [] ys a b = b
all_append P (x ∷ xs) ys (a, rest) b = (a, all_append P xs ys rest b)

module _ {F : Format} (L : Library) where
  pub reached-all : (acts : List Action) {w : World F} → Reached L w → Reached L (after_all L acts w)
  reached-all [] r = r
  reached-all (a ∷ acts) r = reached-all acts (acted a r)

  -- as much is seen as steps are taken
  pub steps-taken : (acts : List Action) (w : World F) → length (outcomes L acts w) ≡ steps_in acts
  steps-taken [] w = refl
  steps-taken (step ∷ acts) w = ap suc (steps-taken acts (after L step w))
  steps-taken (packet out time bytes ∷ acts) w = steps-taken acts (after L (packet out time bytes) w)

  pub steps-seen : (k : ℕ) (w : World F) → length (outcomes L (steps k) w) ≡ k
  steps-seen zero w = refl
  steps-seen (suc k) w = ap suc (steps-seen k (after L step w))

  pub seen-append : (first rest : List Action) (w : World F) → outcomes L (first ++ rest) w ≡ outcomes L first w ++ outcomes L rest (after_all L first w)
  seen-append [] rest w = refl
  seen-append (step ∷ first) rest w = ap (λ (os : List Outcome). (L.steps F w.unit w.seqs w.lists).outcome ∷ os) (seen-append first rest (after L step w))
  seen-append (packet out time bytes ∷ first) rest w = seen-append first rest (after L (packet out time bytes) w)

  -- no call back is among them all exactly when none is among the first and none among the rest
  pub never-parts : (first rest : List Action) (w : World F) → NeverCalledBack L (first ++ rest) w → NeverCalledBack L first w × NeverCalledBack L rest (after_all L first w)
  never-parts [] rest w x = (tt, x)
  never-parts (a ∷ first) rest w (x, xs) = let (y, z) = never-parts first rest (after L a w) xs in ((x, y), z)

  pub never-append : (first rest : List Action) (w : World F) → NeverCalledBack L first w → NeverCalledBack L rest (after_all L first w) → NeverCalledBack L (first ++ rest) w
  never-append [] rest w x y = y
  never-append (a ∷ first) rest w (x, xs) y = (x, never-append first rest (after L a w) xs y)

  -- steps call nothing back
  pub stepped-on : (k : ℕ) (w : World F) → NeverCalledBack L (steps k) w
  stepped-on zero w = tt
  stepped-on (suc k) w = (λ z. z, stepped-on k (after L step w))
