-- The names that a chain has listed: each turn lists one number more, so there are turns enough.
-- Assumes nothing.
use Prim.Native.Nat.{ℕ, zero, suc, ◌≤◌, ◌<◌}
use native.Mathlib.Decide.{ℕ_discrete}
use native.Mathlib.Omega.{arith}
use mathlib.Core.Path.{◌≡◌, refl, sym, ap, ◌∙◌}
use mathlib.Core.Bool.{Bool, true, false, cond, ◌||◌, or-true, or_assoc}
use mathlib.Core.List.{List, [], ◌∷◌, ◌++◌}
use lib.Dec.{eqb}
use borrow.Author.Tests.{eq-eqb, ne_eqb, eqb-true}
use Rattle.octets.proofs.Bools.{choice}
use Rattle.sequence.specs.Starts.{among}
use Rattle.survey.specs.declared.Closing.TheVariants.{Terminates, CallsOn}
use Rattle.survey.specs.declared.Ending.TheVariants.{Returns}
use Rattle.survey.specs.Walk.{Finding, passes, faults}
use Rattle.survey.specs.Chain.{Told, told, onward, follow}
use Rattle.survey.proofs.Names.{Low}

-- how many numbers below k are not among these names
unfoldable pub unlisted : ℕ → List ℕ → ℕ
unlisted zero names = 0
unlisted (suc k) names = cond (among k names) (unlisted k names) (suc (unlisted k names))

pub unlisted-most : (k : ℕ) (names : List ℕ) → unlisted k names ≤ k
unfolding unlisted
unlisted-most zero names = omega arith
unlisted-most (suc k) names = go (among k names) (unlisted-most k names)
  where
    go : (b : Bool) → unlisted k names ≤ k → cond b (unlisted k names) (suc (unlisted k names)) ≤ suc k
    go true h = omega arith
    go false h = omega arith

-- a name at or past k does not count
unlisted-same : (k n : ℕ) (names : List ℕ) → k ≤ n → unlisted k (n ∷ names) ≡ unlisted k names
unfolding unlisted among
unlisted-same zero n names h = refl
unlisted-same (suc k) n names h = rw (ne_eqb n k (λ e. omega arith), unlisted-same k n names (omega arith))

pub unlisted-less : (k n : ℕ) (names : List ℕ) → n < k → among n names ≡ false → unlisted k names ≡ suc (unlisted k (n ∷ names))
unfolding unlisted among
unlisted-less zero n names h e = absurd (omega arith)
unlisted-less (suc k) n names h e = go (ℕ_discrete n k) (λ l. unlisted-less k n names l e)
  where
    later : (b : Bool) → unlisted k names ≡ suc (unlisted k (n ∷ names))
        → cond b (unlisted k names) (suc (unlisted k names)) ≡ suc (cond b (unlisted k (n ∷ names)) (suc (unlisted k (n ∷ names))))
    later true ih = ih
    later false ih = ap suc ih

    go : Dec (n ≡ k) → (n < k → unlisted k names ≡ suc (unlisted k (n ∷ names)))
        → cond (among k names) (unlisted k names) (suc (unlisted k names)) ≡ suc (cond (eqb n k || among k names) (unlisted k (n ∷ names)) (suc (unlisted k (n ∷ names))))
    go (yes w) ih =
        let f : among k names ≡ false = rw w at e in
        rw (f, eq-eqb n k w) (ap suc (sym (unlisted-same k n names (omega arith))))
    go (no w) ih = rw (ne_eqb n k w) (later (among k names) (ih (omega arith)))

pub all_listed : (k n : ℕ) (names : List ℕ) → unlisted k names ≤ 0 → n < k → among n names ≡ true
all_listed k n names u h = go (among n names) refl
  where
    go : (b : Bool) → among n names ≡ b → b ≡ true
    go true e = refl
    go false e = let w = unlisted-less k n names h e in absurd (omega arith)

-- a name put in front of those listed before is put in front of those listed now
pub or-move : (x a b : Bool) → ((x || a) || b) ≡ true → (a || (x || b)) ≡ true
or-move true true b e = refl
or-move true false b e = refl
or-move false a b e = e

pub among_first : (n : ℕ) (names : List ℕ) → among n (n ∷ names) ≡ true
unfolding among
among_first n names = rw (eq-eqb n n refl)

pub among_later : (m n : ℕ) (names : List ℕ) → among m names ≡ true → among m (n ∷ names) ≡ true
unfolding among
among_later m n names a = rw a (or-true (eqb n m))

-- a number is among both, one after the other, where it is among the one or the other
pub among-append : (k : ℕ) (xs ys : List ℕ) → among k (xs ++ ys) ≡ (among k xs || among k ys)
unfolding among
among-append k [] ys = refl
among-append k (x ∷ xs) ys = ap (λ (t : Bool). eqb x k || t) (among-append k xs ys) ∙ sym (or_assoc (eqb x k) (among k xs) (among k ys))

pub among-case : {A : Type 0} (u n : ℕ) (names : List ℕ) → among u (n ∷ names) ≡ true → (n ≡ u → A) → (among u names ≡ true → A) → A
unfolding among
among-case {A} u n names h f g = go (eqb n u) refl h
  where
    go : (b : Bool) → eqb n u ≡ b → (b || among u names) ≡ true → A
    go true e h = f (eqb-true n u e)
    go false e h = g h

-- what holds where no more is listed, and of a sequence in front of what it holds of, holds of every chain
pub follow-all : (found : ℕ → Finding) (P : List ℕ → Told → Type 0) → ((before : List ℕ) → P before (told [] Returns 0 0))
    → ((before : List ℕ) (n : ℕ) (go : ℕ → Told) → among n before ≡ false → ((m : ℕ) → P (n ∷ before) (go m)) → P before (onward go n (found n)))
    → (f : ℕ) (before : List ℕ) (n : ℕ) → P before (follow found f before n)
unfolding follow
follow-all found P none front zero before n = none before
follow-all found P none front (suc f) before n =
    choice (P before) (among n before) _ _ (λ _. none before) (λ e. front before n (λ m. follow found f (n ∷ before) m) e (λ m. follow-all found P none front f (n ∷ before) m))

-- turns beyond those that list every number up to the last change nothing
module _ (last : ℕ) (found : ℕ → Finding) (lows : (n : ℕ) → Low last (found n)) where
  onward-same : (go more : ℕ → Told) → ((m : ℕ) → m ≤ last → more m ≡ go m) → (n : ℕ) (w : Finding) → Low last w → onward more n w ≡ onward go n w
  unfolding onward
  onward-same go more h n (passes k x is p Terminates) l = refl
  onward-same go more h n (passes k x is p (CallsOn m)) l = rw (h m l)
  onward-same go more h n (faults f reason) l = refl

  pub follow-enough : (f g : ℕ) (names : List ℕ) (n : ℕ) → f ≤ g → n ≤ last → unlisted (suc last) names ≤ f → follow found g names n ≡ follow found f names n
  unfolding follow
  follow-enough zero zero names n h l u = refl
  follow-enough zero (suc g) names n h l u = rw (all_listed (suc last) n names u (omega arith))
  follow-enough (suc f) zero names n h l u = absurd (omega arith)
  follow-enough (suc f) (suc g) names n h l u = go (among n names) refl (λ m. follow-enough f g (n ∷ names) m)
    where
      onwards : ℕ → Told
      onwards turns = onward (λ m. follow found turns (n ∷ names) m) n (found n)

      go : (b : Bool) → among n names ≡ b
          → ((m : ℕ) → f ≤ g → m ≤ last → unlisted (suc last) (n ∷ names) ≤ f → follow found g (n ∷ names) m ≡ follow found f (n ∷ names) m)
          → cond b (told [] Returns 0 0) (onwards g) ≡ cond b (told [] Returns 0 0) (onwards f)
      go true e ih = refl
      go false e ih =
          let w = unlisted-less (suc last) n names (omega arith) e in
          onward-same (λ m. follow found f (n ∷ names) m) (λ m. follow found g (n ∷ names) m) (λ m k. ih m (omega arith) k (omega arith)) n (found n) (lows n)
