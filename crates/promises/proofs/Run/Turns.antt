-- Laws of lists made of turns: how long they are, what stands at a number, and what holds of them all.
-- Assumes nothing.
use Prim.Native.Nat.{ℕ, zero, suc, ◌+◌, ◌*◌, ◌-◌, ◌/◌, ◌%◌, ◌≤◌, ◌<◌}
use native.Mathlib.Nat.{div-eq_of_lt, add-div_left, mod-eq_of_lt, add-mod_left}
use native.Mathlib.Decide.{dec_lt}
use native.Mathlib.Omega.{arith}
use mathlib.Core.Path.{◌≡◌, sym, ap, ap₂, ◌∙◌}
use mathlib.Core.List.{List, [], ◌∷◌, ◌++◌}
use lib.ListN.{length, get_or, replicate, length-append, get_or-append}
use lib.Seq.{get_or-append-add}
use Rattle.survey.specs.Turns.{turns}
use Rattle.promises.specs.Positions.{NonePast}

pub some_in : (n L i : ℕ) → i < n * L → 0 < L
some_in n zero i h = absurd (omega arith)
some_in n (suc L) i h = omega arith

-- turns of one length
module _ {A : Type 0} (L : ℕ) (f : ℕ → ℕ → List A) (same : (k n : ℕ) → length (f k n) ≡ L) where
  pub length-turns : (k n : ℕ) → length (turns k n f) ≡ n * L
  length-turns k zero = omega arith
  length-turns k (suc n) = omega (arith, length-append (f k n) (turns (suc k) n f), same k n, length-turns (suc k) n)

  -- what stands at i: the whole part of i / L tells the turn, the remainder the place in it
  pub nth-turns : (d : A) (k n i : ℕ) → i < n * L → get_or (turns k n f) i d ≡ get_or (f (k + i / L) (n - 1 - i / L)) (i % L) d
  nth-turns d k zero i h = absurd (omega arith)
  nth-turns d k (suc n) i h = go (λ j l. nth-turns d (suc k) n j l) (dec_lt i L)
    where
      Told : ℕ → Type 0
      Told j = get_or (turns (suc k) n f) j d ≡ get_or (f (suc k + j / L) (n - 1 - j / L)) (j % L) d

      first : i < L → get_or (f k n ++ turns (suc k) n f) i d ≡ get_or (f (k + i / L) (suc n - 1 - i / L)) (i % L) d
      first l =
          let q : i / L ≡ 0 = div-eq_of_lt l in
          let a : k ≡ k + i / L = omega arith in
          let b : n ≡ suc n - 1 - i / L = omega arith in
          get_or-append (f k n) (turns (suc k) n f) d i (omega (arith, same k n))
          ∙ ap₂ (λ (x y : ℕ). get_or (f x y) i d) a b
          ∙ ap (λ (x : ℕ). get_or (f (k + i / L) (suc n - 1 - i / L)) x d) (sym (mod-eq_of_lt l))

      later : (j : ℕ) → L + j ≡ i → 0 < L → Told j → get_or (f k n ++ turns (suc k) n f) i d ≡ get_or (f (k + i / L) (suc n - 1 - i / L)) (i % L) d
      later j ej z ih =
          let q : i / L ≡ j / L + 1 = ap (λ (x : ℕ). x / L) (sym ej) ∙ add-div_left j z in
          let r : i % L ≡ j % L = ap (λ (x : ℕ). x % L) (sym ej) ∙ add-mod_left L j in
          let e : length (f k n) + j ≡ i = omega (arith, same k n) in
          let a : suc k + j / L ≡ k + i / L = omega arith in
          let b : n - 1 - j / L ≡ suc n - 1 - i / L = omega arith in
          ap (λ (x : ℕ). get_or (f k n ++ turns (suc k) n f) x d) (sym e)
          ∙ get_or-append-add (f k n) (turns (suc k) n f) j d
          ∙ ih
          ∙ ap₂ (λ (x y : ℕ). get_or (f x y) (j % L) d) a b
          ∙ ap (λ (x : ℕ). get_or (f (k + i / L) (suc n - 1 - i / L)) x d) (sym r)

      go : ((j : ℕ) → j < n * L → Told j) → Dec (i < L) → get_or (f k n ++ turns (suc k) n f) i d ≡ get_or (f (k + i / L) (suc n - 1 - i / L)) (i % L) d
      go ih (yes l) = first l
      go ih (no w) = later (i - L) (omega arith) (some_in (suc n) L i h) (ih (i - L) (omega arith))

-- ── none past a stop
module _ (stop : ℕ) where
  pub past-append : (xs ys : List ℕ) → NonePast stop xs → NonePast stop ys → NonePast stop (xs ++ ys)
  past-append [] ys a b = b
  past-append (x ∷ xs) ys (h, a) b = (h, past-append xs ys a b)

  pub past-replicate : (n x : ℕ) → x ≤ stop → NonePast stop (replicate n x)
  past-replicate zero x h = tt
  past-replicate (suc n) x h = (h, past-replicate n x h)

  pub past-turns : (f : ℕ → ℕ → List ℕ) (N : ℕ) → ((k n : ℕ) → k + suc n ≡ N → NonePast stop (f k n)) → (k n : ℕ) → k + n ≡ N → NonePast stop (turns k n f)
  past-turns f N each k zero e = tt
  past-turns f N each k (suc n) e = past-append (f k n) (turns (suc k) n f) (each k n e) (past-turns f N each (suc k) n (omega arith))
