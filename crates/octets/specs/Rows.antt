-- Refusals as an ordered table: rows of a code and a test. The answer is the code of the first row that holds, else 0.
use Rattle.std.specs.Prelude.{ℕ, ◌≡◌, Bool, true, false, cond, ◌&&◌, ◌||◌, List, [], ◌∷◌, ◌⊎◌, ltb}

pub record Row : Type 0 where
  pub code : ℕ
  pub holds : Bool

abbrev pub row : ℕ → Bool → Row
row code holds = record { code = code; holds = holds }

-- the code of the first row that holds, 0 where none does
abbrev pub first_code : List Row → ℕ
first_code [] = 0
first_code (r ∷ rs) = cond r.holds r.code (first_code rs)

-- no row holds
abbrev pub NoneHolds : List Row → Type 0
NoneHolds [] = Unit {0}
NoneHolds (r ∷ rs) = (r.holds ≡ false) × NoneHolds rs

-- a row holds, none before it does, and it bears this code
abbrev pub FirstBears : ℕ → List Row → Type 0
FirstBears c [] = ⊥
FirstBears c (r ∷ rs) = ((r.holds ≡ true) × (r.code ≡ c)) ⊎ ((r.holds ≡ false) × FirstBears c rs)

-- no row bears 0, the code of what is obeyed
abbrev pub coded : List Row → Bool
coded [] = true
coded (r ∷ rs) = ltb 0 r.code && coded rs

-- some test of a list holds
abbrev pub some : List Bool → Bool
some [] = false
some (t ∷ ts) = t || some ts
