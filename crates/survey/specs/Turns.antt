-- A list made of turns, each told its number and how many come after it: passes, repeats, rounds and positions are such lists.
use Rattle.std.specs.Prelude.{ℕ, zero, suc, List, [], ◌++◌}

-- turn k, with n turns after it, and so on
abbrev pub turns {ℓ} : {A : Type ℓ} → ℕ → ℕ → (ℕ → ℕ → List A) → List A
turns k zero f = []
turns k (suc n) f = f k n ++ turns (suc k) n f
