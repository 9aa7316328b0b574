-- Samples as rows of a list: what is asked, computed to numbers, and the right numbers; and one test of them all. Assumes nothing.
use Prim.Native.Nat.{ℕ}
use mathlib.Core.Bool.{Bool, true, false, ◌&&◌}
use mathlib.Core.List.{List, [], ◌∷◌}
use lib.Dec.{eqb}

pub record Sample : Type 0 where
  pub asked : List ℕ
  pub right : List ℕ

abbrev pub sample : List ℕ → List ℕ → Sample
sample asked right = record { asked = asked; right = right }

abbrev pub same : List ℕ → List ℕ → Bool
same [] [] = true
same [] (n ∷ ns) = false
same (m ∷ ms) [] = false
same (m ∷ ms) (n ∷ ns) = eqb m n && same ms ns

abbrev pub all_right : List Sample → Bool
all_right [] = true
all_right (s ∷ ss) = same s.asked s.right && all_right ss
