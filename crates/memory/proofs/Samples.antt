-- The range rows of document 01 and the ends of both tables, as one list and one computed test. Assumes nothing.
use Prim.Native.Nat.{ℕ}
use mathlib.Core.Path.{◌≡◌, refl}
use mathlib.Core.Bool.{Bool, true, ◌&&◌}
use mathlib.Core.List.{List, [], ◌∷◌}
use lib.Dec.{eqb}
use Rattle.memory.specs.Memory.{range_of, range_at}
use Rattle.memory.specs.declared.Range.{Range}
use Rattle.memory.specs.declared.Range.TheVariants.{Sequences, LineLists, Wrong}

-- len bytes from an address, and the right answer
record Sample : Type 0 where
  address : ℕ
  len : ℕ
  right : Range

abbrev asked : ℕ → ℕ → Range → Sample
asked address len right = record { address = address; len = len; right = right }

-- a range as two numbers: which kind, and the offset
abbrev kind : Range → ℕ
kind (Sequences at) = 0
kind (LineLists at) = 1
kind Wrong = 2

abbrev offset : Range → ℕ
offset (Sequences at) = at
offset (LineLists at) = at
offset Wrong = 0

abbrev same : Range → Range → Bool
same r q = eqb (kind r) (kind q) && eqb (offset r) (offset q)

abbrev all_right : List Sample → Bool
all_right [] = true
all_right (s ∷ ss) = same (range_at s.address s.len) s.right && all_right ss

abbrev samples : List Sample
samples =
    asked 0x073F80 128 (Sequences 16256)
    ∷ asked 0x073F81 128 Wrong
    ∷ asked 0x070000 16384 (Sequences 0)
    ∷ asked 0x06FFFF 1 Wrong
    ∷ asked 0x073FFF 1 (Sequences 16383)
    ∷ asked 0x073FFF 2 Wrong
    ∷ asked 0x074000 7872 (LineLists 0)
    ∷ asked 0x074000 7873 Wrong
    ∷ asked 0x075EBF 1 (LineLists 7871)
    ∷ asked 0x075EC0 1 Wrong
    ∷ asked 0x070000 0 Wrong
    ∷ asked 0x060000 100 Wrong
    ∷ []

pub samples-right : all_right samples ≡ true
unfolding range_at range_of
samples-right = refl
