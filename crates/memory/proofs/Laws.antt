-- Laws of the tables: a range lies in its table, what a write leaves, how long an entry is. Assumes nothing.
use Prim.Native.Nat.{ℕ, ◌+◌, ◌*◌, ◌-◌, ◌≤◌, ◌<◌}
use native.Mathlib.Nat.{mul-le-mul}
use native.Mathlib.Omega.{arith}
use mathlib.Core.Path.{◌≡◌, ◌∙◌}
use mathlib.Core.Bool.{Bool, true, false, not, ◌&&◌}
use mathlib.Core.List.{List, []}
use mathlib.Core.Logic.{◌⊎◌}
use lib.Dec.{ltb, leb}
use lib.ListN.{length, get_or, take, drop, length-take, length-drop}
use lib.Seq.{get_or-take, get_or-drop}
use borrow.Author.Tests.{ne_eqb}
use Rattle.std.proofs.lemmas.Bool.Decides.{nat_tests}
use Rattle.std.proofs.lemmas.Grind.{common_steps}
use Rattle.memory.specs.declared.Format.{Format}
use Rattle.memory.specs.declared.Range.{Range}
use Rattle.memory.specs.declared.Range.TheVariants.{Sequences, LineLists, Wrong}
use Rattle.memory.specs.Memory.{format_of, fills, entry_of, tables_wrong, range_of, range_at, part_of, window_code, window_part, written}

-- ── ranges
-- an address that passed the test, whatever the table's end, has an offset
pub has-offset : (first a : ℕ) (ends : Bool) → (leb first a && ends) ≡ true → first ≤ a
has-offset first a ends h = grind (arith, nat_tests)

-- a range is not empty and lies wholly in its table
abbrev pub Fits : ℕ → Range → Type 0
Fits len (Sequences at) = (at + len ≤ 16384) × (0 < len)
Fits len (LineLists at) = (at + len ≤ 7872) × (0 < len)
Fits len Wrong = Unit {0}

pub range-fits : (a len : ℕ) → Fits len (range_at a len)
unfolding range_at range_of
range-fits a len = grind (arith, nat_tests)

-- ── formats and sizes
-- a format that fills the table: what its test says, and that its entries are no shorter than 128
pub record Fair (F : Format) : Type 0 where
  pub whole : F.size * (F.last + 1) ≡ 16384
  pub size : F.size ≤ 256
  pub last : F.last ≤ 127
  pub room : 128 ≤ F.size

pub fair-of : (F : Format) → fills F ≡ true → Fair F
unfolding fills
fair-of F h =
    let e : F.size * (F.last + 1) ≡ 16384 = grind (arith, nat_tests) in
    let l : F.last ≤ 127 = grind (arith, nat_tests) in
    let same : F.size ≤ F.size = omega arith in
    let more : F.last + 1 ≤ 128 = omega arith in
    record { whole = e; size = grind (arith, nat_tests); last = l; room = omega (arith, mul-le-mul same more) }

-- the two kinds' formats fill it, and no other number's
pub kind-fills : (kind : ℕ) → kind ≤ 1 → fills (format_of kind) ≡ true
unfolding fills
kind-fills kind h = grind (arith, nat_tests)

pub no_kind : (kind : ℕ) → 1 < kind → fills (format_of kind) ≡ false
unfolding fills
no_kind kind h = grind (arith, nat_tests)

pub not-fills : (kind : ℕ) → not (fills (format_of kind)) ≡ ltb 1 kind
unfolding fills
not-fills kind = grind (arith, nat_tests)

-- what `tables_wrong` is proved by
pub ruleset kinds = not-fills

module _ (F : Format) (s l : List ℕ) where
  pub sizes : tables_wrong F s l ≡ false → (fills F ≡ true) × (length s ≡ 16384) × (length l ≡ 7872)
  unfolding tables_wrong
  sizes h = grind (arith, nat_tests)

  pub right-sizes : fills F ≡ true → length s ≡ 16384 → length l ≡ 7872 → tables_wrong F s l ≡ false
  unfolding tables_wrong
  right-sizes f p q = grind (arith, nat_tests)

-- ── the part that the desk asks for
module _ (F : Format) (s l : List ℕ) (a len k : ℕ) (told : k ≡ window_code F s l a len) where
  pub shown : (r v : Range) → k ≡ 0 → r ≡ range_at a len → r ≡ v → part_of s l len v ≡ window_part F s l a len
  unfolding window_part
  shown r v z e w = simp (← told, z, ← e, w)

  pub hidden : (k ≡ 0 → ⊥) → [] ≡ window_part F s l a len
  unfolding window_part
  hidden n = simp (← told, ne_eqb k 0 n)

-- ── entries
-- a part of a table: its bytes, how long it is at most, and that it is as long in another table of that length
module _ (s : List ℕ) (at size : ℕ) where
  pub part-byte : (i : ℕ) → i < size → get_or (take size (drop at s)) i 0 ≡ get_or s (at + i) 0
  part-byte i h = get_or-take size (drop at s) i 0 h ∙ get_or-drop at s i 0

  pub part-short : length (take size (drop at s)) ≤ size
  part-short = simp length-take (omega arith)

  pub part-long : (s' : List ℕ) → length s' ≡ length s → length (take size (drop at s')) ≡ length (take size (drop at s))
  part-long s' e = simp (length-take, length-drop) (rw e)

pub entry-short : (F : Format) (s : List ℕ) (n : ℕ) → length (entry_of F s n) ≤ F.size
entry-short F s n = part-short s (n * F.size) F.size

-- ── writes
module _ (t : List ℕ) (at : ℕ) (d : List ℕ) where
  pub written-length : length (written t at d) ≡ length t
  written-length = grind (arith, nat_tests, common_steps)

  -- outside what was written stand the table's own bytes, inside it those that were written
  pub written-other : (i : ℕ) → (i < at) ⊎ (at + length d ≤ i) → get_or (written t at d) i 0 ≡ get_or t i 0
  written-other i o = grind (arith, nat_tests, common_steps)

  pub written_same : (i : ℕ) → at + length d ≤ length t → at ≤ i → i < at + length d → get_or (written t at d) i 0 ≡ get_or d (i - at) 0
  written_same i h k w = grind (arith, nat_tests, common_steps)
