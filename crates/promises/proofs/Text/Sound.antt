-- What ordered rows tell: a raster that none of them refuses, and the codes that they bear.
-- Assumes nothing.
use Prim.Native.Nat.{ℕ, ◌≤◌, ◌<◌}
use native.Mathlib.Omega.{arith}
use mathlib.Core.Path.{◌≡◌, refl, sym, ap₂, subst, ◌∙◌}
use mathlib.Core.Bool.{Bool, true, false, cond, ◌&&◌, ◌||◌}
use mathlib.Core.List.{List, [], ◌∷◌, ◌++◌}
use lib.Dec.{T, ltb, leb, eqb}
use borrow.Author.Tests.{ltb-false, leb-true, eqb-true, eqb-false, le-leb}
use Rattle.octets.specs.Rows.{Row, row, first_code, NoneHolds, coded}
use Rattle.octets.proofs.Laws.{none-holds, none-split}
use Rattle.octets.proofs.Bools.{and_both}
use Rattle.sequence.specs.declared.RasterWords.{RasterWords}
use Rattle.sequence.specs.Raster.{asrc_wrong, strays, some_strays, leaves}
use Rattle.sequence.proofs.Paths.{none-strays}
use Rattle.sequence.specs.Env.{Env}
use Rattle.runner.specs.declared.Act.{Act}
use Rattle.runner.specs.declared.Act.TheVariants.{Refused}
use Rattle.runner.proofs.Laws.{none-stray, path-rows}
use Rattle.runner.specs.Judge.{set_of, count_rows, list_rows, path_rows, flag_rows, raster_rows, unless}

-- ── codes
-- every row bears a code up to 15, as the status block has room for
abbrev pub small : List Row → Bool
small [] = true
small (r ∷ rs) = leb r.code 15 && small rs

pub code-small : (rs : List Row) → small rs ≡ true → first_code rs ≤ 15
code-small [] h = omega arith
code-small (r ∷ rs) h =
    let (a, b) = and_both (leb r.code 15) (small rs) h in
    go r.holds (leb-true r.code 15 a) (code-small rs b)
  where
    go : (t : Bool) → r.code ≤ 15 → first_code rs ≤ 15 → cond t r.code (first_code rs) ≤ 15
    go true x y = x
    go false x y = y

-- what holds of a refusal with the first code, and of the act where no row holds, holds of what the rows make of the act
pub by_first : (P : Act → Type 0) (rs : List Row) (a : Act) → T (coded rs) → ((c : ℕ) → 0 < c → first_code rs ≡ c → P (Refused c)) → (NoneHolds rs → P a)
    → P (unless (first_code rs) a)
by_first P rs a k f g = go (eqb (first_code rs) 0) refl
  where
    go : (b : Bool) → eqb (first_code rs) 0 ≡ b → P (cond b a (Refused (first_code rs)))
    go true e = g (none-holds rs k (eqb-true (first_code rs) 0 e))
    go false e = f (first_code rs) (omega (arith, eqb-false (first_code rs) 0 e)) refl

-- the same where every code is small
pub by_rows : (P : Act → Type 0) (rs : List Row) (a : Act) → T (coded rs) → small rs ≡ true → ((c : ℕ) → c ≤ 15 → P (Refused c)) → (NoneHolds rs → P a) → P (unless (first_code rs) a)
by_rows P rs a k l f g = by_first P rs a k (λ c h e. f c (let m = code-small rs l in omega arith)) g

-- ── a raster that no row refuses
pub record Sound (raster : RasterWords) : Type 0 where
  pub loops : 0 < raster.loops
  pub repeats : 0 < raster.repeats
  pub some : 0 < raster.exposures
  pub most : raster.exposures ≤ 8
  pub list : raster.list ≤ 47
  pub stays : (k : ℕ) → k < raster.repeats → strays raster k ≡ false

module _ (E : Env) (raster : RasterWords) (begun : ℕ) (none : NoneHolds (raster_rows E.cards raster begun)) where
  path : NoneHolds (path_rows raster begun)
  path = path-rows E.cards raster begun none

  pub stay : (some_strays raster raster.repeats ≡ false) × (strays raster begun ≡ false)
  stay = none-stray raster begun path

  -- nor would a row refuse any other repeat of it
  pub rows-again : (k : ℕ) → k < raster.repeats → NoneHolds (raster_rows E.cards raster k)
  unfolding raster_rows path_rows
  rows-again k l =
      let again : leaves raster begun ≡ leaves raster k = path.1.1.1.0 ∙ sym (ap₂ (λ (a b : Bool). a || b) stay.0 (none-strays raster raster.repeats k stay.0 l)) in
      subst
      (λ (b : Bool). NoneHolds (count_rows raster ++ (list_rows E.cards raster
      ++ ((row 3 (asrc_wrong raster) ∷ row 14 (ltb 2400 raster.initial) ∷ row 14 (ltb 2400 raster.step) ∷ row 14 b ∷ []) ++ flag_rows E.cards raster))))
      again none

  pub sound : Sound raster
  unfolding raster_rows path_rows
  sound =
      let (counts, rest) = none-split (count_rows raster) (list_rows E.cards raster ++ (path_rows raster begun ++ flag_rows E.cards raster)) none in
      record {
        loops = omega (arith, eqb-false raster.loops 0 counts.0);
        repeats = omega (arith, eqb-false raster.repeats 0 counts.1.0);
        some = omega (arith, eqb-false raster.exposures 0 counts.1.1.0);
        most = ltb-false 8 raster.exposures counts.1.1.1.0;
        list = ltb-false 47 raster.list rest.0;
        stays = λ k l. none-strays raster raster.repeats k stay.0 l;
      }

pub set_is : {raster : RasterWords} → Sound raster → set_of raster ≡ raster.exposures
set_is {raster} g = rw (le-leb raster.exposures 8 g.most)

pub set-some : {raster : RasterWords} → Sound raster → 0 < set_of raster
set-some g = let e = set_is g in let h = g.some in omega arith
