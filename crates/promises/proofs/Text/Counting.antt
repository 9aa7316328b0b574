-- The steps and the exposures of a text that the check passes, by counting its commands. Assumes nothing.
use Prim.Native.Nat.{ℕ, suc, ◌+◌, ◌*◌, ◌≤◌, ◌<◌}
use native.Mathlib.Omega.{arith}
use mathlib.Core.Path.{◌≡◌, refl, sym, ap, ap₂, subst, ◌∙◌}
use mathlib.Core.Bool.{Bool, true, false, ◌&&◌}
use mathlib.Core.List.{List, [], ◌∷◌, ◌++◌}
use lib.Dec.{ltb, leb}
use lib.ListN.{length}
use borrow.Author.Tests.{lt-ltb, le-ltb, le-leb, lt-leb}
use Rattle.octets.specs.Bytes.{byte_at}
use Rattle.sequence.specs.declared.Command.TheVariants.{LoopBack}
use Rattle.sequence.specs.Text.{command_at}
use Rattle.sequence.specs.Raster.{raster_at}
use Rattle.sequence.specs.Env.{Env}
use Rattle.sequence.proofs.Laws.{Bytes, command-bytes}
use Rattle.survey.specs.declared.Item.{Item}
use Rattle.survey.specs.declared.Item.TheVariants.{Pause, Scan}
use Rattle.survey.specs.declared.Closing.{Closing}
use Rattle.survey.specs.Items.{steps_of, exposures_of}
use Rattle.survey.specs.Walk.{count}
use Rattle.promises.specs.EachCheck.{outside, loop_back_of, target_of, steps_of_raster, steps_of_rasters, exposures_of_rasters, steps_of_sequence, exposures_of_sequence}
use Rattle.promises.proofs.Text.Lines.{closed, Body}
use Rattle.promises.proofs.Text.TextOrder.{Each, each_map, Within, Order, last, pause, raster, text-order, scans_of, rasters-of}

-- ── counts over places one after another
count-all : (f : ℕ → Bool) (xs ps : List ℕ) → Each (λ x. f x ≡ true) xs → count f (xs ++ ps) ≡ length xs + count f ps
count-all f [] ps a = omega arith
count-all f (x ∷ xs) ps (a, rest) = rw a (let e = count-all f xs ps rest in omega arith)

count_none : (f : ℕ → Bool) (xs ps : List ℕ) → Each (λ x. f x ≡ false) xs → count f (xs ++ ps) ≡ count f ps
count_none f [] ps a = refl
count_none f (x ∷ xs) ps (a, rest) = rw a (count_none f xs ps rest)

count-zero : (f : ℕ → Bool) (xs : List ℕ) → Each (λ x. f x ≡ false) xs → count f xs ≡ 0
count-zero f [] a = refl
count-zero f (x ∷ xs) (a, rest) = rw a (count-zero f xs rest)

-- ── past the commands in a raster
module _ (text : List ℕ) (a b : ℕ) where
  outside-past : (xs ps : List ℕ) → Within text a b xs → outside text true (xs ++ ps) ≡ outside text true ps
  outside-past [] ps w = refl
  outside-past (x ∷ xs) ps (((r, l), _, _), w) = rw (r, l) (outside-past xs ps w)

  loop-back-past : (xs ps : List ℕ) → Within text a b xs → loop_back_of text (xs ++ ps) ≡ loop_back_of text ps
  loop-back-past [] ps w = refl
  loop-back-past (x ∷ xs) ps (((r, l), _, _), w) = rw l (loop-back-past xs ps w)

  rasters-past : (xs ps : List ℕ) → Within text a b xs → steps_of_rasters text (xs ++ ps) ≡ steps_of_rasters text ps
  rasters-past [] ps w = refl
  rasters-past (x ∷ xs) ps (((r, l), _, _), w) = rw r (let e = rasters-past xs ps w in omega arith)

-- ── one raster
module _ (text : List ℕ) (t q : ℕ) (xs ys ps : List ℕ) (f : Within text 0 t xs) (g : Within text t q ys) (back : command_at text q ≡ LoopBack t) (l : t ≤ q) (later : Each (λ x. q < x) ps) where
  abbrev rest : List ℕ
  rest = xs ++ (ys ++ (q ∷ ps))

  abbrev before : ℕ → Bool
  before p = ltb p t

  abbrev from : ℕ → Bool
  from p = leb t p && leb p q

  loop-back : loop_back_of text rest ≡ q
  loop-back = loop-back-past text 0 t xs (ys ++ (q ∷ ps)) f ∙ loop-back-past text t q ys (q ∷ ps) g ∙ rw back

  target : target_of text rest ≡ t
  target =
      let b : Bytes text q (LoopBack t) = subst (Bytes text q) back (command-bytes text q) in
      ap (λ (x : ℕ). byte_at text (x + 1)) loop-back ∙ (let e = b.1 in omega arith)

  many-before : count before rest ≡ length xs
  many-before =
      let e = count-all before xs (ys ++ (q ∷ ps)) (each_map (λ x (_, _, c). lt-ltb x t c) xs f) in
      let e' = count_none before ys (q ∷ ps) (each_map (λ x (_, c, _). le-ltb x t c) ys g) in
      let z : count before (q ∷ ps) ≡ 0 = rw (le-ltb q t l) (count-zero before ps (each_map (λ x c. le-ltb x t (omega arith)) ps later)) in
      omega arith

  many-from : count from rest ≡ length ys + 1
  many-from =
      let e = count_none from xs (ys ++ (q ∷ ps)) (each_map (λ x (_, _, c). rw (lt-leb t x c)) xs f) in
      let e' = count-all from ys (q ∷ ps) (each_map (λ x (_, c, d). rw (le-leb t x c, le-leb x q (omega arith))) ys g) in
      let z : count from (q ∷ ps) ≡ 1 = rw (le-leb t q l, le-leb q q (omega arith)) (ap suc (count-zero from ps (each_map (λ x c. rw (le-leb t x (omega arith), lt-leb x q c)) ps later))) in
      omega arith

  raster-steps : (r : ℕ) → steps_of_raster text r rest ≡ (raster_at text r).repeats * (1 + length xs + (raster_at text r).loops * (length ys + 1))
  raster-steps r =
      ap₂ (λ (a b : ℕ). (raster_at text r).repeats * (1 + count (λ p. ltb p a) rest + (raster_at text r).loops * count (λ p. leb a p && leb p b) rest)) target loop-back
      ∙ ap₂ (λ (a b : ℕ). (raster_at text r).repeats * (1 + a + (raster_at text r).loops * b)) many-before many-from

-- ── a round
round-steps : {text : List ℕ} {closing : Closing} {ps : List ℕ} {items : List Item} → Order text closing ps items
    → outside text false ps + steps_of_rasters text ps ≡ steps_of text items + 1
round-steps (last i k) = rw (i.0, i.1)
round-steps (pause i o) = rw (i.0, i.1) (let e = round-steps o in omega arith)
round-steps {text} (raster {p} {t} {q} {before} {from} xs ys ps run f b g c back l later o) =
    let rest = xs ++ (ys ++ (q ∷ ps)) in
    let out : outside text true rest ≡ outside text false ps =
    outside-past text 0 t xs (ys ++ (q ∷ ps)) f ∙ outside-past text t q ys (q ∷ ps) g ∙ rw back in
    let more : steps_of_rasters text rest ≡ steps_of_rasters text ps =
    rasters-past text 0 t xs (ys ++ (q ∷ ps)) f ∙ rasters-past text t q ys (q ∷ ps) g ∙ rw back (omega arith) in
    let mine = raster-steps text t q xs ys ps f g back l later p
    ∙ ap₂ (λ (x y : ℕ). (raster_at text p).repeats * (1 + x + (raster_at text p).loops * (y + 1))) b c in
    let e = round-steps o in
    rw run (omega arith)

rasters-exposures : (text : List ℕ) (items : List Item) → exposures_of_rasters text (scans_of items) ≡ exposures_of text items
rasters-exposures text [] = refl
rasters-exposures text (Pause p ∷ items) = let e = rasters-exposures text items in omega arith
rasters-exposures text (Scan p t q before from ∷ items) = let e = rasters-exposures text items in omega arith

-- ── all rounds
pub counted-steps : {E : Env} {text : List ℕ} {e : ℕ} {items : List Item} {closing : Closing} → Body E text 4 items (closed e closing)
    → 1 + byte_at text 3 * (steps_of text items + 1) ≡ steps_of_sequence text
counted-steps {text} b = ap (λ (k : ℕ). 1 + byte_at text 3 * k) (sym (round-steps (text-order b)))

pub counted-exposures : {E : Env} {text : List ℕ} {e : ℕ} {items : List Item} {closing : Closing} → Body E text 4 items (closed e closing)
    → byte_at text 3 * exposures_of text items ≡ exposures_of_sequence text
counted-exposures {text} {items} b = ap (λ (k : ℕ). byte_at text 3 * k) (sym (ap (exposures_of_rasters text) (rasters-of b) ∙ rasters-exposures text items))
