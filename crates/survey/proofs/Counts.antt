-- The commands that start from one place up to another, counted over the text's starts, are those that are counted one by one; and the walk
-- stands where it can count them so. Assumes nothing.
use Prim.Native.Nat.{ℕ, zero, suc, ◌+◌, ◌≤◌, ◌<◌, zero-le, suc-le-suc}
use native.Mathlib.Nat.{le_refl}
use native.Mathlib.Omega.{arith}
use mathlib.Core.Path.{◌≡◌, refl, sym, ap, ◌∙◌}
use mathlib.Core.Bool.{Bool, true, ◌&&◌}
use mathlib.Core.List.{List, [], ◌∷◌}
use lib.Dec.{ltb, leb, eqb}
use lib.ListN.{length}
use borrow.Author.Tests.{ltb-true, le-leb, lt-leb, le-ltb, lt-ltb, eq-eqb, ne_eqb}
use Rattle.std.specs.Prelude.{Option, Some, None}
use Rattle.octets.proofs.Bools.{and_both, choice}
use Rattle.sequence.specs.Text.{size_at}
use Rattle.sequence.specs.Starts.{starts, starts_of, among, first_exposure, target_good}
use Rattle.sequence.proofs.Laws.{size-inside}
use Rattle.sequence.proofs.Hops.{Hops, here, hop, hops-le, hops-snoc, hops-add, hops-from, start-hops, first-exposure}
use Rattle.runner.specs.declared.Opened.{Opened}
use Rattle.survey.specs.Walk.{count, commands, scan}
use Rattle.survey.specs.Held.{between, counted_scan}

-- ── no count is more than the text has bytes
count_most : (has : ℕ → Bool) (ps : List ℕ) → count has ps ≤ length ps
count_most has [] = zero-le
count_most has (p ∷ ps) =
    let h = count_most has ps in
    choice (λ (k : ℕ). k ≤ suc (length ps)) (has p) _ _ (λ _. suc-le-suc h) (λ _. omega arith)

starts-most : (text : List ℕ) (f p : ℕ) → length (starts text f p) ≤ f
unfolding starts
starts-most text zero p = zero-le
starts-most text (suc f) p =
    choice (λ (ps : List ℕ). length ps ≤ suc f) (eqb (size_at text p) 0) _ _ (λ _. zero-le) (λ _. suc-le-suc (starts-most text f (p + size_at text p)))

pub commands-most : (text : List ℕ) (a b : ℕ) → commands text a b ≤ length text
unfolding starts_of
commands-most text a b =
    let c = count_most (λ p. leb a p && ltb p b) (starts_of text) in
    let s = starts-most text (length text) 4 in
    omega arith

pub between-most : (text : List ℕ) (f p t : ℕ) → between text f p t ≤ f
unfolding between
between-most text zero p t = zero-le
between-most text (suc f) p t = choice (λ (k : ℕ). k ≤ suc f) (eqb p t) _ _ (λ _. zero-le) (λ _. suc-le-suc (between-most text f (p + size_at text p) t))

-- ── n commands stand from a up to b
module _ (text : List ℕ) (a b : ℕ) (l : a ≤ b) where
  abbrev inside : ℕ → Bool
  inside p = leb a p && ltb p b

  none-later : (f p : ℕ) → b ≤ p → count inside (starts text f p) ≡ 0
  unfolding starts
  none-later zero p h = refl
  none-later (suc f) p h =
      choice (λ (ps : List ℕ). count inside ps ≡ 0) (eqb (size_at text p) 0) _ _ (λ _. refl)
      (λ _. rw (le-leb a p (omega arith), le-ltb p b h) (none-later f (p + size_at text p) (omega arith)))

  from-here : {p n : ℕ} → Hops text p b n → a ≤ p → (f : ℕ) → b ≤ p + f → count inside (starts text f p) ≡ n
  unfolding starts
  from-here here h f e = none-later f b (le_refl b)
  from-here (hop z g) h zero e = let w = hops-le g in absurd (omega arith)
  from-here (hop {p} z g) h (suc f) e =
      let w = hops-le g in
      rw (ne_eqb (size_at text p) 0 (λ s. omega arith), le-leb a p h, lt-ltb p b (omega arith)) (ap suc (from-here g (omega arith) f (omega arith)))

  from-before : {p m n : ℕ} → Hops text p a m → Hops text a b n → (f : ℕ) → b ≤ p + f → count inside (starts text f p) ≡ n
  unfolding starts
  from-before here g f e = from-here g (le_refl a) f e
  from-before (hop z h) g zero e = let w = hops-le h in absurd (omega arith)
  from-before (hop {p} z h) g (suc f) e =
      let w = hops-le h in
      rw (ne_eqb (size_at text p) 0 (λ s. omega arith), lt-leb a p (omega arith)) (from-before h g f (omega arith))

pub commands-hops : {text : List ℕ} {a b m n : ℕ} → Hops text 4 a m → Hops text a b n → b ≤ length text → commands text a b ≡ n
unfolding starts_of
commands-hops {text} {a} {b} h g e = from-before text a b (hops-le g) h g (length text) (omega arith)

pub between-hops : {text : List ℕ} {p t n : ℕ} → Hops text p t n → (f : ℕ) → t ≤ p + f → between text f p t ≡ n
unfolding between
between-hops here zero l = refl
between-hops (here {p}) (suc f) l = rw (eq-eqb p p refl)
between-hops (hop z h) zero l = let w = hops-le h in absurd (omega arith)
between-hops {t} (hop {p} z h) (suc f) l =
    let w = hops-le h in
    rw (ne_eqb p t (λ e. omega arith)) (ap suc (between-hops h f (omega arith)))

-- ── where the walk stands
-- commands stand from place 4 up to p
abbrev pub Start : List ℕ → ℕ → Type 0
Start text p = (n : ℕ) × Hops text 4 p n

-- and the open raster's run raster is one of them
abbrev pub Reached : List ℕ → ℕ → Option Opened → Type 0
Reached text p None = Start text p
Reached text p (Some opened) = Start text opened.place.0 × ((n : ℕ) × Hops text opened.place.0 p (suc n))

pub reached-start : (text : List ℕ) (p : ℕ) (o : Option Opened) → Reached text p o → Start text p
reached-start text p None s = s
reached-start text p (Some opened) ((m, h), (n, g)) = (m + suc n, hops-add h g)

pub reached-on : (text : List ℕ) (p : ℕ) (o : Option Opened) → Reached text p o → 0 < size_at text p → Reached text (p + size_at text p) o
reached-on text p None (n, h) z = (suc n, hops-snoc h z)
reached-on text p (Some opened) (s, (n, g)) z = (s, (suc n, hops-snoc g z))

-- ── a raster closed by a loop back with a good target
-- the first hop of several
pub peel : {text : List ℕ} {p t k : ℕ} → Hops text p t k → p < t → (m : ℕ) × Hops text (p + size_at text p) t m
peel here l = absurd (omega arith)
peel (hop {n} z h) l = (n, h)

pub scan-counted : (text : List ℕ) (r t q a n : ℕ) → Hops text 4 r a → Hops text r q (suc n) → 0 < size_at text q → target_good text r q t ≡ true
    → scan text r t q ≡ counted_scan text r t q
unfolding target_good starts_of
scan-counted text r t q a n hr hq z good =
    let (after, rest) = and_both (ltb r t) (among t (starts_of text) && leb t (first_exposure text r q (starts_of text))) good in
    let (start, early) = and_both (among t (starts_of text)) (leb t (first_exposure text r q (starts_of text))) rest in
    let i = ltb-true r t after in
    let (m, (ht, some)) = start-hops text (length text) 4 t start in
    let (x, (ex, (l, first))) = first-exposure text (length text) 4 r q t (omega arith) early in
    let u = first.before in
    let inner = (size-inside text q z).0 in
    let (k, hk) = peel (hops-from hr ht (omega arith)).1 i in
    let (j, hj) = hops-from ht (hops-add hr hq) (omega arith) in
    let w = first-size hq in
    let e : commands text (r + size_at text r) t ≡ between text t (r + size_at text r) t =
    commands-hops (hops-snoc hr w) hk (omega arith) ∙ sym (between-hops hk t (omega arith)) in
    let g : commands text t q ≡ between text q t q = commands-hops ht hj (omega arith) ∙ sym (between-hops hj q (omega arith)) in
    rw (e, g)
  where
    first-size : {p q n : ℕ} → Hops text p q (suc n) → 0 < size_at text p
    first-size (hop y h) = y
