-- A raster's line of commands splits at a good loop target: "the start of a command .. at or before this raster's first exposure".
-- Assumes nothing.
use Rattle.std.specs.Prelude.{None}
use Prim.Native.Nat.{ℕ, suc, ◌+◌, ◌≤◌, ◌<◌}
use native.Mathlib.Omega.{arith}
use mathlib.Core.Path.{◌≡◌, refl}
use mathlib.Core.Bool.{true, ◌&&◌}
use mathlib.Core.List.{List}
use lib.Dec.{ltb, leb}
use lib.ListN.{length}
use borrow.Author.Tests.{ltb-true, eqb-true}
use Rattle.octets.specs.Bytes.{byte_at}
use Rattle.octets.proofs.Bools.{and_both}
use Rattle.memory.specs.Memory.{place_at}
use Rattle.sequence.specs.declared.Command.TheVariants.{Expose}
use Rattle.sequence.specs.Text.{number_of, size_at}
use Rattle.sequence.specs.Starts.{starts_of, among, first_exposure, target_good}
use Rattle.sequence.specs.Raster.{raster_at}
use Rattle.sequence.specs.Env.{Env}
use Rattle.sequence.proofs.Hops.{Hops, here, hop, hops-le, hops-snoc, hops-from, start-hops, First, first-exposure}
use Rattle.runner.specs.declared.Act.TheVariants.{Opens, Exposes, Waits}
use Rattle.runner.specs.Judge.{set_of, judge}
use Rattle.survey.proofs.Counts.{peel}
use Rattle.promises.proofs.Text.Rules.{waits-size, exposes-size, exposes-byte, opens-size}
use Rattle.promises.proofs.Text.Lines.{InRaster, Line, stop, delay, expose}

-- ── the commands of a line
pub line-hops : {E : Env} {text : List ℕ} {r p c len p' c' : ℕ} → Line E text r p c len p' c' → Hops text p p' len
line-hops stop = here
line-hops {E} {text} {r} (delay {p} {c} j l) = hop (waits-size E text p _ (j 0)) (line-hops l)
line-hops {E} {text} {r} (expose {p} {c} j h l) = hop (exposes-size E text p _ (place_at r) (j 0)) (line-hops l)

pub line-most : {E : Env} {text : List ℕ} {r p c len p' c' : ℕ} → Line E text r p c len p' c' → c ≤ set_of (raster_at text r) → c' ≤ set_of (raster_at text r)
line-most stop h = h
line-most (delay j l) h = line-most l h
line-most (expose j k l) h = line-most l (omega arith)

pub line-delay : {E : Env} {text : List ℕ} {r p c len p' c' : ℕ} → Line E text r p c len p' c' → InRaster E text r p' c' Waits
    → Line E text r p c (suc len) (p' + size_at text p') c'
line-delay stop k = delay k stop
line-delay (delay j l) k = delay j (line-delay l k)
line-delay (expose j h l) k = expose j h (line-delay l k)

pub line-expose : {E : Env} {text : List ℕ} {r p c len p' c' : ℕ} → Line E text r p c len p' c' → InRaster E text r p' c' (Exposes (place_at r))
    → c' < set_of (raster_at text r) → Line E text r p c (suc len) (p' + size_at text p') (c' + 1)
line-expose stop k z = expose k z stop
line-expose (delay j l) k z = delay j (line-expose l k z)
line-expose (expose j h l) k z = expose j h (line-expose l k z)

-- ── the split
pub record Split (E : Env) (text : List ℕ) (r p t q c len before : ℕ) : Type 0 where
  pub from : ℕ
  pub first : Line E text r p 0 before t 0
  pub again : Line E text r t 0 from q c
  pub joined : len ≡ before + from

-- no exposure stands in the line before the target: x is the raster's first exposure
split : {E : Env} {text : List ℕ} {r p t q c len k : ℕ} → Line E text r p 0 len q c → 0 < c → Hops text p t k → (a b x : ℕ) → Hops text 4 p a → r < p → First text 4 r b x → t ≤ x
    → Split E text r p t q c len k
split stop z here a b x s i f h = record { from = 0; first = stop; again = stop; joined = refl }
split stop z (hop y g) a b x s i f h = absurd (omega arith)
split (delay {len} j l) z here a b x s i f h = record { from = suc len; first = stop; again = delay j l; joined = omega arith }
split (expose {len} j y l) z here a b x s i f h = record { from = suc len; first = stop; again = expose j y l; joined = omega arith }
split {E} {text} {r} {t} (delay {p} j l) z (hop y g) a b x s i f h = put (split l z g (suc a) b x (hops-snoc s y) (omega arith) f h)
  where
    put : {q c m k : ℕ} → Split E text r (p + size_at text p) t q c m k → Split E text r p t q c (suc m) (suc k)
    put d = record { from = d.from; first = delay j d.first; again = d.again; joined = (let e = d.joined in omega arith) }
split {E} {text} {r} {t} (expose {p} {c} j v l) z (hop y g) a b x s i f h =
    let w = hops-le g in
    absurd (f.none p a s i (omega arith) y (eqb-true (byte_at text p) (number_of (Expose 0)) (exposes-byte E text p _ (place_at r) (j 0))))

pub target-size : (text : List ℕ) (r q t : ℕ) → target_good text r q t ≡ true → 0 < size_at text t
unfolding target_good starts_of
target-size text r q t g =
    let (after, rest) = and_both (ltb r t) (among t (starts_of text) && leb t (first_exposure text r q (starts_of text))) g in
    (start-hops text (length text) 4 t (and_both (among t (starts_of text)) (leb t (first_exposure text r q (starts_of text))) rest).0).1.1

-- the raster at r, up to its loop back at q with a good target t
pub target-split : (E : Env) (text : List ℕ) (r q t c len a : ℕ) → Hops text 4 r a → judge E.cards text r None ≡ Opens → Line E text r (r + size_at text r) 0 len q c → 0 < c
    → target_good text r q t ≡ true → (k : ℕ) × Hops text (r + size_at text r) t k × Split E text r (r + size_at text r) t q c len k
unfolding target_good starts_of
target-split E text r q t c len a s j l z g =
    let (after, rest) = and_both (ltb r t) (among t (starts_of text) && leb t (first_exposure text r q (starts_of text))) g in
    let (start, early) = and_both (among t (starts_of text)) (leb t (first_exposure text r q (starts_of text))) rest in
    let i = ltb-true r t after in
    let y = opens-size E text r j in
    let (m, (ht, some)) = start-hops text (length text) 4 t start in
    let (x, (ex, (h, f))) = first-exposure text (length text) 4 r q t (omega arith) early in
    let (n, hr) = hops-from s ht (omega arith) in
    let (k, hk) = peel hr i in
    (k, hk, split l z hk (suc a) q x (hops-snoc s y) (omega arith) f h)
