-- What a positive answer about the starts of commands means: commands stand one after another up to there.
-- Assumes nothing.
use Rattle.std.proofs.Common.{◌≡◌, ℕ, zero, suc, ◌+◌, ◌<◌, ◌≤◌, true, false, ◌&&◌, eqb, ltb, leb, List, sym, refl, ◌∙◌, subst, suc-add, zero-add, arith, ltb-true, lt-ltb, eqb-true, leb-true}
use mathlib.Core.Bool.{false≢true}
use borrow.Author.Tests.{eqb-false}
use Rattle.octets.specs.Bytes.{byte_at}
use Rattle.octets.proofs.Bools.{and_both, or-either, by-test}
use Rattle.sequence.specs.declared.Command.TheVariants.{Expose}
use Rattle.sequence.specs.Text.{number_of, size_at}
use Rattle.sequence.specs.Starts.{starts, among, exposes_between, first_exposure}

-- n commands stand from p up to q
pub data Hops (text : List ℕ) : ℕ → ℕ → ℕ → Type 0 where
  here : {p : ℕ} → Hops text p p 0
  hop : {p q n : ℕ} → 0 < size_at text p → Hops text (p + size_at text p) q n → Hops text p q (suc n)

pub hops-le : {text : List ℕ} {p q n : ℕ} → Hops text p q n → p ≤ q
hops-le here = omega arith
hops-le (hop z h) = let l = hops-le h in omega arith

pub hops-snoc : {text : List ℕ} {p q n : ℕ} → Hops text p q n → 0 < size_at text q → Hops text p (q + size_at text q) (suc n)
hops-snoc here z = hop z here
hops-snoc (hop y h) z = hop y (hops-snoc h z)

pub hops-add : {text : List ℕ} {p q r m n : ℕ} → Hops text p q m → Hops text q r n → Hops text p r (m + n)
hops-add {n} here g = rw (zero-add n) g
hops-add {n} (hop {n = m} y h) g = rw (suc-add m n) (hop y (hops-add h g))

-- of two starts counted from one place, the later is counted from the earlier
pub hops-from : {text : List ℕ} {p q r n m : ℕ} → Hops text p q n → Hops text p r m → q ≤ r → (k : ℕ) × Hops text q r k
hops-from {m} here g l = (m, g)
hops-from (hop y h) here l = let w = hops-le h in absurd (omega arith)
hops-from (hop y h) (hop z g) l = hops-from h g l

-- ── a start that was found
pub start-hops : (text : List ℕ) (f p t : ℕ) → among t (starts text f p) ≡ true → (n : ℕ) × (Hops text p t n × (0 < size_at text t))
unfolding among starts
start-hops text zero p t h = absurd (false≢true h)
start-hops text (suc f) p t h =
    by-test (eqb (size_at text p) 0)
    (λ e. absurd (false≢true (rw e at h)))
    (λ e.
    let z : 0 < size_at text p = omega (arith, eqb-false (size_at text p) 0 e) in
    or-either (eqb p t) (among t (starts text f (p + size_at text p))) (rw e at h)
    (λ s. subst (λ (u : ℕ). (n : ℕ) × (Hops text p u n × (0 < size_at text u))) (eqb-true p t s) (0, (here, z)))
    (λ s. let (n, (g, y)) = start-hops text f (p + size_at text p) t s in (suc n, (hop z g, y))))

-- ── the first exposure that was found
-- x is a start with an expose, after r and before q, and no start before it has one after r
pub record First (text : List ℕ) (p r q x : ℕ) : Type 0 where
  pub is : byte_at text x ≡ number_of (Expose 0)
  pub after : r < x
  pub before : x < q
  pub whole : 0 < size_at text x
  pub reached : (n : ℕ) × Hops text p x n
  pub none : (y n : ℕ) → Hops text p y n → r < y → y < x → 0 < size_at text y → byte_at text y ≡ number_of (Expose 0) → ⊥

module _ (text : List ℕ) (r q p : ℕ) where
  first-here : 0 < size_at text p → exposes_between text r q p ≡ true → First text p r q p
  unfolding exposes_between
  first-here z e =
      let (a, d) = and_both (ltb r p) (ltb p q && eqb (byte_at text p) (number_of (Expose 0))) e in
      let (b, o) = and_both (ltb p q) (eqb (byte_at text p) (number_of (Expose 0))) d in
      record {
        is = eqb-true (byte_at text p) (number_of (Expose 0)) o;
        after = ltb-true r p a;
        before = ltb-true p q b;
        whole = z;
        reached = (0, here);
        none = λ y n h i j w o. let l = hops-le h in omega arith;
      }

  exposes : r < p → p < q → byte_at text p ≡ number_of (Expose 0) → exposes_between text r q p ≡ true
  unfolding exposes_between
  exposes a b o = rw (lt-ltb r p a, lt-ltb p q b, o)

  first-later : {x : ℕ} → 0 < size_at text p → exposes_between text r q p ≡ false → First text (p + size_at text p) r q x → First text p r q x
  first-later {x} z e f =
      record {
        is = f.is;
        after = f.after;
        before = f.before;
        whole = f.whole;
        reached = (suc f.reached.0, hop z f.reached.1);
        none = none;
      }
    where
      none : (y n : ℕ) → Hops text p y n → r < y → y < x → 0 < size_at text y → byte_at text y ≡ number_of (Expose 0) → ⊥
      none y n here i j w o = false≢true (sym e ∙ exposes i (omega arith) o)
      none y n (hop {n = m} v h) i j w o = f.none y m h i j w o

pub first_found : (text : List ℕ) (f p r q x : ℕ) → 0 < x → first_exposure text r q (starts text f p) ≡ x → First text p r q x
unfolding first_exposure starts
first_found text zero p r q x z h = absurd (omega arith)
first_found text (suc f) p r q x z h =
    by-test (eqb (size_at text p) 0)
    (λ e. let n : 0 ≡ x = rw e at h in absurd (omega arith))
    (λ e.
    let s : 0 < size_at text p = omega (arith, eqb-false (size_at text p) 0 e) in
    by-test (exposes_between text r q p)
    (λ o. subst (First text p r q) (rw (e, o) at h) (first-here text r q p s o))
    (λ o. first-later text r q p s o (first_found text f (p + size_at text p) r q x z (rw (e, o) at h))))

pub first-exposure : (text : List ℕ) (f p r q t : ℕ) → 0 < t → leb t (first_exposure text r q (starts text f p)) ≡ true
    → (x : ℕ) × ((first_exposure text r q (starts text f p) ≡ x) × ((t ≤ x) × First text p r q x))
first-exposure text f p r q t z h =
    let x = first_exposure text r q (starts text f p) in
    let l : t ≤ x = leb-true t x h in
    (x, (refl, (l, first_found text f p r q x (omega arith) refl)))
