-- What a loop back may jump to, by one walk of the starts: past those up to the raster, then on to its first exposure.
-- Assumes nothing.
use Rattle.std.proofs.Common.{◌≡◌, ℕ, ◌+◌, ◌<◌, ◌≤◌, Bool, true, false, ◌&&◌, ◌||◌, eqb, leb, List, length, sym, refl, arith, le-ltb, lt-ltb, ne_eqb, eqb-true, le-leb}
use mathlib.Core.Bool.{and-false, or_assoc}
use borrow.Author.Tests.{eqb-false, lt-leb}
use Rattle.octets.specs.Bytes.{byte_at}
use Rattle.octets.proofs.Bools.{or-either, by-test}
use Rattle.sequence.specs.declared.Command.TheVariants.{Expose}
use Rattle.sequence.specs.Text.{number_of, size_at}
use Rattle.sequence.specs.Starts.{starts, among, exposes_between, first_exposure}
use Rattle.sequence.proofs.Laws.{starts-off, starts_from}
use Rattle.sequence.proofs.Hops.{hops-le, start-hops, First, first_found}

at_last : (s e a l : Bool) → ((s || e) ≡ true → l ≡ true) → (a ≡ true → l ≡ false) → ((s || (e || a)) && l) ≡ (s || e)
at_last true e a l f g = f refl
at_last false true a l f g = f refl
at_last false false true l f g = g refl
at_last false false false l f g = refl

pub seen_by : (p t : ℕ) (s : Bool) → (s ≡ true → t < p) → (s || eqb p t) ≡ true → t ≤ p
seen_by p t s f h = or-either s (eqb p t) h (λ e. let l = f e in omega arith) (λ e. omega (arith, eqb-true p t e))

module _ (text : List ℕ) (r q t : ℕ) where
  -- the target was seen or is a start from p on, and is at or before the first exposure from p on
  abbrev pub leads : Bool → ℕ → Bool
  leads seen p = (seen || among t (starts text (length text) p)) && leb t (first_exposure text r q (starts text (length text) p))

  -- ── no exposure is found
  none_from : (p : ℕ) → q ≤ p → first_exposure text r q (starts text (length text) p) ≡ 0
  none_from p h =
      let x = first_exposure text r q (starts text (length text) p) in
      by-test (eqb x 0)
      (λ e. eqb-true x 0 e)
      (λ e.
      let w : First text p r q x = first_found text (length text) p r q x (omega (arith, eqb-false x 0 e)) refl in
      let l = hops-le w.reached.1 in
      absurd (omega arith))

  none-leads : (seen : Bool) (p : ℕ) → 0 < t → first_exposure text r q (starts text (length text) p) ≡ 0 → leads seen p ≡ false
  none-leads seen p h e = rw (e, lt-leb t 0 h) (and-false (seen || among t (starts text (length text) p)))

  pub leads-past : (seen : Bool) (p : ℕ) → 0 < t → q ≤ p → leads seen p ≡ false
  leads-past seen p h l = none-leads seen p h (none_from p l)

  pub leads-off : (seen : Bool) (p size : ℕ) → 0 < t → size ≡ size_at text p → size ≡ 0 → leads seen p ≡ false
  unfolding first_exposure
  leads-off seen p size h e z = none-leads seen p h (rw (starts-off text (length text) p size e z))

  -- ── a command stands at p
  module _ (p size : ℕ) (e : size ≡ size_at text p) (z : size ≡ 0 → ⊥) where
    pub leads-before : r < t → p ≤ r → leads false p ≡ leads false (p + size)
    unfolding among first_exposure exposes_between
    leads-before h l = rw (starts_from text p size e z, ne_eqb p t (λ f. omega arith), le-ltb r p l)

    module _ (seen : Bool) (h : r < p) (l : p < q) where
      pub leads-on : (byte_at text p ≡ number_of (Expose 0) → ⊥) → leads seen p ≡ leads (seen || eqb p t) (p + size)
      unfolding among first_exposure exposes_between
      leads-on o = rw (starts_from text p size e z, lt-ltb r p h, lt-ltb p q l, ne_eqb (byte_at text p) (number_of (Expose 0)) o, ← or_assoc seen (eqb p t))

      pub leads-at : byte_at text p ≡ number_of (Expose 0) → (seen ≡ true → t < p) → (seen || eqb p t) ≡ leads seen p
      unfolding among first_exposure exposes_between
      leads-at o f =
          rw (starts_from text p size e z, lt-ltb r p h, lt-ltb p q l, o)
          (sym (at_last seen (eqb p t) (among t (starts text (length text) (p + size))) (leb t p) (λ k. le-leb t p (seen_by p t seen f k))
          (λ k. let w = hops-le (start-hops text (length text) (p + size) t k).1.0 in lt-leb t p (omega arith))))
