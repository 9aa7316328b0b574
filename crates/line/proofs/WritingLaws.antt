-- Laws of texts laid over an output: one after the other, and those of a list. Assumes nothing.
use Prim.Native.Nat.{ℕ, suc, ◌+◌, ◌-◌, ◌^◌, ◌/◌, ◌%◌, ◌<◌, ◌≤◌}
use native.Mathlib.Omega.{arith}
use mathlib.Core.Path.{◌≡◌, refl, sym, ap, ◌∙◌}
use mathlib.Core.Bool.{Bool, true}
use mathlib.Core.List.{List, [], ◌∷◌, ◌++◌, append-nil, append_assoc}
use borrow.Author.Tests.{eq-eqb, ne_eqb}
use lib.ListN.{length, get_or, set, take, length-append, length-set, length-take}
use lib.Seq.{set_out}
use Rattle.std.proofs.lemmas.List.{take_more, take_all, flat_map_more}
use Rattle.line.specs.Digits.{each}
use Rattle.line.specs.Writing.{last_place, place_after, put_over, Laid, member, members, bits_set}

-- ── one text after the other
pub after_none : (at : ℕ) → place_after at 0 ≡ at
after_none at = omega arith

after_one : (at n : ℕ) → place_after at (suc n) ≡ place_after (place_after at 1) n
after_one at n = omega arith

pub next_place : (at : ℕ) → at < last_place → place_after at 1 ≡ at + 1
next_place at h = omega arith

pub after_on : (at m n : ℕ) → place_after (place_after at m) n ≡ place_after at (m + n)
after_on at m n = omega arith

pub laid_empty : (o : List ℕ) (at : ℕ) → put_over o at [] ≡ o
unfolding put_over
laid_empty o at = refl

laid_append : (o : List ℕ) (at : ℕ) (xs ys : List ℕ) → put_over (put_over o at xs) (place_after at (length xs)) ys ≡ put_over o at (xs ++ ys)
unfolding put_over
laid_append o at [] ys = ap (λ (p : ℕ). put_over o p ys) (after_none at)
laid_append o at (x ∷ xs) ys =
    ap (λ (p : ℕ). put_over (put_over (set o at x) (place_after at 1) xs) p ys) (after_one at (length xs)) ∙ laid_append (set o at x) (place_after at 1) xs ys

pub laid_on : (o : List ℕ) (at : ℕ) (xs : List ℕ) (q : ℕ) (ys : List ℕ) → q ≡ place_after at (length xs)
    → put_over (put_over o at xs) q ys ≡ put_over o at (xs ++ ys)
laid_on o at xs q ys e = rw e (laid_append o at xs ys)

pub laid_then : {o o₁ o₂ : List ℕ} {p q r : ℕ} {xs ys : List ℕ} → Laid o o₁ p q xs → Laid o₁ o₂ q r ys → Laid o o₂ p r (xs ++ ys)
laid_then a b = grind (arith, laid_on, after_on, length-append)

pub laid_two : (o : List ℕ) (at x y : ℕ) → at < last_place → set (set o at x) (at + 1) y ≡ put_over o at (x ∷ y ∷ [])
unfolding put_over
laid_two o at x y h = rw (next_place at h)

-- ── the texts of a list's numbers
pub each_more : (text : ℕ → List ℕ) (ns : List ℕ) (i : ℕ) → i < length ns
    → each text (take (i + 1) ns) ≡ each text (take i ns) ++ text (get_or ns i 0)
each_more text ns i h = rw (take_more ns i 0 h) (sym (flat_map_more text [] (take i ns) (get_or ns i 0)))

-- ── numbers of bits
-- what is laid of them before bit k, counted from the most significant, and what is left
module _ (bits k first : ℕ) (others : Bool) (text whole : List ℕ) (h : k < 64) (w : text ++ members others (bits_set bits (64 - k) (first + k)) ≡ whole) where
  left : 64 - k ≡ suc (63 - k)
  left = omega arith

  next : 64 - (k + 1) ≡ 63 - k
  next = omega arith

  number : first + (k + 1) ≡ first + k + 1
  number = omega arith

  pub bit_set : bits / 2 ^ (63 - k) % 2 ≡ 1
      → (text ++ member others (first + k)) ++ members true (bits_set bits (64 - (k + 1)) (first + (k + 1))) ≡ whole
  unfolding members bits_set
  bit_set e =
      rw (next, number, append_assoc text (member others (first + k)) (members true (bits_set bits (63 - k) (first + k + 1))))
      (rw (left, eq-eqb (bits / 2 ^ (63 - k) % 2) 1 e) at w)

  pub bit_clear : (bits / 2 ^ (63 - k) % 2 ≡ 1 → ⊥) → text ++ members others (bits_set bits (64 - (k + 1)) (first + (k + 1))) ≡ whole
  unfolding members bits_set
  bit_clear e = rw (next, number) (rw (left, ne_eqb (bits / 2 ^ (63 - k) % 2) 1 e) at w)

pub bits_done : (bits k n : ℕ) (others : Bool) (text : List ℕ) → 64 ≤ k → text ++ members others (bits_set bits (64 - k) n) ≡ text
unfolding members bits_set
bits_done bits k n others text h = let none : 64 - k ≡ 0 = omega arith in rw (none, append-nil)

pub ruleset laying = (laid_on, laid_empty, laid_two, after_on, after_none, each_more, take_more, take_all, length-append, length-take, append_assoc, append-nil)
