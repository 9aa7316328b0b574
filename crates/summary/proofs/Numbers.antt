-- A card's bytes, read: each number is the one that was written. Assumes nothing.
use Prim.Native.Nat.{ℕ, ◌+◌, ◌-◌, ◌^◌, ◌≤◌, ◌<◌, min}
use native.Mathlib.Omega.{arith}
use mathlib.Core.Path.{◌≡◌, ◌∙◌}
use mathlib.Core.List.{List, [], ◌∷◌, ◌++◌}
use lib.ListN.{length, take, drop, length-drop}
use lib.Seq.{length-take-le}
use Rattle.std.proofs.lemmas.List.{get_or-append-add, get_or-drop}
use Rattle.octets.specs.Bytes.{number_at, eight}
use Rattle.octets.proofs.Laws.{number-part, number-back, eight-byte}
use Rattle.summary.specs.declared.Head.{Head}
use Rattle.summary.specs.Card.{laid_out, used_in}

-- the number in a part of at most eight bytes is the one at its place
pub part-number : (s : List ℕ) (at size : ℕ) → size ≤ 8 → at + size ≤ length s → number_at (take size (drop at s)) 0 (min (length (take size (drop at s))) 8) ≡ number_at s at size
part-number s at size few h =
    let l : length (take size (drop at s)) ≡ size = length-take-le size (drop at s) (let d = length-drop at s in omega arith) in
    let m : min size 8 ≡ size = omega arith in
    rw (l, m) (number-part s at size size (omega arith))

module _ (h : Head) (k x u : ℕ) where
  abbrev card : List ℕ
  card = laid_out h k x u

  -- what stands before the numbers and behind the exposures
  abbrev head : List ℕ
  head = h.fault ∷ h.place ∷ h.code ∷ h.closing ∷ h.target ∷ h.number ∷ h.value ∷ 0 ∷ []

  abbrev behind : List ℕ
  behind = drop 2 (eight u) ++ (0 ∷ 0 ∷ [])

  pub steps_back : k < 2 ^ 64 → number_at card 8 8 ≡ k
  steps_back l =
      number-back card 8 8 k l (λ i m. get_or-append-add head (eight k ++ (eight x ++ behind)) i 0 ∙ eight-byte k (eight x ++ behind) i m)

  pub exposures-back : x < 2 ^ 64 → number_at card 16 8 ≡ x
  exposures-back l =
      number-back card 16 8 x l (λ i m. get_or-append-add (head ++ eight k) (eight x ++ behind) i 0 ∙ eight-byte x behind i m)

  pub used-back : u < 2 ^ 48 → used_in card ≡ u
  used-back l = number-back card 24 6 u l (λ i m.
      let e : 7 - (2 + i) ≡ 6 - 1 - i = omega arith in
      let whole : List ℕ = eight u ++ (0 ∷ 0 ∷ []) in
      get_or-append-add (head ++ (eight k ++ eight x)) behind i 0
      ∙ (get_or-drop 2 whole i 0 ∙ rw (← e) (eight-byte u (0 ∷ 0 ∷ []) (2 + i) (omega arith))))
