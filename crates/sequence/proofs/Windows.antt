-- Laws of a line list's windows: the bits of a header, the marks that a walk over the bytes sees, and the marks that a card has.
-- Assumes nothing.
use Rattle.std.proofs.Common.{Ok, ◌≡◌, ℕ, zero, suc, ◌+◌, ◌-◌, ◌*◌, ◌/◌, ◌%◌, max, ◌<◌, ◌≤◌, Bool, true, false, cond, ◌&&◌, ◌||◌, eqb, leb, ◌⊎◌, List, length, take, sym, refl, ap, ◌∙◌, ⊎_elim, arith, length-take, get_or-take, eqb-true, leb-false, leb-true}
use lib.Bits.{bit_or, or_comm}
use Rattle.std.specs.Int.{bit_at}
use Rattle.std.proofs.lemmas.Bool.Decides.{nat_tests}
use Rattle.std.proofs.lemmas.Nat.Bits.{bit_at_or, bit_at-lt, bit_at-zero, bit_at_cat_low}
use Rattle.octets.specs.Bytes.{byte_at, byte_bit, word_bit}
use borrow.Author.Tests.{eqb-false}
use Rattle.octets.proofs.Bools.{and_both, by-test, agree, agreed, all_below, below_all}
use Rattle.octets.proofs.Laws.{byte_past}
use Rattle.sequence.specs.declared.Marks.{Marks}
use Rattle.sequence.specs.LineList.{marked, marks_of, marks_read, no_marks, ListCard, card_with}

-- ── bits
-- bit 8 + b of a word is bit b of its low byte
header-bit : (high low b : ℕ) → b < 8 → word_bit (8 + b) (high * 256 + low) ≡ byte_bit b low
header-bit high low b h =
    let e : 15 - (8 + b) ≡ 7 - b = omega arith in
    ap (λ (n : ℕ). eqb n 1) (ap (bit_at (high * 256 + low)) e ∙ bit_at_cat_low high 8 low (7 - b) (omega arith))

-- 0 has none
zero_bit : (b : ℕ) → byte_bit b 0 ≡ false
zero_bit b = ap (λ (n : ℕ). eqb n 1) (bit_at-zero (7 - b))

-- a bit of two bytes put together is set where it is in one of them
either-bit : (m n : ℕ) → m < 2 → n < 2 → eqb (max m n) 1 ≡ (eqb m 1 || eqb n 1)
either-bit m n h k = grind (arith, nat_tests)

or-bit : (x y b : ℕ) → byte_bit b (bit_or x y) ≡ (byte_bit b x || byte_bit b y)
or-bit x y b = let e = 7 - b in ap (λ (n : ℕ). eqb n 1) (bit_at_or x y e) ∙ either-bit (bit_at x e) (bit_at y e) (bit_at-lt x e) (bit_at-lt y e)

-- ── the walk over the bytes
-- the code's count at byte k, what it tells of it, and that this is right of every byte that a list can have: one test, computed
abbrev pub count_at : ℕ → ℕ
count_at k = (251 + 171 * k) % 256

abbrev pub count_low : ℕ → Bool
count_low count = eqb (count % 2) 0 && leb count 48

abbrev is_low : ℕ → Bool
is_low k = leb 15 k && eqb (k % 6) 3

abbrev count_right : ℕ → Bool
count_right k = agree (count_low (count_at k)) (is_low k)

counts-right : all_below count_right 164 ≡ true
counts-right = refl

module _ (list : List ℕ) where
  -- what is seen in the first k bytes: the marks of the windows whose headers stand there whole
  abbrev pub Seen : ℕ → ℕ → Type 0
  Seen seen k = (b : ℕ) → b < 8 → byte_bit b seen ≡ marked list (8 + b) ((k - 10) / 6)

  pub seen_none : Seen 0 0
  unfolding marked
  seen_none b h = zero_bit b

  -- the low byte of a header more; any other byte more
  low-seen : (seen k : ℕ) → is_low k ≡ true → Seen seen k → Seen (bit_or seen (byte_at list k)) (k + 1)
  unfolding marked
  low-seen seen k e s b h =
      let (a, r) = and_both (leb 15 k) (eqb (k % 6) 3) e in
      let from = leb-true 15 k a in
      let rest = eqb-true (k % 6) 3 r in
      let w = (k - 10) / 6 in
      let next : (k + 1 - 10) / 6 ≡ suc w = omega arith in
      let at : 14 + 6 * w + 1 ≡ k = omega arith in
      rw (next, or_comm seen (byte_at list k), or-bit (byte_at list k) seen b, s b h, header-bit (byte_at list (14 + 6 * w)) (byte_at list (14 + 6 * w + 1)) b h, at)

  other-seen : (seen k : ℕ) → is_low k ≡ false → Seen seen k → Seen seen (k + 1)
  other-seen seen k e s b h = s b h ∙ ap (marked list (8 + b)) (by-test (leb 15 k) (λ t. let n = eqb-false (k % 6) 3 (rw t at e) in omega (arith, leb-true 15 k t)) (λ t. omega (arith, leb-false 15 k t)))

  -- byte k more, as the count at it has it
  pub seen-on : (seen new k count : ℕ) → k < 164 → count ≡ count_at k
      → ((count_low count ≡ true) × (new ≡ bit_or seen (byte_at list k))) ⊎ ((count_low count ≡ false) × (new ≡ seen)) → Seen seen k → Seen new (k + 1)
  seen-on seen new k count h c way s =
      let is : is_low k ≡ count_low count = sym (ap count_low c ∙ agreed (count_low (count_at k)) (is_low k) (below_all count_right 164 k counts-right h)) in
      ⊎_elim
      (λ w b d. ap (byte_bit b) w.1 ∙ low-seen seen k (is ∙ w.0) s b d)
      (λ w b d. ap (byte_bit b) w.1 ∙ other-seen seen k (is ∙ w.0) s b d)
      way

-- ── the marks of a list
-- a header whose low byte is past the end has no mark
past-unmarked : (s : List ℕ) (b n : ℕ) → b < 8 → length s ≤ 15 + 6 * n → (m : ℕ) → n ≤ m → marked s (8 + b) m ≡ marked s (8 + b) n
unfolding marked
past-unmarked s b n h l zero g = let e : 0 ≡ n = omega arith in ap (marked s (8 + b)) e
past-unmarked s b n h l (suc m) g =
    let at = 14 + 6 * m in
    by-test (eqb n (suc m))
    (λ t. ap (marked s (8 + b)) (sym (eqb-true n (suc m) t)))
    (λ t.
    let other = eqb-false n (suc m) t in
    let past : length s ≤ at + 1 = omega arith in
    rw (header-bit (byte_at s at) (byte_at s (at + 1)) b h, byte_past s (at + 1) past, zero_bit b) (past-unmarked s b n h l m (omega arith)))

-- the windows of a list stand in as many bytes as they take
taken-marked : (l : List ℕ) (len b n : ℕ) → 14 + 6 * n ≤ len → marked (take len l) b n ≡ marked l b n
unfolding marked
taken-marked l len b zero h = refl
taken-marked l len b (suc n) h =
    let at = 14 + 6 * n in
    rw (get_or-take len l at 0 (omega arith), get_or-take len l (at + 1) 0 (omega arith), taken-marked l len b n (omega arith))

-- so a walk over those bytes sees the marks of all its windows
list-marked : (l whole : List ℕ) (n b : ℕ) → b < 8 → whole ≡ take (14 + 6 * n) l → marked whole (8 + b) ((length whole - 10) / 6) ≡ marked l (8 + b) n
list-marked l whole n b h e =
    let w = (length whole - 10) / 6 in
    let short : length whole ≤ 14 + 6 * n = rw (e, length-take) (omega arith) in
    sym (past-unmarked whole b w h (omega arith) n (omega arith)) ∙ ap (λ (s : List ℕ). marked s (8 + b) n) e ∙ taken-marked l (14 + 6 * n) (8 + b) n (omega arith)

-- the marks in what such a walk has seen are the list's, if they were wanted
by-wanted : (wanted a v f : Bool) → let m : Marks = record { aec = wanted && a; event = wanted && v; flare = wanted && f } in
    m ≡ cond wanted (record { aec = a; event = v; flare = f }) no_marks
by-wanted true a v f = refl
by-wanted false a v f = refl

-- the card of a good list with the marks of the windows that byte 2 counts, if they were wanted
pub with-marks : (l : List ℕ) (n : ℕ) → n ≡ byte_at l 2 → (wanted : Bool) (m : Marks)
    → m.aec ≡ (wanted && marked l 11 n) → m.event ≡ (wanted && marked l 12 n) → m.flare ≡ (wanted && marked l 13 n)
    → ◌≡◌ {A = ListCard} (Ok m) (card_with wanted (Ok (marks_of l)))
unfolding marks_of
with-marks l n counted true m a v f = λ i. Ok (record { aec = (a ∙ ap (marked l 11) counted) i; event = (v ∙ ap (marked l 12) counted) i; flare = (f ∙ ap (marked l 13) counted) i })
with-marks l n counted false m a v f = λ i. Ok (record { aec = a i; event = v i; flare = f i })

pub marks-seen : (l whole : List ℕ) (n : ℕ) (wanted : Bool) (seen : ℕ) → n ≡ byte_at l 2 → whole ≡ take (14 + 6 * n) l
    → ((b : ℕ) → b < 8 → byte_bit b seen ≡ (wanted && marked whole (8 + b) ((length whole - 10) / 6))) → marks_read seen ≡ cond wanted (marks_of l) no_marks
unfolding marks_of
marks-seen l whole n wanted seen counted e s = rw (has 3 (omega arith), has 4 (omega arith), has 5 (omega arith)) (by-wanted wanted _ _ _)
  where
    has : (b : ℕ) → b < 8 → byte_bit b seen ≡ (wanted && marked l (8 + b) (byte_at l 2))
    has b h = s b h ∙ ap (λ (t : Bool). wanted && t) (list-marked l whole n b h e ∙ ap (marked l (8 + b)) counted)
