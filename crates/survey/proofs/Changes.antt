-- Laws of the first byte that changed: in an entry, in the marked ones of a table, and by address. Assumes nothing.
use Prim.Native.Nat.{ℕ, suc, ◌+◌, ◌*◌, ◌-◌, ◌≤◌, ◌<◌, ◌/◌, ◌%◌, min}
use native.Mathlib.Nat.{add_comm, suc-mul, zero-mul, div-add-mod', le_trans, le_of_eq, mul-le-mul_right}
use native.Mathlib.Omega.{arith}
use mathlib.Core.Path.{◌≡◌, refl, sym, ap, ◌∙◌}
use mathlib.Core.Bool.{Bool, true, false, cond, not, ◌&&◌}
use mathlib.Core.List.{List}
use mathlib.Core.Logic.{◌↔◌}
use lib.Dec.{ltb, eqb}
use lib.ListN.{take, drop}
use lib.Arith.{digits_div, digits_mod}
use borrow.Author.Tests.{ltb-true, lt-ltb, le-ltb, eq-eqb, ne_eqb, eqb-false, not-true}
use Rattle.std.specs.Prelude.{Option, Some, None}
use Rattle.octets.specs.Bytes.{byte_at}
use Rattle.octets.proofs.Bools.{and_both, by-test}
use Rattle.memory.specs.declared.Format.{Format}
use Rattle.memory.proofs.Laws.{part-byte}
use Rattle.sequence.specs.Starts.{among}
use Rattle.survey.specs.Still.{lists_over, in_entries, another, changed_in, changed_at, first_of, lowest_changed}
use Rattle.survey.specs.Held.{found_below}
use Rattle.survey.proofs.Search.{below-some, below-none, first-none, first-split, first-shift, first-skip, ltb-shift}

-- ── entries of one size, one after another
-- the byte at an offset is byte i of entry n, one of these, within its length
abbrev pub InEntry : ℕ → List ℕ → List ℕ → ℕ → Type 0
InEntry size table entries at = (n : ℕ) × (i : ℕ) × (among n entries ≡ true) × (i < byte_at (take size (drop (n * size) table)) 0) × (at ≡ n * size + i)

module _ (size : ℕ) (some : 0 < size) (table : List ℕ) where
  -- byte 0 of an entry stands where the entry begins
  length-byte : (n : ℕ) → byte_at (take size (drop (n * size) table)) 0 ≡ byte_at table (n * size)
  length-byte n = let e : n * size + 0 ≡ n * size = omega arith in part-byte table (n * size) size 0 some ∙ ap (byte_at table) e

  module _ (entries : List ℕ) (at : ℕ) where
    -- the test tells such a byte
    entry_in : in_entries size table entries at ≡ true → InEntry size table entries at
    unfolding in_entries
    entry_in e =
        let (a, b) = and_both (among (at / size) entries) (ltb (at % size) (byte_at table (at / size * size))) e in
        let l = ltb-true (at % size) (byte_at table (at / size * size)) b in
        let f = length-byte (at / size) in
        (at / size, at % size, a, omega arith, sym (div-add-mod' at size))

    -- and holds of each, where no entry is longer than it has room
    in_entry : ((n : ℕ) → among n entries ≡ true → byte_at (take size (drop (n * size) table)) 0 ≤ size) → InEntry size table entries at → in_entries size table entries at ≡ true
    unfolding in_entries
    in_entry short (n, i, a, l, e) =
        let s = short n a in
        let f = length-byte n in
        let small : i < size = omega arith in
        rw (e, digits_div n small, digits_mod n small, a) (lt-ltb i (byte_at table (n * size)) (omega arith))

-- such a byte is another in the second table
pub changed-exactly : (size : ℕ) → 0 < size → (was is entries : List ℕ) (at : ℕ) → ((n : ℕ) → among n entries ≡ true → byte_at (take size (drop (n * size) was)) 0 ≤ size)
    → (changed_in size was is entries at ≡ true) ↔ (InEntry size was entries at × (byte_at is at ≡ byte_at was at → ⊥))
unfolding changed_in
changed-exactly size some was is entries at short = (
  λ e.
      let (a, b) = and_both (in_entries size was entries at) (not (eqb (byte_at was at) (byte_at is at))) e in
      (entry_in size some was entries at a, λ s. eqb-false (byte_at was at) (byte_at is at) (not-true (eqb (byte_at was at) (byte_at is at)) b) (sym s)),
  λ (i, d). rw (in_entry size some was entries at short i, ne_eqb (byte_at was at) (byte_at is at) (λ s. d (sym s))),
)

-- ── the first byte of some entries that changed
pub another-so : (was is : List ℕ) (i : ℕ) → (byte_at was i ≡ byte_at is i → ⊥) → another was is i ≡ true
another-so was is i h = rw (ne_eqb (byte_at was i) (byte_at is i) h)

pub another-not : (was is : List ℕ) (i : ℕ) → byte_at was i ≡ byte_at is i → another was is i ≡ false
another-not was is i h = rw (eq-eqb (byte_at was i) (byte_at is i) h)

-- of an entry's bytes those within its length, so many, are looked at
abbrev pub another_within : List ℕ → List ℕ → ℕ → ℕ → Bool
another_within was is end i = ltb i end && another was is i

module _ (was is : List ℕ) (at size b : ℕ) where
  -- of the entry's own bytes at most all, up to this end
  module _ (found end : ℕ) (h : end ≡ at + min b size) (e : found ≡ first_of (another was is) (end - at) at) where
    entry-part : first_of (another_within was is (at + b)) size at ≡ cond (ltb found end) found (at + size)
    entry-part =
        let k = min b size in
        let few : end - at ≡ k = omega arith in
        let whole : size ≡ k + (size - k + 0) = omega arith in
        let past : at + k + (size - k) ≡ at + size = omega arith in
        rw (e, few, h)
        (ap (λ (m : ℕ). first_of (another_within was is (at + b)) m at) whole
        ∙ first-split (another_within was is (at + b)) (another was is) k (size - k + 0) at (λ i l. rw (lt-ltb (at + i) (at + b) (omega arith)))
        ∙ ap (cond (ltb (first_of (another was is) k at) (at + k)) (first_of (another was is) k at))
        (first-skip (another_within was is (at + b)) (size - k) 0 (at + k) (λ i l. rw (le-ltb (at + k + i) (at + b) (omega arith))) ∙ first-none (another_within was is (at + b)) (at + k + (size - k)) ∙ past))

  pub entry_so : (found : Option ℕ) (end : ℕ) → end ≡ at + min b size → found ≡ found_below end (first_of (another was is) (end - at) at)
      → found ≡ found_below (at + size) (first_of (another_within was is (at + b)) size at)
  entry_so found end h e =
      let f = first_of (another was is) (end - at) at in
      rw (e, entry-part f end h refl)
      (by-test (ltb f end)
      (λ t. let l = ltb-true f end t in rw (t, lt-ltb f (at + size) (omega arith)))
      (λ t. rw (t, le-ltb (at + size) (at + size) (omega arith))))

-- each of so many entries lies in the table
entry-fits : (size count n : ℕ) → n < count → n * size + size ≤ count * size
entry-fits size count n h = le_trans (le_of_eq (sym (suc-mul n size))) (mul-le-mul_right size h)

module _ (size : ℕ) (was is entries : List ℕ) where
  abbrev test : ℕ → Bool
  test = changed_in size was is entries

  -- byte i of entry n
  changed-is : (n i : ℕ) → i < size → test (n * size + i) ≡ ((among n entries && ltb i (byte_at was (n * size))) && another was is (n * size + i))
  unfolding changed_in in_entries
  changed-is n i h = rw (digits_div n h, digits_mod n h)

  -- so many entries are left from n on, and what is found in them is what is found in all
  abbrev pub Looking : ℕ → ℕ → Type 0
  Looking count n = first_of test ((count - n) * size) (n * size) ≡ first_of test (count * size) 0

  module _ (count n : ℕ) (h : n < count) where
    one_less : (count - n) * size ≡ size + (count - (n + 1)) * size
    one_less = let e : count - n ≡ suc (count - (n + 1)) = omega arith in rw e (suc-mul (count - (n + 1)) size ∙ add_comm ((count - (n + 1)) * size) size)

    next-at : n * size + size ≡ (n + 1) * size
    next-at = let e : n + 1 ≡ suc n = omega arith in rw e (sym (suc-mul n size))

    -- an entry that is none of them is passed over
    pub looking-past : among n entries ≡ false → Looking count n → Looking count (n + 1)
    looking-past e k =
        ap (first_of test ((count - (n + 1)) * size)) (sym next-at)
        ∙ sym (ap (λ (m : ℕ). first_of test m (n * size)) one_less ∙ first-skip test size ((count - (n + 1)) * size) (n * size) (λ i l. rw (changed-is n i l, e)))
        ∙ k

    -- one that is has its own first, or none
    module _ (e : among n entries ≡ true) where
      abbrev own : ℕ
      own = first_of (another_within was is (n * size + byte_at was (n * size))) size (n * size)

      looked : first_of test ((count - n) * size) (n * size) ≡ cond (ltb own (n * size + size)) own (first_of test ((count - (n + 1)) * size) (n * size + size))
      looked =
          ap (λ (m : ℕ). first_of test m (n * size)) one_less
          ∙ first-split test (another_within was is (n * size + byte_at was (n * size))) size ((count - (n + 1)) * size) (n * size) (λ i l. changed-is n i l ∙ rw (e, ltb-shift (n * size) i (byte_at was (n * size))))

      pub looking-found : (at : ℕ) → found_below (n * size + size) own ≡ Some at → Looking count n → Some at ≡ found_below (count * size) (first_of test (count * size) 0)
      looking-found at s k =
          let (l, same) = below-some (n * size + size) own at s in
          let f : own ≡ first_of test (count * size) 0 = sym (looked ∙ rw (lt-ltb own (n * size + size) l)) ∙ k in
          rw (← f, lt-ltb own (count * size) (omega (arith, entry-fits size count n h)), same)

      pub looking-on : found_below (n * size + size) own ≡ None → Looking count n → Looking count (n + 1)
      looking-on none k =
          ap (first_of test ((count - (n + 1)) * size)) (sym next-at)
          ∙ sym (looked ∙ rw (le-ltb own (n * size + size) (below-none (n * size + size) own none))) ∙ k

  pub looking-over : (count n : ℕ) → count ≤ n → n ≤ count → Looking count n → None ≡ found_below (count * size) (first_of test (count * size) 0)
  looking-over count n l m k =
      let e : count - n ≡ 0 = omega arith in
      let f : n ≡ count = omega arith in
      let over : count * size ≡ first_of test (count * size) 0 = sym (rw f (first-none test (count * size))) ∙ (rw (e, zero-mul size) at k) in
      rw (← over, le-ltb (count * size) (count * size) (omega arith))

-- ── the lowest address
module _ (F : Format) (seqs lists seqs' lists' names : List ℕ) where
  abbrev pub in_seqs : ℕ
  in_seqs = first_of (changed_in F.size seqs seqs' names) 16384 0

  abbrev pub in_lists : ℕ
  in_lists = first_of (changed_in 164 lists lists' (lists_over F seqs names)) 7872 0

  abbrev by_address : ℕ → Bool
  by_address = changed_at F seqs lists seqs' lists' names

  seqs-first : first_of by_address 16384 0x070000 ≡ 0x070000 + in_seqs
  unfolding changed_at
  seqs-first =
      first-shift by_address (changed_in F.size seqs seqs' names) 0x070000 16384 0
      (λ i l. let e : 0x070000 + (0 + i) - 0x070000 ≡ 0 + i = omega arith in rw (lt-ltb (0x070000 + (0 + i)) 0x074000 (omega arith), e))

  lists-first : first_of by_address 7872 0x074000 ≡ 0x074000 + in_lists
  unfolding changed_at
  lists-first =
      first-shift by_address (changed_in 164 lists lists' (lists_over F seqs names)) 0x074000 7872 0
      (λ i l. let e : 0x074000 + (0 + i) - 0x074000 ≡ 0 + i = omega arith in rw (le-ltb (0x074000 + (0 + i)) 0x074000 (omega arith), e))

  by-tables : lowest_changed F seqs lists seqs' lists' names ≡ cond (ltb in_seqs 16384) (0x070000 + in_seqs) (0x074000 + in_lists)
  by-tables =
      first-split by_address by_address 16384 7872 0x070000 (λ i l. refl)
      ∙ rw (seqs-first, lists-first, ltb-shift 0x070000 in_seqs 16384)

  abbrev pub told : Option ℕ
  told = found_below 0x075EC0 (lowest_changed F seqs lists seqs' lists' names)

  -- in the sequence table, or else in the line lists, or in none
  pub lowest-sequence : (at : ℕ) → Some at ≡ found_below 16384 in_seqs → Some (0x070000 + at) ≡ told
  lowest-sequence at e =
      let (l, s) = below-some 16384 in_seqs at (sym e) in
      rw (by-tables, lt-ltb in_seqs 16384 l, lt-ltb (0x070000 + in_seqs) 0x075EC0 (omega arith), s)

  module _ (none : None ≡ found_below 16384 in_seqs) where
    by-lists : lowest_changed F seqs lists seqs' lists' names ≡ 0x074000 + in_lists
    by-lists = by-tables ∙ rw (le-ltb in_seqs 16384 (below-none 16384 in_seqs (sym none)))

    pub lowest-list : (at : ℕ) → Some at ≡ found_below 7872 in_lists → Some (0x074000 + at) ≡ told
    lowest-list at e =
        let (l, s) = below-some 7872 in_lists at (sym e) in
        rw (by-lists, lt-ltb (0x074000 + in_lists) 0x075EC0 (omega arith), s)

    pub lowest-none : None ≡ found_below 7872 in_lists → None ≡ told
    lowest-none e = let l = below-none 7872 in_lists (sym e) in rw (by-lists, le-ltb (0x074000 + in_lists) 0x075EC0 (omega arith))
