-- P13, "a card for each sequence": the summary that a desk keeps beside the tables. Each definition says a part of it, in plain words and then in
-- symbols; it is a statement of any library L.
use Rattle.std.specs.Prelude.{ℕ, ◌+◌, ◌*◌, ◌≤◌, ◌<◌, ◌≡◌, true, List, length}
use Rattle.octets.specs.Bytes.{byte_at, triple_at}
use Rattle.memory.specs.declared.Format.{Format}
use Rattle.memory.specs.Memory.{entry_of, list_of}
use Rattle.sequence.specs.Starts.{among}
use Rattle.sequence.specs.Within.{Alike}
use Rattle.survey.specs.Tested.{has_list}
use Rattle.summary.specs.Card.{used_in}
use Rattle.summary.specs.Summary.{card_in, line_in}
use Rattle.promises.specs.Formats.{Fills}
use Rattle.promises.specs.Library.{Library}
use Rattle.promises.specs.Sent.{Sent, seqs_left, lists_left}
use Rattle.promises.specs.Demand2.{Obeyed}

-- ── 1. What is lent

-- Both tables and a summary of the right sizes: "for each entry of the kind a card of 32 bytes .. then 48 line list cards of 4 bytes".
pub record LentCards (F : Format) (seqs lists s : List ℕ) : Type 0 where
  pub format : Fills F
  pub sequences : length seqs ≡ 16384
  pub line_lists : length lists ≡ 7872
  pub summary : length s ≡ (F.last + 1) * 32 + 48 * 4

-- "Another size (or wrong tables, or an unknown kind) is 16, nothing written", by either.
abbrev pub CardsSixteen : Library → Type 0
CardsSixteen L = (F : Format) (seqs lists s : List ℕ) → (LentCards F seqs lists s → ⊥)
    → (L.makes_code F seqs lists s ≡ 16) × (L.makes F seqs lists s ≡ s)
    × ((a len : ℕ) → (L.updates_code F seqs lists s a len ≡ 16) × (L.updates F seqs lists s a len ≡ s))

-- ── 2. Fresh: "what make writes is a function of the tables alone"

-- Whatever stood in the summary.
abbrev pub Fresh : Format → Library → Type 0
Fresh F L = (seqs lists s s' : List ℕ) → LentCards F seqs lists s → LentCards F seqs lists s'
    → (L.makes_code F seqs lists s ≡ 0) × (L.makes F seqs lists s ≡ L.makes F seqs lists s')

-- ── 3. Kept: "if the summary was fresh before an obeyed uplink, after update it is fresh for the tables after it"

-- Over the unit's own packet E7, in any state: address and count are BC2 to BC4 and BC5.
abbrev pub Kept : Format → Library → Type 0
Kept F L = (s : Sent F) → Obeyed L 0xE7 s → (c : List ℕ) → LentCards F s.seqs s.lists c
    → let a = triple_at s.bytes 1 in
    let len = byte_at s.bytes 4 in
    let fresh = L.makes F s.seqs s.lists c in
    (L.updates_code F (seqs_left L s) (lists_left L s) fresh a len ≡ 0)
    × (L.updates F (seqs_left L s) (lists_left L s) fresh a len ≡ L.makes F (seqs_left L s) (lists_left L s) c)

-- ── 4. Told: "from a fresh summary check is the table check, reason and all"

-- Of every number, those above the last too. A table's bytes are below 256.
abbrev pub CardsTold : Format → Library → Type 0
CardsTold F L = (seqs lists s : List ℕ) → LentCards F seqs lists s → ((i : ℕ) → byte_at seqs i < 256) → (n : ℕ)
    → L.checks_cards F (L.makes F seqs lists s) n ≡ L.checks F seqs lists n

-- ── 5. Least: "leaves every other byte of the summary as it was"

-- Entry n of this size, in the table that begins at this address, has a byte among those from a on.
abbrev pub HasByteIn : ℕ → ℕ → ℕ → ℕ → ℕ → Type 0
HasByteIn first size a len n = (i : ℕ) × (i < size) × (a ≤ first + n * size + i) × (first + n * size + i < a + len)

-- A card whose sequence has no byte in the range, and that uses no line list with one there, is as it was; so is that of such a line list. These are all
-- bytes of a summary, whose size does not change.
abbrev pub Least : Format → Library → Type 0
Least F L = (seqs lists s : List ℕ) (a len : ℕ) → LentCards F seqs lists s
    → let t = L.updates F seqs lists s a len in
    (length t ≡ length s)
    × ((n : ℕ) → n ≤ F.last → (HasByteIn 0x070000 F.size a len n → ⊥)
    → ((k : ℕ) → k ≤ 47 → has_list (used_in (card_in s n)) k ≡ true → HasByteIn 0x074000 164 a len k → ⊥) → card_in t n ≡ card_in s n)
    × ((k : ℕ) → k ≤ 47 → (HasByteIn 0x074000 164 a len k → ⊥) → line_in F t k ≡ line_in F s k)

-- ── 6. Used: "the lists used are those that the check depends on"

-- P14's promise again, with the line lists that the cards of a fresh summary use in the place of those that the rasters name: where each listed sequence,
-- and each line list that its card uses, is now what it was, within its length, the check gives the same answer now, be it a pass or a fault.
abbrev pub UsedEnough : Format → Library → Type 0
UsedEnough F L = (seqs lists seqs' lists' s : List ℕ) → LentCards F seqs lists s → LentCards F seqs' lists' s → (n : ℕ)
    → let t = L.checks F seqs lists n in
    ((m : ℕ) → among m t.names ≡ true → Alike (entry_of F seqs m) (entry_of F seqs' m)
    × ((k : ℕ) → k ≤ 47 → has_list (used_in (card_in (L.makes F seqs lists s) m)) k ≡ true → Alike (list_of lists k) (list_of lists' k)))
    → L.checks F seqs' lists' n ≡ t
