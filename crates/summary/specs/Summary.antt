-- The summary of two tables: a card for each sequence, 32 bytes each, then one for each line list, 4 bytes each.
use Rattle.std.specs.Prelude.{ℕ, zero, suc, ◌+◌, ◌*◌, ◌-◌, ◌/◌, Bool, false, cond, not, ◌&&◌, ◌||◌, List, [], ◌∷◌, ◌++◌, ltb, leb, eqb, length, take, drop}
use Rattle.octets.specs.Rows.{row, first_code}
use Rattle.memory.specs.declared.Format.{Format}
use Rattle.memory.specs.declared.Range.{Range}
use Rattle.memory.specs.declared.Range.TheVariants.{Sequences, LineLists, Wrong}
use Rattle.memory.specs.Memory.{fills, entry_of, tables_wrong, range_at, is_wrong}
use Rattle.sequence.specs.LineList.{ListCard, card_bytes, card_read}
use Rattle.sequence.specs.Env.{cards_of}
use Rattle.survey.specs.Turns.{turns}
use Rattle.survey.specs.Tested.{has_list}
use Rattle.summary.specs.Card.{card_of, used_in}

-- ── the cards and their places
-- of line list k, and of sequence n from what is known of the line lists
unfoldable pub line_card : List ℕ → ℕ → List ℕ
line_card lists k = card_bytes (cards_of lists k)

unfoldable pub seq_card : Format → List ℕ → (ℕ → ListCard) → ℕ → List ℕ
seq_card F seqs cards n = card_of (record { format = F; cards = cards }) (entry_of F seqs n)

-- "For each entry of the kind a card of 32 bytes .. Then 48 line list cards of 4 bytes"
abbrev pub laid : Format → (ℕ → List ℕ) → (ℕ → List ℕ) → List ℕ
laid F card line = turns 0 (suc F.last) (λ n left. card n) ++ turns 0 48 (λ k left. line k)

-- where the line lists' cards begin; "4,288 bytes for kind 0, 2,240 for kind 1"
abbrev pub lines_at : Format → ℕ
lines_at F = suc F.last * 32

unfoldable pub summary_wrong : Format → List ℕ → Bool
summary_wrong F s = not (fills F) || not (eqb (length s) (lines_at F + 192))

abbrev pub card_in : List ℕ → ℕ → List ℕ
card_in s n = take 32 (drop (n * 32) s)

abbrev pub line_in : Format → List ℕ → ℕ → List ℕ
line_in F s k = take 4 (drop (k * 4) (drop (lines_at F) s))

-- ── made afresh
unfoldable pub summary_of : Format → List ℕ → List ℕ → List ℕ
summary_of F seqs lists = laid F (seq_card F seqs (cards_of lists)) (line_card lists)

-- "another size (or wrong tables, or an unknown kind) is 16, nothing written"
unfoldable pub make_code : Format → List ℕ → List ℕ → List ℕ → ℕ
make_code F seqs lists s = first_code (row 16 (tables_wrong F seqs lists || summary_wrong F s) ∷ [])

unfoldable pub made : Format → List ℕ → List ℕ → List ℕ → List ℕ
made F seqs lists s = cond (eqb (make_code F seqs lists s) 0) (summary_of F seqs lists) s

-- ── after an uplink of len bytes into a range
-- "entries whose bytes lie in the range": entry n of this size lies from that of the range's first byte to that of its last
abbrev pub touches : ℕ → ℕ → ℕ → ℕ → Bool
touches size at len n = leb (at / size) n && leb n ((at + len - 1) / size)

abbrev pub line_touched : Range → ℕ → ℕ → Bool
line_touched (Sequences at) len k = false
line_touched (LineLists at) len k = touches 164 at len k
line_touched Wrong len k = false

-- one of the first n line lists is touched and has its bit in a number
unfoldable pub uses_touched : ℕ → ℕ → ℕ → ℕ → Bool
uses_touched at len used zero = false
uses_touched at len used (suc k) = (touches 164 at len k && has_list used k) || uses_touched at len used k

-- "works out again the cards of entries whose bytes lie in the range and, for line lists touched, of the sequences whose cards use one"
abbrev pub seq_named : Format → List ℕ → Range → ℕ → ℕ → Bool
seq_named F s (Sequences at) len n = touches F.size at len n
seq_named F s (LineLists at) len n = uses_touched at len (used_in (card_in s n)) 48
seq_named F s Wrong len n = false

-- the line lists' cards first: "a line list's checksum is read once for a line list and not once for each raster that names it"
abbrev pub line_after : Format → List ℕ → List ℕ → Range → ℕ → ℕ → List ℕ
line_after F lists s range len k = cond (line_touched range len k) (line_card lists k) (line_in F s k)

-- then, from these, the sequences'; "and leaves every other byte of the summary as it was"
abbrev pub card_after : Format → List ℕ → List ℕ → List ℕ → Range → ℕ → ℕ → List ℕ
card_after F seqs lists s range len n =
    cond (seq_named F s range len n) (seq_card F seqs (λ k. card_read (line_after F lists s range len k)) n) (card_in s n)

unfoldable pub renewed : Format → List ℕ → List ℕ → List ℕ → Range → ℕ → List ℕ
renewed F seqs lists s range len = laid F (card_after F seqs lists s range len) (line_after F lists s range len)

-- "a range that no uplink could have: 7, nothing written"
unfoldable pub update_code : Format → List ℕ → List ℕ → List ℕ → ℕ → ℕ → ℕ
update_code F seqs lists s a len =
    first_code (row 16 (tables_wrong F seqs lists || summary_wrong F s) ∷ row 7 (is_wrong (range_at a len)) ∷ row 7 (ltb 128 len) ∷ [])

unfoldable pub updated : Format → List ℕ → List ℕ → List ℕ → ℕ → ℕ → List ℕ
updated F seqs lists s a len = cond (eqb (update_code F seqs lists s a len) 0) (renewed F seqs lists s (range_at a len) len) s
