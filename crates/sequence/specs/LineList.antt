-- A line list's card: what is known of it.
use Rattle.std.specs.Prelude.{ℕ, zero, suc, ◌+◌, ◌*◌, Bool, false, cond, not, ◌&&◌, ◌||◌, List, [], ◌∷◌, ◌++◌, take, drop, ◌==◌, nat_le, Result, Ok, Err}
use Rattle.octets.specs.Bytes.{byte_at, word_at, byte_bit, word_bit, xor_of}
use Rattle.sequence.specs.declared.Marks.{Marks}
use Rattle.sequence.specs.declared.BadList.{BadList}
use Rattle.sequence.specs.declared.BadList.TheVariants.{WindowCount, Length, Checksum}
use Rattle.sequence.specs.declared.ReasonNumbers.{ReasonNumbers}

-- a good line list with its marks, or what makes it bad
abbrev pub ListCard : Type 0
ListCard = Result Marks BadList

-- "checksum is the XOR of the other bytes of that length"
unfoldable pub checksum_of : List ℕ → ℕ
checksum_of l = xor_of (take 3 l ++ drop 4 (take (byte_at l 0) l))

-- "five words, then three words a window": a window's header is the first of its three
abbrev pub header_at : List ℕ → ℕ → ℕ
header_at l window = word_at l (14 + 6 * window)

-- one of the first n windows has header bit b
unfoldable pub marked : List ℕ → ℕ → ℕ → Bool
marked l b zero = false
marked l b (suc window) = word_bit b (header_at l window) || marked l b window

-- "AEC, event and flare flags [are tied] to a window marked in the line list (header bits 11, 12 and 13)": a window within the count
unfoldable pub marks_of : List ℕ → Marks
marks_of l = record { aec = marked l 11 (byte_at l 2); event = marked l 12 (byte_at l 2); flare = marked l 13 (byte_at l 2) }

-- "length, reserved, windows 1 to 25, checksum at byte 3, five words, then three words a window. Length = 14 + 6 x windows": the test
-- says "which: window count, length or checksum, tested in that order, and for a checksum the value expected"; a good list has its marks
unfoldable pub list_card : List ℕ → ListCard
list_card l =
    cond (not (nat_le 1 (byte_at l 2) && nat_le (byte_at l 2) 25)) (Err WindowCount)
    (cond (not (byte_at l 0 == 14 + 6 * byte_at l 2)) (Err Length)
    (cond (not (byte_at l 3 == checksum_of l)) (Err (Checksum (checksum_of l)))
    (Ok (marks_of l))))

-- its answers, and the reasons of a fault, by number and value
abbrev pub reason_as : ℕ → ℕ → ReasonNumbers
reason_as number value = record { number = number; value = value }

abbrev pub bad_shown : BadList → ReasonNumbers
bad_shown WindowCount = reason_as 1 0
bad_shown Length = reason_as 2 0
bad_shown (Checksum expected) = reason_as 3 expected

abbrev pub card_shown : ListCard → ReasonNumbers
card_shown (Ok marks) = reason_as 0 0
card_shown (Err bad) = bad_shown bad

-- its marks: a bad list has none
abbrev pub no_marks : Marks
no_marks = record { aec = false; event = false; flare = false }

abbrev pub marks_in : ListCard → Marks
marks_in (Ok marks) = marks
marks_in (Err bad) = no_marks

-- a card in four bytes: "the reason's number (0 good), the expected value, the marks (10, 08, 04), zero"
abbrev pub mark_bits : Marks → ℕ
mark_bits marks = cond marks.aec 0x10 0 + cond marks.event 0x08 0 + cond marks.flare 0x04 0

abbrev pub card_bytes : ListCard → List ℕ
card_bytes card = (card_shown card).number ∷ (card_shown card).value ∷ mark_bits (marks_in card) ∷ 0 ∷ []

-- and the card that four bytes are read as, whatever they are
abbrev pub marks_read : ℕ → Marks
marks_read bits = record { aec = byte_bit 3 bits; event = byte_bit 4 bits; flare = byte_bit 5 bits }

abbrev pub card_read : List ℕ → ListCard
card_read card =
    cond (byte_at card 0 == 0) (Ok (marks_read (byte_at card 2)))
    (cond (byte_at card 0 == 1) (Err WindowCount)
    (cond (byte_at card 0 == 2) (Err Length)
    (Err (Checksum (byte_at card 1)))))

-- for the code: a card without the marks that nobody wants
abbrev pub card_with : Bool → ListCard → ListCard
card_with wanted (Ok marks) = Ok (cond wanted marks no_marks)
card_with wanted (Err bad) = Err bad
