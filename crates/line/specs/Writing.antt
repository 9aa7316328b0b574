-- What is written: texts, and an output with a text laid over it.
use Rattle.std.specs.Prelude.{ℕ, zero, suc, ◌+◌, ◌*◌, ◌-◌, ◌/◌, ◌%◌, ◌^◌, min, ◌≡◌, Bool, true, false, cond, List, [], ◌∷◌, ◌++◌, eqb, length, set}
use Rattle.octets.specs.Words.{bytes_of}
use Rattle.runner.specs.Events.{shown_as}
use Rattle.runner.specs.declared.Event.{Event}
use Rattle.line.specs.Digits.{hex_of, decimal, each}

-- the greatest place, and the place n bytes on or else that one
abbrev pub last_place : ℕ
last_place = 0xFFFFFFFFFFFFFFFF

abbrev pub place_after : ℕ → ℕ → ℕ
place_after at n = at + min n (last_place - at)

-- an output with a text laid over it from a place on; the bytes for which it has no place are lost
unfoldable pub put_over : List ℕ → ℕ → List ℕ → List ℕ
put_over o at [] = o
put_over o at (b ∷ bs) = put_over (set o at b) (place_after at 1) bs

-- an output before and after a text was laid over it, the text's place and the next place
pub record Laid (old new : List ℕ) (at next : ℕ) (text : List ℕ) : Type 0 where
  pub place : next ≡ place_after at (length text)
  pub bytes : new ≡ put_over old at text

-- a number after a blank
abbrev pub spaced : ℕ → List ℕ
spaced n = bytes_of " " ++ decimal n

-- numbers with commas between them, where others stand before them or not
abbrev pub comma : Bool → List ℕ
comma others = cond others (bytes_of ",") []

abbrev pub member : Bool → ℕ → List ℕ
member others n = comma others ++ decimal n

unfoldable pub members : Bool → List ℕ → List ℕ
members others [] = []
members others (n ∷ ns) = member others n ++ members true ns

-- "list 0 the most significant bit": the bits that are set among the last so many of a number, the first of which has number n
unfoldable pub bits_set : ℕ → ℕ → ℕ → List ℕ
bits_set bits zero n = []
bits_set bits (suc left) n = cond (eqb (bits / 2 ^ left % 2) 1) (n ∷ []) [] ++ bits_set bits left (n + 1)

abbrev pub bits_text : ℕ → ℕ → List ℕ
bits_text bits first = cond (eqb bits 0) (bytes_of "-") (members false (bits_set bits 64 first))

-- the header bits that a low byte has: its first is bit 8
abbrev pub marks_text : ℕ → List ℕ
marks_text low = bits_text (low * 2 ^ 56) 8

-- the reason of a 7, by number and value; for the checksum "the value expected"
abbrev pub reason_text : ℕ → ℕ → List ℕ
reason_text number value =
    cond (eqb number 0) []
    (cond (eqb number 1) (bytes_of "count")
    (cond (eqb number 2) (bytes_of "length")
    (cond (eqb number 3) (bytes_of "checksum " ++ hex_of value)
    (bytes_of "mark"))))

-- a line of a word and numbers
abbrev pub word_line : List ℕ → List ℕ → List ℕ
word_line word numbers = word ++ each spaced numbers ++ bytes_of "\n"

-- "Output `TC`, BC1 in two digits, code in decimal"
abbrev pub answer_text : ℕ → ℕ → List ℕ
answer_text bc1 code = bytes_of "TC " ++ hex_of bc1 ++ spaced code ++ bytes_of "\n"

-- "then `ST` or `DU` and hex digits if there is an answer"
abbrev pub kind_text : Bool → List ℕ
kind_text status = cond status (bytes_of "ST ") (bytes_of "DU ")

abbrev pub block_text : Bool → List ℕ → List ℕ
block_text status bytes = kind_text status ++ each hex_of bytes ++ bytes_of "\n"

-- "Steps print `IDLE`, `ENTER s` .. in decimal."
abbrev pub event_text : ℕ → Event → List ℕ
event_text count event = word_line (shown_as count event).word (shown_as count event).values

-- "Other lines print `BAD`."
abbrev pub bad_text : List ℕ
bad_text = bytes_of "BAD\n"
