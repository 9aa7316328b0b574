-- Bytes, words high byte first, in and out, their bits, counters, and the XOR of bytes.
use Rattle.std.specs.Prelude.{ℕ, zero, suc, ◌+◌, ◌*◌, ◌-◌, ◌/◌, ◌%◌, ◌^◌, Bool, List, [], ◌∷◌, eqb, get_or}
use Rattle.std.specs.Int.Bits.{bit_xor}

-- the byte at a place, 0 past the end
abbrev pub byte_at : List ℕ → ℕ → ℕ
byte_at s at = get_or s at 0

-- the word at a place, high byte first
abbrev pub word_at : List ℕ → ℕ → ℕ
word_at s at = byte_at s at * 256 + byte_at s (at + 1)

-- three bytes, high byte first
abbrev pub triple_at : List ℕ → ℕ → ℕ
triple_at s at = byte_at s at * 65536 + word_at s (at + 1)

-- four bytes, high byte first
abbrev pub four_at : List ℕ → ℕ → ℕ
four_at s at = byte_at s at * 16777216 + triple_at s (at + 1)

-- words of two, four and eight bytes, high byte first
abbrev pub two : ℕ → List ℕ
two n = n / 256 % 256 ∷ n % 256 ∷ []

abbrev pub four : ℕ → List ℕ
four n = n / 16777216 % 256 ∷ n / 65536 % 256 ∷ n / 256 % 256 ∷ n % 256 ∷ []

abbrev pub eight : ℕ → List ℕ
eight n =
    n / 2 ^ 56 % 256
    ∷ n / 2 ^ 48 % 256
    ∷ n / 2 ^ 40 % 256
    ∷ n / 2 ^ 32 % 256
    ∷ n / 2 ^ 24 % 256
    ∷ n / 2 ^ 16 % 256
    ∷ n / 2 ^ 8 % 256
    ∷ n % 256
    ∷ []

-- the number in so many bytes from a place on, high byte first
abbrev pub number_at : List ℕ → ℕ → ℕ → ℕ
number_at s at zero = 0
number_at s at (suc width) = number_at s at width * 256 + byte_at s (at + width)

-- "Bit 0 is the most significant bit": whether bit b of a byte, or of a word, is set
abbrev pub byte_bit : ℕ → ℕ → Bool
byte_bit b n = eqb (n / 2 ^ (7 - b) % 2) 1

abbrev pub word_bit : ℕ → ℕ → Bool
word_bit b n = eqb (n / 2 ^ (15 - b) % 2) 1

-- "bits 0-3" and "bits 4-7": bit 0 is the most significant
abbrev pub halves : ℕ → ℕ → ℕ
halves a b = a % 16 * 16 + b % 16

-- "Counters are 16 bits and wrap."
abbrev pub counted : ℕ → ℕ
counted n = (n + 1) % 2 ^ 16

-- the XOR of a number and every byte
unfoldable pub xor_on : ℕ → List ℕ → ℕ
xor_on x [] = x
xor_on x (b ∷ bs) = xor_on (bit_xor x b) bs

abbrev pub xor_of : List ℕ → ℕ
xor_of s = xor_on 0 s
