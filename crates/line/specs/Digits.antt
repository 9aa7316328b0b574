-- Digits: bytes in hex, numbers in decimal, and what digits show.
use Rattle.std.specs.Prelude.{ℕ, zero, suc, ◌+◌, ◌*◌, ◌-◌, ◌/◌, ◌%◌, min, Bool, cond, ◌&&◌, List, [], ◌∷◌, ◌++◌, ltb, leb, eqb, get_or}
use Rattle.std.specs.List.{list_all, flat_map}
use Rattle.octets.specs.Words.{bytes_of}

-- "hex digits of either case .. Digits come out in capitals."
abbrev pub capitals : List ℕ
capitals = bytes_of "0123456789ABCDEF"

abbrev pub smalls : List ℕ
smalls = bytes_of "0123456789abcdef"

-- a digit as it is written
unfoldable pub digit_of : ℕ → ℕ
digit_of n = get_or capitals n 0

-- where a byte stands in a text; the text's length if it does not
abbrev pub place_in : ℕ → List ℕ → ℕ
place_in b [] = 0
place_in b (x ∷ xs) = cond (eqb b x) 0 (suc (place_in b xs))

-- the value of a hex digit; 16 for any other byte
unfoldable pub value_of : ℕ → ℕ
value_of b = min (place_in b capitals) (place_in b smalls)

abbrev pub is_hex : ℕ → Bool
is_hex b = ltb (value_of b) 16

-- a byte in two hex digits, high digit first
abbrev pub hex_of : ℕ → List ℕ
hex_of b = digit_of (b / 16) ∷ digit_of (b % 16) ∷ []

-- the bytes that hex digits show, two digits a byte, high digit first
unfoldable pub bytes_in : List ℕ → List ℕ
bytes_in [] = []
bytes_in (h ∷ []) = []
bytes_in (h ∷ l ∷ ds) = (value_of h * 16 + value_of l) ∷ bytes_in ds

-- a number in decimal: the number of its tens, then its last digit; k digits and one more at most
unfoldable pub spell : ℕ → ℕ → List ℕ
spell zero n = digit_of n ∷ []
spell (suc k) n = cond (ltb n 10) (digit_of n ∷ []) (spell k (n / 10) ++ (digit_of (n % 10) ∷ []))

-- twenty digits hold every number of 64 bits
unfoldable pub decimal : ℕ → List ℕ
decimal n = spell 19 n

-- the number that decimal digits show, after digits that showed n
unfoldable pub shown_on : ℕ → List ℕ → ℕ
shown_on n [] = n
shown_on n (d ∷ ds) = shown_on (n * 10 + (d - 48)) ds

abbrev pub is_digit : ℕ → Bool
is_digit b = leb 48 b && leb b 57

-- a test holds of every byte
abbrev pub all : (ℕ → Bool) → List ℕ → Bool
all = list_all

-- the texts of the numbers of a list, one after the other
abbrev pub each : (ℕ → List ℕ) → List ℕ → List ℕ
each = flat_map
