-- Bytes as a table of fields: where each stands and how it is spelled. `laid` spells a table, `reads` takes its fields out of bytes.
use Rattle.std.specs.Prelude.{ℕ, ◌+◌, ◌-◌, ◌/◌, ◌%◌, ◌^◌, ◌<◌, Bool, true, false, cond, not, ◌&&◌, ◌||◌, List, [], ◌∷◌, ◌++◌, ltb, eqb, ℤ, pos, negsuc, length}
use Rattle.octets.specs.Bytes.{byte_at, word_at, four_at, two, four, halves}

abbrev pub is_set : ℕ → Bool
is_set n = not (eqb n 0)

abbrev pub flag : Bool → ℕ
flag true = 1
flag false = 0

-- a signed word: its two's complement, and back
abbrev pub complement : ℤ → ℕ
complement (pos n) = n
complement (negsuc n) = 65535 - n

abbrev pub signed : ℕ → ℤ
signed n = cond (ltb n 32768) (pos n) (negsuc (65535 - n))

-- what it holds: -32768 to 32767
abbrev pub SignedFits : ℤ → Type 0
SignedFits (pos n) = n < 32768
SignedFits (negsuc n) = n < 32768

-- ── a field
-- a byte, a word of two or of four bytes, a signed word, a flag's byte, two numbers in the halves of a byte, or bytes that never change
pub data Cell : Type 0 where
  Byte : ℕ → Cell
  Word : ℕ → Cell
  Four : ℕ → Cell
  Signed : ℤ → Cell
  Flag : Bool → Cell
  Halves : ℕ → ℕ → Cell
  Fixed : List ℕ → Cell

pub record Field : Type 0 where
  pub at : ℕ
  pub cell : Cell

abbrev pub field : ℕ → Cell → Field
field at cell = record { at = at; cell = cell }

-- its bytes
abbrev pub spelled : Cell → List ℕ
spelled (Byte n) = n ∷ []
spelled (Word n) = two n
spelled (Four n) = four n
spelled (Signed z) = two (complement z)
spelled (Flag b) = flag b ∷ []
spelled (Halves a b) = halves a b ∷ []
spelled (Fixed bs) = bs

-- a cell of the same kind with what stands at a place
abbrev pub read_at : Cell → ℕ → List ℕ → Cell
read_at (Byte n) at s = Byte (byte_at s at)
read_at (Word n) at s = Word (word_at s at)
read_at (Four n) at s = Four (four_at s at)
read_at (Signed z) at s = Signed (signed (word_at s at))
read_at (Flag b) at s = Flag (is_set (byte_at s at))
read_at (Halves a b) at s = Halves (byte_at s at / 16) (byte_at s at % 16)
read_at (Fixed bs) at s = Fixed bs

-- what its bytes can spell
abbrev pub Fits : Cell → Type 0
Fits (Byte n) = n < 256
Fits (Word n) = n < 2 ^ 16
Fits (Four n) = n < 2 ^ 32
Fits (Signed z) = SignedFits z
Fits (Flag b) = Unit {0}
Fits (Halves a b) = (a < 16) × (b < 16)
Fits (Fixed bs) = Unit {0}

-- bytes that it never has: another than a fixed one, or a flag's above 1
abbrev pub unlike : List ℕ → ℕ → List ℕ → Bool
unlike [] at s = false
unlike (b ∷ bs) at s = not (eqb (byte_at s at) b) || unlike bs (at + 1) s

abbrev pub wrong_at : Cell → ℕ → List ℕ → Bool
wrong_at (Byte n) at s = false
wrong_at (Word n) at s = false
wrong_at (Four n) at s = false
wrong_at (Signed z) at s = false
wrong_at (Flag b) at s = ltb 1 (byte_at s at)
wrong_at (Halves a b) at s = false
wrong_at (Fixed bs) at s = unlike bs at s

-- ── a table
abbrev pub laid : List Field → List ℕ
laid [] = []
laid (f ∷ fs) = spelled f.cell ++ laid fs

abbrev pub reads : List Field → List ℕ → List Field
reads [] s = []
reads (f ∷ fs) s = field f.at (read_at f.cell f.at s) ∷ reads fs s

abbrev pub wrong : List Field → List ℕ → Bool
wrong [] s = false
wrong (f ∷ fs) s = wrong_at f.cell f.at s || wrong fs s

abbrev pub AllFit : List Field → Type 0
AllFit [] = Unit {0}
AllFit (f ∷ fs) = Fits f.cell × AllFit fs

-- the test of a table, which is computed: its fields stand one after another, from a place to n
abbrev pub tiles : ℕ → List Field → ℕ → Bool
tiles at [] n = eqb at n
tiles at (f ∷ fs) n = eqb f.at at && tiles (at + length (spelled f.cell)) fs n

-- ── the field at a place
abbrev pub number : Cell → ℕ
number (Byte n) = n
number (Word n) = n
number (Four n) = n
number (Signed z) = complement z
number (Flag b) = flag b
number (Halves a b) = halves a b
number (Fixed bs) = 0

abbrev pub is_on : Cell → Bool
is_on (Byte n) = false
is_on (Word n) = false
is_on (Four n) = false
is_on (Signed z) = false
is_on (Flag b) = b
is_on (Halves a b) = false
is_on (Fixed bs) = false

abbrev pub integer : Cell → ℤ
integer (Byte n) = pos n
integer (Word n) = pos n
integer (Four n) = pos n
integer (Signed z) = z
integer (Flag b) = pos (flag b)
integer (Halves a b) = pos (halves a b)
integer (Fixed bs) = pos 0

abbrev pub cell_at : List Field → ℕ → Cell
cell_at [] at = Fixed []
cell_at (f ∷ fs) at = cond (eqb f.at at) f.cell (cell_at fs at)

abbrev pub number_at : List Field → ℕ → ℕ
number_at fs at = number (cell_at fs at)

abbrev pub flag_at : List Field → ℕ → Bool
flag_at fs at = is_on (cell_at fs at)

abbrev pub integer_at : List Field → ℕ → ℤ
integer_at fs at = integer (cell_at fs at)
