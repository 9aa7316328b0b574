-- What a line of the desk's input says, and the numbers it is read by.
use Rattle.std.specs.Prelude.{ℕ, ◌/◌, ◌%◌, Bool, cond, not, ◌&&◌, List, ltb, leb, eqb, length, drop, Option, Some, None}
use Rattle.std.specs.List.{starts_with}
use Rattle.std.specs.Str.{bytes_eq}
use Rattle.octets.specs.Bytes.{byte_at}
use Rattle.octets.specs.Words.{bytes_of}
use Rattle.line.specs.Digits.{is_hex, bytes_in, is_digit, shown_on, all}
use Rattle.line.specs.Writing.{put_over}
use Rattle.line.specs.declared.Line.{Line}
use Rattle.line.specs.declared.Line.TheVariants.{Packet, Steps, Bad}

-- ── numbers
-- decimal digits alone, at least one
abbrev pub is_figure : List ℕ → Bool
is_figure s = ltb 0 (length s) && all is_digit s

-- a zero in front of another byte
abbrev pub zero_leads : List ℕ → Bool
zero_leads s = eqb (byte_at s 0) 48 && ltb 1 (length s)

-- a number from 0 to 65535 with no leading zero
abbrev pub numeral_of : List ℕ → Option ℕ
numeral_of s = cond (is_figure s && not (zero_leads s) && leb (shown_on 0 s) 65535) (Some (shown_on 0 s)) None

-- ── words
-- a line starts with a word
abbrev pub begins : List ℕ → List ℕ → Bool
begins word line = starts_with eqb line word

-- a word is the one wanted
abbrev pub is_word : List ℕ → List ℕ → Bool
is_word wanted word = bytes_eq word wanted

-- the kind of the tables, by a program's first argument: `old` for kind 1, without it kind 0
abbrev pub kind_named : List ℕ → ℕ
kind_named word = cond (is_word (bytes_of "old") word) 1 0

-- ── what a line says
-- "an even number of hex digits of either case, at most 280 (a packet; none is the empty packet ..)"
abbrev pub is_packet : List ℕ → Bool
is_packet line = eqb (length line % 2) 0 && leb (length line) 280 && all is_hex line

-- "or `STEP n`, n 1 to 65535 with no leading zero"
abbrev pub steps_from : Option ℕ → Line
steps_from (Some n) = cond (eqb n 0) Bad (Steps n)
steps_from None = Bad

abbrev pub steps_line : List ℕ → Line
steps_line line = cond (begins (bytes_of "STEP ") line) (steps_from (numeral_of (drop 5 line))) Bad

-- "Other lines print `BAD`."
abbrev pub line_of : List ℕ → Line
line_of line = cond (is_packet line) (Packet (length line / 2)) (steps_line line)

-- what a lent packet holds after a line: its bytes from the start on, where it is one
abbrev pub packet_after : List ℕ → List ℕ → List ℕ
packet_after line packet = cond (is_packet line) (put_over packet 0 (bytes_in line)) packet
