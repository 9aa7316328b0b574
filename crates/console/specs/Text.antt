-- What the programs show beside the desk's lines.
use Rattle.std.specs.Prelude.{ℕ, cond, List, ◌++◌, eqb}
use Rattle.octets.specs.Bytes.{byte_at}
use Rattle.octets.specs.Words.{bytes_of}
use Rattle.line.specs.Writing.{spaced, marks_text, reason_text}

-- what is wrong with a line list, by its card, behind the words given
abbrev pub wrong_text : List ℕ → List ℕ → List ℕ
wrong_text card bad = bad ++ reason_text (byte_at card 0) (byte_at card 1)

-- what a line list's card says: that it is good, with its marks; or what is wrong
abbrev pub verdict_text : List ℕ → List ℕ → List ℕ
verdict_text card bad = cond (eqb (byte_at card 0) 0) (bytes_of " GOOD " ++ marks_text (byte_at card 2)) (wrong_text card bad)

-- the line of a line list, by its number and its card
abbrev pub list_text : ℕ → List ℕ → List ℕ → List ℕ
list_text n card bad = bytes_of "LIST" ++ spaced n ++ verdict_text card bad ++ bytes_of "\n"
