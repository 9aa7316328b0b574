-- The line lists that the check of one sequence came to test, up to a fault and the one at fault too.
use Rattle.std.specs.Prelude.{ℕ, zero, suc, ◌+◌, ◌*◌, ◌-◌, ◌/◌, ◌%◌, ◌^◌, Bool, cond, ◌&&◌, List, [], ◌∷◌, ◌++◌, leb, eqb, length, Option, None, Result, Ok, Err}
use Rattle.memory.specs.Memory.{place_at}
use Rattle.sequence.specs.declared.Fault.{Fault}
use Rattle.sequence.specs.LineList.{ListCard}
use Rattle.sequence.specs.Text.{size_at, header_of}
use Rattle.sequence.specs.Starts.{among}
use Rattle.sequence.specs.Raster.{raster_at}
use Rattle.runner.specs.declared.Opened.{Opened}
use Rattle.runner.specs.declared.Act.{Act}
use Rattle.runner.specs.declared.Act.TheVariants.{Refused, Opens, Exposes, Loops, Waits, Calls, Ends}
use Rattle.runner.specs.Judge.{tests_list, judge}
use Rattle.survey.specs.Walk.{opened_at, one_more}

-- the line list that the command at p comes to test, if any
abbrev pub tested_at : List ℕ → ℕ → Option Opened → List ℕ
tested_at text p o = cond (tests_list text p o) ((raster_at text p).list ∷ []) []

-- those tested after an act at p; o: the open raster, go: those tested in the text after this command
unfoldable pub tested_past : List ℕ → (ℕ → Option Opened → List ℕ) → ℕ → Option Opened → Act → List ℕ
tested_past text go p o (Refused code) = []
tested_past text go p o Opens = go (p + size_at text p) (opened_at (place_at p))
tested_past text go p o (Exposes r) = go (p + size_at text p) (one_more o)
tested_past text go p o (Loops t) = go (p + size_at text p) None
tested_past text go p o Waits = go (p + size_at text p) o
tested_past text go p o (Calls m) = []
tested_past text go p o Ends = []

-- those tested from p on, in as many turns as the walk has
unfoldable pub tested_from : (ℕ → ListCard) → List ℕ → ℕ → ℕ → Option Opened → List ℕ
tested_from cards text zero p o = []
tested_from cards text (suc f) p o = tested_at text p o ++ tested_past text (λ p' o'. tested_from cards text f p' o') p o (judge cards text p o)

abbrev pub tested_by : (ℕ → ListCard) → List ℕ → Result ℕ Fault → List ℕ
tested_by cards text (Ok q) = tested_from cards text (length text) 4 None
tested_by cards text (Err f) = []

-- "line lists used (one at fault too)"
unfoldable pub tested_in : (ℕ → ListCard) → List ℕ → List ℕ
tested_in cards text = tested_by cards text (header_of text)

-- a set of line lists as a number, a bit for each of the first n, "list 0 the most significant bit"
unfoldable pub bits_of : ℕ → List ℕ → ℕ
bits_of zero lists = 0
bits_of (suc n) lists = 2 * bits_of n lists + cond (among n lists) 1 0

-- whether the number of such a set of the 48 has line list k
unfoldable pub has_list : ℕ → ℕ → Bool
has_list bits k = leb k 47 && eqb (bits / 2 ^ (47 - k) % 2) 1
