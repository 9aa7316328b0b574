-- The check of one sequence: the interpreter's rules applied to its text in text order, with no run.
use Rattle.std.specs.Prelude.{ℕ, zero, suc, ◌+◌, ◌*◌, Bool, cond, ◌&&◌, List, [], ◌∷◌, ltb, leb, eqb, length, Option, Some, None, Result, Ok, Err}
use Rattle.memory.specs.declared.Format.{Format}
use Rattle.memory.specs.declared.Place.{Place}
use Rattle.memory.specs.Memory.{place_at}
use Rattle.sequence.specs.declared.Fault.{Fault}
use Rattle.sequence.specs.LineList.{ListCard}
use Rattle.sequence.specs.Text.{fault, size_at, header_of}
use Rattle.sequence.specs.Starts.{starts_of}
use Rattle.sequence.specs.Raster.{raster_at}
use Rattle.sequence.specs.Env.{Env, text_of}
use Rattle.runner.specs.declared.Opened.{Opened}
use Rattle.runner.specs.declared.Act.{Act}
use Rattle.runner.specs.declared.Act.TheVariants.{Refused, Opens, Exposes, Loops, Waits, Calls, Ends}
use Rattle.runner.specs.Judge.{judge}
use Rattle.survey.specs.declared.Item.{Item}
use Rattle.survey.specs.declared.Item.TheVariants.{Pause, Scan}
use Rattle.survey.specs.declared.Closing.{Closing}
use Rattle.survey.specs.declared.Closing.TheVariants.{Terminates, CallsOn}
use Rattle.survey.specs.declared.Reason.{Reason}
use Rattle.survey.specs.declared.Reason.TheVariants.{None, OfList, Mark}
use Rattle.survey.specs.Items.{item_steps, item_exposures}

-- what the check finds: steps, exposures and items of a round, the closing command's place and what it does; or a fault and its reason
pub data Finding : Type 0 where
  passes : ℕ → ℕ → List Item → ℕ → Closing → Finding
  faults : Fault → Reason → Finding

-- an item in front of what was found after it
abbrev pub in_front : List ℕ → Item → Finding → Finding
in_front text i (passes k x is p c) = passes (item_steps text i + k) (item_exposures text i + x) (i ∷ is) p c
in_front text i (faults f reason) = faults f reason

-- how many of these places have it
abbrev pub count : (ℕ → Bool) → List ℕ → ℕ
count has [] = 0
count has (p ∷ ps) = cond (has p) (suc (count has ps)) (count has ps)

-- how many commands start from a up to b
abbrev pub commands : List ℕ → ℕ → ℕ → ℕ
commands text a b = count (λ p. leb a p && ltb p b) (starts_of text)

-- the raster at r closed by the loop back at q to t: its "commands before the target", and those from target to loop back
abbrev pub scan : List ℕ → ℕ → ℕ → ℕ → Item
scan text r t q = Scan r t q (commands text (r + size_at text r) t) (commands text t q)

-- the raster at a place, opened
abbrev pub opened_at : Place → Option Opened
opened_at at = Some (record { place = at; count = 0; run = 0 })

-- the open raster after one exposure more
abbrev pub one_more : Option Opened → Option Opened
one_more None = None
one_more (Some opened) = Some (record opened { count = opened.count + 1 })

-- a delay outside rasters is an item; in a raster it is one of the raster's commands
abbrev pub paused : List ℕ → ℕ → Option Opened → Finding → Finding
paused text p None found = in_front text (Pause p) found
paused text p (Some opened) found = found

-- the loop back at q to t closes the open raster
abbrev pub closed : List ℕ → ℕ → ℕ → Option Opened → Finding → Finding
closed text q t None found = found
closed text q t (Some opened) found = in_front text (scan text opened.place.0 t q) found

-- "the table check .. show[s] the reason": of a 7 what the line list test answers for the list that the run raster at its place names;
-- where that is good, a mark is missing
abbrev pub reason_in : ListCard → Reason
reason_in (Ok marks) = Mark
reason_in (Err bad) = OfList bad

abbrev pub reason_for : (ℕ → ListCard) → List ℕ → Fault → Reason
reason_for cards text f = cond (eqb f.code 7) (reason_in (cards (raster_at text f.place).list)) None

-- what an act at p comes to; o: the open raster, go: the walk of the text after this command
unfoldable pub walked : (ℕ → ListCard) → List ℕ → (ℕ → Option Opened → Finding) → ℕ → Option Opened → Act → Finding
walked cards text go p o (Refused code) = faults (fault code p) (reason_for cards text (fault code p))
walked cards text go p o Opens = go (p + size_at text p) (opened_at (place_at p))
walked cards text go p o (Exposes r) = go (p + size_at text p) (one_more o)
walked cards text go p o (Loops t) = closed text p t o (go (p + size_at text p) None)
walked cards text go p o Waits = paused text p o (go (p + size_at text p) o)
walked cards text go p o (Calls m) = passes 1 0 [] p (CallsOn m)
walked cards text go p o Ends = passes 1 0 [] p Terminates

-- the text from p on; each command takes a byte at least, so as many turns as the text has bytes are enough
unfoldable pub walk : (ℕ → ListCard) → List ℕ → ℕ → ℕ → Option Opened → Finding
walk cards text zero p o = faults (fault 3 p) None
walk cards text (suc f) p o = walked cards text (λ p' o'. walk cards text f p' o') p o (judge cards text p o)

-- "Steps of one sequence: 1 + repeats x (..)": all rounds; a call above the last number is a fault of the last round
abbrev pub rounds : Format → ℕ → Finding → Finding
rounds F q (passes k x is p Terminates) = passes (1 + q * k) (q * x) is p Terminates
rounds F q (passes k x is p (CallsOn m)) = cond (ltb F.last m) (faults (fault 4 p) None) (passes (1 + q * k) (q * x) is p (CallsOn m))
rounds F q (faults f reason) = faults f reason

abbrev pub checked_by : Env → List ℕ → Result ℕ Fault → Finding
checked_by E text (Ok q) = rounds E.format q (walk E.cards text (length text) 4 None)
checked_by E text (Err f) = faults f None

-- one sequence, taken alone
unfoldable pub check_one : Env → List ℕ → Finding
check_one E text = checked_by E text (header_of text)

-- what is found of each sequence of a table
abbrev pub finding_of : Env → List ℕ → ℕ → Finding
finding_of E seqs n = check_one E (text_of E seqs n)
