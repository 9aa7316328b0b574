-- For the proofs of the code, what it holds on its way: one sequence's findings without items, and the chain in arrays of numbers and marks.
use Rattle.std.specs.Prelude.{ℕ, zero, suc, ◌+◌, ◌*◌, ◌-◌, ◌≤◌, ◌<◌, ◌^◌, ◌≡◌, Bool, true, false, cond, List, [], ◌∷◌, ◌++◌, reverse, ltb, eqb, length, get_or, replicate, Ok, Err, Option, Some, None}
use Rattle.octets.specs.Bytes.{byte_at}
use Rattle.memory.specs.declared.Format.{Format}
use Rattle.memory.specs.declared.Place.{Place}
use Rattle.sequence.specs.declared.Command.TheVariants.{RunRaster, LoopBack}
use Rattle.sequence.specs.Text.{row_of, fault, size_at}
use Rattle.sequence.specs.Starts.{among}
use Rattle.sequence.specs.Env.{Env, text_of}
use Rattle.runner.specs.declared.Opened.{Opened}
use Rattle.survey.specs.declared.Item.{Item}
use Rattle.survey.specs.declared.Item.TheVariants.{Scan}
use Rattle.survey.specs.declared.Closing.{Closing}
use Rattle.survey.specs.declared.Closing.TheVariants.{Terminates, CallsOn}
use Rattle.survey.specs.declared.Closed.{Closed}
use Rattle.survey.specs.declared.Ending.{Ending}
use Rattle.survey.specs.declared.Ending.TheVariants.{Unlisted, Finishes, Returns, Faults}
use Rattle.survey.specs.declared.Round.{Round}
use Rattle.survey.specs.declared.Chain.{Chain}
use Rattle.survey.specs.declared.Checked.{Checked}
use Rattle.survey.specs.declared.Report.{Report}
use Rattle.survey.specs.declared.Rest.{Rest}
use Rattle.survey.specs.Items.{item_steps, item_exposures}
use Rattle.survey.specs.Walk.{opened_at, reason_for}
use Rattle.survey.specs.Tested.{has_list}
use Rattle.survey.specs.Chain.{Told, told, total}
use Rattle.survey.specs.Report.{Walked, closed_at, padded}
use Rattle.survey.specs.Still.{lists_over}

-- each of these numbers is a byte
abbrev pub Octets : List ℕ → Type 0
Octets s = (k : ℕ) → byte_at s k < 256

-- the number that a search has found, if it is below the search's end
abbrev pub found_below : ℕ → ℕ → Option ℕ
found_below end found = cond (ltb found end) (Some found) None

-- ── a round
-- past a command of this size, with this raster open after it, and so many steps and exposures more
abbrev pub moved : ℕ → Option Opened → ℕ → ℕ → Round → Round
moved size held k x r = record { place = r.place + size; held = held; steps = r.steps + k; exposures = r.exposures + x; tested = r.tested }

-- the number of a set of line lists, with line list k
abbrev pub with_list : ℕ → ℕ → ℕ
with_list bits k = cond (has_list bits k) bits (bits + 2 ^ (47 - k))

-- past the run raster at a place, which names this line list
abbrev pub opened_in : Place → ℕ → Round → Round
opened_in at k r =
    record { place = r.place + (row_of RunRaster).size; held = opened_at at; steps = r.steps; exposures = r.exposures; tested = with_list r.tested k }

-- no number of it passes its width
pub record RoomFor (size k x : ℕ) (r : Round) : Type 0 where
  pub place : r.place + size < 256
  pub steps : r.steps + k < 2 ^ 64
  pub exposures : r.exposures + x < 2 ^ 64

abbrev pub exposures_in : Option Opened → ℕ
exposures_in None = 0
exposures_in (Some opened) = opened.count

-- the steps of a delay: one of its own where no raster is open
abbrev pub pause_in : Option Opened → ℕ
pause_in None = 1
pause_in (Some opened) = 0

-- how many commands stand from p up to t, at most f of them
unfoldable pub between : List ℕ → ℕ → ℕ → ℕ → ℕ
between text zero p t = 0
between text (suc f) p t = cond (eqb p t) 0 (suc (between text f (p + size_at text p) t))

-- the raster at r closed by the loop back at q to t, its commands counted one by one
abbrev pub counted_scan : List ℕ → ℕ → ℕ → ℕ → Item
counted_scan text r t q = Scan r t q (between text t (r + size_at text r) t) (between text q t q)

-- past a loop back to t: the open raster is an item of the round
abbrev pub scanned_in : List ℕ → Item → Round → Round
scanned_in text i r = moved (row_of (LoopBack 0)).size None (item_steps text i) (item_exposures text i) r

abbrev pub looped_in : List ℕ → ℕ → Option Opened → Round → Round
looped_in text t None r = moved (row_of (LoopBack t)).size None 0 0 r
looped_in text t (Some opened) r = scanned_in text (counted_scan text opened.place.0 t r.place) r

-- ── all rounds
abbrev pub rounds_by : Format → ℕ → Closed → Closing → Walked
rounds_by F q c Terminates = closed_at c.place Terminates (1 + q * c.steps) (q * c.exposures)
rounds_by F q c (CallsOn m) = cond (ltb F.last m) (Err (fault 4 c.place)) (closed_at c.place (CallsOn m) (1 + q * c.steps) (q * c.exposures))

abbrev pub all_rounds : Format → ℕ → Walked → Walked
all_rounds F q (Err f) = Err f
all_rounds F q (Ok c) = rounds_by F q c c.closing

-- totals of at most this much
abbrev pub AtMost : ℕ → Walked → Type 0
AtMost most (Err f) = Unit {0}
AtMost most (Ok c) = (c.steps ≤ most) × (c.exposures ≤ most)

-- ── the chain
-- how many marks are not set
unfoldable pub unmarked : List Bool → ℕ
unmarked [] = 0
unmarked (true ∷ ms) = unmarked ms
unmarked (false ∷ ms) = suc (unmarked ms)

-- each listed sequence has its mark and brought at most 2^54 to each total
pub record Marked (chain : Chain) : Type 0 where
  pub listed-long : length chain.listed ≡ 128
  pub marks-long : length chain.marks ≡ 128
  pub all : chain.count + unmarked chain.marks ≡ 128
  pub steps-fit : chain.steps ≤ chain.count * 2 ^ 54
  pub exposures-fit : chain.exposures ≤ chain.count * 2 ^ 54

-- and sequence n is not listed
pub record Free (chain : Chain) (n : ℕ) : Type 0 where
  pub kept : Marked chain
  pub low : n < 128
  pub new : get_or chain.marks n false ≡ false

-- of the numbers below this one just these are marked
abbrev pub MarkedJust : ℕ → List Bool → List ℕ → Type 0
MarkedJust most marks numbers = (k : ℕ) → k < most → get_or marks k false ≡ among k numbers

-- the chain lists these names, the newest first, and marks just them
pub record Is (chain : Chain) (names : List ℕ) : Type 0 where
  pub list : chain.listed ≡ padded (reverse names)
  pub count : chain.count ≡ length names
  pub marks : MarkedJust 128 chain.marks names

-- a call that passes is of a sequence that the table has
abbrev pub LowCall : Closing → Type 0
LowCall Terminates = Unit {0}
LowCall (CallsOn m) = m < 128

-- the names so far, with their totals, and what the rest of the chain is told to be
abbrev pub joined : List ℕ → ℕ → ℕ → Told → Told
joined names k x t = told (reverse names ++ t.names) t.ending (total t.ending k t.steps) (total t.ending x t.exposures)

-- what a closing command leads to
abbrev pub ahead : (ℕ → Told) → Closing → Told
ahead go Terminates = told [] Finishes 0 0
ahead go (CallsOn m) = go m

abbrev pub empty_chain : Chain
empty_chain = record { listed = replicate 128 0; marks = replicate 128 false; count = 0; steps = 0; exposures = 0 }

-- an ending as the chain leaves it, with the reason of its fault
abbrev pub reasoned : Env → List ℕ → Ending → Ending
reasoned E seqs (Unlisted code) = Unlisted code
reasoned E seqs Finishes = Finishes
reasoned E seqs Returns = Returns
reasoned E seqs (Faults n f r) = Faults n f (reason_for E.cards (text_of E seqs n) f)

-- what is reported of a chain and its ending
abbrev pub reported_as : Chain → Ending → Report
reported_as chain ending =
    record {
      ending = ending;
      listed = chain.listed;
      count = chain.count;
      steps = total ending chain.steps 0;
      exposures = total ending chain.exposures 0;
    }

-- the same with a fault's reason
unfoldable pub reported : Env → List ℕ → Checked → Report
reported E seqs c = reported_as c.chain (reasoned E seqs c.ending)

-- ── what a pass rests on
-- these sequences and the line lists that they use are marked
pub record RestOf (F : Format) (seqs names : List ℕ) (rest : Rest) : Type 0 where
  pub sequences : MarkedJust 256 rest.sequences names
  pub lists : MarkedJust 256 rest.lists (lists_over F seqs names)
