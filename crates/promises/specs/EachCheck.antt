-- The check, sentence by sentence, from the bytes of the tables alone. Each statement in plain words and then in symbols; proofs/EachCheck has its
-- proof, under its name.
use Rattle.std.specs.Prelude.{ℕ, suc, ◌+◌, ◌*◌, ◌≤◌, ◌<◌, ◌≡◌, Bool, true, false, cond, ◌&&◌, ◌||◌, List, [], ◌∷◌, ◌++◌, ◌⊎◌, ltb, leb, eqb, length, Option, Some, None}
use Rattle.octets.specs.Bytes.{byte_at}
use Rattle.octets.specs.Rows.{Row, row, NoneHolds, FirstBears}
use Rattle.memory.specs.declared.Format.{Format}
use Rattle.memory.specs.Memory.{entry_of, place_at}
use Rattle.sequence.specs.declared.Command.{Command}
use Rattle.sequence.specs.declared.Command.TheVariants.{RunRaster, Expose, LoopBack, CallSequence, Terminate, Delay, Nothing, Unknown, Unfit}
use Rattle.sequence.specs.Text.{header_rows, header_place, command_at, number_of, size_at, is_run_raster}
use Rattle.sequence.specs.Starts.{starts_of, rasters_among, among}
use Rattle.sequence.specs.Raster.{raster_at}
use Rattle.sequence.specs.Env.{Env, env_of}
use Rattle.runner.specs.declared.Opened.{Opened}
use Rattle.runner.specs.Judge.{run_rows, expose_rows, loop_rows, close_rows}
use Rattle.survey.specs.declared.Ending.{Ending}
use Rattle.survey.specs.declared.Ending.TheVariants.{Unlisted}
use Rattle.survey.specs.Walk.{count, one_more}
use Rattle.survey.specs.Chain.{told}
use Rattle.promises.specs.Formats.{Fills}
use Rattle.promises.specs.Library.{Library, ours}
use Rattle.promises.specs.Demand3.{Lists, EndsOrReturns, HasFault}

-- ── 1. "Given tables (wrong size: 16) and a sequence number (above 127: 7); either answers with nothing listed and totals 0."

-- What it is given: both tables of the right size, and a sequence number.
pub record Given (F : Format) (seqs lists : List ℕ) (n : ℕ) : Type 0 where
  pub format : Fills F
  pub sequences : length seqs ≡ 16384
  pub line_lists : length lists ≡ 7872
  pub number : n ≤ F.last

abbrev pub CheckSixteen : Library → Type 0
CheckSixteen L = (F : Format) (seqs lists : List ℕ) (n : ℕ) → (Fills F × (length seqs ≡ 16384) × (length lists ≡ 7872) → ⊥)
    → L.checks F seqs lists n ≡ told [] (Unlisted 16) 0 0

abbrev pub CheckSeven : Library → Type 0
CheckSeven L = (F : Format) (seqs lists : List ℕ) (n : ℕ) → Fills F → length seqs ≡ 16384 → length lists ≡ 7872 → F.last < n
    → L.checks F seqs lists n ≡ told [] (Unlisted 7) 0 0

-- ── 2. "It applies these rules in text order to each sequence"

-- The rules for the command at a place, by ordered rows (runner/specs/Judge), where o is the raster that the commands before it leave open. The
-- check has no rounds: it takes a call above the last number as the last round does.
abbrev pub rules_for : Env → List ℕ → ℕ → Option Opened → Command → List Row
rules_for E text p o RunRaster = run_rows E.cards text p o
rules_for E text p o (Expose time) = expose_rows text time o
rules_for E text p o (LoopBack target) = loop_rows text p target o
rules_for E text p o (CallSequence n) = close_rows text p o ++ (row 4 (ltb E.format.last n) ∷ [])
rules_for E text p o Terminate = close_rows text p o
rules_for E text p o (Delay time) = []
rules_for E text p o Nothing = row 3 true ∷ []
rules_for E text p o Unknown = row 3 true ∷ []
rules_for E text p o Unfit = row 3 true ∷ []

abbrev pub rules_at : Env → List ℕ → ℕ → Option Opened → List Row
rules_at E text p o = rules_for E text p o (command_at text p)

-- The raster that is open after the command at p: a run raster opens one, an expose is one exposure more in it, a loop back closes it.
abbrev pub open_after : List ℕ → ℕ → Option Opened → Command → Option Opened
open_after text p o RunRaster = Some (record { place = place_at p; count = 0; run = 0 })
open_after text p o (Expose time) = one_more o
open_after text p o (LoopBack target) = None
open_after text p o (CallSequence n) = o
open_after text p o Terminate = o
open_after text p o (Delay time) = o
open_after text p o Nothing = o
open_after text p o Unknown = o
open_after text p o Unfit = o

abbrev pub is_closing : Command → Bool
is_closing command = eqb (number_of command) (number_of (CallSequence 0)) || eqb (number_of command) (number_of Terminate)

-- In text order: from p on, with o open, each command passes the rules and none is the closing one, up to the place q, where o' is open.
pub data UpTo (E : Env) (text : List ℕ) (q : ℕ) (o' : Option Opened) : ℕ → Option Opened → Type 0 where
  there : UpTo E text q o' q o'
  next : {p : ℕ} {o : Option Opened} → is_closing (command_at text p) ≡ false → NoneHolds (rules_at E text p o)
      → UpTo E text q o' (p + size_at text p) (open_after text p o (command_at text p)) → UpTo E text q o' p o

-- A sequence passes the rules: its header does, and its commands do from place 4 on through the closing one.
pub record Passes (E : Env) (text : List ℕ) : Type 0 where
  pub header : NoneHolds (header_rows text)
  pub last : ℕ
  pub held : Option Opened
  pub before : UpTo E text last held 4 None
  pub closes : is_closing (command_at text last) ≡ true
  pub obeyed : NoneHolds (rules_at E text last held)

-- It breaks them with this code at this place: a row of its header is the first, or one of the command there, and all before it passes.
pub record BreaksAt (E : Env) (text : List ℕ) (code place : ℕ) : Type 0 where
  pub header : NoneHolds (header_rows text)
  pub held : Option Opened
  pub before : UpTo E text place held 4 None
  pub broken : FirstBears code (rules_at E text place held)

abbrev pub Breaks : Env → List ℕ → ℕ → ℕ → Type 0
Breaks E text code place = (FirstBears code (header_rows text) × (place ≡ header_place code)) ⊎ BreaksAt E text code place

-- Every listed sequence passes the rules, but for one in which a fault is told; and that one breaks them so.
abbrev pub FaultIn : ℕ → Ending → Type 0
FaultIn n ending = (code : ℕ) × (place : ℕ) × HasFault code n place ending

abbrev pub RulesApplied : Library → Type 0
RulesApplied L = (F : Format) (seqs lists : List ℕ) (n : ℕ) → Given F seqs lists n
    → let t = L.checks F seqs lists n in
    ((m : ℕ) → among m t.names ≡ true → Passes (env_of F lists) (entry_of F seqs m) ⊎ FaultIn m t.ending)
    × ((code m place : ℕ) → HasFault code m place t.ending → Breaks (env_of F lists) (entry_of F seqs m) code place)

-- ── 3. "Follows the call, and ends at terminate or at a sequence already listed. The check names the chain's sequences in order, says whether it
-- ends or returns, .. A fault gives sequence, place, code, the chain through that sequence, and totals 0." And its reason (P4).

-- Lists (Demand3) is just this.
abbrev pub CallsFollowed : Library → Type 0
CallsFollowed L = (F : Format) (seqs lists : List ℕ) (n : ℕ) → Given F seqs lists n → Lists F seqs lists n (L.checks F seqs lists n)

-- ── 4. "And gives exposures and steps over the listed ones once each."

abbrev pub is_loop_back : Command → Bool
is_loop_back command = eqb (number_of command) (number_of (LoopBack 0))

-- "Commands outside rasters", among the commands at these places: a raster is from its run raster through the loop back after it. The second
-- argument says whether the first of these places is in a raster.
abbrev pub outside : List ℕ → Bool → List ℕ → ℕ
outside text inside [] = 0
outside text inside (p ∷ ps) =
    cond (is_run_raster (command_at text p)) (outside text true ps)
    (cond (is_loop_back (command_at text p)) (outside text false ps)
    (cond inside (outside text true ps) (suc (outside text false ps))))

-- The first loop back among these places, and its target: "92 loop back (byte: place)".
abbrev pub loop_back_of : List ℕ → List ℕ → ℕ
loop_back_of text [] = 0
loop_back_of text (p ∷ ps) = cond (is_loop_back (command_at text p)) p (loop_back_of text ps)

abbrev pub target_of : List ℕ → List ℕ → ℕ
target_of text ps = byte_at text (loop_back_of text ps + 1)

-- "Raster repeats x (1 + commands before the target + loops x commands from target through loop back)", of the raster whose run raster stands at r
-- and is followed by the commands at these places.
abbrev pub steps_of_raster : List ℕ → ℕ → List ℕ → ℕ
steps_of_raster text r ps =
    (raster_at text r).repeats
    * (1
    + count (λ p. ltb p (target_of text ps)) ps
    + (raster_at text r).loops * count (λ p. leb (target_of text ps) p && leb p (loop_back_of text ps)) ps)

-- "Per raster", in text order.
abbrev pub steps_of_rasters : List ℕ → List ℕ → ℕ
steps_of_rasters text [] = 0
steps_of_rasters text (p ∷ ps) = cond (is_run_raster (command_at text p)) (steps_of_raster text p ps) 0 + steps_of_rasters text ps

-- "Steps of one sequence: 1 + repeats x (commands outside rasters + per raster, ..)."
abbrev pub steps_of_sequence : List ℕ → ℕ
steps_of_sequence text = 1 + byte_at text 3 * (outside text false (starts_of text) + steps_of_rasters text (starts_of text))

-- "Exposures of one sequence: repeats x the sum over its rasters of loops x exposures x raster repeats."
abbrev pub exposures_of_rasters : List ℕ → List ℕ → ℕ
exposures_of_rasters text [] = 0
exposures_of_rasters text (r ∷ rs) =
    (raster_at text r).loops * (raster_at text r).exposures * (raster_at text r).repeats + exposures_of_rasters text rs

abbrev pub exposures_of_sequence : List ℕ → ℕ
exposures_of_sequence text = byte_at text 3 * exposures_of_rasters text (rasters_among text (starts_of text))

-- The sum over these sequences, once each.
abbrev pub sum_over : Format → (List ℕ → ℕ) → List ℕ → List ℕ → ℕ
sum_over F f seqs [] = 0
sum_over F f seqs (n ∷ ns) = f (entry_of F seqs n) + sum_over F f seqs ns

abbrev pub TotalsTold : Library → Type 0
TotalsTold L = (F : Format) (seqs lists : List ℕ) (n : ℕ) → Given F seqs lists n
    → let t = L.checks F seqs lists n in
    EndsOrReturns t.ending → (t.steps ≡ sum_over F steps_of_sequence seqs t.names) × (t.exposures ≡ sum_over F exposures_of_sequence seqs t.names)

-- ── 5. Nothing else fits these sentences

-- A check that keeps them all tells what ours tells, of all tables and numbers: each of the five says a part of it.
abbrev pub SentencesDecide : Type 0
SentencesDecide = (L : Library) → CheckSixteen L → CheckSeven L → RulesApplied L → CallsFollowed L → TotalsTold L
    → (F : Format) (seqs lists : List ℕ) (n : ℕ) → L.checks F seqs lists n ≡ ours.checks F seqs lists n
