-- What a step shows: for each event the paper's word, its number and its values.
use Rattle.std.specs.Prelude.{ℕ, List, [], ◌∷◌}
use Prim.Native.String.{String}
use Rattle.octets.specs.Words.{bytes_of}
use Rattle.runner.specs.declared.Event.{Event}
use Rattle.runner.specs.declared.Event.TheVariants.{Idle, Enter, Raster, Exp, Loop, Next, Done, Wait, Call, End, Abort}

-- "Steps print `IDLE`, `ENTER s`, `RASTER id pos`, `EXP no pos`, `LOOP place`, `NEXT`, `DONE`, `WAIT t`, `CALL s`, `END`, or
-- `ABORT code seq place`"
pub record Shown : Type 0 where
  pub word : List ℕ
  pub number : ℕ
  pub values : List ℕ

abbrev pub shows : String → ℕ → List ℕ → Shown
shows w n vs = record { word = bytes_of w; number = n; values = vs }

-- count: the status's count of exposures after the step
abbrev pub shown_as : ℕ → Event → Shown
shown_as count Idle = shows "IDLE" 0 []
shown_as count (Enter s) = shows "ENTER" 1 (s ∷ [])
shown_as count (Raster id pos list) = shows "RASTER" 2 (id ∷ pos ∷ [])
shown_as count (Exp pos) = shows "EXP" 3 (count ∷ pos ∷ [])
shown_as count (Loop place) = shows "LOOP" 4 (place ∷ [])
shown_as count Next = shows "NEXT" 5 []
shown_as count Done = shows "DONE" 6 []
shown_as count (Wait t) = shows "WAIT" 7 (t ∷ [])
shown_as count (Call s) = shows "CALL" 8 (s ∷ [])
shown_as count End = shows "END" 9 []
shown_as count (Abort code s place) = shows "ABORT" 10 (code ∷ s ∷ place ∷ [])
