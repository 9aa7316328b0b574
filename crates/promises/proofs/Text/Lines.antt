-- What the check has found of a text, as derivations: lines of delays and exposures, whole rasters, and the body of a round.
-- They hold no pass, repeat, round or mirror. Assumes nothing.
use Rattle.std.specs.Prelude.{Some, None}
use Prim.Native.Nat.{ℕ, suc, ◌+◌, ◌<◌}
use mathlib.Core.Path.{◌≡◌}
use mathlib.Core.List.{List, [], ◌∷◌}
use Rattle.memory.specs.Memory.{place_at}
use Rattle.sequence.specs.declared.Fault.{Fault}
use Rattle.sequence.specs.Text.{fault, size_at}
use Rattle.sequence.specs.Raster.{raster_at}
use Rattle.sequence.specs.Env.{Env}
use Rattle.runner.specs.declared.Act.{Act}
use Rattle.runner.specs.declared.Act.TheVariants.{Refused, Opens, Exposes, Loops, Waits, Calls, Ends}
use Rattle.runner.specs.Judge.{set_of, judge}
use Rattle.survey.specs.declared.Item.{Item}
use Rattle.survey.specs.declared.Item.TheVariants.{Pause, Scan}
use Rattle.survey.specs.declared.Closing.{Closing}
use Rattle.survey.specs.declared.Closing.TheVariants.{Terminates, CallsOn}

-- the command at p comes to this act with the raster at r open and c exposures in the set, whatever repeat it is in
abbrev pub InRaster : Env → List ℕ → ℕ → ℕ → ℕ → Act → Type 0
InRaster E text r p c act = (run : ℕ) → judge E.cards text p (Some (record { place = place_at r; count = c; run = run })) ≡ act

-- so many delays and exposures in the raster at r: from place p with c exposures in the set to place p' with c'
pub data Line (E : Env) (text : List ℕ) (r : ℕ) : ℕ → ℕ → ℕ → ℕ → ℕ → Type 0 where
  stop : {p c : ℕ} → Line E text r p c 0 p c
  delay : {p c len p' c' : ℕ} → InRaster E text r p c Waits → Line E text r (p + size_at text p) c len p' c' → Line E text r p c (suc len) p' c'
  expose : {p c len p' c' : ℕ} → InRaster E text r p c (Exposes (place_at r)) → c < set_of (raster_at text r)
      → Line E text r (p + size_at text p) (c + 1) len p' c' → Line E text r p c (suc len) p' c'

-- a whole raster: its run raster at p, its loop back at b to t, and how many commands stand before and from the target
pub record Whole (E : Env) (text : List ℕ) (p t b before from : ℕ) : Type 0 where
  pub run : judge E.cards text p None ≡ Opens
  pub first : Line E text p (p + size_at text p) 0 before t 0
  pub again : Line E text p t 0 from b (set_of (raster_at text p))
  pub loops : InRaster E text p b (set_of (raster_at text p)) (Loops t)

-- how a round's text comes to an end: its closing command, or a fault
pub data End : Type 0 where
  closed : ℕ → Closing → End
  faulty : Fault → End

abbrev pub closing_act : Closing → Act
closing_act Terminates = Ends
closing_act (CallsOn n) = Calls n

-- the text from p on, in no raster: its items and its end
pub data Body (E : Env) (text : List ℕ) : ℕ → List Item → End → Type 0 where
  closes : {p : ℕ} (closing : Closing) → judge E.cards text p None ≡ closing_act closing → Body E text p [] (closed p closing)
  wrong : {p code : ℕ} → judge E.cards text p None ≡ Refused code → Body E text p [] (faulty (fault code p))
  torn : {p len q c code : ℕ} → judge E.cards text p None ≡ Opens → Line E text p (p + size_at text p) 0 len q c → InRaster E text p q c (Refused code) → Body E text p [] (faulty (fault code q))
  pauses : {p : ℕ} {items : List Item} {end : End} → judge E.cards text p None ≡ Waits → Body E text (p + size_at text p) items end → Body E text p (Pause p ∷ items) end
  scans : {p t b before from : ℕ} {items : List Item} {end : End} → Whole E text p t b before from → Body E text (b + size_at text b) items end → Body E text p (Scan p t b before from ∷ items) end
