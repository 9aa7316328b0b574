-- What the check finds in one round of a sequence, as a list of items; steps, exposures and positions are functions of the text and the items.
use Rattle.std.specs.Prelude.{ℕ, ◌+◌, ◌*◌, ◌/◌, List, [], ◌∷◌, ◌++◌, replicate}
use Rattle.sequence.specs.declared.RasterWords.{RasterWords}
use Rattle.sequence.specs.Raster.{raster_at, start_of}
use Rattle.survey.specs.declared.Item.{Item}
use Rattle.survey.specs.declared.Item.TheVariants.{Pause, Scan}
use Rattle.survey.specs.Turns.{turns}

-- "raster repeats x (1 + commands before the target + loops x commands from target through loop back)"
abbrev pub raster_steps : RasterWords → ℕ → ℕ → ℕ
raster_steps raster before from = raster.repeats * (1 + before + raster.loops * (from + 1))

-- "loops x exposures x raster repeats"
abbrev pub raster_exposures : RasterWords → ℕ
raster_exposures raster = raster.loops * raster.exposures * raster.repeats

abbrev pub item_steps : List ℕ → Item → ℕ
item_steps text (Pause p) = 1
item_steps text (Scan p t q before from) = raster_steps (raster_at text p) before from

abbrev pub item_exposures : List ℕ → Item → ℕ
item_exposures text (Pause p) = 0
item_exposures text (Scan p t q before from) = raster_exposures (raster_at text p)

abbrev pub steps_of : List ℕ → List Item → ℕ
steps_of text [] = 0
steps_of text (i ∷ is) = item_steps text i + steps_of text is

abbrev pub exposures_of : List ℕ → List Item → ℕ
exposures_of text [] = 0
exposures_of text (i ∷ is) = item_exposures text i + exposures_of text is

-- "Exposure k of one raster repeat, from 0, is at initial + step x (k / exposures, whole part)", the initial position moved for this turn
abbrev pub position_at : RasterWords → ℕ → ℕ → ℕ
position_at raster turn k = start_of raster turn + raster.step * (k / raster.exposures)

-- the positions of one raster repeat, pass by pass
abbrev pub positions : RasterWords → ℕ → List ℕ
positions raster turn = turns 0 raster.loops (λ j l. replicate raster.exposures (start_of raster turn + raster.step * j))

abbrev pub item_positions : List ℕ → Item → List ℕ
item_positions text (Pause p) = []
item_positions text (Scan p t q before from) = turns 0 (raster_at text p).repeats (λ k r. positions (raster_at text p) k)

abbrev pub positions_of : List ℕ → List Item → List ℕ
positions_of text [] = []
positions_of text (i ∷ is) = item_positions text i ++ positions_of text is
