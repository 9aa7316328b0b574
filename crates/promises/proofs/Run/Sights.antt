-- What is to be seen of a sequence, as lists made from its text and its items: each turn closes with its own event.
use Prim.Native.Nat.{ℕ, zero, suc, ◌+◌, ◌*◌, ◌-◌}
use mathlib.Core.Bool.{Bool, cond, ◌&&◌}
use mathlib.Core.List.{List, [], ◌∷◌, ◌++◌}
use lib.Dec.{ltb, eqb}
use Rattle.octets.specs.Bytes.{byte_at, word_at}
use Rattle.sequence.specs.declared.RasterWords.{RasterWords}
use Rattle.sequence.specs.declared.Command.TheVariants.{Expose}
use Rattle.sequence.specs.Text.{number_of, size_at}
use Rattle.sequence.specs.Raster.{raster_at, start_of}
use Rattle.runner.specs.declared.Sight.{Sight}
use Rattle.runner.specs.declared.Event.TheVariants.{Enter, Raster, Exp, Loop, Next, Done, Wait, Call, End}
use Rattle.runner.specs.Judge.{set_of}
use Rattle.survey.specs.declared.Item.{Item}
use Rattle.survey.specs.declared.Item.TheVariants.{Pause, Scan}
use Rattle.survey.specs.declared.Closing.{Closing}
use Rattle.survey.specs.declared.Closing.TheVariants.{Terminates, CallsOn}
use Rattle.survey.specs.Turns.{turns}
use Rattle.promises.specs.Runs.{sight}

-- ── in a raster
-- exposures in the set after the command at p
abbrev pub counted : List ℕ → ℕ → ℕ → ℕ
counted text p c = cond (eqb (byte_at text p) (number_of (Expose 0))) (c + 1) c

-- the mirror with c exposures in the set, in a pass that begins at m; `again`: passes come after this one
abbrev pub mirror_in : RasterWords → Bool → ℕ → ℕ → ℕ
mirror_in raster again m c = cond (again && eqb c (set_of raster)) (m + raster.step) m

-- the exposure or the delay at p, with c exposures in the set before it
abbrev pub line_sight : List ℕ → ℕ → RasterWords → Bool → ℕ → ℕ → ℕ → Sight
line_sight text n raster again m p c =
    cond (eqb (byte_at text p) (number_of (Expose 0)))
    (sight (Exp m) n (p + size_at text p) (mirror_in raster again m (c + 1)))
    (sight (Wait (word_at text (p + 1))) n (p + size_at text p) (mirror_in raster again m c))

-- so many of them, one after another
abbrev pub line_sights : List ℕ → ℕ → RasterWords → Bool → ℕ → ℕ → ℕ → ℕ → List Sight
line_sights text n raster again m zero p c = []
line_sights text n raster again m (suc len) p c =
    line_sight text n raster again m p c ∷ line_sights text n raster again m len (p + size_at text p) (counted text p c)

-- the loop back at b to t of the raster at p, in a pass that began at m; so many repeats and passes come after
abbrev pub back_sight : List ℕ → ℕ → RasterWords → ℕ → ℕ → ℕ → ℕ → ℕ → ℕ → Sight
back_sight text n raster p t b zero zero m = sight Done n (b + size_at text b) m
back_sight text n raster p t b (suc r) zero m = sight Next n p m
back_sight text n raster p t b r (suc l) m = sight (Loop t) n t (m + raster.step)

-- where pass j of repeat k begins
abbrev pub pass_start : RasterWords → ℕ → ℕ → ℕ
pass_start raster k j = start_of raster k + raster.step * j

-- pass j of repeat k, with r repeats and l passes after it: `from` commands from the target, and the loop back
abbrev pub pass_sights : List ℕ → ℕ → RasterWords → ℕ → ℕ → ℕ → ℕ → ℕ → ℕ → ℕ → ℕ → List Sight
pass_sights text n raster p t b from k r j l =
    line_sights text n raster (ltb 1 (suc l)) (pass_start raster k j) from t 0 ++ back_sight text n raster p t b r l (pass_start raster k j) ∷ []

-- after the run raster of repeat k: `before` commands up to the target, and every pass
abbrev pub passes_sights : List ℕ → ℕ → RasterWords → ℕ → ℕ → ℕ → ℕ → ℕ → ℕ → ℕ → List Sight
passes_sights text n raster p t b before from k r =
    line_sights text n raster (ltb 1 raster.loops) (start_of raster k) before (p + size_at text p) 0
    ++ turns 0 raster.loops (pass_sights text n raster p t b from k r)

-- repeat k, with r repeats after it
abbrev pub repeat_sights : List ℕ → ℕ → RasterWords → ℕ → ℕ → ℕ → ℕ → ℕ → ℕ → ℕ → List Sight
repeat_sights text n raster p t b before from k r =
    sight (Raster raster.id (start_of raster k) raster.list) n (p + size_at text p) (start_of raster k)
    ∷ passes_sights text n raster p t b before from k r

-- ── a round
-- an item, from the mirror at m
abbrev pub item_sights : List ℕ → ℕ → Item → ℕ → List Sight
item_sights text n (Pause p) m = sight (Wait (word_at text (p + 1))) n (p + size_at text p) m ∷ []
item_sights text n (Scan p t b before from) m = turns 0 (raster_at text p).repeats (repeat_sights text n (raster_at text p) p t b before from)

-- where the last pass of repeat k stands
abbrev pub last_pass : RasterWords → ℕ → ℕ
last_pass raster k = pass_start raster k (raster.loops - 1)

-- the mirror after an item
abbrev pub item_end : List ℕ → Item → ℕ → ℕ
item_end text (Pause p) m = m
item_end text (Scan p t b before from) m = last_pass (raster_at text p) ((raster_at text p).repeats - 1)

abbrev pub end_of : List ℕ → List Item → ℕ → ℕ
end_of text [] m = m
end_of text (i ∷ is) m = end_of text is (item_end text i m)

-- all of a round but its closing command
abbrev pub body_sights : List ℕ → ℕ → List Item → ℕ → List Sight
body_sights text n [] m = []
body_sights text n (i ∷ is) m = item_sights text n i m ++ body_sights text n is (item_end text i m)

-- the closing command at p; so many rounds come after
abbrev pub close_sight : ℕ → ℕ → Closing → ℕ → ℕ → Sight
close_sight n p Terminates zero m = sight End n p m
close_sight n p (CallsOn k) zero m = sight (Call k) k 0 m
close_sight n p closing (suc l) m = sight Next n 4 m

-- where the mirror is as round r begins
abbrev pub round_start : List ℕ → List Item → ℕ → ℕ → ℕ
round_start text items m zero = m
round_start text items m (suc r) = end_of text items m

-- round r, with l rounds after it
abbrev pub round_sights : List ℕ → ℕ → List Item → ℕ → Closing → ℕ → ℕ → ℕ → List Sight
round_sights text n items p closing m r l = body_sights text n items (round_start text items m r) ++ close_sight n p closing l (end_of text items m) ∷ []

-- sequence n, entered with the mirror at m
abbrev pub sequence_sights : List ℕ → ℕ → ℕ → List Item → ℕ → Closing → ℕ → List Sight
sequence_sights text n q items p closing m = sight (Enter n) n 4 m ∷ turns 0 q (round_sights text n items p closing m)
