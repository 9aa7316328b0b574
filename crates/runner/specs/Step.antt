-- One interpreter step.
use Rattle.std.specs.Prelude.{ℕ, ◌+◌, ◌-◌, ◌<◌, ◌≡◌, Bool, true, false, cond, ◌&&◌, List, ltb, eqb, Option, Some, None, Result, Ok, Err}
use Rattle.octets.specs.Bytes.{word_at, counted}
use Rattle.memory.specs.declared.Format.{Format}
use Rattle.memory.specs.declared.Place.{Place}
use Rattle.memory.specs.Memory.{place_of}
use Rattle.sequence.specs.declared.Command.{Command}
use Rattle.sequence.specs.declared.Fault.{Fault}
use Rattle.sequence.specs.declared.RasterWords.{RasterWords}
use Rattle.sequence.specs.Text.{fault, number_of, size_of, size_at, command_at, header_of}
use Rattle.sequence.specs.Raster.{raster_at, shift_of, start_of}
use Rattle.sequence.specs.Env.{Env, text_of}
use Rattle.runner.specs.declared.OpenRaster.{OpenRaster}
use Rattle.runner.specs.declared.Runner.{Runner}
use Rattle.runner.specs.declared.Stepped.{Stepped}
use Rattle.runner.specs.declared.Event.{Event}
use Rattle.runner.specs.declared.Event.TheVariants.{Idle, Enter, Raster, Exp, Loop, Next, Done, Wait, Call, End, Abort}
use Rattle.runner.specs.declared.Opened.{Opened}
use Rattle.runner.specs.declared.Act.{Act}
use Rattle.runner.specs.declared.Act.TheVariants.{Refused, Opens, Exposes, Loops, Waits, Calls, Ends}
use Rattle.runner.specs.With.{with_sequence, with_place, with_running, with_entering, with_raster, with_rounds, with_mirror, open_at, with_count, with_passes, with_repeats, with_run}
use Rattle.runner.specs.Judge.{is_open, repeat_begun, set_of, judge}

abbrev pub to : Event → Runner → Stepped
to e s = record { event = e; runner = s }

-- the raster that the runner holds open: 255, or a number that is no place, is none
abbrev pub open_by : Option Place → OpenRaster → Option Opened
open_by (Some r) o = Some (record { place = r; count = o.count; run = o.run })
open_by None o = None

abbrev pub open_of : Format → Runner → Option Opened
open_of F s = cond (eqb s.raster.place 255) None (open_by (place_of F s.raster.place) s.raster)

-- "the place after a step is the next command's"
abbrev pub past : List ℕ → Runner → ℕ
past text s = s.place + size_at text s.place

-- "An abort sets place and code, stops the run and changes nothing else."
unfoldable pub aborted : Fault → Runner → Stepped
aborted f s = to (Abort f.code s.sequence f.place) (with_place f.place (with_running false s))

-- "Entering a sequence is one step: bad length or XOR, code 2 at place 0; then repeats 0, code 10 at place 3."
abbrev pub entered_by : Runner → Result ℕ Fault → Stepped
entered_by s (Ok n) = to (Enter s.sequence) (with_entering false (with_place 4 (with_rounds n s)))
entered_by s (Err f) = aborted f s

unfoldable pub entered : List ℕ → Runner → Stepped
entered text s = entered_by s (header_of text)

-- "The mirror goes home, then to initial", moved by the shift; "the status takes the line list." A repeat's jump back "doesn't reload repeats".
abbrev pub begun_in : ℕ → RasterWords → Option Opened → Runner → Stepped
begun_in next raster o s =
    let k = repeat_begun o in
    to (Raster raster.id (start_of raster k) raster.list)
    (with_place next
    (with_raster
    (record {
      place = s.place;
      count = 0;
      passes = raster.loops;
      repeats = cond (is_open o) s.raster.repeats raster.repeats;
      run = k;
      shift = shift_of raster k;
    })
    (with_mirror (start_of raster k) s)))

unfoldable pub begun : Format → List ℕ → Runner → Stepped
begun F text s = begun_in (past text s) (raster_at text s.place) (open_of F s) s

-- "When this fills the set and passes remain, the mirror advances one step after it (past 2400: 14)."
unfoldable pub advances : RasterWords → Runner → Bool
advances raster s = ltb 1 s.raster.passes && eqb (s.raster.count + 1) (set_of raster)

abbrev pub exposed_at : ℕ → ℕ → Runner → Stepped
exposed_at next mirror s = to (Exp s.mirror) (with_place next (with_raster (with_count (s.raster.count + 1) s.raster) (with_mirror mirror s)))

abbrev pub exposed_by : ℕ → RasterWords → Runner → Stepped
exposed_by next raster s =
    cond (advances raster s)
    (cond (ltb 2400 (s.mirror + raster.step)) (aborted (fault 14 s.place) s) (exposed_at next (s.mirror + raster.step) s))
    (exposed_at next s.mirror s)

unfoldable pub exposed : List ℕ → Place → Runner → Stepped
exposed text r s = exposed_by (past text s) (raster_at text r.0) s

-- one repeat fewer, and the next one's number
abbrev pub next_repeat : OpenRaster → OpenRaster
next_repeat o = with_repeats (o.repeats - 1) (with_run (counted o.run) o)

-- "Passes left: jump, new set. Else repeats left: one fewer, jump to the run raster. Else the raster closes."
unfoldable pub looped : List ℕ → ℕ → Runner → Stepped
looped text t s =
    cond (ltb 1 s.raster.passes) (to (Loop t) (with_place t (with_raster (with_count 0 (with_passes (s.raster.passes - 1) s.raster)) s)))
    (cond (ltb 1 s.raster.repeats) (to Next (with_place s.raster.place (with_raster (next_repeat s.raster) s)))
    (to Done (with_place (past text s) (with_raster (open_at 255 s.raster) s))))

unfoldable pub delayed : List ℕ → Runner → Stepped
delayed text s = to (Wait (word_at text (s.place + 1))) (with_place (past text s) s)

-- "Sequence repeats left: jump to place 4."
abbrev pub another : Runner → Stepped
another s = to Next (with_place 4 (with_rounds (s.rounds - 1) s))

-- "Else call above 127 gives 4; otherwise .. make it the status sequence, place 0, entered next."
unfoldable pub called : Format → ℕ → Runner → Stepped
called F n s =
    cond (ltb 1 s.rounds) (another s)
    (cond (ltb F.last n) (aborted (fault 4 s.place) s)
    (to (Call n) (with_sequence n (with_place 0 (with_entering true s)))))

-- "otherwise stop": "after END [the place is] the terminate's"
unfoldable pub ended : Runner → Stepped
ended s = cond (ltb 1 s.rounds) (another s) (to End (with_running false s))

-- what the runner does with a judgement
unfoldable pub act : Format → List ℕ → Runner → Act → Stepped
act F text s (Refused code) = aborted (fault code s.place) s
act F text s Opens = begun F text s
act F text s (Exposes r) = exposed text r s
act F text s (Loops t) = looped text t s
act F text s Waits = delayed text s
act F text s (Calls n) = called F n s
act F text s Ends = ended s

-- "A step not running is idle and changes nothing. Entering a sequence is one step .. Each command is one step."
unfoldable pub step_in : Env → List ℕ → Runner → Stepped
step_in E text s = cond s.entering (entered text s) (act E.format text s (judge E.cards text s.place (open_of E.format s)))

unfoldable pub step_of : Env → List ℕ → Runner → Stepped
step_of E seqs s = cond s.running (step_in E (text_of E seqs s.sequence) s) (to Idle s)

-- a command stands at the runner's place, and ends at a place
pub record Stands (text : List ℕ) (s : Runner) (command : Command) : Type 0 where
  pub here : command ≡ command_at text s.place
  pub fits : s.place + size_of (number_of command) < 256
