-- Demand 2, each step: what the interpreter does at each command that no row refuses, and when it enters a sequence. What is refused, and
-- with which code, is said in Demand2. Each statement in plain words and then in symbols; proofs/EachStep has its proof, under its name.
use Rattle.std.specs.Prelude.{ℕ, ◌+◌, ◌-◌, ◌≤◌, ◌<◌, ◌≡◌, true, false, cond, List, [], ◌∷◌, pos, ◌+ℤ◌, Some}
use Rattle.octets.specs.Bytes.{byte_at, counted}
use Rattle.octets.specs.Rows.{NoneHolds}
use Rattle.memory.specs.declared.Place.{Place}
use Rattle.sequence.specs.declared.Command.{Command}
use Rattle.sequence.specs.declared.Command.TheVariants.{RunRaster, Expose, LoopBack, CallSequence, Terminate, Delay}
use Rattle.sequence.specs.Text.{header_rows, command_at, size_at}
use Rattle.sequence.specs.Raster.{raster_at, shift_of, start_of}
use Rattle.sequence.specs.Env.{Env, text_of}
use Rattle.runner.specs.declared.Runner.{Runner}
use Rattle.runner.specs.declared.Stepped.{Stepped}
use Rattle.runner.specs.Judge.{is_open, repeat_begun, set_of}
use Rattle.runner.specs.Events.{Shown, shows, shown_as}
use Rattle.runner.specs.Step.{open_of}
use Rattle.runner.specs.With.{with_sequence, with_place, with_running, with_entering, with_raster, with_rounds, with_mirror, open_at, with_count, with_passes, with_repeats, with_run}
use Rattle.status.specs.declared.Watch.{Watch}
use Rattle.status.specs.State.{watched}
use Rattle.promises.specs.Library.{Library}
use Rattle.promises.specs.Demand2.{command_rows}

-- A runner s stands in its sequence's text, at a place; after this command comes the next.
abbrev pub here : Env → List ℕ → Runner → List ℕ
here E seqs s = text_of E seqs s.sequence

abbrev pub next : Env → List ℕ → Runner → ℕ
next E seqs s = s.place + size_at (here E seqs s) s.place

-- It runs, has entered, and stands at the command k, which no row refuses.
pub record Obeys (E : Env) (seqs : List ℕ) (s : Runner) (k : Command) : Type 0 where
  pub running : s.running ≡ true
  pub entered : s.entering ≡ false
  pub command : command_at (here E seqs s) s.place ≡ k
  pub accepted : NoneHolds (command_rows E (here E seqs s) s k)

-- A step shows this: the paper's word, number and values for its event (runner/specs/Events), with the status count after it. And it leaves this
-- runner: below, `with_x .. (with_y .. s)` is the runner s with X and Y changed, and nothing else; so of its open raster.
pub record Takes (r : Stepped) (seen : ℕ → Shown) (left : Runner) : Type 0 where
  pub shows : (count : ℕ) → shown_as count r.event ≡ seen count
  pub leaves : r.runner ≡ left

-- "Entering a sequence is one step": place 4, and as many rounds as byte 3 says.
abbrev pub EnterStep : Library → Type 0
EnterStep L = (E : Env) (seqs : List ℕ) (s : Runner) → s.running ≡ true → s.entering ≡ true → NoneHolds (header_rows (here E seqs s))
    → Takes (L.runs E seqs s) (λ count. shows "ENTER" 1 (s.sequence ∷ [])) (with_entering false (with_place 4 (with_rounds (byte_at (here E seqs s) 3) s)))

-- "Run raster: .. The mirror goes home, then to initial; the status takes the line list." "In raster repeat k, from 0, the initial position moves
-- by steps times the whole part of k / skip": the repeat that is begun is 0 where the raster is opened, else that of the run number; its shift is
-- kept, and the mirror stands at the initial position and the shift together, a sum that nothing is cut from. A new set begins, with all passes;
-- and all repeats, unless the raster is open already: "a repeat's jump back .. doesn't reload repeats".
abbrev pub RasterStep : Library → Type 0
RasterStep L = (E : Env) (seqs : List ℕ) (s : Runner) → Obeys E seqs s RunRaster
    → let raster = raster_at (here E seqs s) s.place in
    let held = open_of E.format s in
    let k = repeat_begun held in
    Takes (L.runs E seqs s) (λ count. shows "RASTER" 2 (raster.id ∷ start_of raster k ∷ []))
    (with_place (next E seqs s)
    (with_raster
    (record {
      place = s.place;
      count = 0;
      passes = raster.loops;
      repeats = cond (is_open held) s.raster.repeats raster.repeats;
      run = k;
      shift = shift_of raster k;
    })
    (with_mirror (start_of raster k) s)))
    × (pos (start_of raster k) ≡ pos raster.initial +ℤ shift_of raster k)
    × ((w : Watch) → (watched (L.runs E seqs s).event w).list ≡ raster.list)

-- "Expose": one exposure more in the set, where the mirror stands. "When this fills the set and passes remain, the mirror advances one step
-- after it": then and only then.
abbrev pub ExposeAdvances : Library → Type 0
ExposeAdvances L = (E : Env) (seqs : List ℕ) (s : Runner) (time : ℕ) (r : Place) (c n : ℕ) → Obeys E seqs s (Expose time) → open_of E.format s ≡ Some (record { place = r; count = c; run = n })
    → let raster = raster_at (here E seqs s) r.0 in
    1 < s.raster.passes → s.raster.count + 1 ≡ set_of raster
    → Takes (L.runs E seqs s) (λ count. shows "EXP" 3 (count ∷ s.mirror ∷ [])) (with_place (next E seqs s) (with_raster (with_count (s.raster.count + 1) s.raster) (with_mirror (s.mirror + raster.step) s)))

abbrev pub ExposeStays : Library → Type 0
ExposeStays L = (E : Env) (seqs : List ℕ) (s : Runner) (time : ℕ) (r : Place) (c n : ℕ) → Obeys E seqs s (Expose time) → open_of E.format s ≡ Some (record { place = r; count = c; run = n })
    → let raster = raster_at (here E seqs s) r.0 in
    (1 < s.raster.passes → s.raster.count + 1 ≡ set_of raster → ⊥)
    → Takes (L.runs E seqs s) (λ count. shows "EXP" 3 (count ∷ s.mirror ∷ [])) (with_place (next E seqs s) (with_raster (with_count (s.raster.count + 1) s.raster) s))

-- "Loop back: .. Passes left: jump, new set." A count left includes the one under way.
abbrev pub LoopJumps : Library → Type 0
LoopJumps L = (E : Env) (seqs : List ℕ) (s : Runner) (target : ℕ) → Obeys E seqs s (LoopBack target) → 1 < s.raster.passes
    → Takes (L.runs E seqs s) (λ count. shows "LOOP" 4 (target ∷ [])) (with_place target (with_raster (with_count 0 (with_passes (s.raster.passes - 1) s.raster)) s))

-- "Else repeats left: one fewer, jump to the run raster." The run number is one on.
abbrev pub LoopRepeats : Library → Type 0
LoopRepeats L = (E : Env) (seqs : List ℕ) (s : Runner) (target : ℕ) → Obeys E seqs s (LoopBack target) → s.raster.passes ≤ 1 → 1 < s.raster.repeats
    → Takes (L.runs E seqs s) (λ count. shows "NEXT" 5 []) (with_place s.raster.place (with_raster (with_repeats (s.raster.repeats - 1) (with_run (counted s.raster.run) s.raster)) s))

-- "Else the raster closes."
abbrev pub LoopCloses : Library → Type 0
LoopCloses L = (E : Env) (seqs : List ℕ) (s : Runner) (target : ℕ) → Obeys E seqs s (LoopBack target) → s.raster.passes ≤ 1 → s.raster.repeats ≤ 1
    → Takes (L.runs E seqs s) (λ count. shows "DONE" 6 []) (with_place (next E seqs s) (with_raster (open_at 255 s.raster) s))

-- "Delay (word, any)": it is shown, and the next command comes.
abbrev pub DelayStep : Library → Type 0
DelayStep L = (E : Env) (seqs : List ℕ) (s : Runner) (time : ℕ) → Obeys E seqs s (Delay time)
    → Takes (L.runs E seqs s) (λ count. shows "WAIT" 7 (time ∷ [])) (with_place (next E seqs s) s)

-- "Call, terminate: .. Sequence repeats left: jump to place 4."
abbrev pub CallRepeats : Library → Type 0
CallRepeats L = (E : Env) (seqs : List ℕ) (s : Runner) (n : ℕ) → Obeys E seqs s (CallSequence n) → 1 < s.rounds
    → Takes (L.runs E seqs s) (λ count. shows "NEXT" 5 []) (with_place 4 (with_rounds (s.rounds - 1) s))

abbrev pub TerminateRepeats : Library → Type 0
TerminateRepeats L = (E : Env) (seqs : List ℕ) (s : Runner) → Obeys E seqs s Terminate → 1 < s.rounds
    → Takes (L.runs E seqs s) (λ count. shows "NEXT" 5 []) (with_place 4 (with_rounds (s.rounds - 1) s))

-- "Otherwise stop, or make it the status sequence, place 0, entered next." The run goes on after a call; "after END [the place is] the
-- terminate's".
abbrev pub CallMade : Library → Type 0
CallMade L = (E : Env) (seqs : List ℕ) (s : Runner) (n : ℕ) → Obeys E seqs s (CallSequence n) → s.rounds ≤ 1
    → Takes (L.runs E seqs s) (λ count. shows "CALL" 8 (n ∷ [])) (with_sequence n (with_place 0 (with_entering true s)))

abbrev pub TerminateEnds : Library → Type 0
TerminateEnds L = (E : Env) (seqs : List ℕ) (s : Runner) → Obeys E seqs s Terminate → s.rounds ≤ 1
    → Takes (L.runs E seqs s) (λ count. shows "END" 9 []) (with_running false s)
