-- Document 01's raster sample run through the step: sixteen steps and what each shows, one row a step; then the run has stopped. And a long
-- sequence of the old unit. Proved by computing. Assumes nothing.
use Prim.Native.Nat.{ℕ, zero, suc}
use mathlib.Core.Path.{◌≡◌, refl}
use mathlib.Core.Bool.{true}
use mathlib.Core.List.{List, [], ◌∷◌, ◌++◌}
use lib.IntN.{pos}
use lib.ListN.{replicate}
use Rattle.octets.specs.Bytes.{xor_on}
use Rattle.memory.specs.Memory.{flight, bench}
use Rattle.sequence.specs.Text.{length_good, limit, xor_good, header_rows, header_of, size_of, decoded, none_there, command_at, size_at}
use Rattle.sequence.specs.Starts.{starts, starts_of, among, exposes_between, first_exposure, target_good}
use Rattle.sequence.specs.Raster.{raster_at, flags_good, mark_missing, some_strays}
use Rattle.sequence.specs.LineList.{checksum_of, marked, marks_of, list_card}
use Rattle.sequence.specs.Env.{Env, env_of}
use Rattle.sequence.proofs.SampleTables.{seqs, lists, line_list, the_raster, long_sequence}
use Rattle.runner.specs.declared.Runner.{Runner}
use Rattle.runner.specs.declared.Event.{Event}
use Rattle.runner.specs.declared.Event.TheVariants.{Idle, Enter, Raster, Exp, Loop, Next, Done, Wait, End}
use Rattle.runner.specs.Judge.{path_rows, raster_rows, run_rows, expose_rows, loop_rows, close_rows, judged, judge}
use Rattle.runner.specs.Step.{aborted, entered, begun, advances, exposed, looped, delayed, called, ended, act, step_in, step_of}

-- the runner that enters sequence 0
started : Runner
started =
    record { sequence = 0; place = 0; running = true; entering = true; raster = record { place = 255; count = 0; passes = 0; repeats = 0; run = 0; shift = pos 0 }; rounds = 0; mirror = 0 }

-- what the next steps over this table show
shown : Env → List ℕ → ℕ → Runner → List Event
shown E table zero s = []
shown E table (suc n) s = (step_of E table s).event ∷ shown E table n (step_of E table s).runner

raster-sample : shown (env_of flight (lists (line_list 1))) (seqs the_raster) 17 started
    ≡ Enter 0
    ∷ Raster 7 100 0 ∷ Exp 100 ∷ Loop 27 ∷ Exp 110 ∷ Loop 27 ∷ Exp 120 ∷ Next
    ∷ Raster 7 100 0 ∷ Exp 100 ∷ Loop 27 ∷ Exp 110 ∷ Loop 27 ∷ Exp 120 ∷ Done
    ∷ End
    ∷ Idle
    ∷ []
unfolding started shown xor_on length_good limit xor_good header_rows header_of size_of decoded none_there command_at size_at starts starts_of among exposes_between first_exposure target_good raster_at flags_good mark_missing some_strays checksum_of marked marks_of list_card path_rows raster_rows run_rows expose_rows loop_rows close_rows judged judge aborted entered begun advances exposed looped delayed called ended act step_in step_of
raster-sample = refl

-- the old unit runs a sequence of 255 bytes to its end, with loop targets past 127
long-sample : shown (env_of bench (lists (line_list 1))) (seqs long_sequence) 73 started
    ≡ Enter 0 ∷ replicate 55 (Wait 1)
    ++ (Raster 7 100 0 ∷ Exp 100 ∷ Loop 192 ∷ Exp 110 ∷ Done
    ∷ Raster 7 100 0 ∷ Exp 100 ∷ Loop 220 ∷ Exp 110 ∷ Done
    ∷ Raster 7 100 0 ∷ Exp 100 ∷ Loop 248 ∷ Exp 110 ∷ Done
    ∷ End
    ∷ Idle
    ∷ [])
unfolding started shown xor_on length_good limit xor_good header_rows header_of size_of decoded none_there command_at size_at starts starts_of among exposes_between first_exposure target_good raster_at flags_good mark_missing some_strays checksum_of marked marks_of list_card path_rows raster_rows run_rows expose_rows loop_rows close_rows judged judge aborted entered begun advances exposed looped delayed called ended act step_in step_of
long-sample = refl
