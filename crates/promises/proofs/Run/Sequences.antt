-- One sequence, entered at its door, does what its check finds.
-- Assumes nothing.
use Prim.Native.Nat.{ℕ}
use mathlib.Core.Path.{refl, sym, subst}
use mathlib.Core.List.{List, []}
use Rattle.octets.specs.Bytes.{byte_at}
use Rattle.memory.proofs.Laws.{Fair}
use Rattle.sequence.specs.Env.{Env, text_of}
use Rattle.runner.specs.declared.OpenRaster.{OpenRaster}
use Rattle.runner.specs.declared.Runner.{Runner}
use Rattle.survey.specs.declared.Item.{Item}
use Rattle.survey.specs.declared.Closing.{Closing}
use Rattle.survey.specs.Walk.{Finding, passes, faults, check_one}
use Rattle.promises.specs.Runs.{Run, done, more, Aborts, AtDoor}
use Rattle.promises.proofs.Run.Steps.{door, door-is, step-enters, step-barred}
use Rattle.promises.proofs.Run.Sights.{end_of, sequence_sights}
use Rattle.promises.proofs.Run.Rounds.{AtEnd, After, body_run, rounds-run, rounds-miscall}
use Rattle.promises.proofs.Text.Walks.{Counted, Read, whole, broken, miscalls, barred, read_one}

-- the check passes sequence n with k steps and x exposures, and so it runs from s with the mirror at m
pub record Passed (E : Env) (seqs : List ℕ) (n m k x : ℕ) (items : List Item) (e : ℕ) (closing : Closing) (s : Runner) : Type 0 where
  pub counted : Counted E (text_of E seqs n) k x items e closing
  pub last : Runner
  pub ran : Run E seqs s (sequence_sights (text_of E seqs n) n (byte_at (text_of E seqs n) 3) items e closing m) last
  pub after : After E closing (end_of (text_of E seqs n) items m) last

unfoldable pub One : Env → List ℕ → ℕ → ℕ → Finding → Runner → Type 0
One E seqs n m (passes k x items e closing) s = Passed E seqs n m k x items e closing s
One E seqs n m (faults f reason) s = Aborts E seqs n f s

module _ (E : Env) (fair : Fair E.format) (seqs : List ℕ) (n m : ℕ) (d : OpenRaster) (old : ℕ) where
  abbrev text : List ℕ
  text = text_of E seqs n

  from-door : (v : Finding) → Read E text v → One E seqs n m v (door n d m old)
  unfolding One AtEnd
  from-door (passes k x items e closing) (whole (some, entered) w c) =
      let (s, ran, a) = rounds-run E fair seqs n m c.0 w (byte_at text 3) d some in
      record { counted = c; last = s; ran = more (step-enters E seqs n d m old entered) refl ran; after = a }
  from-door (faults f reason) (broken (some, entered) b) =
      let (tail, s, ran, a) = body_run E fair seqs n b d m (byte_at text 3) in
      record { sights = _; last = s; ran = more (step-enters E seqs n d m old entered) refl ran; abort = a }
  from-door (faults f reason) (miscalls {t} (some, entered) b l) =
      let z = rounds-miscall E fair seqs n m b t refl l (byte_at text 3) d some in
      record { sights = _; last = z.last; ran = more (step-enters E seqs n d m old entered) refl z.ran; abort = z.abort }
  from-door (faults f reason) (barred h) = record { sights = []; last = door n d m old; ran = done; abort = step-barred E seqs n d m old h }

pub one-sequence : (E : Env) → Fair E.format → (seqs : List ℕ) (n m : ℕ) (s : Runner) → AtDoor n m s → One E seqs n m (check_one E (text_of E seqs n)) s
one-sequence E fair seqs n m s d =
    subst (λ (y : Runner). One E seqs n m (check_one E (text_of E seqs n)) y) (sym (door-is d))
    (from-door E fair seqs n m s.raster s.rounds (check_one E (text_of E seqs n)) (read_one E (text_of E seqs n)))
