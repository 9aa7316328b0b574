-- What is to be seen of a chain is the same, where its texts are alike. Assumes nothing.
use Prim.Native.Nat.{ℕ, ◌<◌}
use native.Mathlib.Omega.{arith}
use mathlib.Core.Path.{◌≡◌, refl, ap, ap₂, ◌∙◌}
use mathlib.Core.Bool.{true}
use mathlib.Core.List.{List, [], ◌∷◌, ◌++◌}
use mathlib.Core.Logic.{inl}
use lib.ListN.{length}
use Rattle.octets.proofs.Bools.{by-test}
use Rattle.memory.specs.declared.Format.{Format}
use Rattle.memory.specs.Memory.{entry_of}
use Rattle.sequence.specs.declared.RasterWords.{RasterWords}
use Rattle.sequence.specs.Text.{command_at, is_run_raster}
use Rattle.sequence.specs.Starts.{starts_of, rasters_among, among}
use Rattle.sequence.specs.Within.{Alike}
use Rattle.sequence.proofs.Within.{is-run, starts-alike, rasters-alike, raster-alike}
use Rattle.runner.specs.declared.Event.{Event}
use Rattle.runner.specs.declared.Event.TheVariants.{Enter}
use Rattle.survey.specs.Turns.{turns}
use Rattle.survey.proofs.Listing.{among_first, among_later}
use Rattle.survey.proofs.Passing.{check_sound}
use Rattle.promises.specs.Library.{ours}
use Rattle.promises.specs.Demand3.{rasters_plan, raster_plan, round_plan, sequence_plan, chain_plan}
use Rattle.promises.specs.Stays.{PlanStays}
use Rattle.promises.proofs.Stays.Rests.{ended_so, passed-agree}

-- ── the plan
module _ {text text' : List ℕ} (alike : Alike text text') where
  rasters-planned : (ps : List ℕ) → rasters_plan text' (rasters_among text ps) ≡ rasters_plan text (rasters_among text ps)
  rasters-planned [] = refl
  rasters-planned (p ∷ ps) =
      by-test (is_run_raster (command_at text p))
      (λ t. rw t (ap₂ (λ (w : RasterWords) (es : List Event). raster_plan w ++ es) (raster-alike alike p (is-run (command_at text p) t)) (rasters-planned ps)))
      (λ t. rw t (rasters-planned ps))

  round-planned : round_plan text' ≡ round_plan text
  round-planned = ap (λ (ps : List ℕ). rasters_plan text' (rasters_among text' ps)) (starts-alike alike) ∙ ap (rasters_plan text') (rasters-alike alike (starts_of text)) ∙ rasters-planned (starts_of text)

  sequence-planned : (n : ℕ) → 3 < length text → sequence_plan n text' ≡ sequence_plan n text
  sequence-planned n l = ap₂ (λ (k : ℕ) (es : List Event). Enter n ∷ turns 0 k (λ r left. es)) (alike.bytes 3 (l, inl (omega arith))) round-planned

chain-planned : (F : Format) (seqs seqs' names : List ℕ) → ((m : ℕ) → among m names ≡ true → (3 < length (entry_of F seqs m)) × Alike (entry_of F seqs m) (entry_of F seqs' m)) → chain_plan F seqs' names ≡ chain_plan F seqs names
unfolding among
chain-planned F seqs seqs' [] h = refl
chain-planned F seqs seqs' (m ∷ ms) h =
    let (l, alike) = h m (among_first m ms) in
    ap₂ (λ (es fs : List Event). es ++ fs) (sequence-planned alike m l) (chain-planned F seqs seqs' ms (λ k a. h k (among_later k m ms a)))

pub plan-stays : {F : Format} → PlanStays F ours
plan-stays {F} seqs lists seqs' lists' n g g' y same =
    let sound = check_sound F seqs lists n (ended_so (ours.checks F seqs lists n).ending y) in
    let agree = passed-agree seqs lists seqs' lists' g g' y same in
    chain-planned F seqs seqs' (ours.checks F seqs lists n).names (λ m a. (omega (arith, (sound m a).least, (sound m a).most), agree.entries m a))
