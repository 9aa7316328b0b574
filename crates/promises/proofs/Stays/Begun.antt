-- Demand 3 of a run begun now, with what the check told then. Assumes nothing.
use Prim.Native.Nat.{ℕ, ◌≤◌}
use mathlib.Core.Path.{◌≡◌, ap₂, subst, ◌∙◌}
use mathlib.Core.List.{List}
use lib.ListN.{length}
use Rattle.memory.specs.declared.Format.{Format}
use Rattle.sequence.specs.Within.{Read}
use Rattle.survey.specs.declared.Ending.{Ending}
use Rattle.survey.specs.Chain.{Told}
use Rattle.promises.specs.Formats.{Fills}
use Rattle.promises.specs.Library.{ours}
use Rattle.promises.specs.Demand3.{World, Action, packet, after, outcomes, Reached, mode_of, selecting, starting, code_for, NeverCalledBack, ComesBack, EndsOrReturns, IsFault, Again, GoesRound}
use Rattle.promises.specs.EachCheck.{Given}
use Rattle.promises.specs.Stays.{WithinLength, RestsOn, StaysIf, Holds, RunsIf, StaysRuns, FaultRuns}
use Rattle.promises.proofs.Range.Steady.{steady}
use Rattle.promises.proofs.Packets.Starts.{selects, starts}
use Rattle.promises.proofs.Demand3.{demand3}
use Rattle.promises.proofs.EveryLap.{every-lap}
use Rattle.promises.proofs.Stays.Rests.{stays, fault-stays}

-- ── demand 3 for a run begun now
module _ {F : Format} (full : Fills F) where
  -- tables of a unit that was reached have the right sizes
  given-reached : {v : World F} → Reached ours v → {n : ℕ} → n ≤ F.last → Given F v.seqs v.lists n
  given-reached r h = let s = steady full r in record { format = full; sequences = s.seqs; line_lists = s.lists; number = h }

  -- demand 3 and every lap, with what the check tells now
  holds-now : (n : ℕ) → n ≤ F.last → (v : World F) → Reached ours v → mode_of v ≡ 2
      → (out out' : List ℕ) → 16384 ≤ length out → 16384 ≤ length out' → (time time' : ℕ)
      → let u = after ours (packet out time (selecting n)) v in
      let s = after ours (packet out' time' starting) u in
      (code_for ours out time (selecting n) v ≡ 0) × (code_for ours out' time' starting u ≡ 0) × Holds F ours n (ours.checks F v.seqs v.lists n) v s
  holds-now n h v r m out out' space space' time time' =
      let u = after ours (packet out time (selecting n)) v in
      let s = after ours (packet out' time' starting) u in
      let (_, selected, us, ul) = selects full v r m n h out space time in
      let (_, enters, ss, sl) = starts full n u selected out' space' time' in
      let same : ours.checks F s.seqs s.lists n ≡ ours.checks F v.seqs v.lists n = ap₂ (λ (q l : List ℕ). ours.checks F q l n) (ss ∙ us) (sl ∙ ul) in
      let (code, code', listed, passed, faulted) = demand3 full v r m n h out out' space space' time time' in
      (code, code', record { lists = listed; passed = passed; faulted = faulted; returns = subst (Rounds s) same (every-lap full n s enters) })
    where
      Rounds : World F → Told → Type 0
      Rounds s t = ComesBack t.ending
          → (m : ℕ) × Again F ours s.seqs s.lists n m
          × ((acts : List Action) → NeverCalledBack ours acts s → GoesRound F s.seqs t (ours.checks F s.seqs s.lists m) (outcomes ours acts s))

  -- and with what it told then, where that is the same
  runs-if : (Such : Ending → Type 0) (Rests : Format → List ℕ → List ℕ → List ℕ → ℕ → Type 0) → StaysIf Such Rests F ours → RunsIf Such Rests F ours
  runs-if Such Rests keeps seqs lists n g v r m out out' space space' time time' y same =
      let u = after ours (packet out time (selecting n)) v in
      let s = after ours (packet out' time' starting) u in
      subst (λ (t : Told). (code_for ours out time (selecting n) v ≡ 0) × (code_for ours out' time' starting u ≡ 0) × Holds F ours n t v s)
      (keeps seqs lists v.seqs v.lists n g (given-reached r g.number) y same) (holds-now n g.number v r m out out' space space' time time')

  pub stays-runs : StaysRuns F ours
  stays-runs = runs-if EndsOrReturns (RestsOn WithinLength) stays

  pub fault-runs : FaultRuns F ours
  fault-runs = runs-if IsFault (RestsOn Read) fault-stays
