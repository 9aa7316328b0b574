-- Every step moves what its event names and nothing else, by cases over what a runner does. Assumes nothing.
use native.Mathlib.Omega.{arith}
use Prim.Native.Nat.{ℕ}
use mathlib.Core.Path.{◌≡◌, refl}
use mathlib.Core.List.{List}
use Rattle.std.specs.Prelude.{Result, Ok, Err}
use Rattle.octets.proofs.Bools.{either}
use Rattle.memory.specs.declared.Format.{Format}
use Rattle.sequence.specs.declared.Fault.{Fault}
use Rattle.sequence.specs.Text.{header_of}
use Rattle.sequence.specs.Env.{Env, text_of}
use Rattle.runner.specs.declared.Runner.{Runner}
use Rattle.runner.specs.declared.Stepped.{Stepped}
use Rattle.runner.specs.declared.Event.TheVariants.{Idle}
use Rattle.runner.specs.declared.Act.{Act}
use Rattle.runner.specs.declared.Act.TheVariants.{Refused, Opens, Exposes, Loops, Waits, Calls, Ends}
use Rattle.runner.specs.Judge.{judge}
use Rattle.runner.specs.Step.{to, open_of, aborted, entered_by, entered, begun, exposed, looped, delayed, called, ended, act, step_in, step_of}
use Rattle.runner.specs.Moves.{moves}

module _ (s : Runner) where
  -- the runner after it differs from s in what the event moves alone
  abbrev pub Moved : Stepped → Type 0
  Moved x = x.runner ≡ moves x.event x.runner s

  enters : (h : Result ℕ Fault) → Moved (entered_by s h)
  unfolding aborted
  enters (Ok n) = refl
  enters (Err f) = refl

  acts : (F : Format) (text : List ℕ) (a : Act) → Moved (act F text s a)
  unfolding aborted begun exposed looped delayed called ended act
  acts F text (Refused code) = refl
  acts F text Opens = refl
  acts F text (Exposes r) = grind arith
  acts F text (Loops t) = grind arith
  acts F text Waits = refl
  acts F text (Calls n) = grind arith
  acts F text Ends = grind arith

  works : (E : Env) (text : List ℕ) → Moved (step_in E text s)
  unfolding entered step_in
  works E text =
      let a = judge E.cards text s.place (open_of E.format s) in
      either Moved s.entering (entered text s) (act E.format text s a) (enters (header_of text)) (acts E.format text a)

  pub step-moves : (E : Env) (seqs : List ℕ) → Moved (step_of E seqs s)
  unfolding step_of
  step-moves E seqs = let text = text_of E seqs s.sequence in either Moved s.running (step_in E text s) (to Idle s) (works E text) refl
