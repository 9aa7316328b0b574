-- One sequence, taken alone: the reason of its fault is that of the line list that its raster names. Assumes nothing.
use Prim.Native.Nat.{ℕ}
use mathlib.Core.Path.{◌≡◌, refl, sym, ap, ◌∙◌}
use mathlib.Core.Bool.{true, false}
use mathlib.Core.List.{List}
use lib.ListN.{take}
use Rattle.std.specs.Prelude.{Ok, Err, None}
use Rattle.octets.proofs.Bools.{clash}
use Rattle.memory.specs.declared.Format.{Format}
use Rattle.memory.specs.Memory.{fills}
use Rattle.sequence.specs.declared.Fault.{Fault}
use Rattle.sequence.specs.LineList.{ListCard}
use Rattle.sequence.specs.Env.{Env}
use Rattle.sequence.specs.Text.{fault}
use Rattle.survey.specs.declared.Alone.{Alone}
use Rattle.survey.specs.declared.Closed.{Closed}
use Rattle.survey.specs.declared.Reason.{Reason}
use Rattle.survey.specs.declared.Reason.TheVariants.{None}
use Rattle.survey.specs.Walk.{Finding, passes, faults, reason_for, check_one}
use Rattle.survey.specs.Tested.{tested_in, bits_of}
use Rattle.survey.specs.Report.{Walked, walked_of, reason_found, alone_in, alone_of}
use Rattle.survey.proofs.Reasons.{Right, right-one}

module _ (F : Format) (cards : ℕ → ListCard) (text : List ℕ) where
  abbrev E : Env
  E = record { format = F; cards = cards }

  -- of a kind and of none
  pub alone-in : fills F ≡ true → alone_of F cards text ≡ alone_in E (take F.size text)
  unfolding alone_of
  alone-in e = rw e

  pub alone-none : fills F ≡ false → alone_of F cards text ≡ record { found = Err (fault 16 0); reason = None; tested = 0 }
  unfolding alone_of
  alone-none e = rw e

  faulty-reason : (f : Fault) (found : Finding) → Right cards text found → Err f ≡ walked_of found → reason_for cards text f ≡ reason_found found
  faulty-reason f (passes k x is p c) r e = absurd (clash (cc))
  faulty-reason f (faults g reason) r e = let same : f ≡ g = cc in rw same (sym r.told)

  closed-reason : (c : Closed) (found : Finding) → Ok c ≡ walked_of found → None ≡ reason_found found
  closed-reason c (passes k x is p d) e = refl
  closed-reason c (faults g reason) e = absurd (clash (cc))

  module _ (fit : fills F ≡ true) (full : List ℕ) (cut : text ≡ take F.size full) (w : Walked) (b : ℕ)
      (ew : w ≡ walked_of (check_one E (take F.size full))) (eb : b ≡ bits_of 48 (tested_in cards (take F.size full))) where
    alone-so : (reason : Reason) → reason ≡ reason_found (check_one E (take F.size full)) → ◌≡◌ {A = Alone} (record { found = w; reason = reason; tested = b }) (alone_of F cards full)
    unfolding alone_of
    alone-so reason er = rw fit (λ i. record { found = ew i; reason = er i; tested = eb i })

    pub alone-fault : (f : Fault) → w ≡ Err f → (reason : Reason) → reason ≡ reason_for cards text f → ◌≡◌ {A = Alone} (record { found = w; reason = reason; tested = b }) (alone_of F cards full)
    alone-fault f e reason er =
        alone-so reason (er ∙ faulty-reason f (check_one E text) (right-one E text) (sym e ∙ ew ∙ ap (λ (s : List ℕ). walked_of (check_one E s)) (sym cut)) ∙ ap (λ (s : List ℕ). reason_found (check_one E s)) cut)

    pub alone-closed : (c : Closed) → w ≡ Ok c → ◌≡◌ {A = Alone} (record { found = w; reason = None; tested = b }) (alone_of F cards full)
    alone-closed c e = alone-so None (closed-reason c (check_one E (take F.size full)) (sym e ∙ ew))
