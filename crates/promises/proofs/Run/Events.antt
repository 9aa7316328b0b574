-- An event that shows what IDLE, ENTER or ABORT shows is that event; an ending is told by its number and values. Assumes nothing.
use Rattle.std.specs.Prelude.{Ok, Err}
use Prim.Native.Nat.{ℕ}
use mathlib.Core.Path.{◌≡◌, refl, sym, ap, subst, ◌∙◌}
use mathlib.Core.Bool.{Bool, true, cond, ◌||◌, false≢true}
use mathlib.Core.Logic.{inl, inr}
use lib.Dec.{eqb}
use lib.ListN.{get_or}
use Rattle.sequence.specs.Text.{fault}
use Rattle.runner.specs.declared.Event.{Event}
use Rattle.runner.specs.declared.Event.TheVariants.{Idle, Enter, Raster, Exp, Loop, Next, Done, Wait, Call, End, Abort}
use Rattle.runner.specs.Events.{Shown, shown_as}
use Rattle.survey.specs.declared.Ending.{Ending}
use Rattle.survey.specs.declared.Ending.TheVariants.{Unlisted, Finishes, Returns, Faults}
use Rattle.survey.specs.declared.Reason.{Reason}
use Rattle.survey.specs.Report.{EndingShown, ending_shown, reason_of}
use Rattle.unit.specs.Step.{Outcome}
use Rattle.promises.specs.Runs.{ShownAs, Showing}
use Rattle.promises.specs.Kept.{IsPassed}
use Rattle.promises.specs.Demand3.{Ends, ComesBack, EndsOrReturns, HasFault}

-- the numbers of the three, and the event that one of them with these values is
abbrev known : Shown → Bool
known seen = eqb seen.number 0 || (eqb seen.number 1 || eqb seen.number 10)

abbrev event_of : Shown → Event
event_of seen =
    cond (eqb seen.number 0) Idle
    (cond (eqb seen.number 1) (Enter (get_or seen.values 0 0))
    (Abort (get_or seen.values 0 0) (get_or seen.values 1 0) (get_or seen.values 2 0)))

back : (e : Event) → known (shown_as 0 e) ≡ true → event_of (shown_as 0 e) ≡ e
back Idle h = refl
back (Enter n) h = refl
back (Raster id pos list) h = absurd (false≢true h)
back (Exp pos) h = absurd (false≢true h)
back (Loop place) h = absurd (false≢true h)
back Next h = absurd (false≢true h)
back Done h = absurd (false≢true h)
back (Wait t) h = absurd (false≢true h)
back (Call n) h = absurd (false≢true h)
back End h = absurd (false≢true h)
back (Abort code n place) h = refl

pub event-shown : (e : Event) (seen : Shown) → ShownAs e seen → known seen ≡ true → e ≡ event_of seen
event-shown e seen h k = sym (back e (ap known (h 0) ∙ k)) ∙ ap event_of (h 0)

pub outcome-shown : (o : Outcome) (seen : Shown) → Showing o seen → known seen ≡ true → o ≡ Ok (event_of seen)
outcome-shown (Err code) seen h k = absurd h
outcome-shown (Ok e) seen h k = ap Ok (event-shown e seen h k)

-- ── endings
ending_of : Reason → EndingShown → Ending
ending_of reason x = cond (eqb x.number 0) (Unlisted x.code) (cond (eqb x.number 1) Finishes (cond (eqb x.number 2) Returns (Faults x.sequence (fault x.code x.place) reason)))

ending-back : (e : Ending) → ending_of (reason_of e) (ending_shown e) ≡ e
unfolding ending_of
ending-back (Unlisted code) = refl
ending-back Finishes = refl
ending-back Returns = refl
ending-back (Faults n f reason) = refl

pub ends_so : {e : Ending} → Ends e → e ≡ Finishes
unfolding ending_of
ends_so {e} h = sym (ending-back e) ∙ ap (ending_of (reason_of e)) h

pub back-so : {e : Ending} → ComesBack e → e ≡ Returns
unfolding ending_of
back-so {e} h = sym (ending-back e) ∙ ap (ending_of (reason_of e)) h

pub fault-so : {e : Ending} {code n place : ℕ} → HasFault code n place e → e ≡ Faults n (fault code place) (reason_of e)
unfolding ending_of
fault-so {e} h = sym (ending-back e) ∙ ap (ending_of (reason_of e)) h

pub passed-so : (e : Ending) → EndsOrReturns e → IsPassed e
passed-so e (inl h) = subst IsPassed (sym (ends_so {e = e} h)) tt
passed-so e (inr h) = subst IsPassed (sym (back-so {e = e} h)) tt

pub so-passed : (e : Ending) → IsPassed e → EndsOrReturns e
so-passed (Unlisted code) y = absurd y
so-passed Finishes y = inl refl
so-passed Returns y = inr refl
so-passed (Faults n f reason) y = absurd y
