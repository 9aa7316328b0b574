-- A fault's reason is right: that of a 7 is what the line list test answers for the list of the run raster at its place, or a missing mark
-- where that is good; any other has none. Assumes nothing.
use Prim.Native.Nat.{ℕ, zero, suc, ◌+◌}
use native.Mathlib.Omega.{arith}
use mathlib.Core.Path.{◌≡◌, refl, subst}
use mathlib.Core.Bool.{not}
use mathlib.Core.List.{List}
use lib.Dec.{ltb, eqb}
use lib.ListN.{length}
use borrow.Author.Tests.{ne_eqb}
use Rattle.std.specs.Prelude.{Option, Some, None}
use Rattle.octets.specs.Bytes.{byte_at}
use Rattle.octets.proofs.Bools.{either}
use Rattle.memory.specs.declared.Format.{Format}
use Rattle.sequence.specs.declared.Fault.{Fault}
use Rattle.sequence.specs.LineList.{ListCard}
use Rattle.sequence.specs.Text.{fault, length_good, xor_good, header_rows, header_by, header_of, size_at, command_at}
use Rattle.sequence.specs.Env.{Env}
use Rattle.runner.specs.declared.Opened.{Opened}
use Rattle.runner.specs.declared.Act.{Act}
use Rattle.runner.specs.declared.Act.TheVariants.{Refused, Opens, Exposes, Loops, Waits, Calls, Ends}
use Rattle.runner.specs.Judge.{judge}
use Rattle.runner.proofs.Exactly.{RefusedFor, seven}
use Rattle.survey.specs.declared.Item.{Item}
use Rattle.survey.specs.declared.Item.TheVariants.{Pause}
use Rattle.survey.specs.declared.Closing.TheVariants.{Terminates, CallsOn}
use Rattle.survey.specs.declared.Reason.{Reason}
use Rattle.survey.specs.declared.Reason.TheVariants.{None}
use Rattle.survey.specs.Walk.{Finding, passes, faults, in_front, paused, closed, scan, reason_for, walked, walk, rounds, checked_by, check_one}

module _ (cards : ℕ → ListCard) (text : List ℕ) where
  -- the reason of a fault is the one defined for it, and a 7 is at a run raster whose line list is bad or misses a mark
  pub record RightReason (f : Fault) (reason : Reason) : Type 0 where
    pub told : reason ≡ reason_for cards text f
    pub refused : f.code ≡ 7 → RefusedFor cards text f.place (command_at text f.place)

  -- a fault with another code has none
  none : (code p : ℕ) → (code ≡ 7 → ⊥) → RightReason (fault code p) None
  none code p n = record { told = rw (ne_eqb code 7 n); refused = λ s. absurd (n s) }

  -- so of what the check finds, kept by each of its parts
  abbrev pub Right : Finding → Type 0
  Right (passes k x is p c) = Unit {0}
  Right (faults f reason) = RightReason f reason

  right-front : (i : Item) (found : Finding) → Right found → Right (in_front text i found)
  right-front i (passes k x is p c) r = tt
  right-front i (faults f reason) r = r

  right-paused : (p : ℕ) (o : Option Opened) (found : Finding) → Right found → Right (paused text p o found)
  right-paused p None found r = right-front (Pause p) found r
  right-paused p (Some opened) found r = r

  right-closed : (q t : ℕ) (o : Option Opened) (found : Finding) → Right found → Right (closed text q t o found)
  right-closed q t None found r = r
  right-closed q t (Some opened) found r = right-front (scan text opened.place.0 t q) found r

  right-walked : (go : ℕ → Option Opened → Finding) → ((p : ℕ) (o : Option Opened) → Right (go p o)) → (p : ℕ) (o : Option Opened) (a : Act) → judge cards text p o ≡ a
      → Right (walked cards text go p o a)
  unfolding walked
  right-walked go ih p o (Refused code) e = record { told = refl; refused = λ s. seven cards text p o (cc) }
  right-walked go ih p o Opens e = ih (p + size_at text p) _
  right-walked go ih p o (Exposes r) e = ih (p + size_at text p) _
  right-walked go ih p o (Loops t) e = right-closed p t o (go (p + size_at text p) None) (ih _ None)
  right-walked go ih p o Waits e = right-paused p o (go (p + size_at text p) o) (ih _ o)
  right-walked go ih p o (Calls m) e = tt
  right-walked go ih p o Ends e = tt

  right-walk : (f p : ℕ) (o : Option Opened) → Right (walk cards text f p o)
  unfolding walk
  right-walk zero p o = none 3 p (λ s. omega arith)
  right-walk (suc f) p o = right-walked (λ q u. walk cards text f q u) (right-walk f) p o (judge cards text p o) refl

  right-rounds : (F : Format) (q : ℕ) (found : Finding) → Right found → Right (rounds F q found)
  right-rounds F q (passes k x is p Terminates) r = tt
  right-rounds F q (passes k x is p (CallsOn m)) r = either Right (ltb F.last m) _ _ (none 4 p (λ s. omega arith)) tt
  right-rounds F q (faults f reason) r = r

module _ (E : Env) (text : List ℕ) where
  -- the header's codes are 2 and 10
  pub right-one : Right E.cards text (check_one E text)
  unfolding check_one header_of header_rows
  right-one =
      let two = none E.cards text 2 0 (λ s. omega arith) in
      let ten = none E.cards text 10 3 (λ s. omega arith) in
      let rest = right-rounds E.cards text E.format (byte_at text 3) (walk E.cards text (length text) 4 None) (right-walk E.cards text (length text) 4 None) in
      either by (not (length_good text)) 2 _ two (either by (not (xor_good text)) 2 _ two (either by (eqb (byte_at text 3) 0) 10 0 ten rest))
    where
      by : ℕ → Type 0
      by code = Right E.cards text (checked_by E text (header_by (byte_at text 3) code))

  -- the reason of each fault that the check of one sequence finds is right
  pub one_right : (f : Fault) (reason : Reason) → check_one E text ≡ faults f reason → RightReason E.cards text f reason
  one_right f reason e = subst (Right E.cards text) e right-one
