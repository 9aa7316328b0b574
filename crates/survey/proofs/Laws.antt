-- Laws of the walk of one text: one for each way out of its functions, with the callees' contracts as premises. Assumes nothing.
use Prim.Native.Nat.{ℕ, zero, suc, ◌+◌, ◌*◌, ◌-◌, ◌≤◌, ◌<◌, ◌^◌}
use native.Mathlib.Nat.{add-zero, zero-add, add_assoc}
use native.Mathlib.Omega.{arith}
use mathlib.Core.Path.{◌≡◌, refl, sym, ap, ◌∙◌, subst}
use mathlib.Core.Bool.{Bool, true, false, cond}
use mathlib.Core.List.{List, [], ◌∷◌, ◌++◌, append-nil, append_assoc}
use lib.Dec.{ltb, eqb}
use lib.ListN.{length}
use borrow.Author.Tests.{ltb-true, ltb-false, eqb-true, not-false, eq-eqb, ne_eqb}
use Rattle.std.specs.Prelude.{Ok, Err, Option, Some, None, Result}
use Rattle.std.proofs.lemmas.Option.{cond_some}
use Rattle.octets.specs.Rows.{first_code}
use Rattle.octets.proofs.Laws.{none-holds}
use Rattle.octets.proofs.Bools.{by-test, choice}
use Rattle.memory.specs.declared.Format.{Format}
use Rattle.memory.specs.declared.Place.{Place}
use Rattle.memory.proofs.Laws.{Fair}
use Rattle.memory.specs.Memory.{place_at, place_of}
use Rattle.sequence.specs.declared.Command.{Command}
use Rattle.sequence.specs.declared.Command.TheVariants.{RunRaster, Expose, LoopBack, CallSequence, Terminate, Delay, Nothing, Unknown, Unfit}
use Rattle.sequence.specs.declared.Fault.{Fault}
use Rattle.sequence.specs.LineList.{ListCard}
use Rattle.sequence.specs.Text.{row_of, fault, size_of, size_at, command_at, header_of}
use Rattle.sequence.specs.Starts.{target_good}
use Rattle.sequence.specs.Raster.{raster_at}
use Rattle.sequence.specs.Env.{Env}
use Rattle.sequence.proofs.Laws.{none-past, Bytes, command-bytes}
use Rattle.sequence.proofs.Hops.{Hops, here, hop}
use Rattle.runner.specs.declared.Opened.{Opened}
use Rattle.runner.specs.declared.Act.{Act}
use Rattle.runner.specs.declared.Act.TheVariants.{Refused, Opens, Exposes, Loops, Waits, Calls, Ends}
use Rattle.runner.specs.Judge.{run_rows, expose_rows, loop_rows, close_rows, tests_list, unless, exposes_in, judged, judge}
use Rattle.runner.proofs.Tested.{tests-run, Tests, tests}
use Rattle.survey.specs.declared.Item.{Item}
use Rattle.survey.specs.declared.Item.TheVariants.{Pause}
use Rattle.survey.specs.declared.Closed.{Closed}
use Rattle.survey.specs.declared.Closing.TheVariants.{Terminates, CallsOn}
use Rattle.survey.specs.declared.Reason.TheVariants.{None}
use Rattle.survey.specs.declared.Round.{Round}
use Rattle.survey.specs.Items.{item_steps, item_exposures}
use Rattle.survey.specs.Walk.{Finding, passes, faults, in_front, one_more, walked, walk, rounds, check_one}
use Rattle.survey.specs.Tested.{tested_at, tested_past, tested_from, tested_in, bits_of}
use Rattle.survey.specs.Report.{Walked, closed_at, walked_of}
use Rattle.survey.specs.Held.{moved, opened_in, with_list, RoomFor, exposures_in, pause_in, between, counted_scan, looped_in, all_rounds, AtMost, LowCall}
use Rattle.survey.proofs.Search.{cond-none}
use Rattle.survey.proofs.Bits.{bits_none, bits-more}
use Rattle.survey.proofs.Names.{Low, low-one}
use Rattle.survey.proofs.Counts.{between-most, Reached, reached-start, reached-on, scan-counted}
use Rattle.survey.proofs.Totals.{Octets, narrow, steps-most, exposures-most, Small, small-more, walk-small, one-small}

-- ── places
-- a number that passed a place's range test is that place's
module _ (F : Format) (number : ℕ) (r : Option Place) (e : r ≡ place_of F number) where
  pub placed_at : (at : Place) → r ≡ Some at → (number < F.size) × (at ≡ place_at number)
  placed_at at g = let (t, s) = cond_some (ltb number F.size) (place_at number) at (sym e ∙ g) in (ltb-true number F.size t, sym s)

  pub placed-outside : r ≡ None → F.size ≤ number
  placed-outside g = ltb-false number F.size (cond-none (ltb number F.size) (place_at number) (sym e ∙ g))

  -- the place past the command at the place of a number
  pub past_of : (text : List ℕ) (at : Place) (q : ℕ) → r ≡ Some at → q ≡ at.0 + size_at text at.0 → q ≡ number + size_at text number
  past_of text at q g h = h ∙ ap (λ (x : Place). x.0 + size_at text x.0) (placed_at at g).1

-- no command stands past an entry's end
pub none-outside : (text : List ℕ) (p : ℕ) → length text ≤ p → size_at text p ≡ 0
unfolding size_at size_of
none-outside text p h = rw (none-past text p h)

-- ── the commands up to a target, n of them counted so far
module _ (text : List ℕ) (most t b : ℕ) where
  module _ (at n : ℕ) (e : n + between text (most - n) at t ≡ b) where
    pub between-here : at ≡ t → n ≡ b
    unfolding between
    between-here h = let z = none (most - n) in omega arith
      where
        none : (f : ℕ) → between text f at t ≡ 0
        none zero = refl
        none (suc f) = rw (eq-eqb at t h)

    pub between-over : most ≤ n → n ≡ b
    unfolding between
    between-over h = let z : most - n ≡ 0 = omega arith in let k : n + 0 ≡ b = rw z at e in omega arith

    pub between-on : (q : ℕ) → n < most → (at ≡ t → ⊥) → q ≡ at + size_at text at → n + 1 + between text (most - (n + 1)) q t ≡ b
    unfolding between
    between-on q l d eq =
        let f : most - n ≡ suc (most - (n + 1)) = omega arith in
        let k : n + suc (between text (most - (n + 1)) (at + size_at text at) t) ≡ b = rw (f, ne_eqb at t d) at e in
        rw eq (omega arith)

-- ── a round, without its items
-- steps and exposures in front of what was found after them
abbrev pub atop : ℕ → ℕ → Walked → Walked
atop k x (Err f) = Err f
atop k x (Ok c) = closed_at c.place c.closing (k + c.steps) (x + c.exposures)

atop-none : (w : Walked) → atop 0 0 w ≡ w
atop-none (Err f) = refl
atop-none (Ok c) = rw (zero-add c.steps, zero-add c.exposures)

atop-atop : (a b k x : ℕ) (w : Walked) → atop a b (atop k x w) ≡ atop (a + k) (b + x) w
atop-atop a b k x (Err f) = refl
atop-atop a b k x (Ok c) = rw (add_assoc a k c.steps, add_assoc b x c.exposures)

walked-front : (text : List ℕ) (i : Item) (a b : ℕ) (found : Finding)
    → atop a b (walked_of (in_front text i found)) ≡ atop (a + item_steps text i) (b + item_exposures text i) (walked_of found)
walked-front text i a b (passes k x is p c) = atop-atop a b (item_steps text i) (item_exposures text i) (closed_at p c k x)
walked-front text i a b (faults f reason) = refl

most-of : (most : ℕ) (found : Finding) → Small most found → AtMost most (walked_of found)
most-of most (passes k x is p c) s = s
most-of most (faults f reason) s = tt

-- ── where the walk stands with so many commands left to look at
-- what is found from here on, atop of the sums so far
abbrev found : (ℕ → ListCard) → List ℕ → ℕ → Round → Walked
found cards text left r = atop r.steps r.exposures (walked_of (walk cards text left r.place r.held))

-- what is found from place 4
abbrev whole : (ℕ → ListCard) → List ℕ → Walked
whole cards text = walked_of (walk cards text (length text) 4 None)

-- a loop back at q to t that passes has an open raster, and a good target
abbrev pub Aims : List ℕ → ℕ → ℕ → Option Opened → Type 0
Aims text q t None = ⊥
Aims text q t (Some opened) = target_good text opened.place.0 q t ≡ true

-- what a judgement tells of the command at its place: its size, and of a loop back its target
abbrev pub Sized : List ℕ → ℕ → Option Opened → Act → Type 0
Sized text p o (Refused code) = Unit {0}
Sized text p o Opens = size_at text p ≡ (row_of RunRaster).size
Sized text p o (Exposes r) = size_at text p ≡ (row_of (Expose 0)).size
Sized text p o (Loops t) = (size_at text p ≡ (row_of (LoopBack t)).size) × (t ≤ 255) × Aims text p t o
Sized text p o Waits = size_at text p ≡ (row_of (Delay 0)).size
Sized text p o (Calls n) = size_at text p ≡ (row_of (CallSequence n)).size
Sized text p o Ends = size_at text p ≡ (row_of Terminate).size

sized-unless : (text : List ℕ) (p : ℕ) (o : Option Opened) (code : ℕ) (a : Act) → (eqb code 0 ≡ true → Sized text p o a) → Sized text p o (unless code a)
sized-unless text p o code a s = choice (Sized text p o) (eqb code 0) a (Refused code) s (λ _. tt)

module _ (cards : ℕ → ListCard) (text : List ℕ) (oct : Octets text) where
  sized-judged : (p : ℕ) (o : Option Opened) (k : Command) → command_at text p ≡ k → Bytes text p k → Sized text p o (judged cards text p o k)
  unfolding judged size_at size_of loop_rows
  sized-judged p o RunRaster e b = sized-unless text p o (first_code (run_rows cards text p o)) Opens (λ _. rw e)
  sized-judged p None (Expose time) e b = sized-unless text p None (first_code (expose_rows text time None)) (exposes_in None) (λ _. tt)
  sized-judged p (Some opened) (Expose time) e b = sized-unless text p (Some opened) (first_code (expose_rows text time (Some opened))) (exposes_in (Some opened)) (λ _. rw e)
  sized-judged p None (LoopBack t) e b = tt
  sized-judged p (Some opened) (LoopBack t) e b =
      let rows = loop_rows text p t (Some opened) in
      sized-unless text p (Some opened) (first_code rows) (Loops t)
      (λ z. (rw e, omega (arith, b.1, oct (p + 1)), not-false (target_good text opened.place.0 p t) (none-holds rows tt (eqb-true (first_code rows) 0 z)).1.1.0))
  sized-judged p o (CallSequence n) e b = sized-unless text p o (first_code (close_rows text p o)) (Calls n) (λ _. rw e)
  sized-judged p o Terminate e b = sized-unless text p o (first_code (close_rows text p o)) Ends (λ _. rw e)
  sized-judged p o (Delay time) e b = rw e
  sized-judged p o Nothing e b = tt
  sized-judged p o Unknown e b = tt
  sized-judged p o Unfit e b = tt

  pub sized : (p : ℕ) (o : Option Opened) → Sized text p o (judge cards text p o)
  unfolding judge
  sized p o = sized-judged p o (command_at text p) refl (command-bytes text p)

-- no count passes its number's width
pub record Within (left : ℕ) (r : Round) : Type 0 where
  pub counted : exposures_in r.held + 4 ≤ r.place
  pub steps : r.steps + left * 2 ^ 37 ≤ 2 ^ 46
  pub exposures : r.exposures + left * 2 ^ 37 ≤ 2 ^ 46

-- the line lists tested from place 4
abbrev pub all_tested : (ℕ → ListCard) → List ℕ → List ℕ
all_tested cards text = tested_from cards text (length text) 4 None

-- those tested so far, and those from here on
pub record Tested (cards : ℕ → ListCard) (text : List ℕ) (left : ℕ) (r : Round) : Type 0 where
  pub before : List ℕ
  pub bits : r.tested ≡ bits_of 48 before
  pub all : before ++ tested_from cards text left r.place r.held ≡ all_tested cards text

pub record Going (cards : ℕ → ListCard) (text : List ℕ) (left : ℕ) (r : Round) : Type 0 where
  pub same : found cards text left r ≡ whole cards text
  pub within : Within left r
  pub reached : Reached text r.place r.held
  pub tested : Tested cards text left r

abbrev round : ℕ → Option Opened → ℕ → ℕ → ℕ → Round
round p o k x b = record { place = p; held = o; steps = k; exposures = x; tested = b }

pub going_start : (cards : ℕ → ListCard) (text : List ℕ) → length text ≤ 256 → Going cards text (length text) (round 4 None 0 0 0)
going_start cards text short =
    record {
      same = atop-none (whole cards text);
      within = record { counted = omega arith; steps = omega arith; exposures = omega arith };
      reached = (0, here);
      tested = record { before = []; bits = sym (bits_none 48); all = refl };
    }

-- the round past the command of an act, where the walk goes on
abbrev pub round_past : List ℕ → Place → Round → Act → Round
round_past text at r (Refused code) = r
round_past text at r Opens = opened_in at (raster_at text at.0).list r
round_past text at r (Exposes o) = moved (row_of (Expose 0)).size (one_more r.held) 0 0 r
round_past text at r (Loops t) = looped_in text t r.held r
round_past text at r Waits = moved (row_of (Delay 0)).size r.held (pause_in r.held) 0 r
round_past text at r (Calls n) = r
round_past text at r Ends = r

pub pause-most : (o : Option Opened) → pause_in o ≤ 2 ^ 37
pause-most None = omega arith
pause-most (Some opened) = omega arith

-- what an act comes to with f commands left after it
abbrev pub comes : (ℕ → ListCard) → List ℕ → ℕ → Place → Round → Act → Walked
comes cards text f at r (Refused code) = Err (fault code r.place)
comes cards text f at r Opens = found cards text f (round_past text at r Opens)
comes cards text f at r (Exposes o) = found cards text f (round_past text at r (Exposes o))
comes cards text f at r (Loops t) = found cards text f (round_past text at r (Loops t))
comes cards text f at r Waits = found cards text f (round_past text at r Waits)
comes cards text f at r (Calls m) = closed_at r.place (CallsOn m) (r.steps + 1) r.exposures
comes cards text f at r Ends = closed_at r.place Terminates (r.steps + 1) r.exposures

-- an act after which the walk goes on
abbrev pub Goes : Act → Type 0
Goes (Refused code) = ⊥
Goes Opens = Unit {0}
Goes (Exposes r) = Unit {0}
Goes (Loops t) = Unit {0}
Goes Waits = Unit {0}
Goes (Calls m) = ⊥
Goes Ends = ⊥

module _ (cards : ℕ → ListCard) (text : List ℕ) (f p k x b : ℕ) where
  comes-so : (o : Option Opened) (a : Act) → Sized text p o a → Reached text p o
      → atop k x (walked_of (walked cards text (λ p' o'. walk cards text f p' o') p o a)) ≡ comes cards text f (place_at p) (round p o k x b) a
  unfolding walked
  comes-so o (Refused code) s h = refl
  comes-so o Opens s h = rw s
  comes-so o (Exposes r) s h = rw (s, add-zero k, add-zero x)
  comes-so None (Loops t) s h = absurd s.2
  comes-so (Some opened) (Loops t) (s, l, g) ((i, hr), (n, hp)) =
      rw (s, scan-counted text opened.place.0 t p i n hr hp (omega arith) g) (walked-front text (counted_scan text opened.place.0 t p) k x (walk cards text f (p + (row_of (LoopBack 0)).size) None))
  comes-so None Waits s h = rw s (walked-front text (Pause p) k x (walk cards text f (p + (row_of (Delay 0)).size) None))
  comes-so (Some opened) Waits s h = rw (s, add-zero k, add-zero x)
  comes-so o (Calls m) s h = rw (add-zero x)
  comes-so o Ends s h = rw (add-zero x)

  -- the walk stands past a command of this size
  moves : (o : Option Opened) (n : ℕ) → size_at text p ≡ n → 0 < n → Reached text p o → Reached text (p + n) o
  moves o n s z h = rw s at (reached-on text p o h (omega arith))

  reached-past : (o : Option Opened) (a : Act) → Sized text p o a → Reached text p o
      → Reached text (round_past text (place_at p) (round p o k x b) a).place (round_past text (place_at p) (round p o k x b) a).held
  reached-past o (Refused code) s h = h
  reached-past o Opens s h = let g : Hops text p (p + size_at text p) 1 = hop {p = p} (omega arith) here in (reached-start text p o h, (0, rw s at g))
  reached-past None (Exposes r) s h = moves None (row_of (Expose 0)).size s (omega arith) h
  reached-past (Some opened) (Exposes r') s h = moves (Some opened) (row_of (Expose 0)).size s (omega arith) h
  reached-past None (Loops t) s h = absurd s.2
  reached-past (Some opened) (Loops t) s h = moves None (row_of (LoopBack 0)).size s.0 (omega arith) (reached-start text p (Some opened) h)
  reached-past o Waits s h = moves o (row_of (Delay 0)).size s (omega arith) h
  reached-past o (Calls m) s h = h
  reached-past o Ends s h = h

  module _ (o : Option Opened) (before : List ℕ) (eb : b ≡ bits_of 48 before) where
    abbrev Whole : Act → Type 0
    Whole a = before ++ (tested_at text p o ++ tested_past text (λ p' o'. tested_from cards text f p' o') p o a) ≡ all_tested cards text

    -- nothing is tested here
    same-tested : (n : ℕ) (o' : Option Opened) → size_at text p ≡ n → tests_list text p o ≡ false
        → before ++ (tested_at text p o ++ tested_from cards text f (p + size_at text p) o') ≡ all_tested cards text → (r : Round) → r.place ≡ p + n → r.held ≡ o' → r.tested ≡ b → Tested cards text f r
    same-tested n o' s none h r ep eo et = record { before = before; bits = et ∙ eb; all = rw (ep, eo, ← s) (rw none at h) }

    tested-past : (a : Act) → Sized text p o a → Tests text p o a → Goes a → Whole a → Tested cards text f (round_past text (place_at p) (round p o k x b) a)
    unfolding tested_past
    tested-past (Refused code) s y g h = absurd g
    tested-past Opens s y g h =
        record {
          before = before ++ (raster_at text p).list ∷ [];
          bits = rw eb (bits-more before (raster_at text p).list (tests-run text p o y).1);
          all = append_assoc before ((raster_at text p).list ∷ []) _ ∙ (rw (s, y) at h);
        }
    tested-past (Exposes r) s y g h = same-tested (row_of (Expose 0)).size (one_more o) s y h _ refl refl refl
    tested-past (Loops t) s y g h = looped o s.2 y h
      where
        looped : (u : Option Opened) → Aims text p t u → tests_list text p o ≡ false → before ++ (tested_at text p o ++ tested_from cards text f (p + size_at text p) None) ≡ all_tested cards text
            → Tested cards text f (looped_in text t u (round p u k x b))
        looped None aims none w = absurd aims
        looped (Some opened) aims none w = same-tested (row_of (LoopBack 0)).size None s.0 none w _ refl refl refl
    tested-past Waits s y g h = same-tested (row_of (Delay 0)).size o s y h _ refl refl refl
    tested-past (Calls m) s y g h = absurd g
    tested-past Ends s y g h = absurd g

module _ (text : List ℕ) (f p k x b : ℕ) (oct : Octets text) (low : p < 256) where
  within-past : (o : Option Opened) (a : Act) → Sized text p o a → Within (suc f) (round p o k x b) → Within f (round_past text (place_at p) (round p o k x b) a)
  within-past o (Refused code) s w = record { counted = w.counted; steps = omega arith; exposures = omega arith }
  within-past o Opens s w = record { counted = omega arith; steps = omega arith; exposures = omega arith }
  within-past None (Exposes r) s w = record { counted = omega arith; steps = omega arith; exposures = omega arith }
  within-past (Some opened) (Exposes r') s w = record { counted = omega arith; steps = omega arith; exposures = omega arith }
  within-past None (Loops t) s w = absurd s.2
  within-past (Some opened) (Loops t) s w =
      let before = between text t (opened.place.0 + size_at text opened.place.0) t in
      let from = between text p t p in
      let a = between-most text t (opened.place.0 + size_at text opened.place.0) t in
      let d = between-most text p t p in
      let v = narrow text opened.place.0 oct in
      let y = steps-most (raster_at text opened.place.0) v before from (omega arith) (omega arith) in
      let z = exposures-most (raster_at text opened.place.0) v in
      record { counted = omega arith; steps = omega arith; exposures = omega arith }
  within-past None Waits s w = record { counted = omega arith; steps = omega arith; exposures = omega arith }
  within-past (Some opened) Waits s w = record { counted = omega arith; steps = omega arith; exposures = omega arith }
  within-past o (Calls m) s w = record { counted = w.counted; steps = omega arith; exposures = omega arith }
  within-past o Ends s w = record { counted = w.counted; steps = omega arith; exposures = omega arith }

-- ── each way out of the walk, and on
module _ (cards : ℕ → ListCard) (text : List ℕ) (left : ℕ) (r : Round) (g : Going cards text left r) where
  -- nothing more is tested
  pub tested-so : (t : Tested cards text left r) → tested_from cards text left r.place r.held ≡ [] → r.tested ≡ bits_of 48 (all_tested cards text)
  tested-so t e = t.bits ∙ ap (bits_of 48) (sym (append-nil t.before) ∙ (rw e at t.all))

  -- nothing is left to look at, or the number is no place of the text
  pub going-none : left ≡ 0 → (Err (fault 3 r.place) ≡ whole cards text) × (r.tested ≡ bits_of 48 (all_tested cards text))
  unfolding walk tested_from
  going-none e = (rw e at g.same, tested-so g.tested (rw e))

  pub going-outside : length text ≤ r.place → (Err (fault 3 r.place) ≡ whole cards text) × (r.tested ≡ bits_of 48 (all_tested cards text))
  unfolding walk walked judge judged tested_from tested_past tests_list
  going-outside beyond = (by left g.same, tested-so g.tested (none left))
    where
      by : (f : ℕ) → found cards text f r ≡ whole cards text → Err (fault 3 r.place) ≡ whole cards text
      by zero e = e
      by (suc f) e = rw (none-past text r.place beyond) at e

      none : (f : ℕ) → tested_from cards text f r.place r.held ≡ []
      none zero = refl
      none (suc f) = rw (none-past text r.place beyond)

-- the judgement of the command at the round's place, with some left to look at
pub record Turn (F : Format) (cards : ℕ → ListCard) (text : List ℕ) (left : ℕ) (r : Round) (at : Place) (a : Act) : Type 0 where
  pub going : Going cards text left r
  pub octets : Octets text
  pub some : 0 < left
  pub fair : Fair F
  pub here : (r.place < F.size) × (at ≡ place_at r.place)
  pub fits : at.0 + size_at text at.0 < 256
  pub judged : a ≡ judge cards text at.0 r.held

module _ {F : Format} {cards : ℕ → ListCard} {text : List ℕ} {left : ℕ} {r : Round} {at : Place} {a : Act} (t : Turn F cards text left r at a) where
  pub going-fits : (size steps exposures : ℕ) → size ≤ size_at text r.place → steps ≤ 2 ^ 37 → exposures ≤ 2 ^ 37 → RoomFor size steps exposures r
  going-fits size steps exposures b k x =
      let h : r.place + size_at text r.place < 256 = rw t.here.1 at t.fits in
      let w = t.going.within in
      record { place = omega arith; steps = omega arith; exposures = omega arith }

  module _ (x : Act) (e : a ≡ x) where
    is : judge cards text r.place r.held ≡ x
    is = rw t.here.1 at (sym t.judged ∙ e)

    pub told : Sized text r.place r.held x
    told = rw is at (sized cards text t.octets r.place r.held)

    pub comes-whole : comes cards text (left - 1) at r x ≡ whole cards text
    unfolding walk
    comes-whole =
        rw t.here.1 (sym (comes-so cards text (left - 1) r.place r.steps r.exposures r.tested r.held x told t.going.reached) ∙ by left t.some t.going.same)
      where
        by : (f : ℕ) → 0 < f → found cards text f r ≡ whole cards text
            → atop r.steps r.exposures (walked_of (walked cards text (λ p' o'. walk cards text (f - 1) p' o') r.place r.held x)) ≡ whole cards text
        by zero z h = absurd (omega arith)
        by (suc f) z h = let d : suc f - 1 ≡ f = omega arith in rw (d, ← is) h

    -- the line lists tested so far, at this command, and after it
    tested-whole : (before : List ℕ) → before ++ tested_from cards text left r.place r.held ≡ all_tested cards text
        → before ++ (tested_at text r.place r.held ++ tested_past text (λ p' o'. tested_from cards text (left - 1) p' o') r.place r.held x) ≡ all_tested cards text
    unfolding tested_from
    tested-whole before h = by left t.some h
      where
        by : (f : ℕ) → 0 < f → before ++ tested_from cards text f r.place r.held ≡ all_tested cards text
            → before ++ (tested_at text r.place r.held ++ tested_past text (λ p' o'. tested_from cards text (f - 1) p' o') r.place r.held x) ≡ all_tested cards text
        by zero z h = absurd (omega arith)
        by (suc f) z h = let d : suc f - 1 ≡ f = omega arith in rw (d, ← is) h

    pub tells-tests : Tests text r.place r.held x
    tells-tests = rw is at (tests text r.place r.held cards)

    -- a command that closes the round, or is no run raster, tests none
    pub tested-end : tested_past text (λ p' o'. tested_from cards text (left - 1) p' o') r.place r.held x ≡ [] → tests_list text r.place r.held ≡ false
        → r.tested ≡ bits_of 48 (all_tested cards text)
    tested-end e none = let w = t.going.tested in let h = rw (e, none) at (tested-whole w.before w.all) in w.bits ∙ ap (bits_of 48) (sym (append-nil w.before) ∙ h)

    -- one that is refused may have come to the test
    pub tested-refused : tested_past text (λ p' o'. tested_from cards text (left - 1) p' o') r.place r.held x ≡ []
        → cond (tests_list text r.place r.held) (with_list r.tested (raster_at text r.place).list) r.tested ≡ bits_of 48 (all_tested cards text)
    tested-refused e =
        by-test (tests_list text r.place r.held)
        (λ y.
        let w = t.going.tested in
        let h = rw (e, y) at (tested-whole w.before w.all) in
        rw (y, w.bits, bits-more w.before (raster_at text r.place).list (tests-run text r.place r.held y).1) (ap (bits_of 48) h))
        (λ n. rw n (tested-end e n))

    pub going_on : (r' : Round) → r' ≡ round_past text at r x → Goes x → comes cards text (left - 1) at r x ≡ found cards text (left - 1) (round_past text at r x)
        → Going cards text (left - 1) r'
    going_on r' er g c =
        let d : suc (left - 1) ≡ left = omega arith in
        let w : Within (suc (left - 1)) r = rw d t.going.within in
        let v = within-past text (left - 1) r.place r.steps r.exposures r.tested t.octets (omega (arith, t.here, t.fair.size)) r.held x told w in
        let h = reached-past cards text (left - 1) r.place r.steps r.exposures r.tested r.held x told t.going.reached in
        let y = t.going.tested in
        let u = tested-past cards text (left - 1) r.place r.steps r.exposures r.tested r.held y.before y.bits x told tells-tests g (tested-whole y.before y.all) in
        rw er record { same = sym c ∙ comes-whole; within = rw t.here.1 v; reached = rw t.here.1 h; tested = rw t.here.1 u }

-- ── one sequence, taken alone
abbrev LowWalked : Walked → Type 0
LowWalked (Err f) = Unit {0}
LowWalked (Ok c) = LowCall c.closing

low-walked : (last : ℕ) → last ≤ 127 → (found : Finding) → Low last found → LowWalked (walked_of found)
low-walked last l (passes k x is p Terminates) w = tt
low-walked last l (passes k x is p (CallsOn m)) w = omega arith
low-walked last l (faults f reason) w = tt

module _ (E : Env) where
  walked-rounds : (q : ℕ) (found : Finding) → walked_of (rounds E.format q found) ≡ all_rounds E.format q (walked_of found)
  walked-rounds q (passes k x its p Terminates) = refl
  walked-rounds q (passes k x its p (CallsOn m)) = by (ltb E.format.last m)
    where
      by : (t : Bool) → walked_of (cond t (faults (fault 4 p) None) (passes (1 + q * k) (q * x) its p (CallsOn m))) ≡ cond t (Err (fault 4 p)) (closed_at p (CallsOn m) (1 + q * k) (q * x))
      by true = refl
      by false = refl
  walked-rounds q (faults f reason) = refl

  -- its text is no longer than an entry
  module _ (text : List ℕ) where
    pub round-most : Fair E.format → length text ≤ E.format.size → Octets text → (w : Walked) → w ≡ walked_of (walk E.cards text (length text) 4 None) → AtMost (2 ^ 46) w
    round-most fair short oct w e =
        let l : length text * 2 ^ 37 ≤ 2 ^ 46 = omega (arith, short, fair.size) in
        let found = walk E.cards text (length text) 4 None in
        rw e (most-of (2 ^ 46) found (small-more l found (walk-small E.cards text oct (omega (arith, short, fair.size)) (length text) 4 None)))

    module _ (h : Result ℕ Fault) (eh : h ≡ header_of text) where
      pub one-unfit : (f : Fault) → h ≡ Err f → (Err f ≡ walked_of (check_one E text)) × (0 ≡ bits_of 48 (tested_in E.cards text))
      unfolding check_one tested_in
      one-unfit f e = (rw (← eh, e), rw (← eh, e) (sym (bits_none 48)))

      pub one-rounds : (q : ℕ) (w r : Walked) → h ≡ Ok q → w ≡ walked_of (walk E.cards text (length text) 4 None) → r ≡ all_rounds E.format q w
          → r ≡ walked_of (check_one E text)
      unfolding check_one
      one-rounds q w r e ew er = rw (← eh, e, walked-rounds q, ← ew) er

      pub one-tested : (q b : ℕ) → h ≡ Ok q → b ≡ bits_of 48 (all_tested E.cards text) → b ≡ bits_of 48 (tested_in E.cards text)
      unfolding tested_in
      one-tested q b e eb = rw (← eh, e) eb

  -- its totals and its call are no greater than they may be
  module _ (text : List ℕ) (w : Walked) (ew : w ≡ walked_of (check_one E text)) where
    pub one-most : Octets text → length text ≤ 256 → AtMost (2 ^ 54) w
    one-most oct short = rw ew (most-of (2 ^ 54) (check_one E text) (one-small E text oct (omega arith)))

    pub one-low : E.format.last ≤ 127 → (c : Closed) → w ≡ Ok c → LowCall c.closing
    one-low l c e = subst LowWalked (sym ew ∙ e) (low-walked E.format.last l (check_one E text) (low-one E text))
