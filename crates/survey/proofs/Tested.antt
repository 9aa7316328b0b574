-- The check of a sequence depends on the line lists that it came to test, and on no other: where their cards are the same, so is the check, and so are the
-- lists tested. Assumes nothing.
use Prim.Native.Nat.{ℕ, zero, suc, ◌+◌, ◌≤◌}
use mathlib.Core.Path.{◌≡◌, refl, ap, ◌∙◌}
use mathlib.Core.Bool.{true, or-true}
use mathlib.Core.List.{List, ◌++◌}
use lib.Dec.{eqb}
use lib.ListN.{length}
use borrow.Author.Tests.{eqb-true, eq-eqb}
use Rattle.std.specs.Prelude.{Option, None, Result, Ok, Err}
use Rattle.octets.proofs.Bools.{by-test}
use Rattle.memory.specs.declared.Format.{Format}
use Rattle.memory.specs.Memory.{place_at}
use Rattle.sequence.specs.declared.Fault.{Fault}
use Rattle.sequence.specs.LineList.{ListCard}
use Rattle.sequence.specs.Text.{size_at, header_of}
use Rattle.sequence.specs.Starts.{among}
use Rattle.sequence.specs.Raster.{raster_at}
use Rattle.runner.specs.declared.Opened.{Opened}
use Rattle.runner.specs.declared.Act.{Act}
use Rattle.runner.specs.declared.Act.TheVariants.{Refused, Opens, Exposes, Loops, Waits, Calls, Ends}
use Rattle.runner.specs.Judge.{tests_list, judge}
use Rattle.runner.proofs.Exactly.{seven}
use Rattle.runner.proofs.Tested.{tests-run, tested-judge, tests}
use Rattle.survey.specs.Walk.{opened_at, Finding, closed, paused, one_more, walked, walk, rounds, checked_by, check_one}
use Rattle.survey.proofs.Listing.{among-append}
use Rattle.survey.specs.Tested.{tested_at, tested_past, tested_from, tested_by, tested_in}

among-left : (k : ℕ) (a b : List ℕ) → among k a ≡ true → among k (a ++ b) ≡ true
among-left k a b h = among-append k a b ∙ rw h

among-right : (k : ℕ) (a b : List ℕ) → among k b ≡ true → among k (a ++ b) ≡ true
among-right k a b h = among-append k a b ∙ rw h (or-true (among k a))

module _ (cards cards' : ℕ → ListCard) (text : List ℕ) where
  -- these line lists have the same cards
  abbrev SameFor : List ℕ → Type 0
  SameFor lists = (k : ℕ) → k ≤ 47 → among k lists ≡ true → cards' k ≡ cards k

  abbrev Both : ℕ → ℕ → Option Opened → Type 0
  Both f p o = (walk cards' text f p o ≡ walk cards text f p o) × (tested_from cards' text f p o ≡ tested_from cards text f p o)

  module _ (f p : ℕ) (ih : (q : ℕ) (o : Option Opened) → SameFor (tested_from cards text f q o) → Both f q o) where
    abbrev go : (ℕ → ListCard) → ℕ → Option Opened → Finding
    go known q o = walk known text f q o

    abbrev on : (ℕ → ListCard) → ℕ → Option Opened → List ℕ
    on known q o = tested_from known text f q o

    acts-same : (o : Option Opened) (x : Act) → (x ≡ Refused 7 → cards' (raster_at text p).list ≡ cards (raster_at text p).list) → SameFor (tested_past text (on cards) p o x)
        → (walked cards' text (go cards') p o x ≡ walked cards text (go cards) p o x) × (tested_past text (on cards') p o x ≡ tested_past text (on cards) p o x)
    unfolding walked tested_past
    acts-same o (Refused code) s h = (by-test (eqb code 7) (λ e. rw (s (ap Refused (eqb-true code 7 e)))) (λ e. rw e), refl)
    acts-same o Opens s h = ih (p + size_at text p) (opened_at (place_at p)) h
    acts-same o (Exposes r) s h = ih (p + size_at text p) (one_more o) h
    acts-same o (Loops t) s h = let (w, u) = ih (p + size_at text p) None h in (ap (closed text p t o) w, u)
    acts-same o Waits s h = let (w, u) = ih (p + size_at text p) o h in (ap (paused text p o) w, u)
    acts-same o (Calls m) s h = (refl, refl)
    acts-same o Ends s h = (refl, refl)

  both-same : (f p : ℕ) (o : Option Opened) → SameFor (tested_from cards text f p o) → Both f p o
  unfolding walk tested_from among
  both-same zero p o h = (refl, refl)
  both-same (suc f) p o h =
      let past = tested_past text (λ q u. tested_from cards text f q u) p o (judge cards text p o) in
      let at : tests_list text p o ≡ true → cards' (raster_at text p).list ≡ cards (raster_at text p).list =
      λ t. h _ (tests-run text p o t).1 (among-left _ (tested_at text p o) past (here t)) in
      let (w, u) = acts-same f p (both-same f) o (judge cards text p o)
      (λ s. at (tests-seven s)) (λ k l a. h k l (among-right k (tested_at text p o) past a)) in
      rw (tested-judge text p o cards cards' at) (w, ap (λ (rest : List ℕ). tested_at text p o ++ rest) u)
    where
      here : tests_list text p o ≡ true → among (raster_at text p).list (tested_at text p o) ≡ true
      here t = rw (t, eq-eqb (raster_at text p).list (raster_at text p).list refl)

      tests-seven : judge cards text p o ≡ Refused 7 → tests_list text p o ≡ true
      tests-seven s = (rw s at (tests text p o cards)) refl (seven cards text p o s).0

  module _ (F : Format) where
    by-same : (head : Result ℕ Fault) → SameFor (tested_by cards text head)
        → (checked_by (record { format = F; cards = cards' }) text head ≡ checked_by (record { format = F; cards = cards }) text head) × (tested_by cards' text head ≡ tested_by cards text head)
    by-same (Ok q) h = let (w, u) = both-same (length text) 4 None h in (ap (rounds F q) w, u)
    by-same (Err f) h = (refl, refl)

    -- the check of one sequence, and the lists that it tests, where those have the same cards
    pub tested-same : SameFor (tested_in cards text)
        → (check_one (record { format = F; cards = cards' }) text ≡ check_one (record { format = F; cards = cards }) text) × (tested_in cards' text ≡ tested_in cards text)
    unfolding check_one tested_in
    tested-same h = by-same (header_of text) h
