-- A check depends on the bytes that are read of the sequences that it lists and of the line lists that those use, and on nothing else of the tables.
-- Assumes nothing.
use Prim.Native.Nat.{ℕ, zero, suc, ◌+◌, ◌≤◌}
use native.Mathlib.Omega.{arith}
use mathlib.Core.Path.{◌≡◌, refl, ap, ◌∙◌}
use mathlib.Core.Bool.{Bool, true, false, cond, or-true, false≢true}
use mathlib.Core.List.{List, [], ◌∷◌}
use lib.Dec.{eqb}
use lib.ListN.{length}
use borrow.Author.Tests.{eqb-true, eq-eqb}
use Rattle.std.specs.Prelude.{Option, Some, None, Result, Ok, Err}
use Rattle.octets.specs.Rows.{first_code}
use Rattle.octets.proofs.Bools.{by-test}
use Rattle.memory.specs.declared.Format.{Format}
use Rattle.memory.specs.Memory.{tables_wrong}
use Rattle.sequence.specs.declared.Fault.{Fault}
use Rattle.sequence.specs.declared.Command.{Command}
use Rattle.sequence.specs.declared.Command.TheVariants.{RunRaster, Expose, LoopBack, CallSequence, Terminate, Delay, Nothing, Unknown, Unfit}
use Rattle.sequence.specs.Text.{number_of, size_of, size_at, header_of, command_at, is_run_raster}
use Rattle.sequence.specs.Starts.{among, starts, starts_of, rasters_among}
use Rattle.sequence.specs.Raster.{raster_at}
use Rattle.sequence.specs.LineList.{ListCard}
use Rattle.sequence.specs.Env.{cards_of, env_of}
use Rattle.sequence.specs.Within.{Alike}
use Rattle.sequence.proofs.Within.{header-alike, size-alike, starts-alike, raster-alike, card-alike}
use Rattle.runner.specs.declared.Opened.{Opened}
use Rattle.runner.specs.declared.Act.{Act}
use Rattle.runner.specs.declared.Act.TheVariants.{Refused, Opens, Exposes, Loops, Waits, Calls, Ends}
use Rattle.runner.specs.Judge.{judged, judge}
use Rattle.runner.proofs.Exactly.{seven}
use Rattle.runner.proofs.Tested.{tests-run, tested-judge}
use Rattle.runner.proofs.Within.{judge-alike, OnRaster, Tells, tells}
use Rattle.survey.specs.declared.Closing.TheVariants.{Terminates, CallsOn}
use Rattle.survey.specs.Walk.{Finding, passes, faults, closed, paused, one_more, walked, walk, rounds, checked_by, check_one, finding_of}
use Rattle.survey.specs.Chain.{Told, front, onward, follow, chain_of, check_by, check_rows, check_of}
use Rattle.survey.specs.Frame.{lists_named, lists_used, Agree}
use Rattle.survey.proofs.Listing.{among_first, among_later}

-- ── a judgement reads the card of one line list at most: that of the run raster at its place
module _ (cards cards' : ℕ → ListCard) where
  -- the two have the same card of the line list that a run raster at p names
  abbrev pub SameAt : List ℕ → ℕ → Type 0
  SameAt text p = command_at text p ≡ RunRaster → (raster_at text p).list ≤ 47 → cards' (raster_at text p).list ≡ cards (raster_at text p).list

  -- a run raster that tests its line list stands there, and names one that the table has
  pub same-judge : (text : List ℕ) (p : ℕ) → SameAt text p → (o : Option Opened) → judge cards' text p o ≡ judge cards text p o
  same-judge text p h o = tested-judge text p o cards cards' (λ t. let (run, low) = tests-run text p o t in h run low)

-- ── where no command stands whole, every judgement is a refusal
none-judged : (cards : ℕ → ListCard) (text : List ℕ) (p : ℕ) (o : Option Opened) (k : Command) → size_of (number_of k) ≡ 0 → judged cards text p o k ≡ Refused 3
unfolding judged size_of
none-judged cards text p o RunRaster e = absurd (omega arith)
none-judged cards text p o (Expose t) e = absurd (omega arith)
none-judged cards text p o (LoopBack t) e = absurd (omega arith)
none-judged cards text p o (CallSequence n) e = absurd (omega arith)
none-judged cards text p o Terminate e = absurd (omega arith)
none-judged cards text p o (Delay t) e = absurd (omega arith)
none-judged cards text p o Nothing e = refl
none-judged cards text p o Unknown e = refl
none-judged cards text p o Unfit e = refl

pub none-judge : (cards : ℕ → ListCard) (text : List ℕ) (p : ℕ) (o : Option Opened) → size_at text p ≡ 0 → judge cards text p o ≡ Refused 3
unfolding judge size_at
none-judge cards text p o e = none-judged cards text p o (command_at text p) e

-- ── the starts of a text, and the line lists that run rasters there name
module _ (text : List ℕ) where
  -- a start is the first one, or one of those after it
  start-here : (f p : ℕ) → eqb (size_at text p) 0 ≡ false → among p (starts text (suc f) p) ≡ true
  unfolding among starts
  start-here f p e = rw (e, eq-eqb p p refl)

  start-later : (f p q : ℕ) → eqb (size_at text p) 0 ≡ false → among q (starts text f (p + size_at text p)) ≡ true → among q (starts text (suc f) p) ≡ true
  unfolding among starts
  start-later f p q e h = rw (e, h) (or-true (eqb p q))

  -- a run raster among some places names one of their line lists
  names : (p : ℕ) (ps : List ℕ) → among p ps ≡ true → command_at text p ≡ RunRaster → among (raster_at text p).list (lists_named text (rasters_among text ps)) ≡ true
  unfolding among
  names p [] a r = absurd (false≢true a)
  names p (q ∷ qs) a r =
      by-test (eqb q p)
      (λ e. let at = eqb-true q p e in rw (at, r, eq-eqb (raster_at text p).list (raster_at text p).list refl))
      (λ e.
      let rest = names p qs (rw e at a) r in
      by-test (is_run_raster (command_at text q)) (λ t. rw (t, rest) (or-true (eqb (raster_at text q).list (raster_at text p).list))) (λ t. rw t rest))

-- ── the walk of a text reads what is read of it, and the line lists of the run rasters at its starts
module _ (cards cards' : ℕ → ListCard) {text text' : List ℕ} (a : Alike text text') where
  -- an item's steps and exposures come from its run raster
  closed_same : (q t : ℕ) (o : Option Opened) → OnRaster text o → (found : Finding) → closed text' q t o found ≡ closed text q t o found
  closed_same q t None h found = refl
  closed_same q t (Some opened) h (passes n x is e d) = rw (size-alike a opened.place.0, starts-alike a, raster-alike a opened.place.0 h)
  closed_same q t (Some opened) h (faults f reason) = refl

  -- and a pause has one step in any text
  paused-same : (p : ℕ) (o : Option Opened) (found : Finding) → paused text' p o found ≡ paused text p o found
  paused-same p None (passes n x is e d) = refl
  paused-same p None (faults f reason) = refl
  paused-same p (Some opened) found = refl

  -- an act comes to the same, of a 7 with the card of the line list that is named there
  walked_same : (go go' : ℕ → Option Opened → Finding) (p : ℕ) → ((o : Option Opened) → go' (p + size_at text p) o ≡ go (p + size_at text p) o)
      → (o : Option Opened) (x : Act) → Tells text p o x → (x ≡ Refused 7 → cards' (raster_at text' p).list ≡ cards (raster_at text p).list)
      → walked cards' text' go' p o x ≡ walked cards text go p o x
  unfolding walked
  walked_same go go' p h o (Refused code) w s = by-test (eqb code 7) (λ e. rw (s (ap Refused (eqb-true code 7 e)))) (λ e. rw e)
  walked_same go go' p h o Opens w s = rw (size-alike a p) (h _)
  walked_same go go' p h o (Exposes r) w s = rw (size-alike a p) (h (one_more o))
  walked_same go go' p h o (Loops t) w s = rw (size-alike a p, h None) (closed_same p t o w _)
  walked_same go go' p h o Waits w s = rw (size-alike a p, h o) (paused-same p o _)
  walked_same go go' p h o (Calls m) w s = refl
  walked_same go go' p h o Ends w s = refl

  walk_same : (f p : ℕ) → ((q : ℕ) → among q (starts text f p) ≡ true → SameAt cards cards' text q)
      → (o : Option Opened) → walk cards' text' f p o ≡ walk cards text f p o
  unfolding walk walked
  walk_same zero p h o = refl
  walk_same (suc f) p h o =
      by-test (eqb (size_at text p) 0)
      (λ e. let z = eqb-true (size_at text p) 0 e in rw (none-judge cards text p o z, none-judge cards' text' p o (size-alike a p ∙ z)))
      (λ e.
      let here = h p (start-here text f p e) in
      rw (judge-alike a cards' p o, same-judge cards cards' text p here o)
      (walked_same (λ q u. walk cards text f q u) (λ q u. walk cards' text' f q u) p (walk_same f (p + size_at text p) (λ q s. h q (start-later text f p q e s))) o (judge cards text p o) (tells cards text p o)
      (λ s. let (run, low, why) = seven cards text p o s in rw (raster-alike a p run) (here run low))))

  module _ (F : Format) (h : (k : ℕ) → k ≤ 47 → among k (lists_used text) ≡ true → cards' k ≡ cards k) where
    by-same : (head : Result ℕ Fault) → checked_by (record { format = F; cards = cards' }) text' head ≡ checked_by (record { format = F; cards = cards }) text head
    unfolding starts_of lists_used
    by-same (Ok q) = rw a.long (ap (rounds F q) (walk_same (length text) 4 (λ p s r b. h _ b (names text p (starts_of text) s r)) None))
    by-same (Err f) = refl

    -- the check of one sequence is that of one that is alike, where the line lists that it uses have the same cards
    pub one_alike : check_one (record { format = F; cards = cards' }) text' ≡ check_one (record { format = F; cards = cards }) text
    unfolding check_one
    one_alike = rw (header-alike a) (by-same (header_of text))

-- ── the chain reads what is found of the sequences that it lists
abbrev pub Same : (ℕ → Finding) → (ℕ → Finding) → List ℕ → Type 0
Same found found' names = (n : ℕ) → among n names ≡ true → found' n ≡ found n

module _ (found found' : ℕ → Finding) where
  first : (n : ℕ) (names : List ℕ) → Same found found' (n ∷ names) → found' n ≡ found n
  first n names r = r n (among_first n names)

  later : (n : ℕ) (names : List ℕ) → Same found found' (n ∷ names) → Same found found' names
  later n names r m a = r m (among_later m n names a)

  module _ (go go' : ℕ → Told) (n : ℕ) (ih : (m : ℕ) → Same found found' (go m).names → go' m ≡ go m) where
    -- the first of the names is the sequence itself
    here-same : (one : Finding) → Same found found' (onward go n one).names → found' n ≡ found n
    unfolding onward
    here-same (passes k x is p Terminates) r = first n [] r
    here-same (passes k x is p (CallsOn m)) r = first n (go m).names r
    here-same (faults f reason) r = first n [] r

    onward-same : (one : Finding) → Same found found' (onward go n one).names → onward go' n one ≡ onward go n one
    unfolding onward
    onward-same (passes k x is p Terminates) r = refl
    onward-same (passes k x is p (CallsOn m)) r = ap (front n k x) (ih m (later n (go m).names r))
    onward-same (faults f reason) r = refl

    turn-same : (t : Bool) (back : Told) → Same found found' (cond t back (onward go n (found n))).names
        → cond t back (onward go' n (found' n)) ≡ cond t back (onward go n (found n))
    turn-same true back r = refl
    turn-same false back r = ap (onward go' n) (here-same (found n) r) ∙ onward-same (found n) r

  follow-same : (f : ℕ) (before : List ℕ) (n : ℕ) → Same found found' (follow found f before n).names → follow found' f before n ≡ follow found f before n
  unfolding follow
  follow-same zero before n r = refl
  follow-same (suc f) before n r =
      turn-same (λ m. follow found f (n ∷ before) m) (λ m. follow found' f (n ∷ before) m) n (follow-same f (n ∷ before)) (among n before) _ r

  pub chain_same : (F : Format) (n : ℕ) → Same found found' (chain_of F found n).names → chain_of F found' n ≡ chain_of F found n
  unfolding chain_of
  chain_same F n r = follow-same (suc F.last) [] n r

-- ── the check
module _ (F : Format) (seqs lists seqs' lists' : List ℕ) where
  abbrev found : ℕ → Finding
  found = finding_of (env_of F lists) seqs

  abbrev found' : ℕ → Finding
  found' = finding_of (env_of F lists') seqs'

  by_code : (go : Bool) (t t' none : Told) → (Same found found' t.names → t' ≡ t) → Same found found' (cond go t none).names → cond go t' none ≡ cond go t none
  by_code true t t' none h r = h r
  by_code false t t' none h r = refl

  -- tables of the right sizes have the same report where the same is found of each sequence that a check of the first pair lists
  pub frame_found : tables_wrong F seqs lists ≡ false → tables_wrong F seqs' lists' ≡ false
      → (n : ℕ) → Same found found' (check_of F seqs lists n).names → check_of F seqs' lists' n ≡ check_of F seqs lists n
  unfolding check_of check_rows
  frame_found right right' n r =
      let code = first_code (check_rows F seqs lists n) in
      let e : first_code (check_rows F seqs' lists' n) ≡ code = rw (right', right) in
      ap (λ (c : ℕ). check_by c (chain_of F found' n)) e ∙ by_code (eqb code 0) _ _ _ (chain_same found found' F n) r

  -- and so where they agree in what it lists and uses
  pub frame : tables_wrong F seqs lists ≡ false → tables_wrong F seqs' lists' ≡ false
      → (n : ℕ) → Agree F seqs lists seqs' lists' (check_of F seqs lists n).names → check_of F seqs' lists' n ≡ check_of F seqs lists n
  frame right right' n a =
      frame_found right right' n (λ m l. one_alike (cards_of lists) (cards_of lists') (a.entries m l) F (λ k b u. card-alike (a.used m k l b u)))
