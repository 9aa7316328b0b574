-- Laws of what a pass rests on: the line lists that its sequences use, marks for both, and what `still` answers. Assumes nothing.
use Prim.Native.Nat.{ℕ, suc, ◌+◌, ◌-◌, ◌≤◌, ◌<◌}
use native.Mathlib.Omega.{arith}
use mathlib.Core.Path.{◌≡◌, refl, sym, ap, subst, ◌∙◌}
use mathlib.Core.Bool.{Bool, true, false, ◌||◌, or-true, or-false, or_assoc, true≢false, false≢true}
use mathlib.Core.List.{List, [], ◌∷◌}
use mathlib.Core.Logic.{◌⊎◌, ⊎_elim}
use lib.Dec.{ltb, eqb}
use lib.ListN.{length, get_or, set, take, drop, replicate, length-set, length-replicate, get_or-replicate, drop_of_length-le}
use lib.Seq.{get_or-set_same, get_or-set_other, drop-cons, take_at}
use borrow.Author.Tests.{eqb-true, eq-eqb, ltb-false, le-ltb}
use Rattle.std.specs.Prelude.{Option, Some, option_and_then}
use Rattle.octets.proofs.Bools.{by-test, or-either}
use Rattle.memory.specs.declared.Format.{Format}
use Rattle.memory.specs.declared.Place.{Place}
use Rattle.memory.specs.Memory.{place_of, address_of, entry_of, tables_wrong}
use Rattle.sequence.specs.Text.{command_at, size_at, is_run_raster}
use Rattle.sequence.specs.Starts.{starts, starts_of, rasters_among, among}
use Rattle.sequence.specs.Raster.{raster_at}
use Rattle.sequence.proofs.Laws.{starts-off, starts-on}
use Rattle.survey.specs.declared.Ending.{Ending}
use Rattle.survey.specs.declared.Ending.TheVariants.{Unlisted, Finishes, Returns}
use Rattle.survey.specs.declared.Standing.{Standing}
use Rattle.survey.specs.declared.Standing.TheVariants.{Unpassed}
use Rattle.survey.specs.declared.Report.{Report}
use Rattle.survey.specs.Chain.{Told, check_of}
use Rattle.survey.specs.Report.{padded, report_of}
use Rattle.survey.specs.Frame.{lists_named, lists_used}
use Rattle.survey.specs.Still.{lists_over, lowest_changed, standing_at, standing_by, still_of}
use Rattle.survey.specs.Held.{found_below, RestOf}
use Rattle.survey.proofs.Passing.{Ended, check-given}
use Rattle.survey.proofs.Laws.{placed_at, past_of}
use Rattle.survey.proofs.Listing.{among_first, among_later, among-append, among-case}

-- ── the line lists that some sequences use
module _ (F : Format) (seqs : List ℕ) (k : ℕ) where
  -- each of them is used by one of the sequences
  pub over-out : (names : List ℕ) → among k (lists_over F seqs names) ≡ true → (n : ℕ) × (among n names ≡ true) × (among k (lists_used (entry_of F seqs n)) ≡ true)
  unfolding among
  over-out [] e = absurd (false≢true e)
  over-out (n ∷ ns) e =
      or-either (among k (lists_used (entry_of F seqs n))) (among k (lists_over F seqs ns)) (sym (among-append k (lists_used (entry_of F seqs n)) (lists_over F seqs ns)) ∙ e)
      (λ u. (n, among_first n ns, u))
      (λ r. let (m, a, u) = over-out ns r in (m, among_later m n ns a, u))

  -- and what one of the sequences uses is one of them
  pub over-in : (names : List ℕ) (n : ℕ) → among n names ≡ true → among k (lists_used (entry_of F seqs n)) ≡ true → among k (lists_over F seqs names) ≡ true
  unfolding among
  over-in [] n a u = absurd (false≢true a)
  over-in (m ∷ ns) n a u =
      among-append k (lists_used (entry_of F seqs m)) (lists_over F seqs ns)
      ∙ among-case n m ns a (λ e. rw (e, u)) (λ r. rw (over-in ns n r u) (or-true (among k (lists_used (entry_of F seqs m)))))

-- ── marks
-- a number more among those that are still to be marked, or marked at once
pub mark-more : (marks : List Bool) → length marks ≡ 256 → (k n : ℕ) (rest : List ℕ) → k < 256
    → (get_or (set marks n true) k false || among k rest) ≡ (get_or marks k false || among k (n ∷ rest))
unfolding among
mark-more marks w k n rest l =
    by-test (eqb n k)
    (λ t. let e = eqb-true n k t in rw (e, get_or-set_same marks k true false (omega arith), eq-eqb k k refl) (sym (or-true (get_or marks k false))))
    (λ t. rw (t, get_or-set_other marks n k true false (λ e. true≢false (sym (eq-eqb n k (sym e)) ∙ t))))

-- ── the line lists that a text uses, as marks
module _ (text : List ℕ) where
  -- those that the run rasters at these places name; from here on, at most so many commands
  abbrev named_at : List ℕ → List ℕ
  named_at ps = lists_named text (rasters_among text ps)

  abbrev pub named_from : ℕ → ℕ → List ℕ
  named_from left p = named_at (starts text left p)

  named_none : (left p : ℕ) → size_at text p ≡ 0 → named_from left p ≡ []
  named_none left p e = ap named_at (starts-off text left p (size_at text p) refl e)

  -- past a command that is no run raster; past one that is
  named-on : (left p : ℕ) → 0 < left → (size_at text p ≡ 0 → ⊥) → is_run_raster (command_at text p) ≡ false → named_from left p ≡ named_from (left - 1) (p + size_at text p)
  named-on left p h s r = ap named_at (starts-on text left p (size_at text p) (λ z. omega arith) refl s) ∙ rw r

  named-raster : (left p : ℕ) → 0 < left → (size_at text p ≡ 0 → ⊥) → is_run_raster (command_at text p) ≡ true → named_from left p ≡ (raster_at text p).list ∷ named_from (left - 1) (p + size_at text p)
  named-raster left p h s r = ap named_at (starts-on text left p (size_at text p) (λ z. omega arith) refl s) ∙ rw r

  -- these marks, and the line lists named from here on, are the marks at the start and the line lists that the text uses
  module _ (used : List Bool) where
    abbrev pub Marking : ℕ → ℕ → List Bool → Type 0
    Marking left p marks = (k : ℕ) → k < 256 → (get_or marks k false || among k (named_from left p)) ≡ (get_or used k false || among k (lists_used text))

    pub marking-start : Marking (length text) 4 used
    unfolding lists_used starts_of
    marking-start k l = refl

    -- no command stands there, or no more are looked at
    pub marking-none : (left p : ℕ) (marks : List Bool) → size_at text p ≡ 0 → Marking left p marks → (k : ℕ) → k < 256 → get_or marks k false ≡ (get_or used k false || among k (lists_used text))
    unfolding among
    marking-none left p marks e m k l = sym (or-false (get_or marks k false)) ∙ ap (λ (ns : List ℕ). get_or marks k false || among k ns) (sym (named_none left p e)) ∙ m k l

    pub marking-over : (left p : ℕ) (marks : List Bool) → left ≡ 0 → Marking left p marks → (k : ℕ) → k < 256 → get_or marks k false ≡ (get_or used k false || among k (lists_used text))
    unfolding among starts
    marking-over left p marks e m k l = sym (or-false (get_or marks k false)) ∙ (rw e at (m k l))

    -- past a command that is no run raster; past one that is, with its line list marked
    marking-on : (left p : ℕ) (marks : List Bool) → 0 < left → (size_at text p ≡ 0 → ⊥) → is_run_raster (command_at text p) ≡ false → Marking left p marks → Marking (left - 1) (p + size_at text p) marks
    marking-on left p marks h s r m k l = ap (λ (ns : List ℕ). get_or marks k false || among k ns) (sym (named-on left p h s r)) ∙ m k l

    marking-raster : (left p : ℕ) (marks : List Bool) → 0 < left → (size_at text p ≡ 0 → ⊥) → is_run_raster (command_at text p) ≡ true → length marks ≡ 256 → Marking left p marks
        → Marking (left - 1) (p + size_at text p) (set marks (raster_at text p).list true)
    marking-raster left p marks h s r w m k l =
        mark-more marks w k (raster_at text p).list (named_from (left - 1) (p + size_at text p)) l
        ∙ ap (λ (ns : List ℕ). get_or marks k false || among k ns) (sym (named-raster left p h s r)) ∙ m k l

    -- a turn of the code: at the place of a number, with the place past it
    module _ (F : Format) (p : ℕ) (placed : Option Place) (e : placed ≡ place_of F p) (at : Place) (g : placed ≡ Some at) (next : ℕ) (o : next ≡ at.0 + size_at text at.0) where
      pub marking-stop : (left : ℕ) (marks : List Bool) → next ≡ p → Marking left p marks → (k : ℕ) → k < 256 → get_or marks k false ≡ (get_or used k false || among k (lists_used text))
      marking-stop left marks same m = let q = past_of F p placed e text at next g o in marking-none left p marks (omega arith) m

      pub marking-next : (left : ℕ) (marks marks' : List Bool) (stands : Bool) → 0 < left → (next ≡ p → ⊥) → stands ≡ is_run_raster (command_at text at.0)
          → ((stands ≡ true) × (n : ℕ) × (n ≡ (raster_at text at.0).list) × (marks' ≡ set marks n true)) ⊎ ((stands ≡ false) × (marks' ≡ marks))
          → (length marks ≡ 256) × Marking left p marks → (length marks' ≡ 256) × Marking (left - 1) next marks'
      marking-next left marks marks' stands h s r way (w, m) =
          let here = (placed_at F p placed e at g).1 in
          let q = past_of F p placed e text at next g o in
          let some : size_at text p ≡ 0 → ⊥ = λ z. s (omega arith) in
          let r' = r ∙ ap (λ (x : Place). is_run_raster (command_at text x.0)) here in
          ⊎_elim
          (λ (t, n, a, b).
          let list = a ∙ ap (λ (x : Place). (raster_at text x.0).list) here in
          rw (b, list, q) (length-set marks (raster_at text p).list true ∙ w, marking-raster left p marks h some (sym r' ∙ t) w m))
          (λ (t, b). rw (b, q) (w, marking-on left p marks h some (sym r' ∙ t) m))
          way

-- ── what a pass rests on, as marks
module _ (F : Format) (seqs listed : List ℕ) where
  -- the marks so far, and the sequences from the i-th on with the line lists that those use, are all that are wanted
  pub record Resting (i : ℕ) (sequences lists : List Bool) : Type 0 where
    pub long : length sequences ≡ 256
    pub marked : (k : ℕ) → k < 256 → (get_or sequences k false || among k (drop i listed)) ≡ among k listed
    pub used : (k : ℕ) → k < 256 → (get_or lists k false || among k (lists_over F seqs (drop i listed))) ≡ among k (lists_over F seqs listed)

  pub resting-start : Resting 0 (replicate 256 false) (replicate 256 false)
  resting-start =
      record {
        long = length-replicate 256 false;
        marked = λ k l. rw (get_or-replicate 256 k false false l);
        used = λ k l. rw (get_or-replicate 256 k false false l);
      }

  pub resting-on : (i n : ℕ) (sequences lists lists' : List Bool) → i < length listed → n ≡ get_or listed i 0
      → ((k : ℕ) → k < 256 → get_or lists' k false ≡ (get_or lists k false || among k (lists_used (entry_of F seqs n))))
      → Resting i sequences lists → Resting (i + 1) (set sequences n true) lists'
  resting-on i n sequences lists lists' h e more r =
      let one : suc i ≡ i + 1 = omega arith in
      let there : drop i listed ≡ n ∷ drop (i + 1) listed = drop-cons listed i 0 h ∙ rw (← e, one) in
      record {
        long = length-set sequences n true ∙ r.long;
        marked = λ k l. mark-more sequences r.long k n (drop (i + 1) listed) l ∙ (rw there at (r.marked k l));
        used =
            λ k l.
            rw (more k l)
            (or_assoc (get_or lists k false) (among k (lists_used (entry_of F seqs n))) (among k (lists_over F seqs (drop (i + 1) listed)))
            ∙ ap (λ (t : Bool). get_or lists k false || t) (sym (among-append k (lists_used (entry_of F seqs n)) (lists_over F seqs (drop (i + 1) listed))))
            ∙ (rw there at (r.used k l)));
      }

  pub resting-over : (i : ℕ) (sequences lists : List Bool) → length listed ≤ i → Resting i sequences lists
      → RestOf F seqs listed (record { sequences = sequences; lists = lists })
  unfolding among
  resting-over i sequences lists h r =
      let none = drop_of_length-le listed h in
      record {
        sequences = λ k l. sym (or-false (get_or sequences k false)) ∙ (rw none at (r.marked k l));
        lists = λ k l. sym (or-false (get_or lists k false)) ∙ (rw none at (r.used k l));
      }

-- ── what the check tells, held against the tables of now
-- a number past both tables is no address
past-both : (n : ℕ) → option_and_then address_of (found_below 0x075EC0 n) ≡ address_of n
past-both n =
    by-test (ltb n 0x075EC0) (λ t. let e : found_below 0x075EC0 n ≡ Some n = rw t in ap (option_and_then address_of) e)
    (λ t. let h = ltb-false n 0x075EC0 t in rw (t, le-ltb n 0x070000 (omega arith)))

-- the names in a report
pub listed-names : (r : Report) (t : Told) → r ≡ report_of t → take r.count (drop 0 r.listed) ≡ t.names
unfolding report_of padded
listed-names r t e = rw e (take_at t.names _ (length t.names) refl)

module _ (F : Format) (seqs lists seqs' lists' : List ℕ) (n : ℕ) where
  abbrev pub lowest : Standing
  lowest = standing_at (address_of (lowest_changed F seqs lists seqs' lists' (check_of F seqs lists n).names))

  pub still-wrong : tables_wrong F seqs' lists' ≡ true → Unpassed (Unlisted 16) ≡ still_of F seqs lists seqs' lists' n
  unfolding still_of
  still-wrong w = rw w

  -- tables of now of the right sizes: what is found, by how the check ended
  pub still-told : tables_wrong F seqs' lists' ≡ false → still_of F seqs lists seqs' lists' n ≡ standing_by lowest (check_of F seqs lists n).ending
  unfolding still_of
  still-told w = rw w

  module _ (right : tables_wrong F seqs' lists' ≡ false) (r : Report) (told : r ≡ report_of (check_of F seqs lists n)) where
    pub still-by : (e : Ending) → r.ending ≡ e → standing_by lowest e ≡ still_of F seqs lists seqs' lists' n
    unfolding report_of
    still-by e h = ap (standing_by lowest) (sym h ∙ ap (λ (x : Report). x.ending) told) ∙ sym (still-told right)

    -- a check that passed was given tables of the right sizes
    pub passed-right : Ended r.ending → tables_wrong F seqs lists ≡ false
    unfolding report_of
    passed-right y = (check-given F seqs lists n (subst Ended (ap (λ (x : Report). x.ending) told) y)).0

    pub still-passed : (s : Standing) (a : Option ℕ) → Ended r.ending → s ≡ standing_at (option_and_then address_of a)
        → a ≡ found_below 0x075EC0 (lowest_changed F seqs lists seqs' lists' (check_of F seqs lists n).names) → s ≡ still_of F seqs lists seqs' lists' n
    still-passed s a y e f =
        e ∙ ap (λ (x : Option ℕ). standing_at (option_and_then address_of x)) f ∙ ap standing_at (past-both (lowest_changed F seqs lists seqs' lists' (check_of F seqs lists n).names))
        ∙ ⊎_elim (still-by Finishes) (still-by Returns) y
