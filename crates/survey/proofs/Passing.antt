-- What a pass has: each listed sequence has its length within its entry, and each line list that it uses is good.
-- Assumes nothing.
use Prim.Native.Nat.{ℕ, zero, suc, ◌+◌, ◌*◌, ◌≤◌, ◌<◌}
use native.Mathlib.Omega.{arith}
use mathlib.Core.Path.{◌≡◌, refl, sym, ◌∙◌, subst}
use mathlib.Core.Bool.{true, false, false≢true}
use mathlib.Core.List.{List, [], ◌∷◌}
use mathlib.Core.Logic.{◌⊎◌, ⊎_elim}
use lib.Dec.{eqb}
use lib.ListN.{length, take, drop}
use Rattle.std.specs.Prelude.{Option, Some, None, Result, Ok, Err}
use Rattle.octets.specs.Bytes.{byte_at}
use Rattle.octets.proofs.Bools.{by-test, clash}
use Rattle.memory.specs.declared.Format.{Format}
use Rattle.memory.specs.Memory.{tables_wrong, entry_of, list_of}
use Rattle.memory.proofs.Laws.{sizes, part-long}
use Rattle.sequence.specs.declared.Fault.{Fault}
use Rattle.sequence.specs.declared.Command.TheVariants.{RunRaster}
use Rattle.sequence.specs.LineList.{ListCard}
use Rattle.sequence.specs.Text.{limit, size_at, header_of, command_at, is_run_raster}
use Rattle.sequence.specs.Starts.{among, starts, starts_of, rasters_among}
use Rattle.sequence.specs.Raster.{raster_at}
use Rattle.sequence.specs.Env.{Env, env_of, cards_of}
use Rattle.sequence.specs.Within.{Alike}
use Rattle.sequence.proofs.Laws.{none_last, starts-off}
use Rattle.sequence.proofs.Lengths.{header-length, card-length}
use Rattle.sequence.proofs.Within.{is-run}
use Rattle.runner.specs.declared.Opened.{Opened}
use Rattle.runner.specs.declared.Act.{Act}
use Rattle.runner.specs.declared.Act.TheVariants.{Refused, Opens, Exposes, Loops, Waits, Calls, Ends}
use Rattle.runner.specs.Judge.{judge}
use Rattle.runner.proofs.Within.{Tells, tells, Obeyed, ListGood, list-good}
use Rattle.survey.specs.declared.Closing.TheVariants.{Terminates, CallsOn}
use Rattle.survey.specs.declared.Ending.{Ending}
use Rattle.survey.specs.declared.Ending.TheVariants.{Unlisted, Finishes, Returns}
use Rattle.survey.specs.Walk.{Finding, passes, faults, closed, paused, walked, walk, rounds, checked_by, check_one, finding_of}
use Rattle.survey.specs.Chain.{Told, onward, chain_of, check_of}
use Rattle.survey.specs.Frame.{lists_named, lists_used, Agree}
use Rattle.survey.proofs.Names.{of-check}
use Rattle.survey.proofs.Listing.{among_first, among_later, among-case, follow-all}

-- no fault was found
abbrev pub Passing : Finding → Type 0
Passing (passes k x is p c) = Unit {0}
Passing (faults f reason) = ⊥

-- ── one sequence
module _ (cards : ℕ → ListCard) (text : List ℕ) where
  -- a run raster at this place names a good line list
  abbrev Named : ℕ → Type 0
  Named p = command_at text p ≡ RunRaster → ListGood cards (raster_at text p).list

  -- what passes with an item in front passes without it
  after-closed : (q t : ℕ) (o : Option Opened) (found : Finding) → Passing (closed text q t o found) → Passing found
  after-closed q t None found y = y
  after-closed q t (Some opened) (passes n x is e d) y = tt
  after-closed q t (Some opened) (faults f reason) y = y

  after-paused : (p : ℕ) (o : Option Opened) (found : Finding) → Passing (paused text p o found) → Passing found
  after-paused p None (passes n x is e d) y = tt
  after-paused p None (faults f reason) y = y
  after-paused p (Some opened) found y = y

  -- where a walk passes, the first command is obeyed, and the rest passes or nothing comes after it
  walked-obeyed : (go : ℕ → Option Opened → Finding) (p : ℕ) (o : Option Opened) (a : Act) → Passing (walked cards text go p o a) → Obeyed a
  unfolding walked
  walked-obeyed go p o (Refused code) y = y
  walked-obeyed go p o Opens y = tt
  walked-obeyed go p o (Exposes r) y = tt
  walked-obeyed go p o (Loops t) y = tt
  walked-obeyed go p o Waits y = tt
  walked-obeyed go p o (Calls m) y = tt
  walked-obeyed go p o Ends y = tt

  walked-rest : {A : Type 0} (go : ℕ → Option Opened → Finding) (p : ℕ) → ((o : Option Opened) → Passing (go (p + size_at text p) o) → A) → (p + size_at text p ≡ limit text → A)
      → (o : Option Opened) (a : Act) → Tells text p o a → Passing (walked cards text go p o a) → A
  unfolding walked
  walked-rest go p on last o (Refused code) w y = absurd y
  walked-rest go p on last o Opens w y = on _ y
  walked-rest go p on last o (Exposes r) w y = on _ y
  walked-rest go p on last o (Loops t) w y = on None (after-closed p t o _ y)
  walked-rest go p on last o Waits w y = on o (after-paused p o _ y)
  walked-rest go p on last o (Calls m) w y = last w
  walked-rest go p on last o Ends w y = last w

  -- so each start of a text that passes is that of a command that is obeyed
  walk-named : (f p : ℕ) (o : Option Opened) → Passing (walk cards text f p o) → (q : ℕ) → among q (starts text f p) ≡ true → Named q
  unfolding walk starts among
  walk-named zero p o y q h = absurd y
  walk-named (suc f) p o y q h =
      let next = p + size_at text p in
      by-test (eqb (size_at text p) 0)
      (λ e. absurd (false≢true (rw e at h)))
      (λ e.
      among-case q p (starts text f next) (rw e at h)
      (λ s. subst Named s (list-good cards text p o (walked-obeyed _ p o (judge cards text p o) y)))
      (λ s.
      walked-rest {A = Named q} _ p (λ u z. walk-named f next u z q s) (λ l. absurd (false≢true (rw (l, starts-off text f (limit text) (size_at text (limit text)) refl (none_last text)) at s))) o (judge cards text p o) (tells cards text p o) y))

  -- and each line list that run rasters among such places name is good
  named-good : (ps : List ℕ) → ((q : ℕ) → among q ps ≡ true → Named q) → (k : ℕ) → among k (lists_named text (rasters_among text ps)) ≡ true → ListGood cards k
  unfolding among
  named-good [] h k a = absurd (false≢true a)
  named-good (p ∷ ps) h k a =
      let rest = named-good ps (λ q s. h q (among_later q p ps s)) k in
      by-test (is_run_raster (command_at text p))
      (λ t. among-case k (raster_at text p).list (lists_named text (rasters_among text ps)) (rw t at a) (λ s. subst (ListGood cards) s (h p (among_first p ps) (is-run _ t))) rest)
      (λ t. rest (rw t at a))

-- the length lies within the entry, and each line list that is used is good
pub record Sound (cards : ℕ → ListCard) (text : List ℕ) : Type 0 where
  pub least : 6 ≤ byte_at text 0
  pub most : byte_at text 0 ≤ length text
  pub lists : (k : ℕ) → among k (lists_used text) ≡ true → ListGood cards k

module _ (E : Env) (text : List ℕ) where
  -- where all rounds pass, one does
  of-rounds : (q : ℕ) (found : Finding) → Passing (rounds E.format q found) → Passing found
  of-rounds q (passes k x is p c) y = tt
  of-rounds q (faults f reason) y = y

  by-sound : (head : Result ℕ Fault) → header_of text ≡ head → Passing (checked_by E text head) → Sound E.cards text
  unfolding lists_used starts_of
  by-sound (Ok q) e y =
      let (least, most) = header-length text q e in
      let named = walk-named E.cards text (length text) 4 None (of-rounds q (walk E.cards text (length text) 4 None) y) in
      record { least = least; most = most; lists = named-good E.cards text (starts_of text) named }
  by-sound (Err f) e y = absurd y

  -- a sequence that passes is sound
  pub one-sound : Passing (check_one E text) → Sound E.cards text
  unfolding check_one
  one-sound y = by-sound (header_of text) refl y

-- ── a chain that ends or returns
abbrev pub Ended : Ending → Type 0
Ended e = (e ≡ Finishes) ⊎ (e ≡ Returns)

-- one that lists nothing does neither
unlisted-not : (code : ℕ) → Ended (Unlisted code) → ⊥
unlisted-not code y = ⊎_elim (λ z. clash (cc)) (λ z. clash (cc)) y

module _ (found : ℕ → Finding) where
  -- each of its sequences passes
  abbrev AllPass : Told → Type 0
  AllPass t = Ended t.ending → (m : ℕ) → among m t.names ≡ true → Passing (found m)

  -- `go` is the chain after sequence n, and `ih` says it of that
  onward-passing : (n : ℕ) (go : ℕ → Told) → ((m : ℕ) → AllPass (go m)) → (one : Finding) → found n ≡ one → AllPass (onward go n one)
  unfolding onward among
  onward-passing n go ih (passes k x is p Terminates) e y m h = among-case m n [] h (λ s. rw (← s, e) tt) (λ s. absurd (false≢true s))
  onward-passing n go ih (passes k x is p (CallsOn c)) e y m h = among-case m n (go c).names h (λ s. rw (← s, e) tt) (ih c y m)
  onward-passing n go ih (faults f reason) e y m h = absurd (⊎_elim (λ z. clash (cc)) (λ z. clash (cc)) y)

  chain-passing : (F : Format) (n : ℕ) → AllPass (chain_of F found n)
  unfolding chain_of among
  chain-passing F n =
      follow-all found (λ before t. AllPass t) (λ before y m h. absurd (false≢true h)) (λ before n go e ih. onward-passing n go ih (found n) refl) (suc F.last) [] n

-- a check that ends or returns was given tables of the right sizes, and a number that they have
pub check-given : (F : Format) (seqs lists : List ℕ) (n : ℕ) → Ended (check_of F seqs lists n).ending → (tables_wrong F seqs lists ≡ false) × (n ≤ F.last)
check-given F seqs lists n =
    of-check (λ t. Ended t.ending → (tables_wrong F seqs lists ≡ false) × (n ≤ F.last)) F seqs lists n
    (λ code y. absurd (unlisted-not code y))
    (λ right low y. (right, low))

-- and each listed sequence is sound
pub check_sound : (F : Format) (seqs lists : List ℕ) (n : ℕ) → Ended (check_of F seqs lists n).ending
    → (m : ℕ) → among m (check_of F seqs lists n).names ≡ true → Sound (cards_of lists) (entry_of F seqs m)
check_sound F seqs lists n =
    of-check (λ t. Ended t.ending → (m : ℕ) → among m t.names ≡ true → Sound (cards_of lists) (entry_of F seqs m)) F seqs lists n
    (λ code y m h. absurd (unlisted-not code y))
    (λ _ _ y m h. one-sound (env_of F lists) (entry_of F seqs m) (chain-passing (finding_of (env_of F lists) seqs) F n y m h))

-- a good line list has the length of 1 to 25 windows
pub list_length : (lists : List ℕ) (k : ℕ) → ListGood (cards_of lists) k → (20 ≤ byte_at (list_of lists k) 0) × (byte_at (list_of lists k) 0 ≤ 164)
list_length lists k (low, (marks, e)) = card-length (list_of lists k) marks e

-- ── so tables whose bytes are the same within the lengths agree
-- parts of one size at one place, of which the first has a length of 4 at least
part-alike : (s s' : List ℕ) (at size : ℕ) → length s' ≡ length s → let part = take size (drop at s) in let part' = take size (drop at s') in
    4 ≤ byte_at part 0 → ((i : ℕ) → i < byte_at part 0 → byte_at part' i ≡ byte_at part i) → Alike part part'
part-alike s s' at size e least same =
    record {
      long = part-long s at size s' e;
      bytes = λ i (l, r). same i (⊎_elim (λ b. omega arith) (λ b. b) r);
    }

-- the bytes of each listed sequence, and of each line list that one of them uses, within the lengths that their bytes 0 say
pub plain-agree : (F : Format) (seqs lists seqs' lists' : List ℕ) (n : ℕ) → tables_wrong F seqs lists ≡ false → tables_wrong F seqs' lists' ≡ false
    → Ended (check_of F seqs lists n).ending → let names = (check_of F seqs lists n).names in
    ((m i : ℕ) → among m names ≡ true → i < byte_at (entry_of F seqs m) 0 → byte_at (entry_of F seqs' m) i ≡ byte_at (entry_of F seqs m) i)
    → ((m k i : ℕ) → among m names ≡ true → among k (lists_used (entry_of F seqs m)) ≡ true → i < byte_at (list_of lists k) 0 → byte_at (list_of lists' k) i ≡ byte_at (list_of lists k) i)
    → Agree F seqs lists seqs' lists' names
plain-agree F seqs lists seqs' lists' n right right' y hs hl =
    let (f, ls, ll) = sizes F seqs lists right in
    let (f', ls', ll') = sizes F seqs' lists' right' in
    record {
      entries = λ m a.
          let sound = check_sound F seqs lists n y m a in
          part-alike seqs seqs' (m * F.size) F.size (ls' ∙ sym ls) (omega arith) (λ i. hs m i a);
      used = λ m k a b u.
          let (least, most) = list_length lists k ((check_sound F seqs lists n y m a).lists k u) in
          part-alike lists lists' (k * 164) 164 (ll' ∙ sym ll) (omega arith) (λ i. hl m k i a u);
    }
