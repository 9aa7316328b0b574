-- What a check lists: at most as many sequences as the table has, each of a number that it has, and none twice.
-- Assumes nothing.
use Prim.Native.Nat.{ℕ, zero, suc, ◌≤◌, ◌<◌, zero-le, suc-le-suc}
use native.Mathlib.Nat.{le_of_suc-le-suc, not-suc-le-zero}
use native.Mathlib.Omega.{arith}
use mathlib.Core.Path.{◌≡◌, refl, sym, ◌∙◌}
use mathlib.Core.Bool.{true, false, true≢false, false≢true, or-true}
use mathlib.Core.List.{List, [], ◌∷◌}
use lib.Dec.{ltb, eqb}
use lib.ListN.{length, get_or}
use borrow.Author.Tests.{ltb-false, eqb-true, eq-eqb}
use Rattle.std.specs.Prelude.{Result, Ok, Err}
use Rattle.octets.specs.Rows.{first_code}
use Rattle.octets.proofs.Laws.{none-holds}
use Rattle.octets.proofs.Bools.{by-test, choice}
use Rattle.memory.specs.declared.Format.{Format}
use Rattle.memory.specs.Memory.{tables_wrong}
use Rattle.sequence.specs.declared.Fault.{Fault}
use Rattle.sequence.specs.Text.{header_of}
use Rattle.sequence.specs.Starts.{among}
use Rattle.sequence.specs.Env.{Env, env_of}
use Rattle.survey.specs.declared.Closing.TheVariants.{Terminates, CallsOn}
use Rattle.survey.specs.declared.Ending.TheVariants.{Unlisted}
use Rattle.survey.specs.Walk.{Finding, passes, faults, walk, rounds, checked_by, check_one, finding_of}
use Rattle.survey.specs.Chain.{Told, told, onward, follow, chain_of, check_rows, check_of}

-- ── a call that passes is of a number that the table has
abbrev pub Low : ℕ → Finding → Type 0
Low last (passes k x is p Terminates) = Unit {0}
Low last (passes k x is p (CallsOn m)) = m ≤ last
Low last (faults f reason) = Unit {0}

low-rounds : (F : Format) (q : ℕ) (found : Finding) → Low F.last (rounds F q found)
low-rounds F q (passes k x is p Terminates) = tt
low-rounds F q (passes k x is p (CallsOn m)) = choice (Low F.last) (ltb F.last m) _ _ (λ _. tt) (λ e. ltb-false F.last m e)
low-rounds F q (faults f reason) = tt

low_by : (E : Env) (text : List ℕ) (h : Result ℕ Fault) → Low E.format.last (checked_by E text h)
low_by E text (Ok q) = low-rounds E.format q (walk E.cards text (length text) 4 _)
low_by E text (Err f) = tt

pub low-one : (E : Env) (text : List ℕ) → Low E.format.last (check_one E text)
unfolding check_one
low-one E text = low_by E text (header_of text)

-- ── the names of a chain, counted, low and new
-- at most f names, none above the last number, none among those before it
abbrev pub Chained : ℕ → ℕ → List ℕ → List ℕ → Type 0
Chained last f before [] = Unit {0}
Chained last zero before (n ∷ ns) = ⊥
Chained last (suc f) before (n ∷ ns) = (n ≤ last) × (among n before ≡ false) × Chained last f (n ∷ before) ns

module _ (F : Format) where
  chained-onward : (f n : ℕ) (before : List ℕ) (go : ℕ → Told) → n ≤ F.last → among n before ≡ false
      → ((m : ℕ) → m ≤ F.last → Chained F.last f (n ∷ before) (go m).names)
      → (found : Finding) → Low F.last found → Chained F.last (suc f) before (onward go n found).names
  unfolding onward
  chained-onward f n before go l e ih (passes k x is p Terminates) w = (l, e, tt)
  chained-onward f n before go l e ih (passes k x is p (CallsOn m)) w = (l, e, ih m w)
  chained-onward f n before go l e ih (faults g reason) w = (l, e, tt)

  module _ (found : ℕ → Finding) (lows : (n : ℕ) → Low F.last (found n)) where
    chained : (f n : ℕ) (before : List ℕ) → n ≤ F.last → Chained F.last f before (follow found f before n).names
    unfolding follow
    chained zero n before l = tt
    chained (suc f) n before l =
        choice (λ (t : Told). Chained F.last (suc f) before t.names) (among n before) _ _ (λ _. tt)
        (λ e. chained-onward f n before (λ m. follow found f (n ∷ before) m) l e (λ m h. chained f m (n ∷ before) h) (found n) (lows n))

    pub chain-chained : (n : ℕ) → n ≤ F.last → Chained F.last (suc F.last) [] (chain_of F found n).names
    unfolding chain_of
    chain-chained n l = chained (suc F.last) n [] l

-- what is shown of the chain of each number that the table has, and of a report with nothing listed, holds of a check
pub of-check : (P : Told → Type 0) (F : Format) (seqs lists : List ℕ) (n : ℕ) → ((code : ℕ) → P (told [] (Unlisted code) 0 0))
    → (tables_wrong F seqs lists ≡ false → n ≤ F.last → P (chain_of F (finding_of (env_of F lists) seqs) n)) → P (check_of F seqs lists n)
unfolding check_of check_rows
of-check P F seqs lists n f g =
    let rows = check_rows F seqs lists n in
    choice P (eqb (first_code rows) 0) _ _
    (λ e. let h = none-holds rows tt (eqb-true (first_code rows) 0 e) in g h.0 (ltb-false F.last n h.1.0))
    (λ _. f (first_code rows))

pub check-chained : (F : Format) (seqs lists : List ℕ) (n : ℕ) → Chained F.last (suc F.last) [] (check_of F seqs lists n).names
check-chained F seqs lists n =
    of-check (λ t. Chained F.last (suc F.last) [] t.names) F seqs lists n (λ _. tt)
    (λ _ l. chain-chained F (finding_of (env_of F lists) seqs) (λ m. low-one (env_of F lists) _) n l)

-- ── the three promises
pub few : (last f : ℕ) (before ns : List ℕ) → Chained last f before ns → length ns ≤ f
few last f before [] h = zero-le
few last zero before (n ∷ ns) h = absurd h
few last (suc f) before (n ∷ ns) h = suc-le-suc (few last f (n ∷ before) ns h.2)

pub low : (last f : ℕ) (before ns : List ℕ) → Chained last f before ns → (i : ℕ) → i < length ns → get_or ns i 0 ≤ last
low last f before [] h i l = absurd (not-suc-le-zero l)
low last zero before (n ∷ ns) h i l = absurd h
low last (suc f) before (n ∷ ns) h zero l = h.0
low last (suc f) before (n ∷ ns) h (suc i) l = low last f (n ∷ before) ns h.2 i (le_of_suc-le-suc l)

pub low-listed : (last f : ℕ) (before ns : List ℕ) → Chained last f before ns → (m : ℕ) → among m ns ≡ true → m ≤ last
unfolding among
low-listed last f before [] h m a = absurd (false≢true a)
low-listed last zero before (n ∷ ns) h m a = absurd h
low-listed last (suc f) before (n ∷ ns) h m a = by-test (eqb n m) (λ e. let z = eqb-true n m e in omega (arith, h.0)) (λ e. low-listed last f (n ∷ before) ns h.2 m (rw e at a))

-- a name is none of those before it
new : (last f : ℕ) (before ns : List ℕ) → Chained last f before ns → (m i : ℕ) → among m before ≡ true → i < length ns → m ≡ get_or ns i 0 → ⊥
unfolding among
new last f before [] h m i e l s = not-suc-le-zero l
new last zero before (n ∷ ns) h m i e l s = h
new last (suc f) before (n ∷ ns) h m zero e l s = true≢false (sym (rw s at e) ∙ h.1)
new last (suc f) before (n ∷ ns) h m (suc i) e l s = new last f (n ∷ before) ns h.2 m i (rw e (or-true (eqb n m))) (le_of_suc-le-suc l) s

pub apart : (last f : ℕ) (before ns : List ℕ) → Chained last f before ns
    → (i j : ℕ) → i < j → j < length ns → get_or ns i 0 ≡ get_or ns j 0 → ⊥
unfolding among
apart last f before [] h i j a l s = not-suc-le-zero l
apart last zero before (n ∷ ns) h i j a l s = h
apart last (suc f) before (n ∷ ns) h i zero a l s = not-suc-le-zero a
apart last (suc f) before (n ∷ ns) h zero (suc j) a l s = new last f (n ∷ before) ns h.2 n j (rw (eq-eqb n n refl)) (le_of_suc-le-suc l) s
apart last (suc f) before (n ∷ ns) h (suc i) (suc j) a l s = apart last f (n ∷ before) ns h.2 i j (le_of_suc-le-suc a) (le_of_suc-le-suc l) s

module _ (F : Format) (seqs lists : List ℕ) (n : ℕ) where
  -- no sequence is listed twice
  pub names_apart : (i j : ℕ) → i < j → j < length (check_of F seqs lists n).names
      → get_or (check_of F seqs lists n).names i 0 ≡ get_or (check_of F seqs lists n).names j 0 → ⊥
  names_apart = apart F.last (suc F.last) [] (check_of F seqs lists n).names (check-chained F seqs lists n)

  -- at most as many are listed as the table has
  pub names-few : length (check_of F seqs lists n).names ≤ suc F.last
  names-few = few F.last (suc F.last) [] (check_of F seqs lists n).names (check-chained F seqs lists n)

  -- each listed one is a sequence of the table
  pub names-low : (i : ℕ) → i < length (check_of F seqs lists n).names → get_or (check_of F seqs lists n).names i 0 ≤ F.last
  names-low = low F.last (suc F.last) [] (check_of F seqs lists n).names (check-chained F seqs lists n)

  pub listed-low : (m : ℕ) → among m (check_of F seqs lists n).names ≡ true → m ≤ F.last
  listed-low = low-listed F.last (suc F.last) [] (check_of F seqs lists n).names (check-chained F seqs lists n)
