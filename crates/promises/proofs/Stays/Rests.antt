-- The tables agree in what the check reads, where the bytes at the addresses that its answer rests on are the same: so the answer is too. Assumes
-- nothing.
use Prim.Native.Nat.{ℕ, zero, suc, ◌+◌, ◌*◌, ◌-◌, ◌≤◌, ◌<◌}
use native.Mathlib.Nat.{add-mul, mul_comm, mul-le-mul_right}
use native.Mathlib.Omega.{arith}
use mathlib.Core.Path.{◌≡◌, refl, sym, ◌∙◌}
use mathlib.Core.Bool.{true, false, false≢true}
use mathlib.Core.List.{List, [], ◌∷◌}
use mathlib.Core.Logic.{inl, inr}
use borrow.Author.Tests.{lt-ltb, le-ltb}
use Rattle.octets.specs.Bytes.{byte_at}
use Rattle.memory.specs.declared.Format.{Format}
use Rattle.memory.specs.Memory.{tables_wrong, entry_of, list_of}
use Rattle.memory.proofs.Laws.{right-sizes, part-byte, part-short, part-long, entry-short}
use Rattle.sequence.specs.Starts.{among}
use Rattle.sequence.specs.Within.{Read}
use Rattle.survey.specs.declared.Ending.{Ending}
use Rattle.survey.specs.Chain.{check_of}
use Rattle.survey.specs.Frame.{lists_used, Agree}
use Rattle.survey.proofs.Names.{Chained, check-chained}
use Rattle.survey.proofs.Listing.{among-case}
use Rattle.survey.proofs.Frame.{frame}
use Rattle.survey.proofs.Passing.{Ended, check_sound, list_length, plain-agree}
use Rattle.promises.specs.Formats.{Fills}
use Rattle.promises.specs.Library.{ours}
use Rattle.promises.specs.Demand3.{EndsOrReturns}
use Rattle.promises.specs.EachCheck.{Given}
use Rattle.promises.specs.Stays.{WithinLength, RestsOn, Untouched, Stays, FaultStays}
use Rattle.promises.proofs.Formats.{fills-exactly}
use Rattle.promises.proofs.Run.Events.{ends_so, back-so}

-- ── the listed sequences are the table's
-- no name in a chain is above the last number
chained-low : (last f : ℕ) (before names : List ℕ) → Chained last f before names → (n : ℕ) → among n names ≡ true → n ≤ last
unfolding among
chained-low last f before [] c n a = absurd (false≢true a)
chained-low last zero before (m ∷ ns) c n a = absurd c
chained-low last (suc f) before (m ∷ ns) (l, _, c) n a = among-case n m ns a (λ e. omega arith) (λ r. chained-low last f (m ∷ before) ns c n r)

-- so none that the check lists
pub listed-low : (F : Format) (seqs lists : List ℕ) (n m : ℕ) → among m (ours.checks F seqs lists n).names ≡ true → m ≤ F.last
listed-low F seqs lists n m a = chained-low F.last (suc F.last) [] (check_of F seqs lists n).names (check-chained F seqs lists n) m a

-- ── the bytes at some addresses, and those of entries
-- byte i of sequence n lies in the table
pub in_table : {F : Format} → Fills F → (n i : ℕ) → n ≤ F.last → i < F.size → n * F.size + i < 16384
in_table {F} full n i l h =
    let a = mul-le-mul_right F.size l in
    let b = mul_comm F.size (F.last + 1) in
    let c = add-mul F.last 1 F.size in
    let w = full.whole in
    omega arith

-- the lengths of the listed sequences, and the numbers and lengths of the line lists that they use, are those of entries
pub record Fits (F : Format) (seqs lists names : List ℕ) : Type 0 where
  pub sequences : (n : ℕ) → among n names ≡ true → byte_at (entry_of F seqs n) 0 ≤ F.size
  pub line_lists : (n k : ℕ) → among n names ≡ true → among k (lists_used (entry_of F seqs n)) ≡ true → (k ≤ 47) × (byte_at (list_of lists k) 0 ≤ 164)

-- a check that ends or returns, as the survey's laws have it
pub ended_so : (e : Ending) → EndsOrReturns e → Ended e
ended_so e (inl h) = inl (ends_so h)
ended_so e (inr h) = inr (back-so h)

-- tables that are given have the right sizes
pub given-right : {F : Format} {seqs lists : List ℕ} {n : ℕ} → Given F seqs lists n → tables_wrong F seqs lists ≡ false
given-right {F} {seqs} {lists} g = right-sizes F seqs lists ((fills-exactly F).1 g.format) g.sequences g.line_lists

-- two pairs of tables, with the same bytes at the addresses of those that count
module _ {F : Format} (seqs lists seqs' lists' : List ℕ) {n : ℕ} (g : Given F seqs lists n) (g' : Given F seqs' lists' n) where
  abbrev names : List ℕ
  names = (ours.checks F seqs lists n).names

  module _ (Counts : List ℕ → ℕ → Type 0) (same : Untouched (RestsOn Counts F seqs lists names) seqs lists seqs' lists') where
    sequence-byte : (m i : ℕ) → among m names ≡ true → i < F.size → Counts (entry_of F seqs m) i → byte_at (entry_of F seqs' m) i ≡ byte_at (entry_of F seqs m) i
    sequence-byte m i a l c =
        let at = 0x070000 + m * F.size + i in
        let t = in_table g.format m i (listed-low F seqs lists n m a) l in
        let off : at - 0x070000 ≡ m * F.size + i = omega arith in
        let e = rw (lt-ltb at 0x074000 (omega arith), off) at (same at (inl (m, i, a, c, refl))) in
        part-byte seqs' (m * F.size) F.size i l ∙ e ∙ sym (part-byte seqs (m * F.size) F.size i l)

    list-byte : (m k i : ℕ) → among m names ≡ true → among k (lists_used (entry_of F seqs m)) ≡ true → i < 164 → Counts (list_of lists k) i → byte_at (list_of lists' k) i ≡ byte_at (list_of lists k) i
    list-byte m k i a u l c =
        let at = 0x074000 + k * 164 + i in
        let off : at - 0x074000 ≡ k * 164 + i = omega arith in
        let e = rw (le-ltb at 0x074000 (omega arith), off) at (same at (inr (m, k, i, a, u, c, refl))) in
        part-byte lists' (k * 164) 164 i l ∙ e ∙ sym (part-byte lists (k * 164) 164 i l)

  -- so the tables agree in what is read, where the check passed, and where it found a fault
  pub passed-agree : EndsOrReturns (ours.checks F seqs lists n).ending → Untouched (RestsOn WithinLength F seqs lists names) seqs lists seqs' lists' → Agree F seqs lists seqs' lists' names
  passed-agree y same =
      let sound = check_sound F seqs lists n (ended_so (ours.checks F seqs lists n).ending y) in
      plain-agree F seqs lists seqs' lists' n (given-right g) (given-right g') (ended_so (ours.checks F seqs lists n).ending y)
      (λ m i a l. sequence-byte WithinLength same m i a (omega (arith, (sound m a).most, entry-short F seqs m)) l)
      (λ m k i a u l. list-byte WithinLength same m k i a u (omega (arith, (list_length lists k ((sound m a).lists k u)).1)) l)

  fault-agree : Untouched (RestsOn Read F seqs lists names) seqs lists seqs' lists' → Agree F seqs lists seqs' lists' names
  fault-agree same =
      record {
        entries = λ m a.
            record {
              long = part-long seqs (m * F.size) F.size seqs' (g'.sequences ∙ sym g.sequences);
              bytes = λ i r. sequence-byte Read same m i a (omega (arith, r.0, entry-short F seqs m)) r;
            };
        used = λ m k a b u.
            record {
              long = part-long lists (k * 164) 164 lists' (g'.line_lists ∙ sym g.line_lists);
              bytes = λ i r. list-byte Read same m k i a u (omega (arith, r.0, part-short lists (k * 164) 164)) r;
            };
      }

pub stays : {F : Format} → Stays F ours
stays {F} seqs lists seqs' lists' n g g' y same = frame F seqs lists seqs' lists' (given-right g) (given-right g') n (passed-agree seqs lists seqs' lists' g g' y same)

pub fault-stays : {F : Format} → FaultStays F ours
fault-stays {F} seqs lists seqs' lists' n g g' y same = frame F seqs lists seqs' lists' (given-right g) (given-right g') n (fault-agree seqs lists seqs' lists' g g' same)

-- what a pass rests on lies in the tables
pub pass_fits : (F : Format) (seqs lists : List ℕ) (n : ℕ) → EndsOrReturns (ours.checks F seqs lists n).ending → Fits F seqs lists (ours.checks F seqs lists n).names
pass_fits F seqs lists n y =
    let sound = check_sound F seqs lists n (ended_so (ours.checks F seqs lists n).ending y) in
    record {
      sequences = λ m a. omega (arith, (sound m a).most, entry-short F seqs m);
      line_lists = λ m k a u. (((sound m a).lists k u).0, (list_length lists k ((sound m a).lists k u)).1);
    }
