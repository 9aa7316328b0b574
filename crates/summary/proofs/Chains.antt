-- Laws of the chain as the cards say it: one for each way out of its loop. Assumes nothing.
use Prim.Native.Nat.{ℕ, zero, suc, ◌+◌, ◌≤◌, ◌<◌, ◌^◌}
use native.Mathlib.Nat.{add-zero}
use native.Mathlib.Omega.{arith}
use mathlib.Core.Path.{◌≡◌, refl, sym, ap, ◌∙◌, subst}
use mathlib.Core.Bool.{Bool, true, false, not, ◌&&◌, ◌||◌, or-true, false≢true}
use mathlib.Core.List.{List, [], ◌∷◌, ◌++◌, reverse, reverse-cons, append-nil}
use lib.Dec.{ltb, leb, eqb}
use lib.ListN.{get_or, set, length-set, length-reverse}
use borrow.Author.Tests.{eqb-true, eq-eqb, ltb-false, leb-false}
use Rattle.std.specs.Prelude.{Some, None, Result, Ok, Err}
use Rattle.octets.specs.Bytes.{byte_at, number_at}
use Rattle.octets.proofs.Bools.{by-test, clash, or-neither}
use Rattle.memory.specs.declared.Format.{Format}
use Rattle.sequence.specs.declared.Fault.{Fault}
use Rattle.sequence.specs.Text.{fault}
use Rattle.sequence.specs.Starts.{among}
use Rattle.survey.specs.declared.Chain.{Chain}
use Rattle.survey.specs.declared.Closed.{Closed}
use Rattle.survey.specs.declared.Closing.{Closing}
use Rattle.survey.specs.declared.Closing.TheVariants.{Terminates, CallsOn}
use Rattle.survey.specs.declared.Ending.{Ending}
use Rattle.survey.specs.declared.Ending.TheVariants.{Unlisted, Finishes, Returns, Faults}
use Rattle.survey.specs.declared.Reason.{Reason}
use Rattle.survey.specs.Walk.{Finding, passes, faults}
use Rattle.survey.specs.Chain.{Told, told, front, onward, follow, chain_of}
use Rattle.survey.specs.Report.{report_of}
use Rattle.survey.specs.Held.{Marked, Free, Is, joined, ahead, empty_chain}
use Rattle.survey.proofs.Bits.{among-snoc}
use Rattle.survey.proofs.Listing.{unlisted, unlisted-less, among-case}
use Rattle.survey.proofs.Chains.{listed_with, added, one_fewer, room, is-entered, joined-front, follow-back, is-start, follow-whole}
use Rattle.summary.specs.Summary.{card_in}
use Rattle.summary.specs.Chain.{card_wrong, reason_read, closing_of, said_by, sayings, some_wrong, unless_wrong}
use Rattle.survey.specs.Held.{reported_as}
use Rattle.summary.specs.Held.{said_in, said_of}

-- ── what a card says
said-case : (F : Format) (c : List ℕ) (x : Result Closed (Fault × Reason)) → said_of F c ≡ Some x → (card_wrong F c ≡ false) × (said_in (said_by c) ≡ x)
said-case F c x e =
    by-test (card_wrong F c) (λ t. absurd (clash (let h : None ≡ Some x = rw t at e in cc))) (λ t. (t, (let h : Some (said_in (said_by c)) ≡ Some x = rw t at e in cc)))

said-wrong : (F : Format) (c : List ℕ) → said_of F c ≡ None → card_wrong F c ≡ true
said-wrong F c e = by-test (card_wrong F c) (λ t. t) (λ t. absurd (clash (let h : Some (said_in (said_by c)) ≡ None = rw t at e in cc)))

-- what stands in front of the rest of the chain, by what is said
onward-fault : (go : ℕ → Told) (n : ℕ) (f : Fault) (reason : Reason) (found : Finding) → said_in found ≡ Err (f, reason) → onward go n found ≡ front n 0 0 (told [] (Faults n f reason) 0 0)
unfolding onward
onward-fault go n f reason (passes k x is p c) e = absurd (clash (cc))
onward-fault go n f reason (faults g why) e =
    let h : ◌≡◌ {A = Fault × Reason} (g, why) (f, reason) = cc in
    let a : g ≡ f = ap (λ (q : Fault × Reason). q.0) h in
    let b : why ≡ reason = ap (λ (q : Fault × Reason). q.1) h in
    rw (a, b)

onward-closes : (go : ℕ → Told) (n : ℕ) (closed : Closed) (found : Finding) → said_in found ≡ Ok closed → onward go n found ≡ front n closed.steps closed.exposures (ahead go closed.closing)
unfolding onward
onward-closes go n closed (passes k x is p c) e =
    let h : (let d : Closed = record { place = p; closing = c; steps = k; exposures = x } in d) ≡ closed = cc in
    subst (λ (d : Closed). onward go n (passes k x is p c) ≡ front n d.steps d.exposures (ahead go d.closing)) h (by c)
  where
    by : (c : Closing) → onward go n (passes k x is p c) ≡ front n k x (ahead go c)
    by Terminates = rw (add-zero k, add-zero x)
    by (CallsOn m) = refl
onward-closes go n closed (faults g why) e = absurd (clash (cc))

-- the sequence itself is the first that it lists
onward-first : (go : ℕ → Told) (n : ℕ) (found : Finding) → (rest : List ℕ) × ((onward go n found).names ≡ n ∷ rest)
unfolding onward
onward-first go n (passes k x is p Terminates) = ([], refl)
onward-first go n (passes k x is p (CallsOn m)) = ((go m).names, refl)
onward-first go n (faults f reason) = ([], refl)

-- ── wrong cards among those listed
module _ (F : Format) (s : List ℕ) where
  wrong-behind : (a : List ℕ) (n : ℕ) (b : List ℕ) → card_wrong F (card_in s n) ≡ true → some_wrong F s (a ++ n ∷ b) ≡ true
  wrong-behind [] n b e = rw e
  wrong-behind (m ∷ a) n b e = rw (wrong-behind a n b e) (or-true (card_wrong F (card_in s m)))

  -- none of these is wrong
  abbrev pub Right : List ℕ → Type 0
  Right names = (m : ℕ) → among m names ≡ true → card_wrong F (card_in s m) ≡ false

  pub none-wrong : (names : List ℕ) → Right names → some_wrong F s names ≡ false
  unfolding among
  none-wrong [] r = refl
  none-wrong (n ∷ names) r = rw (r n (rw (eq-eqb n n refl)), none-wrong names (λ m a. r m (rw a (or-true (eqb n m)))))

  among-reverse : (m : ℕ) (names : List ℕ) → among m (reverse names) ≡ true → among m names ≡ true
  unfolding among
  among-reverse m [] h = h
  among-reverse m (n ∷ names) h =
      let g : (among m (reverse names) || eqb n m) ≡ true = sym (among-snoc m n (reverse names)) ∙ (rw (reverse-cons n names) at h) in
      by-test (eqb n m) (λ e. rw e) (λ e. rw e (among-reverse m names (plain (among m (reverse names)) (rw e at g))))
    where
      plain : (b : Bool) → (b || false) ≡ true → b ≡ true
      plain true h = refl
      plain false h = h

unlisted-all : (k : ℕ) → unlisted k [] ≡ k
unfolding unlisted among
unlisted-all zero = refl
unlisted-all (suc k) = ap suc (unlisted-all k)

-- ── a card that is not wrong has at most 2^54 of each, and calls a sequence that there is
abbrev CallsLow : Format → Closing → Type 0
CallsLow F Terminates = Unit {0}
CallsLow F (CallsOn m) = m ≤ F.last

abbrev Small : Format → Closed → Type 0
Small F x = (x.steps ≤ 2 ^ 54) × (x.exposures ≤ 2 ^ 54) × CallsLow F x.closing

module _ (F : Format) (c : List ℕ) where
  few-of : card_wrong F c ≡ false → byte_at c 0 ≡ 0 → (number_at c 8 8 ≤ 2 ^ 54) × (number_at c 16 8 ≤ 2 ^ 54)
  unfolding card_wrong
  few-of q z =
      let tail = (or-neither (not (eqb (byte_at c 3) 1 || eqb (byte_at c 3) 2)) _ (rw z at q)).1 in
      let (a, b) = or-neither (leb (2 ^ 54) (number_at c 8 8)) (leb (2 ^ 54) (number_at c 16 8)) (or-neither (eqb (byte_at c 3) 2 && ltb F.last (byte_at c 4)) _ tail).1 in
      let x = leb-false (2 ^ 54) (number_at c 8 8) a in
      let y = leb-false (2 ^ 54) (number_at c 16 8) b in
      (omega arith, omega arith)

  low_of : card_wrong F c ≡ false → byte_at c 0 ≡ 0 → byte_at c 3 ≡ 2 → byte_at c 4 ≤ F.last
  unfolding card_wrong
  low_of q z two =
      let tail = (or-neither (not (eqb (byte_at c 3) 1 || eqb (byte_at c 3) 2)) _ (rw z at q)).1 in
      ltb-false F.last (byte_at c 4) (rw two at (or-neither (eqb (byte_at c 3) 2 && ltb F.last (byte_at c 4)) _ tail).0)

  said-small : (x : Closed) → said_of F c ≡ Some (Ok x) → Small F x
  unfolding said_by
  said-small x e =
      let (q, says) = said-case F c (Ok x) e in
      by-test (eqb (byte_at c 0) 0)
      (λ z.
      let zero-first = eqb-true (byte_at c 0) 0 z in
      let (a, b) = few-of q zero-first in
      let low : CallsLow F (closing_of c) = by-test (eqb (byte_at c 3) 2) (λ t. rw t (low_of q zero-first (eqb-true (byte_at c 3) 2 t))) (λ t. rw t tt) in
      let h : Ok (let d : Closed = record { place = 0; closing = closing_of c; steps = number_at c 8 8; exposures = number_at c 16 8 } in d) ≡ Ok x = rw z at says in
      let g : (let d : Closed = record { place = 0; closing = closing_of c; steps = number_at c 8 8; exposures = number_at c 16 8 } in d) ≡ x = cc in
      subst (Small F) g (a, b, low))
      (λ z. absurd (clash (let h : Err (fault (byte_at c 2) (byte_at c 1), reason_read (byte_at c 5) (byte_at c 6)) ≡ Ok x = rw z at says in cc)))

-- ── where the loop stands: the names so far, the newest first
pub record Way (F : Format) (s : List ℕ) (first : ℕ) (chain : Chain) (n : ℕ) : Type 0 where
  pub free : Free chain n
  pub low : n ≤ F.last
  pub names : List ℕ
  pub is : Is chain names
  pub right : Right F s names
  pub same : joined names chain.steps chain.exposures (follow (sayings s) (unlisted (suc F.last) names) names n) ≡ chain_of F (sayings s) first

pub way-start : (F : Format) (s : List ℕ) (first : ℕ) (start : Chain) → start ≡ empty_chain → Free start first → first ≤ F.last → Way F s first start first
unfolding chain_of among
way-start F s first start e free low =
    record {
      free = free;
      low = low;
      names = [];
      is = rw e is-start;
      right = λ m a. absurd (false≢true a);
      same = rw (e, unlisted-all (suc F.last)) (follow-whole (sayings s) (suc F.last) [] first);
    }

-- what is reported of a chain that ends here
ended : (F : Format) (s : List ℕ) (chain : Chain) (names : List ℕ) (whole : Told) (e : Ending) → Is chain names → Right F s names
    → joined names chain.steps chain.exposures (told [] e 0 0) ≡ whole → reported_as chain e ≡ report_of (unless_wrong F s whole)
unfolding report_of
ended F s chain names whole e is right same =
    let quiet : some_wrong F s (reverse names ++ []) ≡ false = none-wrong F s (reverse names ++ []) (λ m a. right m (among-reverse F s m names (rw (append-nil (reverse names)) at a))) in
    rw (← same, quiet, append-nil (reverse names), length-reverse names, is.list, is.count)

module _ (F : Format) (s : List ℕ) (first : ℕ) (chain : Chain) (n : ℕ) (w : Way F s first chain n) where
  abbrev names' : List ℕ
  names' = n ∷ w.names

  abbrev go : ℕ → Told
  go m = follow (sayings s) (unlisted (suc F.last) names') names' m

  new : among n w.names ≡ false
  new = sym (w.is.marks n w.free.low) ∙ w.free.new

  turned : joined w.names chain.steps chain.exposures (onward go n (sayings s n)) ≡ chain_of F (sayings s) first
  unfolding follow
  turned = rw (unlisted-less (suc F.last) n w.names (omega (arith, w.low)) new, new) at w.same

  pub wrong-out : said_of F (card_in s n) ≡ None → report_of (told [] (Unlisted 17) 0 0) ≡ report_of (unless_wrong F s (chain_of F (sayings s) first))
  wrong-out e =
      let (rest, h) = onward-first go n (sayings s n) in
      let t : some_wrong F s (chain_of F (sayings s) first).names ≡ true =
      ap (λ (x : Told). some_wrong F s x.names) (sym turned) ∙ ap (λ (ns : List ℕ). some_wrong F s (reverse w.names ++ ns)) h ∙ wrong-behind F s (reverse w.names) n rest (said-wrong F (card_in s n) e) in
      rw t

  is-listed : Is (listed_with chain n) names'
  is-listed = is-entered chain n w.free w.names w.is

  -- it is listed, and its card is right
  module _ (x : Result Closed (Fault × Reason)) (e : said_of F (card_in s n) ≡ Some x) where
    right' : Right F s names'
    right' m a = among-case m n w.names a (λ z. subst (λ (k : ℕ). card_wrong F (card_in s k) ≡ false) z (said-case F (card_in s n) x e).0) (w.right m)

    said : said_in (sayings s n) ≡ x
    said = (said-case F (card_in s n) x e).1

  pub fault-out : (f : Fault) (reason : Reason) → said_of F (card_in s n) ≡ Some (Err (f, reason))
      → reported_as (listed_with chain n) (Faults n f reason) ≡ report_of (unless_wrong F s (chain_of F (sayings s) first))
  fault-out f reason e =
      ended F s (listed_with chain n) names' _ (Faults n f reason) is-listed (right' _ e)
      (sym (joined-front w.names chain.steps chain.exposures n 0 0 (told [] (Faults n f reason) 0 0)) ∙ ap (joined w.names chain.steps chain.exposures) (sym (onward-fault go n f reason (sayings s n) (said _ e))) ∙ turned)

  -- past a card that closes
  module _ (c : Closed) (e : said_of F (card_in s n) ≡ Some (Ok c)) where
    abbrev after : Chain
    after = added (listed_with chain n) c.steps c.exposures

    is' : Is after names'
    is' = let i = is-listed in record { list = i.list; count = i.count; marks = i.marks }

    small : Small F c
    small = said-small F (card_in s n) c e

    pub sums-fit : (chain.steps + c.steps < 2 ^ 64) × (chain.exposures + c.exposures < 2 ^ 64)
    sums-fit = let r = room chain n w.free in (omega (arith, w.free.kept.steps-fit, small.0), omega (arith, w.free.kept.exposures-fit, small.1))

    kept' : Marked after
    kept' =
        record {
          listed-long = length-set chain.listed chain.count n ∙ w.free.kept.listed-long;
          marks-long = length-set chain.marks n true ∙ w.free.kept.marks-long;
          all = omega (arith, one_fewer chain n w.free, w.free.kept.all);
          steps-fit = omega (arith, w.free.kept.steps-fit, small.0);
          exposures-fit = omega (arith, w.free.kept.exposures-fit, small.1);
        }

    onto : (k : Closing) → c.closing ≡ k → joined names' (chain.steps + c.steps) (chain.exposures + c.exposures) (ahead go k) ≡ chain_of F (sayings s) first
    onto k t =
        ap (λ (b : Closing). joined names' (chain.steps + c.steps) (chain.exposures + c.exposures) (ahead go b)) (sym t)
        ∙ sym (joined-front w.names chain.steps chain.exposures n c.steps c.exposures (ahead go c.closing))
        ∙ ap (joined w.names chain.steps chain.exposures) (sym (onward-closes go n c (sayings s n) (said _ e)))
        ∙ turned

    pub end-out : c.closing ≡ Terminates → reported_as after Finishes ≡ report_of (unless_wrong F s (chain_of F (sayings s) first))
    end-out t = ended F s after names' _ Finishes is' (right' _ e) (onto Terminates t)

    module _ (m : ℕ) (t : c.closing ≡ CallsOn m) (few : F.last ≤ 127) where
      low : m ≤ F.last
      low = subst (CallsLow F) t small.2

      pub call_below : m < 128
      call_below = omega (arith, low)

      pub back-out : get_or (set chain.marks n true) m false ≡ true → reported_as after Returns ≡ report_of (unless_wrong F s (chain_of F (sayings s) first))
      back-out q =
          let there = sym (is'.marks m call_below) ∙ q in
          ended F s after names' _ Returns is' (right' _ e)
          (ap (joined names' (chain.steps + c.steps) (chain.exposures + c.exposures)) (sym (follow-back (sayings s) (unlisted (suc F.last) names') names' m there)) ∙ onto (CallsOn m) t)

      pub way_on : get_or (set chain.marks n true) m false ≡ false → Way F s first after m
      way_on q =
          record {
            free = record { kept = kept'; low = call_below; new = q };
            low = low;
            names = names';
            is = is';
            right = right' _ e;
            same = onto (CallsOn m) t;
          }
