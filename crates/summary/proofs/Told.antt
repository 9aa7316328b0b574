-- From a fresh summary the chain check is the table check. Assumes nothing.
use Prim.Native.Nat.{ℕ, zero, suc, ◌*◌, ◌-◌, ◌≤◌, ◌^◌}
use native.Mathlib.Nat.{mul-le-mul}
use native.Mathlib.Omega.{arith}
use mathlib.Core.Path.{◌≡◌, refl, ap, ◌∙◌}
use mathlib.Core.Bool.{true, false, cond, false≢true}
use mathlib.Core.List.{List, [], ◌∷◌}
use lib.Dec.{ltb, eqb}
use lib.ListN.{length}
use borrow.Author.Tests.{ltb-false, lt-leb, le-ltb, eq-eqb, eqb-true}
use Rattle.std.specs.Prelude.{None as Shut, Result, Ok, Err}
use Rattle.octets.specs.Bytes.{byte_at}
use Rattle.octets.specs.Rows.{first_code}
use Rattle.octets.proofs.Bools.{by-test, choice, clash}
use Rattle.memory.specs.declared.Format.{Format}
use Rattle.memory.specs.Memory.{fills, entry_of, tables_wrong}
use Rattle.memory.proofs.Laws.{Fair, fair-of, sizes, entry-short}
use Rattle.sequence.specs.declared.BadList.TheVariants.{WindowCount, Length, Checksum}
use Rattle.sequence.specs.declared.Fault.{Fault}
use Rattle.sequence.specs.Starts.{among}
use Rattle.sequence.specs.Text.{header_of, header_rows}
use Rattle.sequence.specs.Env.{Env, env_of, cards_of}
use Rattle.survey.specs.declared.Closing.TheVariants.{Terminates, CallsOn}
use Rattle.survey.specs.declared.Ending.TheVariants.{Returns}
use Rattle.survey.specs.declared.Reason.{Reason}
use Rattle.survey.specs.declared.Reason.TheVariants.{None, OfList, Mark}
use Rattle.survey.specs.Walk.{Finding, passes, faults, walk, rounds, checked_by, check_one, finding_of}
use Rattle.survey.specs.Chain.{Told, told, onward, follow, chain_of, check_rows, check_of}
use Rattle.survey.specs.Tested.{tested_in, bits_of}
use Rattle.survey.specs.Report.{walked_of, reason_shown, reason_found}
use Rattle.survey.proofs.Names.{Low, low-one, Chained, chain-chained}
use Rattle.survey.proofs.Totals.{Octets, part-octets, Small, small-more, walk-small}
use Rattle.survey.proofs.Frame.{chain_same}
use Rattle.summary.specs.Card.{passing, bytes_of, card_of}
use Rattle.summary.specs.Summary.{seq_card, line_card, summary_wrong, card_in, summary_of}
use Rattle.summary.specs.Chain.{card_wrong, reason_read, said_by, sayings, unless_wrong, cards_rows, check_cards}
use Rattle.summary.proofs.Numbers.{steps_back, exposures-back}
use Rattle.summary.proofs.Parts.{laid-long}
use Rattle.summary.proofs.Writing.{seq-long, line-long}
use Rattle.summary.proofs.Chains.{none-wrong}
use Rattle.summary.proofs.Kept.{fresh-card}

-- ── a finding without what a card does not hold
abbrev seen : Finding → Finding
seen (passes k x is p c) = passes k x [] 0 c
seen (faults f reason) = faults f reason

onward-seen : (go : ℕ → Told) (n : ℕ) (found : Finding) → onward go n (seen found) ≡ onward go n found
unfolding onward
onward-seen go n (passes k x is p Terminates) = refl
onward-seen go n (passes k x is p (CallsOn m)) = refl
onward-seen go n (faults f reason) = refl

-- the chain looks at nothing else
onward-go : (go go' : ℕ → Told) (n : ℕ) (found : Finding) → ((m : ℕ) → go' m ≡ go m) → onward go' n found ≡ onward go n found
unfolding onward
onward-go go go' n (passes k x is p Terminates) h = refl
onward-go go go' n (passes k x is p (CallsOn m)) h = rw (h m)
onward-go go go' n (faults f reason) h = refl

follow-seen : (found : ℕ → Finding) (f : ℕ) (names : List ℕ) (n : ℕ) → follow (λ m. seen (found m)) f names n ≡ follow found f names n
unfolding follow
follow-seen found zero names n = refl
follow-seen found (suc f) names n =
    ap (cond (among n names) (told [] Returns 0 0))
    (onward-go (λ m. follow found f (n ∷ names) m) (λ m. follow (λ k. seen (found k)) f (n ∷ names) m) n (seen (found n)) (follow-seen found f (n ∷ names)) ∙ onward-seen (λ m. follow found f (n ∷ names) m) n (found n))

-- ── no sequence's totals come to 2^54
below-rounds : (F : Format) (q : ℕ) → q ≤ 255 → (found : Finding) → Small (2 ^ 46) found → Small (2 ^ 54 - 1) (rounds F q found)
below-rounds F q l (passes k x is p Terminates) s =
    let a : q * k ≤ 255 * 2 ^ 46 = mul-le-mul l s.0 in
    let b : q * x ≤ 255 * 2 ^ 46 = mul-le-mul l s.1 in
    (omega arith, omega arith)
below-rounds F q l (passes k x is p (CallsOn m)) s =
    let a : q * k ≤ 255 * 2 ^ 46 = mul-le-mul l s.0 in
    let b : q * x ≤ 255 * 2 ^ 46 = mul-le-mul l s.1 in
    choice (Small (2 ^ 54 - 1)) (ltb F.last m) _ _ (λ _. tt) (λ _. (omega arith, omega arith))
below-rounds F q l (faults g reason) s = tt

module _ (E : Env) (text : List ℕ) (oct : Octets text) (short : length text ≤ 256) where
  below_by : (h : Result ℕ Fault) → header_of text ≡ h → Small (2 ^ 54 - 1) (checked_by E text h)
  unfolding header_of
  below_by (Ok q) e =
      let w = walk E.cards text (length text) 4 Shut in
      let l : length text * 2 ^ 37 ≤ 2 ^ 46 = omega arith in
      below-rounds E.format q (few q e) w (small-more l w (walk-small E.cards text oct (omega arith) (length text) 4 Shut))
    where
      few : (q : ℕ) → header_of text ≡ Ok q → q ≤ 255
      few q h = by-test (eqb (first_code (header_rows text)) 0) (λ t. let z : byte_at text 3 ≡ q = cc in omega (arith, oct 3)) (λ t. absurd (clash (cc)))
  below_by (Err f) e = tt

  pub one_below : Small (2 ^ 54 - 1) (check_one E text)
  unfolding check_one
  one_below = below_by (header_of text) refl

-- ── what a card says is what was found
reason-back : (reason : Reason) → reason_read (reason_shown reason).number (reason_shown reason).value ≡ reason
reason-back None = refl
reason-back (OfList WindowCount) = refl
reason-back (OfList Length) = refl
reason-back (OfList (Checksum e)) = refl
reason-back Mark = refl

module _ (F : Format) (u : ℕ) where
  abbrev bytes : Finding → List ℕ
  bytes found = bytes_of (record { found = walked_of found; reason = reason_found found; tested = u })

  abbrev Says : Finding → Type 0
  Says found = (said_by (bytes found) ≡ seen found) × (card_wrong F (bytes found) ≡ false)

  says : (found : Finding) → Small (2 ^ 54 - 1) found → Low F.last found → Says found
  unfolding said_by card_wrong
  says (passes k x is p Terminates) s l =
      let a = steps_back (passing 1 0) k x u (omega arith) in
      let b = exposures-back (passing 1 0) k x u (omega arith) in
      (rw (a, b), rw (a, b, lt-leb (2 ^ 54) k (omega arith), lt-leb (2 ^ 54) x (omega arith)))
  says (passes k x is p (CallsOn m)) s l =
      let a = steps_back (passing 2 m) k x u (omega arith) in
      let b = exposures-back (passing 2 m) k x u (omega arith) in
      (rw (a, b), rw (a, b, le-ltb F.last m l, lt-leb (2 ^ 54) k (omega arith), lt-leb (2 ^ 54) x (omega arith)))
  says (faults f reason) s l = (rw (reason-back reason), refl)

-- ── told
module _ (F : Format) (seqs lists : List ℕ) (right : tables_wrong F seqs lists ≡ false) (oct : Octets seqs) where
  abbrev S : List ℕ
  S = summary_of F seqs lists

  fill : fills F ≡ true
  fill = (sizes F seqs lists right).0

  fair : Fair F
  fair = fair-of F fill

  summary-right : summary_wrong F S ≡ false
  unfolding summary_wrong summary_of
  summary-right =
      rw (fill, eq-eqb _ _ (laid-long F (seq_card F seqs (cards_of lists)) (line_card lists) (seq-long F seqs (cards_of lists)) (line-long lists)))

  abbrev found : ℕ → Finding
  found = finding_of (env_of F lists) seqs

  card-says : (n : ℕ) → n ≤ F.last → (sayings S n ≡ seen (found n)) × (card_wrong F (card_in S n) ≡ false)
  unfolding seq_card card_of
  card-says n l =
      let text = entry_of F seqs n in
      let short = entry-short F seqs n in
      let s = one_below (env_of F lists) text (part-octets seqs (n * F.size) F.size oct) (omega (arith, fair.size)) in
      let w = says F (bits_of 48 (tested_in (cards_of lists) text)) (found n) s (low-one (env_of F lists) text) in
      (ap said_by (fresh-card F seqs lists n l) ∙ w.0, ap (card_wrong F) (fresh-card F seqs lists n l) ∙ w.1)

  -- every sequence of a chain is one of the table's
  low-names : (f : ℕ) (before names : List ℕ) → Chained F.last f before names → (m : ℕ) → among m names ≡ true → m ≤ F.last
  unfolding among
  low-names f before [] c m a = absurd (false≢true a)
  low-names zero before (n ∷ names) c m a = absurd c
  low-names (suc f) before (n ∷ names) c m a = by-test (eqb n m) (λ e. let z = eqb-true n m e in omega (arith, c.0)) (λ e. low-names f (n ∷ before) names c.2 m (rw e at a))

  module _ (n : ℕ) (l : n ≤ F.last) where
    low : (m : ℕ) → among m (chain_of F found n).names ≡ true → m ≤ F.last
    low m a = low-names (suc F.last) [] _ (chain-chained F found (λ k. low-one (env_of F lists) _) n l) m a

    seen-chain : chain_of F (λ m. seen (found m)) n ≡ chain_of F found n
    unfolding chain_of
    seen-chain = follow-seen found (suc F.last) [] n

    same-chain : chain_of F (sayings S) n ≡ chain_of F found n
    same-chain = chain_same (λ m. seen (found m)) (sayings S) F n (λ m a. (card-says m (low m (rw seen-chain at a))).0) ∙ seen-chain

    chain-told : unless_wrong F S (chain_of F (sayings S) n) ≡ chain_of F found n
    chain-told = rw (same-chain, none-wrong F S (chain_of F found n).names (λ m a. (card-says m (low m a)).1))

  -- from a fresh summary: reason and all
  pub told_same : (n : ℕ) → check_cards F S n ≡ check_of F seqs lists n
  unfolding check_cards cards_rows check_of check_rows
  told_same n =
      by-test (ltb F.last n) (λ t. rw (summary-right, right, t))
      (λ t. rw (summary-right, right, t) (chain-told n (ltb-false F.last n t)))
