-- What the sights of a chain show through such a view.
-- Assumes nothing.
use Prim.Native.Nat.{ℕ}
use mathlib.Core.Path.{◌≡◌, refl}
use mathlib.Core.List.{List, [], ◌∷◌, ◌++◌}
use Rattle.octets.specs.Bytes.{byte_at}
use Rattle.sequence.specs.Env.{Env, text_of}
use Rattle.runner.specs.declared.Event.{Event}
use Rattle.runner.specs.declared.Event.TheVariants.{Enter}
use Rattle.survey.specs.Turns.{turns}
use Rattle.survey.specs.Walk.{Finding, passes, faults, check_one}
use Rattle.promises.proofs.Text.Walks.{passed-read}
use Rattle.promises.proofs.Run.Shown.{Blind, shown, items_shown, shown-both, sequence-shown}
use Rattle.promises.proofs.Chain.Chains.{finding_sights, finding_end, chain_sights}

module _ {A : Type 0} (f : Event → List A) where
  abbrev pub finding_shown : ℕ → List ℕ → Finding → List A
  finding_shown n text (passes k x items e closing) = f (Enter n) ++ turns 0 (byte_at text 3) (λ r l. items_shown f text items)
  finding_shown n text (faults f reason) = []

  abbrev pub chain_shown : Env → List ℕ → List ℕ → List A
  chain_shown E seqs [] = []
  chain_shown E seqs (n ∷ ns) = finding_shown n (text_of E seqs n) (check_one E (text_of E seqs n)) ++ chain_shown E seqs ns

  module _ (blind : Blind f) (E : Env) (seqs : List ℕ) where
    finding-shown : (n m : ℕ) (v : Finding) → check_one E (text_of E seqs n) ≡ v → shown f (finding_sights (text_of E seqs n) n v m) ≡ finding_shown n (text_of E seqs n) v
    finding-shown n m (passes k x items e closing) says = sequence-shown f blind E (text_of E seqs n) n (passed-read E (text_of E seqs n) says).0 (byte_at (text_of E seqs n) 3) m
    finding-shown n m (faults w reason) says = refl

    pub chain-shown : (names : List ℕ) (m : ℕ) → shown f (chain_sights E seqs names m) ≡ chain_shown E seqs names
    unfolding chain_sights
    chain-shown [] m = refl
    chain-shown (n ∷ ns) m =
        let text = text_of E seqs n in
        let v = check_one E text in
        shown-both f (finding_sights text n v m) (chain_sights E seqs ns (finding_end text v m)) (finding-shown n m v refl) (chain-shown ns (finding_end text v m))
