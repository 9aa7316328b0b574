-- The check passes every sequence that a chain it passes lists: so a chain that returns goes round for good.
-- Assumes nothing.
use Prim.Native.Nat.{ℕ, zero, suc, ◌≤◌}
use mathlib.Core.Path.{◌≡◌}
use mathlib.Core.Bool.{Bool, true, false, cond}
use mathlib.Core.List.{List, [], ◌∷◌}
use Rattle.sequence.specs.Starts.{among}
use Rattle.sequence.specs.Env.{Env, text_of}
use Rattle.survey.specs.declared.Item.{Item}
use Rattle.survey.specs.declared.Closing.{Closing}
use Rattle.survey.specs.declared.Closing.TheVariants.{Terminates, CallsOn}
use Rattle.survey.specs.declared.Ending.TheVariants.{Returns}
use Rattle.survey.specs.Walk.{passes, check_one, finding_of}
use Rattle.survey.specs.Chain.{Told, told, onward, follow, chain_of}
use Rattle.promises.specs.Kept.{IsPassed}
use Rattle.promises.proofs.Chain.Chains.{chain_in}
use Rattle.promises.proofs.Chain.Never.{Leads, Fine, listed-fine}

module _ (E : Env) (seqs : List ℕ) where
  onward-passes : (P : ℕ → Type 0) (n : ℕ) (go : ℕ → Told) → ((u : ℕ) → P u → IsPassed (go u).ending) → (k x e : ℕ) (items : List Item) (closing : Closing) → Leads P closing
      → IsPassed (onward go n (passes k x items e closing)).ending
  unfolding onward
  onward-passes P n go ih k x e items Terminates w = tt
  onward-passes P n go ih k x e items (CallsOn u) w = ih u w

  -- sequences that the check passes one by one, and whose calls stay among them, make chains that pass
  fine-passes : (P : ℕ → Type 0) → ((n : ℕ) → P n → Fine E seqs P n) → (f : ℕ) (before : List ℕ) (n : ℕ) → P n → IsPassed (follow (finding_of E seqs) f before n).ending
  unfolding follow
  fine-passes P fine zero before n p = tt
  fine-passes P fine (suc f) before n p = go (among n before) (λ u q. fine-passes P fine f (n ∷ before) u q)
    where
      after : ℕ → Told
      after u = follow (finding_of E seqs) f (n ∷ before) u

      go : (b : Bool) → ((u : ℕ) → P u → IsPassed (after u).ending) → IsPassed (cond b (told [] Returns 0 0) (onward after n (check_one E (text_of E seqs n)))).ending
      go true ih = tt
      go false ih = let g = fine n p in rw g.says (onward-passes P n after ih g.k g.x g.e g.items g.closing g.leads)

  pub listed-passes : (n : ℕ) → n ≤ E.format.last → IsPassed (chain_in E seqs n).ending → (u : ℕ) → among u (chain_in E seqs n).names ≡ true → IsPassed (chain_in E seqs u).ending
  unfolding chain_of
  listed-passes n h y u a = fine-passes (λ v. among v (chain_in E seqs n).names ≡ true) (listed-fine E seqs n h y).0 (suc E.format.last) [] u a
