-- A chain that the check passes shows the plan of demand 3, and a raster's plan has loops times exposures times repeats exposures.
-- Assumes nothing.
use Prim.Native.Nat.{ℕ, zero, suc, ◌+◌, ◌*◌, ◌≤◌, ◌<◌}
use native.Mathlib.Nat.{mul_comm}
use native.Mathlib.Omega.{arith}
use mathlib.Core.Path.{◌≡◌, refl, sym, ap, ap₂, subst, ◌∙◌}
use mathlib.Core.Bool.{true, or-true}
use mathlib.Core.List.{List, [], ◌∷◌, ◌++◌, append_assoc}
use lib.Dec.{eqb}
use lib.ListN.{length, get_or, replicate, length-replicate}
use lib.Seq.{ext_get_or}
use Rattle.octets.specs.Bytes.{byte_at}
use Rattle.sequence.specs.declared.RasterWords.{RasterWords}
use Rattle.sequence.specs.Starts.{starts_of, rasters_among, among}
use Rattle.sequence.specs.Raster.{raster_at, start_of}
use Rattle.sequence.specs.Env.{Env, text_of}
use Rattle.runner.specs.declared.Event.{Event}
use Rattle.runner.specs.declared.Event.TheVariants.{Enter, Raster, Exp}
use Rattle.survey.specs.declared.Item.{Item}
use Rattle.survey.specs.declared.Item.TheVariants.{Pause, Scan}
use Rattle.survey.specs.Turns.{turns}
use Rattle.survey.specs.Items.{position_at, positions}
use Rattle.survey.specs.Walk.{Finding, passes, faults, check_one}
use Rattle.promises.specs.Runs.{position_shown}
use Rattle.promises.specs.Kept.{IsPassed}
use Rattle.promises.specs.Demand3.{repeat_plan, rasters_plan, round_plan, sequence_plan, chain_plan, EachPositioned, ChainPositioned, from_each, landmark, exposed_positions, RasterTakes}
use Rattle.promises.proofs.Run.Turns.{length-turns}
use Rattle.promises.proofs.Run.Sights.{pass_start}
use Rattle.promises.proofs.Run.Counts.{position, body-positioned}
use Rattle.survey.proofs.Listing.{among_first}
use Rattle.promises.proofs.Chain.Chains.{chain_in}
use Rattle.promises.proofs.Chain.Never.{Fine, listed-fine}
use Rattle.promises.proofs.Run.Shown.{turns_same, Blind, shots, repeat_shown, items_shown}
use Rattle.promises.proofs.Chain.ChainShown.{finding_shown, chain_shown}
use Rattle.promises.proofs.Text.Walks.{passed-read}
use Rattle.promises.proofs.Text.TextOrder.{scans_of, rasters-of}

pub blind-landmark : Blind landmark
blind-landmark = record { wait = λ t. refl; loop = λ p. refl; next = refl; done = refl; call = λ n. refl; end = refl }

-- ── turns
nth-count : (g : ℕ → ℕ) (k n i : ℕ) → i < n → get_or (turns k n (λ j l. g j ∷ [])) i 0 ≡ g (k + i)
nth-count g k zero i h = absurd (omega arith)
nth-count g k (suc n) zero h = let e : k ≡ k + 0 = omega arith in ap g e
nth-count g k (suc n) (suc i) h = let e : suc k + i ≡ k + suc i = omega arith in nth-count g (suc k) n i (omega arith) ∙ ap g e

-- ── one raster repeat, by the formula
module _ (raster : RasterWords) (turn : ℕ) where
  abbrev many : ℕ
  many = raster.loops * raster.exposures

  by-formula : positions raster turn ≡ turns 0 many (λ k l. position_at raster turn k ∷ [])
  by-formula =
      ext_get_or 0 (positions raster turn) (turns 0 many (λ k l. position_at raster turn k ∷ []))
      (let a = here in let b = length-turns 1 (λ k l. position_at raster turn k ∷ []) (λ k l. refl) 0 many in omega arith)
      (λ i h.
      let l : i < many = (let a = here in omega arith) in
      let e : 0 + i ≡ i = omega arith in
      position raster turn i l ∙ sym (nth-count (position_at raster turn) 0 many i l ∙ ap (position_at raster turn) e))
    where
      here : length (positions raster turn) ≡ many
      here =
          length-turns raster.exposures (λ j l. replicate raster.exposures (pass_start raster turn j)) (λ j l. length-replicate raster.exposures (pass_start raster turn j)) 0 raster.loops

  shots-count : (g : ℕ → ℕ) (k n : ℕ) → shots landmark (turns k n (λ j l. g j ∷ [])) ≡ turns k n (λ j l. Exp (g j) ∷ [])
  shots-count g k zero = refl
  shots-count g k (suc n) = ap (λ (es : List Event). Exp (g k) ∷ es) (shots-count g (suc k) n)

  repeat-planned : repeat_shown landmark raster turn ≡ repeat_plan raster turn
  repeat-planned =
      ap (λ (es : List Event). Raster raster.id (start_of raster turn) raster.list ∷ es)
      (ap (shots landmark) by-formula ∙ shots-count (position_at raster turn) 0 many)

-- ── a sequence and a chain
items-planned : (text : List ℕ) (items : List Item) → items_shown landmark text items ≡ rasters_plan text (scans_of items)
items-planned text [] = refl
items-planned text (Pause p ∷ items) = items-planned text items
items-planned text (Scan p t b before from ∷ items) =
    let raster = raster_at text p in
    ap₂ (◌++◌) (turns_same (λ k r. repeat_shown landmark raster k) (λ k r. repeat_plan raster k) (λ k r. repeat-planned raster k) 0 raster.repeats) (items-planned text items)

-- the check passes each of these sequences
abbrev Passes : Finding → Type 0
Passes (passes k x items e closing) = Unit {0}
Passes (faults f reason) = ⊥

abbrev AllPass : Env → List ℕ → List ℕ → Type 0
AllPass E seqs [] = Unit {0}
AllPass E seqs (n ∷ ns) = Passes (check_one E (text_of E seqs n)) × AllPass E seqs ns

module _ (E : Env) (seqs : List ℕ) where
  finding-planned : (n : ℕ) (v : Finding) → check_one E (text_of E seqs n) ≡ v → Passes v → finding_shown landmark n (text_of E seqs n) v ≡ sequence_plan n (text_of E seqs n)
  finding-planned n (passes k x items e closing) says y =
      let text = text_of E seqs n in
      let round : items_shown landmark text items ≡ round_plan text =
      items-planned text items ∙ ap (rasters_plan text) (sym (rasters-of (passed-read E text says).0)) in
      ap (λ (es : List Event). Enter n ∷ es) (turns_same (λ r l. items_shown landmark text items) (λ r l. round_plan text) (λ r l. round) 0 (byte_at text 3))
  finding-planned n (faults f reason) says y = absurd y

  chain-planned : (names : List ℕ) → AllPass E seqs names → chain_shown landmark E seqs names ≡ chain_plan E.format seqs names
  chain-planned [] y = refl
  chain-planned (n ∷ ns) (y, ys) = ap₂ (◌++◌) (finding-planned n (check_one E (text_of E seqs n)) refl y) (chain-planned ns ys)

  finding-positioned : (n : ℕ) (v : Finding) → check_one E (text_of E seqs n) ≡ v → Passes v
      → let text = text_of E seqs n in EachPositioned text (rasters_among text (starts_of text))
  finding-positioned n (passes k x items e closing) says y =
      let text = text_of E seqs n in
      let b = (passed-read E text says).0 in
      subst (EachPositioned text) (sym (rasters-of b)) (body-positioned b)
  finding-positioned n (faults f reason) says y = absurd y

  chain-positioned : (names : List ℕ) → AllPass E seqs names → ChainPositioned E.format seqs names
  chain-positioned [] y = tt
  chain-positioned (n ∷ ns) (y, ys) = (finding-positioned n (check_one E (text_of E seqs n)) refl y, chain-positioned ns ys)

  fine-pass : (P : ℕ → Type 0) (names : List ℕ) → ((u : ℕ) → among u names ≡ true → Fine E seqs P u) → AllPass E seqs names
  unfolding among
  fine-pass P [] fine = tt
  fine-pass P (n ∷ ns) fine = (rw (fine n (among_first n ns)).says tt, fine-pass P ns (λ u a. fine u (rw a (or-true (eqb n u)))))

  module _ (n : ℕ) (h : n ≤ E.format.last) (y : IsPassed (chain_in E seqs n).ending) where
    abbrev names : List ℕ
    names = (chain_in E seqs n).names

    all_pass : AllPass E seqs names
    all_pass = fine-pass (λ v. among v names ≡ true) names (listed-fine E seqs n h y).0

    pub passed-planned : chain_shown landmark E seqs names ≡ chain_plan E.format seqs names
    passed-planned = chain-planned names all_pass

    pub passed-positioned : ChainPositioned E.format seqs names
    passed-positioned = chain-positioned names all_pass

-- ── how many exposures a raster takes
pub each_append : {A : Type 0} (f : Event → List A) (xs ys : List Event) → from_each f (xs ++ ys) ≡ from_each f xs ++ from_each f ys
each_append f [] ys = refl
each_append f (x ∷ xs) ys = ap (λ zs. f x ++ zs) (each_append f xs ys) ∙ sym (append_assoc (f x) (from_each f xs) (from_each f ys))

pub each-turns : {A : Type 0} (f : Event → List A) (g : ℕ → ℕ → List Event) (k n : ℕ) → from_each f (turns k n g) ≡ turns k n (λ j l. from_each f (g j l))
each-turns f g k zero = refl
each-turns f g k (suc n) = each_append f (g k n) (turns (suc k) n g) ∙ ap (λ zs. from_each f (g k n) ++ zs) (each-turns f g (suc k) n)

repeat-takes : (raster : RasterWords) (turn : ℕ) → length (exposed_positions (repeat_plan raster turn)) ≡ raster.loops * raster.exposures
repeat-takes raster turn =
    let shot : ℕ → ℕ → List Event = λ k l. Exp (position_at raster turn k) ∷ [] in
    let many = raster.loops * raster.exposures in
    let e : many * 1 ≡ many = omega arith in
    ap length (each-turns position_shown shot 0 many) ∙ length-turns 1 (λ k l. exposed_positions (shot k l)) (λ k l. refl) 0 many ∙ e

pub raster-takes : RasterTakes
raster-takes raster =
    ap length (each-turns position_shown (λ turn l. repeat_plan raster turn) 0 raster.repeats)
    ∙ length-turns (raster.loops * raster.exposures) (λ turn l. exposed_positions (repeat_plan raster turn)) (λ turn l. repeat-takes raster turn) 0 raster.repeats
    ∙ mul_comm raster.repeats (raster.loops * raster.exposures)
