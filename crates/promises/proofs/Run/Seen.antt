-- The positions that the sights of a sequence show are those of its items.
-- Assumes nothing.
use Prim.Native.Nat.{ℕ}
use mathlib.Core.Path.{◌≡◌, refl, ap, ap₂, sym, ◌∙◌}
use mathlib.Core.List.{List, [], ◌∷◌, ◌++◌}
use Rattle.sequence.specs.Raster.{raster_at}
use Rattle.sequence.specs.Env.{Env}
use Rattle.runner.specs.declared.Sight.{Sight}
use Rattle.survey.specs.declared.Item.{Item}
use Rattle.survey.specs.declared.Item.TheVariants.{Pause, Scan}
use Rattle.survey.specs.declared.Closing.{Closing}
use Rattle.survey.specs.Turns.{turns}
use Rattle.survey.specs.Items.{positions, positions_of}
use Rattle.promises.specs.Runs.{position_shown, positions_seen}
use Rattle.promises.proofs.Run.Sights.{sequence_sights}
use Rattle.promises.proofs.Text.Lines.{closed, Body}
use Rattle.promises.proofs.Run.Shown.{turns_same, Blind, shown, shots, repeat_shown, items_shown, shown-both, sequence-shown}

blind-position : Blind position_shown
blind-position = record { wait = λ t. refl; loop = λ p. refl; next = refl; done = refl; call = λ n. refl; end = refl }

pub seen-shown : (ws : List Sight) → positions_seen ws ≡ shown position_shown ws
seen-shown [] = refl
seen-shown (w ∷ ws) = ap (λ (x : List ℕ). position_shown w.event ++ x) (seen-shown ws)

pub seen-both : (ws vs : List Sight) {xs ys : List ℕ} → positions_seen ws ≡ xs → positions_seen vs ≡ ys → positions_seen (ws ++ vs) ≡ xs ++ ys
seen-both ws vs a b = seen-shown (ws ++ vs) ∙ shown-both position_shown ws vs (sym (seen-shown ws) ∙ a) (sym (seen-shown vs) ∙ b)

shots-are : (xs : List ℕ) → shots position_shown xs ≡ xs
shots-are [] = refl
shots-are (x ∷ xs) = ap (λ (ys : List ℕ). x ∷ ys) (shots-are xs)

items-seen : (text : List ℕ) (items : List Item) → items_shown position_shown text items ≡ positions_of text items
items-seen text [] = refl
items-seen text (Pause p ∷ items) = items-seen text items
items-seen text (Scan p t b before from ∷ items) =
    let raster = raster_at text p in
    ap₂ (◌++◌) (turns_same (λ k r. repeat_shown position_shown raster k) (λ k r. positions raster k) (λ k r. shots-are (positions raster k)) 0 raster.repeats) (items-seen text items)

-- all rounds of a sequence
pub sequence-seen : (E : Env) (text : List ℕ) (n : ℕ) {e : ℕ} {items : List Item} {closing : Closing} → Body E text 4 items (closed e closing) → (q m : ℕ)
    → positions_seen (sequence_sights text n q items e closing m) ≡ turns 0 q (λ r l. positions_of text items)
sequence-seen E text n {e} {items} {closing} b q m =
    seen-shown (sequence_sights text n q items e closing m)
    ∙ sequence-shown position_shown blind-position E text n b q m
    ∙ turns_same (λ r l. items_shown position_shown text items) (λ r l. positions_of text items) (λ r l. items-seen text items) 0 q
