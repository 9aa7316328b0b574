-- What the sights of a sequence show through any view of events that is blind to delays, jumps and closing commands.
-- Assumes nothing.
use Prim.Native.Nat.{ℕ, zero, suc, ◌+◌}
use native.Mathlib.Omega.{arith}
use mathlib.Core.Path.{◌≡◌, refl, sym, ap, ap₂, ◌∙◌}
use mathlib.Core.Bool.{Bool}
use mathlib.Core.List.{List, [], ◌∷◌, ◌++◌, append_assoc, append-nil}
use lib.Dec.{ltb}
use lib.ListN.{replicate}
use Rattle.octets.specs.Bytes.{word_at}
use Rattle.memory.specs.Memory.{place_at}
use Rattle.sequence.specs.declared.RasterWords.{RasterWords}
use Rattle.sequence.specs.Text.{size_at}
use Rattle.sequence.specs.Raster.{raster_at, start_of}
use Rattle.sequence.specs.Env.{Env}
use Rattle.runner.specs.declared.Sight.{Sight}
use Rattle.runner.specs.declared.Event.{Event}
use Rattle.runner.specs.declared.Event.TheVariants.{Enter, Raster, Exp, Loop, Next, Done, Wait, Call, End}
use Rattle.runner.specs.Judge.{set_of}
use Rattle.survey.specs.declared.Item.{Item}
use Rattle.survey.specs.declared.Item.TheVariants.{Pause, Scan}
use Rattle.survey.specs.declared.Closing.{Closing}
use Rattle.survey.specs.declared.Closing.TheVariants.{Terminates, CallsOn}
use Rattle.survey.specs.Turns.{turns}
use Rattle.survey.specs.Items.{positions}
use Rattle.promises.proofs.Text.Sound.{set_is}
use Rattle.promises.proofs.Text.Rules.{opens-sound, waits-byte, exposes-byte}
use Rattle.promises.proofs.Run.Sights.{line_sights, back_sight, pass_start, pass_sights, repeat_sights, item_sights, item_end, end_of, body_sights, close_sight, round_start, round_sights, sequence_sights}
use Rattle.promises.proofs.Text.Lines.{Line, stop, delay, expose, Whole, closed, Body, closes, pauses, scans}

pub turns_same : {A : Type 0} (f g : ℕ → ℕ → List A) → ((k n : ℕ) → f k n ≡ g k n) → (k n : ℕ) → turns k n f ≡ turns k n g
turns_same f g e k zero = refl
turns_same f g e k (suc n) = ap₂ (◌++◌) (e k n) (turns_same f g e (suc k) n)

-- a view that shows nothing of these events
pub record Blind {A : Type 0} (f : Event → List A) : Type 0 where
  pub wait : (t : ℕ) → f (Wait t) ≡ []
  pub loop : (p : ℕ) → f (Loop p) ≡ []
  pub next : f Next ≡ []
  pub done : f Done ≡ []
  pub call : (n : ℕ) → f (Call n) ≡ []
  pub end : f End ≡ []

module _ {A : Type 0} (f : Event → List A) where
  abbrev pub shown : List Sight → List A
  shown [] = []
  shown (w ∷ ws) = f w.event ++ shown ws

  -- exposures at these positions
  abbrev pub shots : List ℕ → List A
  shots [] = []
  shots (x ∷ xs) = f (Exp x) ++ shots xs

  -- repeat k of a raster, and a round's items
  abbrev pub repeat_shown : RasterWords → ℕ → List A
  repeat_shown raster k = f (Raster raster.id (start_of raster k) raster.list) ++ shots (positions raster k)

  abbrev pub items_shown : List ℕ → List Item → List A
  items_shown text [] = []
  items_shown text (Pause p ∷ items) = items_shown text items
  items_shown text (Scan p t b before from ∷ items) = turns 0 (raster_at text p).repeats (λ k r. repeat_shown (raster_at text p) k) ++ items_shown text items

  -- ── joined
  shown-append : (ws vs : List Sight) → shown (ws ++ vs) ≡ shown ws ++ shown vs
  shown-append [] vs = refl
  shown-append (w ∷ ws) vs = ap (λ (x : List A). f w.event ++ x) (shown-append ws vs) ∙ sym (append_assoc (f w.event) (shown ws) (shown vs))

  pub shown-both : (ws vs : List Sight) {xs ys : List A} → shown ws ≡ xs → shown vs ≡ ys → shown (ws ++ vs) ≡ xs ++ ys
  shown-both ws vs a b = shown-append ws vs ∙ ap₂ (λ (x y : List A). x ++ y) a b

  shown-turns : (g : ℕ → ℕ → List Sight) (h : ℕ → ℕ → List A) → ((k n : ℕ) → shown (g k n) ≡ h k n) → (k n : ℕ) → shown (turns k n g) ≡ turns k n h
  shown-turns g h e k zero = refl
  shown-turns g h e k (suc n) = shown-both (g k n) (turns (suc k) n g) (e k n) (shown-turns g h e (suc k) n)

  shots-append : (xs ys : List ℕ) → shots (xs ++ ys) ≡ shots xs ++ shots ys
  shots-append [] ys = refl
  shots-append (x ∷ xs) ys = ap (λ (z : List A). f (Exp x) ++ z) (shots-append xs ys) ∙ sym (append_assoc (f (Exp x)) (shots xs) (shots ys))

  shots-turns : (g : ℕ → ℕ → List ℕ) (k n : ℕ) → turns k n (λ j l. shots (g j l)) ≡ shots (turns k n g)
  shots-turns g k zero = refl
  shots-turns g k (suc n) = ap (λ (z : List A). shots (g k n) ++ z) (shots-turns g (suc k) n) ∙ sym (shots-append (g k n) (turns (suc k) n g))

  module _ (blind : Blind f) where
    -- ── a line that takes the set from c to c' shows c' - c exposures, all where its pass began
    module _ {E : Env} {text : List ℕ} {r : ℕ} (n : ℕ) (raster : RasterWords) (again : Bool) (m : ℕ) where
      line-shown : {p c len p' c' : ℕ} → Line E text r p c len p' c' → (k : ℕ) × (c + k ≡ c') × (shown (line_sights text n raster again m len p c) ≡ shots (replicate k m))
      line-shown stop = (0, omega arith, refl)
      line-shown (delay {p} {c} j l) =
          let (k, e, s) = line-shown l in
          (k, e, rw (waits-byte E text p _ (j 0), blind.wait (word_at text (p + 1))) s)
      line-shown (expose {p} {c} j h l) =
          let (k, e, s) = line-shown l in
          (suc k, omega arith, rw (exposes-byte E text p _ (place_at r) (j 0)) (ap (λ (x : List A). f (Exp m) ++ x) s))

      line-from : {p len p' c' : ℕ} → Line E text r p 0 len p' c' → shown (line_sights text n raster again m len p 0) ≡ shots (replicate c' m)
      line-from {c'} l =
          let (k, e, s) = line-shown l in
          let w : k ≡ c' = omega arith in
          s ∙ ap (λ (x : ℕ). shots (replicate x m)) w

    no-back : (text : List ℕ) (n : ℕ) (raster : RasterWords) (p t b r l m : ℕ) → shown (back_sight text n raster p t b r l m ∷ []) ≡ []
    no-back text n raster p t b zero zero m = rw blind.done
    no-back text n raster p t b (suc r) zero m = rw blind.next
    no-back text n raster p t b r (suc l) m = rw (blind.loop t)

    no-close : (n p : ℕ) (closing : Closing) (l m : ℕ) → shown (close_sight n p closing l m ∷ []) ≡ []
    no-close n p Terminates zero m = rw blind.end
    no-close n p (CallsOn k) zero m = rw (blind.call k)
    no-close n p Terminates (suc l) m = rw blind.next
    no-close n p (CallsOn k) (suc l) m = rw blind.next

    -- ── a sequence
    module _ (E : Env) (text : List ℕ) (n : ℕ) where
      raster-shown : {p t b before from : ℕ} → Whole E text p t b before from → (m : ℕ)
          → shown (item_sights text n (Scan p t b before from) m) ≡ turns 0 (raster_at text p).repeats (λ k r. repeat_shown (raster_at text p) k)
      raster-shown {p} {t} {b} {before} {from} R m = shown-turns (repeat_sights text n raster p t b before from) (λ k r. repeat_shown raster k) one 0 raster.repeats
        where
          raster : RasterWords
          raster = raster_at text p

          pass : (k r j l : ℕ) → shown (pass_sights text n raster p t b from k r j l) ≡ shots (replicate raster.exposures (pass_start raster k j))
          pass k r j l =
              let m : ℕ = pass_start raster k j in
              shown-both (line_sights text n raster (ltb 1 (suc l)) m from t 0) (back_sight text n raster p t b r l m ∷ []) (line-from n raster (ltb 1 (suc l)) m R.again) (no-back text n raster p t b r l m)
              ∙ append-nil (shots (replicate (set_of raster) m))
              ∙ ap (λ (x : ℕ). shots (replicate x m)) (set_is (opens-sound E text p R.run))

          one : (k r : ℕ) → shown (repeat_sights text n raster p t b before from k r) ≡ repeat_shown raster k
          one k r =
              ap (λ (x : List A). f (Raster raster.id (start_of raster k) raster.list) ++ x)
              (shown-both (line_sights text n raster (ltb 1 raster.loops) (start_of raster k) before (p + size_at text p) 0) (turns 0 raster.loops (pass_sights text n raster p t b from k r))
              (line-from n raster (ltb 1 raster.loops) (start_of raster k) R.first)
              (shown-turns (pass_sights text n raster p t b from k r) (λ j l. shots (replicate raster.exposures (pass_start raster k j))) (pass k r) 0 raster.loops)
              ∙ shots-turns (λ j l. replicate raster.exposures (pass_start raster k j)) 0 raster.loops)

      body-shown : {p e : ℕ} {items : List Item} {closing : Closing} → Body E text p items (closed e closing) → (m : ℕ) → shown (body_sights text n items m) ≡ items_shown text items
      body-shown (closes closing j) m = refl
      body-shown (pauses {p} j b) m = rw (blind.wait (word_at text (p + 1))) (body-shown b m)
      body-shown (scans {p} {t} {b = e} {before} {from} {items} R b) m =
          let item = Scan p t e before from in
          shown-both (item_sights text n item m) (body_sights text n items (item_end text item m)) (raster-shown R m) (body-shown b (item_end text item m))

      pub sequence-shown : {e : ℕ} {items : List Item} {closing : Closing} → Body E text 4 items (closed e closing) → (q m : ℕ)
          → shown (sequence_sights text n q items e closing m) ≡ f (Enter n) ++ turns 0 q (λ r l. items_shown text items)
      sequence-shown {e} {items} {closing} b q m =
          ap (λ (x : List A). f (Enter n) ++ x) (shown-turns (round_sights text n items e closing m) (λ r l. items_shown text items) round 0 q)
        where
          round : (r l : ℕ) → shown (round_sights text n items e closing m r l) ≡ items_shown text items
          round r l =
              shown-both (body_sights text n items (round_start text items m r)) (close_sight n e closing l (end_of text items m) ∷ []) (body-shown b (round_start text items m r)) (no-close n e closing l (end_of text items m))
              ∙ append-nil (items_shown text items)
