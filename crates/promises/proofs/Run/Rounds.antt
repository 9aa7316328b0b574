-- The interpreter runs along the text of a round, and round after round up to the last closing command.
-- Assumes nothing.
use Rattle.std.specs.Prelude.{None}
use Prim.Native.Nat.{ℕ, zero, suc, ◌+◌, ◌-◌, ◌≤◌, ◌<◌}
use native.Mathlib.Omega.{arith}
use mathlib.Core.Path.{◌≡◌, refl, sym, ap, ◌∙◌}
use mathlib.Core.Bool.{false}
use mathlib.Core.List.{List, [], ◌∷◌, ◌++◌, append_assoc, append-nil}
use mathlib.Core.Logic.{◌⊎◌, inl, inr, ⊎_elim}
use lib.Dec.{ltb}
use Rattle.memory.proofs.Laws.{Fair}
use Rattle.sequence.specs.Text.{fault, size_at}
use Rattle.sequence.specs.Raster.{raster_at, shift_of, start_of}
use Rattle.sequence.specs.Env.{Env, text_of}
use Rattle.runner.specs.declared.OpenRaster.{OpenRaster}
use Rattle.runner.specs.declared.Runner.{Runner}
use Rattle.runner.specs.declared.Sight.{Sight}
use Rattle.runner.specs.declared.Event.TheVariants.{Raster, Abort}
use Rattle.runner.specs.Judge.{judge}
use Rattle.runner.specs.Step.{step_of}
use Rattle.survey.specs.declared.Item.{Item}
use Rattle.survey.specs.declared.Item.TheVariants.{Pause, Scan}
use Rattle.survey.specs.declared.Closing.{Closing}
use Rattle.survey.specs.declared.Closing.TheVariants.{Terminates, CallsOn}
use Rattle.survey.specs.Turns.{turns}
use Rattle.promises.specs.Runs.{sight, Run, done, more, Aborts, AtDoor}
use Rattle.promises.proofs.Run.Steps.{turn, turn_of, on, out, door, held_at, step-refused, step_waits, step-opens, step-round, step-round-call, step-ends, step-calls, step-miscalls}
use Rattle.promises.proofs.Run.Runs.{one, ◌▸◌}
use Rattle.promises.proofs.Text.Rules.{opens-sound, opens-place}
use Rattle.promises.proofs.Run.Sights.{mirror_in, line_sights, item_end, end_of, body_sights, close_sight, round_start, round_sights}
use Rattle.promises.proofs.Text.Lines.{End, closed, faulty, closing_act, Body, closes, wrong, torn, pauses, scans}
use Rattle.promises.proofs.Text.Walks.{Known}
use Rattle.promises.proofs.Run.Rasters.{last_open, first-line, raster-run}

-- no raster is open, the runner at place p of sequence n with q rounds left and the mirror at m
pub record Clear (n p q m : ℕ) (s : Runner) : Type 0 where
  pub held : OpenRaster
  pub is : s ≡ out n p held m q

-- how the text of a round leaves the runner; tail: what is seen after its items
unfoldable pub AtEnd : Env → List ℕ → ℕ → End → ℕ → ℕ → List Sight → Runner → Type 0
AtEnd E seqs n (closed p closing) q m tail s = (tail ≡ []) × Clear n p q m s
AtEnd E seqs n (faulty f) q m tail s = (step_of E seqs s).event ≡ Abort f.code n f.place

-- how a closing command leaves the runner after the last round
unfoldable pub After : Env → Closing → ℕ → Runner → Type 0
After E Terminates m s = s.running ≡ false
After E (CallsOn k) m s = (k ≤ E.format.last) × AtDoor k m s

-- the mirror after a round does not depend on where it was, or the round does not move it
end-or : (text : List ℕ) (items : List Item) → ((a b : ℕ) → end_of text items a ≡ end_of text items b) ⊎ ((a : ℕ) → end_of text items a ≡ a)
end-or text [] = inr (λ a. refl)
end-or text (Pause p ∷ items) = end-or text items
end-or text (Scan p t b before from ∷ items) = inl (λ a b. refl)

end-start : (text : List ℕ) (items : List Item) (m r : ℕ) → end_of text items (round_start text items m r) ≡ end_of text items m
end-start text items m zero = refl
end-start text items m (suc r) = ⊎_elim (λ f. f (end_of text items m) m) (λ f. f (end_of text items m)) (end-or text items)

closing-judged : {E : Env} {text : List ℕ} {p e : ℕ} {items : List Item} {closing : Closing} → Body E text p items (closed e closing) → judge E.cards text e None ≡ closing_act closing
closing-judged (closes closing j) = j
closing-judged (pauses j b) = closing-judged b
closing-judged (scans R b) = closing-judged b

module _ (E : Env) (fair : Fair E.format) (seqs : List ℕ) (n : ℕ) where
  abbrev text : List ℕ
  text = text_of E seqs n

  pub body_run : {p : ℕ} {items : List Item} {end : End} → Body E text p items end → (d : OpenRaster) (m q : ℕ)
      → (tail : List Sight) × (s : Runner) × Run E seqs (out n p d m q) (body_sights text n items m ++ tail) s × AtEnd E seqs n end q (end_of text items m) tail s
  unfolding AtEnd
  body_run (closes {p} closing j) d m q = ([], out n p d m q, done, (refl, record { held = d; is = refl }))
  body_run (wrong {p} j) d m q = ([], out n p d m q, done, step-refused E seqs n p 255 d.count d.passes (turn_of d) m q refl j)
  body_run (torn {p} {len} {q = e} {c} j l f) d m q =
      let g = opens-sound E text p j in
      let i = opens-place E seqs n p fair j in
      let raster = raster_at text p in
      let first = turn raster.repeats 0 (shift_of raster 0) in (
        sight (Raster raster.id (start_of raster 0) raster.list) n (p + size_at text p) (start_of raster 0)
            ∷ line_sights text n raster (ltb 1 raster.loops) (start_of raster 0) len (p + size_at text p) 0,
        on n e p c raster.loops first (mirror_in raster (ltb 1 raster.loops) (start_of raster 0) c) q,
        more (step-opens E seqs n p d m q j) refl (first-line E seqs n p i g l 0 first q g.repeats),
        step-refused E seqs n e p c raster.loops first (mirror_in raster (ltb 1 raster.loops) (start_of raster 0) c) q (held_at E.format p c raster.loops first i) (f 0),
      )
  body_run (pauses {p} j b) d m q =
      let (tail, s, r, a) = body_run b d m q in
      (tail, s, more (step_waits E seqs n p 255 d.count d.passes (turn_of d) m q refl j) refl r, a)
  body_run (scans {p} {t} {b = e} {before} {from} R b) d m q =
      let item = Scan p t e before from in
      let (tail, s, r, a) = body_run b (last_open text p) (item_end text item m) q in
      (tail, s, rw append_assoc (raster-run E seqs n fair R d m q ▸ r), a)

  -- ── the rounds of a text that comes to its closing command at e
  module _ (m : ℕ) {items : List Item} {e : ℕ} {closing : Closing} (B : Body E text 4 items (closed e closing)) where
    abbrev round : ℕ → ℕ → List Sight
    round r l = round_sights text n items e closing m r l

    abbrev final : ℕ
    final = end_of text items m

    -- to the closing command of round r
    to-close : (r q : ℕ) {s : Runner} → Clear n 4 q (round_start text items m r) s
        → (s' : Runner) × Run E seqs s (body_sights text n items (round_start text items m r)) s' × Clear n e q final s'
    unfolding AtEnd
    to-close r q z =
        let (tail, s', ran, (none, z')) = body_run B z.held (round_start text items m r) q in
        (s', rw (z.is, ← append-nil (body_sights text n items (round_start text items m r)), ← none) ran, rw (end-start text items m r) at z')

    -- the closing command with rounds left, and in the last round
    next-round : (c : Closing) (d : OpenRaster) (k : ℕ) → judge E.cards text e None ≡ closing_act c
        → Run E seqs (out n e d final (suc (suc k))) (close_sight n e c (suc k) final ∷ []) (out n 4 d final (suc k))
    next-round Terminates d k j =
        let w : suc (suc k) - 1 ≡ suc k = omega arith in
        one (rw w at (step-round E seqs n e d final (suc (suc k)) j (omega arith))) refl
    next-round (CallsOn t) d k j =
        let w : suc (suc k) - 1 ≡ suc k = omega arith in
        one (rw w at (step-round-call E seqs n e d final (suc (suc k)) j (omega arith))) refl

    leave : (c : Closing) (d : OpenRaster) → Known E c → judge E.cards text e None ≡ closing_act c
        → (s' : Runner) × Run E seqs (out n e d final 1) (close_sight n e c 0 final ∷ []) s' × After E c final s'
    unfolding After
    leave Terminates d w j = (_, one (step-ends E seqs n e d final 1 j (omega arith)) refl, refl)
    leave (CallsOn t) d w j = (
      door t d final 1,
      one (step-calls E seqs n e d final 1 j (omega arith) w) refl,
      (w, record { running = refl; entering = refl; sequence = refl; place = refl; raster = refl; mirror = refl }),
    )

    -- to the closing command of the last round
    to_last : (r k : ℕ) {s : Runner} → Clear n 4 (suc k) (round_start text items m r) s
        → (front : List Sight) × (s' : Runner) × Run E seqs s front s' × Clear n e 1 final s' × (turns r (suc k) round ≡ front ++ close_sight n e closing 0 final ∷ [])
    to_last r zero z =
        let (s', ran, z') = to-close r 1 z in
        (body_sights text n items (round_start text items m r), s', ran, z', append-nil (round r 0))
    to_last r (suc k) z =
        let (s', ran, z') = to-close r (suc (suc k)) z in
        let (front, s'', ran', z'', shown) = to_last (suc r) k (record { held = z'.held; is = refl }) in (
          round r (suc k) ++ front,
          s'',
          (ran ▸ rw z'.is (next-round closing z'.held k (closing-judged B))) ▸ ran',
          z'',
          ap (λ (ws : List Sight). round r (suc k) ++ ws) shown ∙ sym (append_assoc (round r (suc k)) front (close_sight n e closing 0 final ∷ [])),
        )

    pub rounds-run : Known E closing → (q : ℕ) (d : OpenRaster) → 0 < q
        → (s' : Runner) × Run E seqs (out n 4 d m q) (turns 0 q (round_sights text n items e closing m)) s' × After E closing (end_of text items m) s'
    rounds-run w zero d h = absurd (omega arith)
    rounds-run w (suc k) d h =
        let (front, s', ran, z, shown) = to_last 0 k (record { held = d; is = refl }) in
        let (s'', ran', a) = leave closing z.held w (closing-judged B) in
        (s'', rw shown (ran ▸ rw z.is ran'), a)

    -- a call past the last number is found in the last round
    pub rounds-miscall : (t : ℕ) → closing ≡ CallsOn t → E.format.last < t → (q : ℕ) (d : OpenRaster) → 0 < q → Aborts E seqs n (fault 4 e) (out n 4 d m q)
    rounds-miscall t c l zero d h = absurd (omega arith)
    rounds-miscall t c l (suc k) d h =
        let (front, s', ran, z, shown) = to_last 0 k (record { held = d; is = refl }) in
        record { sights = front; last = s'; ran = ran; abort = rw z.is (step-miscalls E seqs n e z.held final 1 (rw c at (closing-judged B)) (omega arith) l) }
