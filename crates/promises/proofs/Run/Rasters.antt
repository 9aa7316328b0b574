-- The interpreter runs along a whole raster and shows its repeats and passes. The mirror in a pass is a function of the set's count.
-- Assumes nothing.
use Rattle.std.specs.Prelude.{Some}
use Prim.Native.Nat.{ℕ, zero, suc, ◌+◌, ◌*◌, ◌-◌, ◌≤◌, ◌<◌}
use native.Mathlib.Omega.{arith}
use native.Mathlib.Nat.{mod-lt, mod-eq_of_lt}
use mathlib.Core.Path.{◌≡◌, refl, ap, subst}
use mathlib.Core.Bool.{Bool, true, false, ◌&&◌, and-false}
use mathlib.Core.List.{List, [], ◌∷◌}
use lib.Dec.{ltb, eqb}
use borrow.Author.Tests.{lt-ltb, eq-eqb, ne_eqb, ltb-true}
use Rattle.octets.specs.Bytes.{word_at, counted}
use Rattle.octets.proofs.Bools.{and_both}
use Rattle.memory.specs.Memory.{place_at}
use Rattle.memory.proofs.Laws.{Fair}
use Rattle.sequence.specs.declared.RasterWords.{RasterWords}
use Rattle.sequence.specs.Text.{size_at}
use Rattle.sequence.specs.Raster.{raster_at, shift_of, start_of}
use Rattle.sequence.proofs.Paths.{start-reaches}
use Rattle.sequence.specs.Env.{Env, text_of}
use Rattle.runner.specs.declared.OpenRaster.{OpenRaster}
use Rattle.runner.specs.declared.Runner.{Runner}
use Rattle.runner.specs.declared.Event.TheVariants.{Exp}
use Rattle.runner.specs.declared.Act.TheVariants.{Exposes}
use Rattle.runner.specs.Judge.{set_of, judge}
use Rattle.runner.specs.Step.{to, step_of}
use Rattle.survey.specs.declared.Item.TheVariants.{Scan}
use Rattle.survey.specs.Turns.{turns}
use Rattle.promises.specs.Runs.{Run, done, more}
use Rattle.promises.proofs.Run.Steps.{Turn, turn, open_raster, on, out, held_at, step_waits, step-opens, step-again, step_stays, step-moves, step-loops, step-next, step-done}
use Rattle.promises.proofs.Text.Sound.{Sound, set-some}
use Rattle.promises.proofs.Text.Rules.{opens-sound, opens-repeat, RasterPlace, opens-place, waits-byte, exposes-byte}
use Rattle.promises.proofs.Run.Sights.{mirror_in, line_sights, back_sight, pass_start, pass_sights, passes_sights, repeat_sights, item_sights, last_pass, item_end}
use Rattle.promises.proofs.Text.Lines.{Line, stop, delay, expose, Whole}
use Rattle.promises.proofs.Run.Runs.{one, ◌▸◌, run-turns}

-- the open raster that the last repeat of the raster at p leaves behind
abbrev pub last_open : List ℕ → ℕ → OpenRaster
last_open text p = let raster = raster_at text p in open_raster p (set_of raster) 1 (turn 1 (raster.repeats - 1) (shift_of raster (raster.repeats - 1)))

repeats-few : (text : List ℕ) (p : ℕ) → (raster_at text p).repeats < 4096
unfolding raster_at
repeats-few text p = mod-lt (word_at text (p + 15)) (omega arith)

-- ── the mirror in a pass
module _ (raster : RasterWords) where
  pub mirror-below : (again : Bool) (m c : ℕ) → c < set_of raster → mirror_in raster again m c ≡ m
  mirror-below again m c h = rw (ne_eqb c (set_of raster) (λ e. omega arith), and-false again)

  mirror-full : (ps m : ℕ) → 1 < ps → mirror_in raster (ltb 1 ps) m (set_of raster) ≡ m + raster.step
  mirror-full ps m h = rw (lt-ltb 1 ps h, eq-eqb (set_of raster) (set_of raster) refl)

-- the pass after pass j is in reach where the last of L passes is
in_reach : (i s j L : ℕ) → suc j < L → i + (L - 1) * s ≤ 2400 → i + s * j + s ≤ 2400
in_reach i s j L l h =
    let w : L - 1 ≡ j + suc (L - 2 - j) = omega arith in
    let v : i + (j + suc (L - 2 - j)) * s ≤ 2400 = rw w at h in
    omega arith

pub next-in-reach : {raster : RasterWords} → Sound raster → (k j : ℕ) → k < raster.repeats → suc j < raster.loops → pass_start raster k j + raster.step ≤ 2400
next-in-reach {raster} g k j h l = in_reach (start_of raster k) raster.step j raster.loops l (start-reaches raster k (g.stays k h))

pub first-in-reach : {raster : RasterWords} → Sound raster → (k : ℕ) → k < raster.repeats → 1 < raster.loops → start_of raster k + raster.step ≤ 2400
first-in-reach {raster} g k h l = let n = next-in-reach g k 0 h l in omega arith

module _ (E : Env) (seqs : List ℕ) (n : ℕ) where
  abbrev text : List ℕ
  text = text_of E seqs n

  -- ── a line of the raster at r
  module _ (r : ℕ) (inside : RasterPlace E.format r) where
    abbrev raster : RasterWords
    raster = raster_at text r

    -- an exposure, in a pass that began at m
    step-exposes : (p c ps : ℕ) (rs : Turn) (m q : ℕ) → judge E.cards text p (Some (record { place = place_at r; count = c; run = rs.run })) ≡ Exposes (place_at r) → c < set_of raster → (1 < ps → m + raster.step ≤ 2400)
        → step_of E seqs (on n p r c ps rs (mirror_in raster (ltb 1 ps) m c) q)
        ≡ to (Exp m) (on n (p + size_at text p) r (c + 1) ps rs (mirror_in raster (ltb 1 ps) m (c + 1)) q)
    step-exposes p c ps rs m q j h b = rw (mirror-below raster (ltb 1 ps) m c h) (go (ltb 1 ps && eqb (c + 1) (set_of raster)) refl)
      where
        go : (t : Bool) → (ltb 1 ps && eqb (c + 1) (set_of raster)) ≡ t
            → step_of E seqs (on n p r c ps rs m q) ≡ to (Exp m) (on n (p + size_at text p) r (c + 1) ps rs (mirror_in raster (ltb 1 ps) m (c + 1)) q)
        go true e = rw e (step-moves E seqs n p r c ps rs m q inside j e (b (ltb-true 1 ps (and_both (ltb 1 ps) (eqb (c + 1) (set_of raster)) e).0)))
        go false e = rw e (step_stays E seqs n p r c ps rs m q inside j e)

    pub line-run : {p c len p' c' : ℕ} → Line E text r p c len p' c' → (ps : ℕ) (rs : Turn) (m q : ℕ) → (1 < ps → m + raster.step ≤ 2400)
        → Run E seqs (on n p r c ps rs (mirror_in raster (ltb 1 ps) m c) q) (line_sights text n raster (ltb 1 ps) m len p c)
        (on n p' r c' ps rs (mirror_in raster (ltb 1 ps) m c') q)
    line-run stop ps rs m q b = done
    line-run (delay {p} {c} j l) ps rs m q b =
        rw (waits-byte E text p _ (j rs.run))
        (more (step_waits E seqs n p r c ps rs (mirror_in raster (ltb 1 ps) m c) q (held_at E.format r c ps rs inside) (j rs.run)) refl (line-run l ps rs m q b))
    line-run (expose {p} {c} j h l) ps rs m q b =
        rw (exposes-byte E text p _ (place_at r) (j rs.run))
        (more (step-exposes p c ps rs m q (j rs.run) h b) refl (line-run l ps rs m q b))

    -- from the end of a run raster that begins repeat k
    pub first-line : {len p' c' : ℕ} → Sound raster → Line E text r (r + size_at text r) 0 len p' c' → (k : ℕ) (rs : Turn) (q : ℕ) → k < raster.repeats
        → Run E seqs (on n (r + size_at text r) r 0 raster.loops rs (start_of raster k) q)
        (line_sights text n raster (ltb 1 raster.loops) (start_of raster k) len (r + size_at text r) 0)
        (on n p' r c' raster.loops rs (mirror_in raster (ltb 1 raster.loops) (start_of raster k) c') q)
    first-line g l k rs q h =
        rw (mirror-below raster (ltb 1 raster.loops) (start_of raster k) 0 (set-some g)) at
        (line-run l raster.loops rs (start_of raster k) q (first-in-reach g k h))

  -- ── a whole raster
  module _ (fair : Fair E.format) {p t b before from : ℕ} (R : Whole E text p t b before from) where
    abbrev words : RasterWords
    words = raster_at text p

    inside : RasterPlace E.format p
    inside = opens-place E seqs n p fair R.run

    fit : Sound words
    fit = opens-sound E text p R.run

    -- repeat k, with r repeats to come
    abbrev under : ℕ → ℕ → Turn
    under k r = turn (suc r) k (shift_of words k)

    -- the number of the next repeat, where one comes, is no more than a word holds
    next-run : (k r : ℕ) → k + suc (suc r) ≡ words.repeats → counted k ≡ suc k
    next-run k r e = let s : k + 1 ≡ suc k = omega arith in rw s (mod-eq_of_lt (let b = repeats-few text p in omega arith))

    -- after the last pass of repeat k, with r repeats to come
    abbrev repeated : ℕ → ℕ → ℕ → Runner
    repeated q k zero = out n (b + size_at text b) (open_raster p (set_of words) 1 (under k 0)) (last_pass words k) q
    repeated q k (suc r) = on n p p (set_of words) 1 (turn (suc r) (suc k) (shift_of words k)) (last_pass words k) q

    -- before pass j of repeat k, with l passes and r repeats to come
    abbrev passing : ℕ → ℕ → ℕ → ℕ → ℕ → Runner
    passing q k r j zero = repeated q k r
    passing q k r j (suc l) = on n t p 0 (suc l) (under k r) (pass_start words k j) q

    -- the loop back of the last pass
    last-back : (q k r : ℕ) → k + suc r ≡ words.repeats
        → Run E seqs (on n b p (set_of words) 1 (under k r) (last_pass words k) q) (back_sight text n words p t b r 0 (last_pass words k) ∷ []) (repeated q k r)
    last-back q k zero e = one (step-done E seqs n b p (set_of words) 1 (under k 0) (last_pass words k) q inside (R.loops k) (omega arith) (omega arith)) refl
    last-back q k (suc r) e =
        let v : suc (suc r) - 1 ≡ suc r = omega arith in
        one (rw (v, next-run k r e) at (step-next E seqs n b p (set_of words) 1 (under k (suc r)) (last_pass words k) q inside (R.loops k) (omega arith) (omega arith))) refl

    pass-run : (q k r : ℕ) → k + suc r ≡ words.repeats → (j l : ℕ) → j + suc l ≡ words.loops
        → Run E seqs (passing q k r j (suc l)) (pass_sights text n words p t b from k r j l) (passing q k r (suc j) l)
    pass-run q k r h j zero e =
        let w : words.loops - 1 ≡ j = omega arith in
        subst (λ (x : ℕ). Run E seqs (on n t p 0 1 (under k r) (pass_start words k x) q) (pass_sights text n words p t b from k r x 0) (repeated q k r)) w
        (line-run p inside R.again 1 (under k r) (last_pass words k) q (λ z. omega arith) ▸ last-back q k r h)
    pass-run q k r h j (suc l) e =
        let m : ℕ = pass_start words k j in
        let v : suc (suc l) - 1 ≡ suc l = omega arith in
        let u : pass_start words k (suc j) ≡ m + words.step = omega arith in
        rw (mirror-below words (ltb 1 (suc (suc l))) m 0 (set-some fit), mirror-full words (suc (suc l)) m (omega arith)) at
        (line-run p inside R.again (suc (suc l)) (under k r) m q (λ z. next-in-reach fit k j (omega arith) (omega arith)))
        ▸ rw u (one (rw v at (step-loops E seqs n b p (set_of words) (suc (suc l)) (under k r) (m + words.step) q inside (R.loops k) (omega arith))) refl)

    passing-first : (q k r L : ℕ) → 0 < L → passing q k r 0 L ≡ on n t p 0 L (under k r) (start_of words k) q
    passing-first q k r zero h = absurd (omega arith)
    passing-first q k r (suc l) h = let z : pass_start words k 0 ≡ start_of words k = omega arith in ap (λ (x : ℕ). on n t p 0 (suc l) (under k r) x q) z

    passes-run : (q k r : ℕ) → k + suc r ≡ words.repeats
        → Run E seqs (on n (p + size_at text p) p 0 words.loops (under k r) (start_of words k) q) (passes_sights text n words p t b before from k r) (repeated q k r)
    passes-run q k r h =
        rw (mirror-below words (ltb 1 words.loops) (start_of words k) 0 (set-some fit)) at (first-line p inside fit R.first k (under k r) q (omega arith))
        ▸ subst (λ (x : Runner). Run E seqs x (turns 0 words.loops (pass_sights text n words p t b from k r)) (repeated q k r))
        (passing-first q k r words.loops fit.loops)
        (run-turns (passing q k r) (pass_sights text n words p t b from k r) words.loops (pass-run q k r h) 0 words.loops (omega arith))

    -- before repeat k, with r repeats to come; d, m: what the runner held and where the mirror was at first
    abbrev repeating : OpenRaster → ℕ → ℕ → ℕ → ℕ → Runner
    repeating d m q zero r = out n p d m q
    repeating d m q (suc k) r = repeated q k r

    repeat-run : (d : OpenRaster) (m q k r : ℕ) → k + suc r ≡ words.repeats
        → Run E seqs (repeating d m q k (suc r)) (repeat_sights text n words p t b before from k r) (repeating d m q (suc k) r)
    repeat-run d m q zero r e =
        let v : suc r ≡ words.repeats = omega arith in
        more (step-opens E seqs n p d m q R.run) refl
        (subst (λ (x : ℕ). Run E seqs (on n (p + size_at text p) p 0 words.loops (turn x 0 (shift_of words 0)) (start_of words 0) q) (passes_sights text n words p t b before from 0 r) (repeated q 0 r)) v
        (passes-run q 0 r e))
    repeat-run d m q (suc k) r e =
        more
        (step-again E seqs n p (set_of words) 1 (turn (suc r) (suc k) (shift_of words k)) (last_pass words k) q inside (opens-repeat E text p (set_of words) (suc k) (omega arith) R.run))
        refl (passes-run q (suc k) r e)

    pub raster-run : (d : OpenRaster) (m q : ℕ)
        → Run E seqs (out n p d m q) (item_sights text n (Scan p t b before from) m)
        (out n (b + size_at text b) (last_open text p) (item_end text (Scan p t b before from) m) q)
    raster-run d m q =
        let g = fit.repeats in
        let e : words.repeats ≡ suc (words.repeats - 1) = omega arith in
        subst (λ (x : Runner). Run E seqs (out n p d m q) (item_sights text n (Scan p t b before from) m) x) (ap (λ (x : ℕ). repeating d m q x 0) e)
        (run-turns (repeating d m q) (repeat_sights text n words p t b before from) words.repeats (repeat-run d m q) 0 words.repeats (omega arith))
