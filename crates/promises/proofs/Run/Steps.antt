-- The states that the theorems speak of, and what a step does by its judgement: only here is the step unfolded.
-- Assumes nothing.
use Rattle.std.specs.Prelude.{Ok, Err, Option, Some, None}
use Prim.Native.Nat.{ℕ, ◌+◌, ◌-◌, ◌≤◌, ◌<◌}
use native.Mathlib.Omega.{arith}
use mathlib.Core.Path.{◌≡◌, refl, ap, ◌∙◌}
use mathlib.Core.Bool.{true, false, ◌&&◌}
use mathlib.Core.List.{List}
use lib.Dec.{ltb, eqb}
use lib.IntN.{ℤ}
use borrow.Author.Tests.{lt-ltb, le-ltb, ne_eqb}
use Rattle.octets.specs.Bytes.{word_at, counted}
use Rattle.memory.specs.declared.Format.{Format}
use Rattle.memory.specs.Memory.{place_at}
use Rattle.sequence.specs.declared.Fault.{Fault}
use Rattle.sequence.specs.declared.RasterWords.{RasterWords}
use Rattle.sequence.specs.Text.{size_at, header_of}
use Rattle.sequence.specs.Raster.{raster_at, shift_of, start_of}
use Rattle.sequence.specs.Env.{Env, text_of}
use Rattle.runner.specs.declared.OpenRaster.{OpenRaster}
use Rattle.runner.specs.declared.Runner.{Runner}
use Rattle.runner.specs.declared.Stepped.{Stepped}
use Rattle.runner.specs.declared.Event.TheVariants.{Enter, Raster, Exp, Loop, Next, Done, Wait, Call, End, Abort}
use Rattle.runner.specs.declared.Opened.{Opened}
use Rattle.runner.specs.declared.Act.{Act}
use Rattle.runner.specs.declared.Act.TheVariants.{Refused, Opens, Exposes, Loops, Waits, Calls, Ends}
use Rattle.runner.specs.Judge.{set_of, judge}
use Rattle.runner.specs.Step.{to, open_of, aborted, entered, begun, advances, exposed, looped, delayed, called, ended, act, step_in, step_of}
use Rattle.runner.specs.With.{with_running, open_at}
use Rattle.promises.specs.Runs.{AtDoor}
use Rattle.promises.proofs.Text.Rules.{RasterPlace}

-- a raster's repeat: how many are left with it, its number, and the shift of its start
pub record Turn : Type 0 where
  pub left : ℕ
  pub run : ℕ
  pub shift : ℤ

abbrev pub turn : ℕ → ℕ → ℤ → Turn
turn left run shift = record { left = left; run = run; shift = shift }

-- the raster at r (255: none) with c exposures in the set, passes left, and its repeat
abbrev pub open_raster : ℕ → ℕ → ℕ → Turn → OpenRaster
open_raster r c ps t = record { place = r; count = c; passes = ps; repeats = t.left; run = t.run; shift = t.shift }

abbrev pub turn_of : OpenRaster → Turn
turn_of o = turn o.repeats o.run o.shift

-- at work in sequence n at place p, with this raster open; mirror, rounds
abbrev pub at : ℕ → ℕ → OpenRaster → ℕ → ℕ → Runner
at n p o m q = record { sequence = n; place = p; running = true; entering = false; raster = o; rounds = q; mirror = m }

abbrev pub on : ℕ → ℕ → ℕ → ℕ → ℕ → Turn → ℕ → ℕ → Runner
on n p r c ps t m q = at n p (open_raster r c ps t) m q

-- at work in sequence n at place p with no raster open
abbrev pub out : ℕ → ℕ → OpenRaster → ℕ → ℕ → Runner
out n p o m q = at n p (open_at 255 o) m q

-- about to enter sequence n
abbrev pub door : ℕ → OpenRaster → ℕ → ℕ → Runner
door n o m q = record { sequence = n; place = 0; running = true; entering = true; raster = open_at 255 o; rounds = q; mirror = m }

pub door-is : {n m : ℕ} {s : Runner} → AtDoor n m s → s ≡ door n s.raster m s.rounds
door-is {s} d =
    λ i. record {
      sequence = d.sequence i;
      place = d.place i;
      running = d.running i;
      entering = d.entering i;
      raster = open_at (d.raster i) s.raster;
      rounds = s.rounds;
      mirror = d.mirror i;
    }

-- whatever else a runner holds
pub held_at : (F : Format) (r c ps : ℕ) (t : Turn) → RasterPlace F r → open_of F (on 0 0 r c ps t 0 0) ≡ Some (record { place = place_at r; count = c; run = t.run })
held_at F r c ps t (h, l) = rw (ne_eqb r 255 (λ e. omega arith), lt-ltb r F.size h)

-- ── in sequence n
module _ (E : Env) (seqs : List ℕ) (n : ℕ) where
  abbrev text : List ℕ
  text = text_of E seqs n

  module _ (p r c ps : ℕ) (rs : Turn) (m q : ℕ) {o : Option Opened} (held : open_of E.format (on n p r c ps rs m q) ≡ o) where
    step_by : {a : Act} → judge E.cards text p o ≡ a → step_of E seqs (on n p r c ps rs m q) ≡ act E.format text (on n p r c ps rs m q) a
    unfolding step_of step_in
    step_by j = ap (λ (x : Option Opened). act E.format text (on n p r c ps rs m q) (judge E.cards text p x)) held ∙ ap (act E.format text (on n p r c ps rs m q)) j

    pub step-refused : {k : ℕ} → judge E.cards text p o ≡ Refused k → (step_of E seqs (on n p r c ps rs m q)).event ≡ Abort k n p
    unfolding act aborted
    step-refused j = ap (λ (x : Stepped). x.event) (step_by j)

    pub step_waits : judge E.cards text p o ≡ Waits → step_of E seqs (on n p r c ps rs m q) ≡ to (Wait (word_at text (p + 1))) (on n (p + size_at text p) r c ps rs m q)
    unfolding act delayed
    step_waits j = step_by j

  -- a run raster, the first and at a repeat's jump back
  module _ (p : ℕ) where
    abbrev raster : RasterWords
    raster = raster_at text p

    pub step-opens : (d : OpenRaster) (m q : ℕ) → judge E.cards text p None ≡ Opens
        → step_of E seqs (out n p d m q)
        ≡ to (Raster raster.id (start_of raster 0) raster.list) (on n (p + size_at text p) p 0 raster.loops (turn raster.repeats 0 (shift_of raster 0)) (start_of raster 0) q)
    unfolding act begun
    step-opens d m q j = step_by p 255 d.count d.passes (turn_of d) m q refl j

    pub step-again : (c ps : ℕ) (rs : Turn) (m q : ℕ) → RasterPlace E.format p → judge E.cards text p (Some (record { place = place_at p; count = c; run = rs.run })) ≡ Opens
        → let k = rs.run in
        step_of E seqs (on n p p c ps rs m q)
        ≡ to (Raster raster.id (start_of raster k) raster.list) (on n (p + size_at text p) p 0 raster.loops (turn rs.left k (shift_of raster k)) (start_of raster k) q)
    unfolding act begun
    step-again c ps rs m q h j = step_by p p c ps rs m q (held_at E.format p c ps rs h) j ∙ rw (held_at E.format p c ps rs h)

  -- in the open raster at r
  module _ (p r c ps : ℕ) (rs : Turn) (m q : ℕ) (inside : RasterPlace E.format r) where
    step_in_lem : {a : Act} → judge E.cards text p (Some (record { place = place_at r; count = c; run = rs.run })) ≡ a → step_of E seqs (on n p r c ps rs m q) ≡ act E.format text (on n p r c ps rs m q) a
    step_in_lem j = step_by p r c ps rs m q (held_at E.format r c ps rs inside) j

    -- the exposure fills no set, or no pass comes after: the mirror stays
    pub step_stays : judge E.cards text p (Some (record { place = place_at r; count = c; run = rs.run })) ≡ Exposes (place_at r) → (ltb 1 ps && eqb (c + 1) (set_of (raster_at text r))) ≡ false
        → step_of E seqs (on n p r c ps rs m q) ≡ to (Exp m) (on n (p + size_at text p) r (c + 1) ps rs m q)
    unfolding act exposed advances
    step_stays j b = step_in_lem j ∙ rw b

    pub step-moves : judge E.cards text p (Some (record { place = place_at r; count = c; run = rs.run })) ≡ Exposes (place_at r) → (ltb 1 ps && eqb (c + 1) (set_of (raster_at text r))) ≡ true
        → m + (raster_at text r).step ≤ 2400
        → step_of E seqs (on n p r c ps rs m q) ≡ to (Exp m) (on n (p + size_at text p) r (c + 1) ps rs (m + (raster_at text r).step) q)
    unfolding act exposed advances
    step-moves j b h = step_in_lem j ∙ rw (b, le-ltb 2400 (m + (raster_at text r).step) h)

    pub step-loops : {t : ℕ} → judge E.cards text p (Some (record { place = place_at r; count = c; run = rs.run })) ≡ Loops t → 1 < ps → step_of E seqs (on n p r c ps rs m q) ≡ to (Loop t) (on n t r 0 (ps - 1) rs m q)
    unfolding act looped
    step-loops j h = step_in_lem j ∙ rw (lt-ltb 1 ps h)

    pub step-next : {t : ℕ} → judge E.cards text p (Some (record { place = place_at r; count = c; run = rs.run })) ≡ Loops t → ps ≤ 1 → 1 < rs.left
        → step_of E seqs (on n p r c ps rs m q) ≡ to Next (on n r r c ps (turn (rs.left - 1) (counted rs.run) rs.shift) m q)
    unfolding act looped
    step-next j h k = step_in_lem j ∙ rw (le-ltb 1 ps h, lt-ltb 1 rs.left k)

    pub step-done : {t : ℕ} → judge E.cards text p (Some (record { place = place_at r; count = c; run = rs.run })) ≡ Loops t → ps ≤ 1 → rs.left ≤ 1 → step_of E seqs (on n p r c ps rs m q) ≡ to Done (out n (p + size_at text p) (open_raster r c ps rs) m q)
    unfolding act looped
    step-done j h k = step_in_lem j ∙ rw (le-ltb 1 ps h, le-ltb 1 rs.left k)

  -- at the closing command
  module _ (p : ℕ) (d : OpenRaster) (m q : ℕ) where
    step-out : {a : Act} → judge E.cards text p None ≡ a → step_of E seqs (out n p d m q) ≡ act E.format text (out n p d m q) a
    step-out j = step_by p 255 d.count d.passes (turn_of d) m q refl j

    pub step-round : judge E.cards text p None ≡ Ends → 1 < q → step_of E seqs (out n p d m q) ≡ to Next (out n 4 d m (q - 1))
    unfolding act ended
    step-round j h = step-out j ∙ rw (lt-ltb 1 q h)

    pub step-round-call : {k : ℕ} → judge E.cards text p None ≡ Calls k → 1 < q → step_of E seqs (out n p d m q) ≡ to Next (out n 4 d m (q - 1))
    unfolding act called
    step-round-call j h = step-out j ∙ rw (lt-ltb 1 q h)

    pub step-ends : judge E.cards text p None ≡ Ends → q ≤ 1 → step_of E seqs (out n p d m q) ≡ to End (with_running false (out n p d m q))
    unfolding act ended
    step-ends j h = step-out j ∙ rw (le-ltb 1 q h)

    pub step-calls : {k : ℕ} → judge E.cards text p None ≡ Calls k → q ≤ 1 → k ≤ E.format.last → step_of E seqs (out n p d m q) ≡ to (Call k) (door k d m q)
    unfolding act called
    step-calls {k} j h l = step-out j ∙ rw (le-ltb 1 q h, le-ltb E.format.last k l)

    pub step-miscalls : {k : ℕ} → judge E.cards text p None ≡ Calls k → q ≤ 1 → E.format.last < k → (step_of E seqs (out n p d m q)).event ≡ Abort 4 n p
    unfolding act called aborted
    step-miscalls {k} j h l = ap (λ (x : Stepped). x.event) (step-out j) ∙ rw (le-ltb 1 q h, lt-ltb E.format.last k l)

  -- at the door
  module _ (d : OpenRaster) (m q : ℕ) where
    pub step-enters : {k : ℕ} → header_of text ≡ Ok k → step_of E seqs (door n d m q) ≡ to (Enter n) (out n 4 d m k)
    unfolding step_of step_in entered
    step-enters h = rw h

    pub step-barred : {f : Fault} → header_of text ≡ Err f → (step_of E seqs (door n d m q)).event ≡ Abort f.code n f.place
    unfolding step_of step_in entered aborted
    step-barred h = rw h
