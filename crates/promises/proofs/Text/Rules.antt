-- What a judgement tells of the text, as an indexed view: only here are the rules unfolded.
-- Assumes nothing.
use Rattle.std.specs.Prelude.{Result, Ok, Err, Option, Some, None}
use Prim.Native.Nat.{ℕ, ◌+◌, ◌*◌, ◌≤◌, ◌<◌}
use native.Mathlib.Omega.{arith}
use mathlib.Core.Path.{◌≡◌, refl, subst, ◌∙◌}
use mathlib.Core.Bool.{Bool, true, false, cond}
use mathlib.Core.List.{List, [], ◌∷◌}
use mathlib.Core.Logic.{inl}
use lib.Dec.{T, eqb}
use lib.ListN.{length, drop, length-take}
use borrow.Author.Tests.{leb-true, leb-false, eqb-true, eqb-false, not-false, eq-eqb, ne_eqb}
use Rattle.octets.specs.Bytes.{byte_at}
use Rattle.octets.specs.Rows.{Row, row, first_code, NoneHolds, FirstBears, coded}
use Rattle.octets.proofs.Laws.{none-holds, first-bears}
use Rattle.memory.specs.declared.Format.{Format}
use Rattle.memory.specs.declared.Place.{Place}
use Rattle.memory.specs.Memory.{place_at}
use Rattle.memory.proofs.Laws.{Fair}
use Rattle.sequence.specs.declared.Fault.{Fault}
use Rattle.sequence.specs.declared.Command.{Command}
use Rattle.sequence.specs.declared.Command.TheVariants.{RunRaster, Expose, LoopBack, CallSequence, Terminate, Delay, Nothing, Unknown, Unfit}
use Rattle.sequence.specs.Text.{fault, command_at, size_at, size_of, number_of, header_rows, header_place, header_by, header_of}
use Rattle.sequence.specs.Starts.{target_good}
use Rattle.sequence.specs.Raster.{raster_at, strays}
use Rattle.sequence.specs.Env.{Env, text_of}
use Rattle.sequence.proofs.Laws.{command-bytes, Bytes, none-past, size-inside}
use Rattle.runner.specs.declared.Opened.{Opened}
use Rattle.runner.specs.declared.Act.{Act}
use Rattle.runner.specs.declared.Act.TheVariants.{Refused, Opens, Exposes, Loops, Waits, Calls, Ends}
use Rattle.runner.specs.Judge.{set_of, full, path_rows, raster_rows, run_rows, expose_rows, loop_rows, close_rows, unless, judged, judge}
use Rattle.runner.proofs.Exactly.{run-raster-exactly}
use Rattle.promises.proofs.Text.Sound.{code-small, by_first, by_rows, Sound, sound, stay, rows-again}

-- ── the view
-- the judgement of the command at p where the raster o is open, with what is known where it is this one
pub data View (E : Env) (text : List ℕ) (p : ℕ) : Option Opened → Act → Type 0 where
  refused : {o : Option Opened} {code : ℕ} → code ≤ 15 → View E text p o (Refused code)
  opens : command_at text p ≡ RunRaster → Sound (raster_at text p) → View E text p None Opens
  opens-again : {r : Place} {c n : ℕ} → command_at text p ≡ RunRaster → Sound (raster_at text p) → strays (raster_at text p) n ≡ false → r.0 ≡ p → View E text p (Some (record { place = r; count = c; run = n })) Opens
  exposes : {r : Place} {c n t : ℕ} → command_at text p ≡ Expose t → c < set_of (raster_at text r.0) → View E text p (Some (record { place = r; count = c; run = n })) (Exposes r)
  loops : {r : Place} {c n t : ℕ} → command_at text p ≡ LoopBack t → set_of (raster_at text r.0) ≤ c → target_good text r.0 p t ≡ true → View E text p (Some (record { place = r; count = c; run = n })) (Loops t)
  waits : {o : Option Opened} {t : ℕ} → command_at text p ≡ Delay t → View E text p o Waits
  calls : {n : ℕ} → command_at text p ≡ CallSequence n → View E text p None (Calls n)
  ends : command_at text p ≡ Terminate → View E text p None Ends

three : 3 ≤ 15
three = omega arith

module _ (E : Env) (text : List ℕ) (p : ℕ) where
  abbrev Seen : Option Opened → Act → Type 0
  Seen o a = View E text p o a

  view-run : (o : Option Opened) → command_at text p ≡ RunRaster → View E text p o (judged E.cards text p o RunRaster)
  unfolding judged path_rows raster_rows run_rows
  view-run None k = by_rows (Seen None) (run_rows E.cards text p None) Opens tt refl (λ c. refused) (λ h. opens k (sound E (raster_at text p) 0 h.1))
  view-run (Some o) k =
      by_rows (Seen (Some o)) (run_rows E.cards text p (Some o)) Opens tt refl (λ c. refused)
      (λ h. opens-again k (sound E (raster_at text p) o.run h.1) (stay E (raster_at text p) o.run h.1).1 (eqb-true o.place.0 p (not-false (eqb o.place.0 p) h.0)))

  view-expose : (o : Option Opened) (t : ℕ) → command_at text p ≡ Expose t → View E text p o (judged E.cards text p o (Expose t))
  unfolding judged expose_rows
  view-expose None t k = refused three
  view-expose (Some o) t k =
      by_rows (Seen (Some o)) (expose_rows text t (Some o)) (Exposes o.place) tt refl (λ c. refused)
      (λ h. exposes k (leb-false (set_of (raster_at text o.place.0)) o.count h.1.1.0))

  view-loop : (o : Option Opened) (t : ℕ) → command_at text p ≡ LoopBack t → View E text p o (judged E.cards text p o (LoopBack t))
  unfolding judged loop_rows
  view-loop None t k = refused three
  view-loop (Some o) t k =
      by_rows (Seen (Some o)) (loop_rows text p t (Some o)) (Loops t) tt refl (λ c. refused)
      (λ h. loops k (leb-true (set_of (raster_at text o.place.0)) o.count (not-false (full text o.place o.count) h.1.0)) (not-false (target_good text o.place.0 p t) h.1.1.0))

  view-close : (o : Option Opened) (a : Act) → View E text p None a → View E text p o (unless (first_code (close_rows text p o)) a)
  unfolding close_rows
  view-close None a v = by_rows (Seen None) (close_rows text p None) a tt refl (λ c. refused) (λ h. v)
  view-close (Some o) a v = refused three

  view-command : (o : Option Opened) (k : Command) → command_at text p ≡ k → View E text p o (judged E.cards text p o k)
  unfolding judged
  view-command o RunRaster k = view-run o k
  view-command o (Expose t) k = view-expose o t k
  view-command o (LoopBack t) k = view-loop o t k
  view-command o (CallSequence n) k = view-close o (Calls n) (calls k)
  view-command o Terminate k = view-close o Ends (ends k)
  view-command o (Delay t) k = waits k
  view-command o Nothing k = refused three
  view-command o Unknown k = refused three
  view-command o Unfit k = refused three

  pub view : (o : Option Opened) → View E text p o (judge E.cards text p o)
  unfolding judge
  view o = view-command o (command_at text p) refl

  pub view_of : (o : Option Opened) (a : Act) → judge E.cards text p o ≡ a → View E text p o a
  view_of o a j = rw j at (view o)

  -- no command stands past the end
  pub judge-past : (o : Option Opened) → length text ≤ p → judge E.cards text p o ≡ Refused 3
  unfolding judge judged
  judge-past o h = rw (none-past text p h)

  -- ── a run raster
  opens-there : View E text p None Opens → (command_at text p ≡ RunRaster) × Sound (raster_at text p)
  opens-there (opens k g) = (k, g)

  pub opens-command : judge E.cards text p None ≡ Opens → command_at text p ≡ RunRaster
  opens-command j = (opens-there (view_of None Opens j)).0

  pub opens-sound : judge E.cards text p None ≡ Opens → Sound (raster_at text p)
  opens-sound j = (opens-there (view_of None Opens j)).1

  -- at a repeat's jump back the raster opens again
  pub opens-repeat : (c n : ℕ) → n < (raster_at text p).repeats → judge E.cards text p None ≡ Opens → judge E.cards text p (Some (record { place = place_at p; count = c; run = n })) ≡ Opens
  unfolding judge run_rows
  opens-repeat c n l j =
      let k = opens-command j in
      let h = (run-raster-exactly E.cards text p None).obeyed.0 (rw k at j) in
      rw k ((run-raster-exactly E.cards text p (Some (record { place = place_at p; count = c; run = n }))).obeyed.1 (rw (eq-eqb p p refl), rows-again E (raster_at text p) 0 h.1 n l))

  -- ── in an open raster
  -- past its run raster a judgement does not look at the run number
  pub any_left : (r : Place) (c n m : ℕ) (a : Act) → r.0 < p → judge E.cards text p (Some (record { place = r; count = c; run = n })) ≡ a → judge E.cards text p (Some (record { place = r; count = c; run = m })) ≡ a
  unfolding judge judged run_rows expose_rows loop_rows close_rows
  any_left r c n m a l j = go (command_at text p) ∙ j
    where
      go : (k : Command) → judged E.cards text p (Some (record { place = r; count = c; run = m })) k ≡ judged E.cards text p (Some (record { place = r; count = c; run = n })) k
      go RunRaster = rw (ne_eqb r.0 p (λ e. omega arith))
      go (Expose t) = refl
      go (LoopBack t) = refl
      go (CallSequence n) = refl
      go Terminate = refl
      go (Delay t) = refl
      go Nothing = refl
      go Unknown = refl
      go Unfit = refl

  waits_there : {o : Option Opened} → View E text p o Waits → (t : ℕ) × (command_at text p ≡ Delay t)
  waits_there (waits {t} k) = (t, k)

  exposes-there : {o : Option Opened} {r : Place} → View E text p o (Exposes r) → (t : ℕ) × (command_at text p ≡ Expose t)
  exposes-there (exposes {t} k h) = (t, k)

  bytes_of : (k : Command) → command_at text p ≡ k → Bytes text p k
  bytes_of k e = subst (Bytes text p) e (command-bytes text p)

  pub waits-byte : (o : Option Opened) → judge E.cards text p o ≡ Waits → eqb (byte_at text p) (number_of (Expose 0)) ≡ false
  waits-byte o j =
      let (t, k) = waits_there (view_of o Waits j) in
      let b = bytes_of (Delay t) k in
      ne_eqb (byte_at text p) (number_of (Expose 0)) (λ e. omega arith)

  pub exposes-byte : (o : Option Opened) (r : Place) → judge E.cards text p o ≡ Exposes r → eqb (byte_at text p) (number_of (Expose 0)) ≡ true
  exposes-byte o r j =
      let (t, k) = exposes-there (view_of o (Exposes r) j) in
      let b = bytes_of (Expose t) k in
      eq-eqb (byte_at text p) (number_of (Expose 0)) b.0

  -- ── the bytes that a command takes
  pub size-some : (k : Command) → command_at text p ≡ k → 0 < size_of (number_of k) → 0 < size_at text p
  unfolding size_at
  size-some k e h = rw e h

  pub opens-size : judge E.cards text p None ≡ Opens → 0 < size_at text p
  unfolding size_of
  opens-size j = size-some RunRaster (opens-command j) (omega arith)

  pub waits-size : (o : Option Opened) → judge E.cards text p o ≡ Waits → 0 < size_at text p
  unfolding size_of
  waits-size o j = let (t, k) = waits_there (view_of o Waits j) in size-some (Delay t) k (omega arith)

  pub exposes-size : (o : Option Opened) (r : Place) → judge E.cards text p o ≡ Exposes r → 0 < size_at text p
  unfolding size_of
  exposes-size o r j = let (t, k) = exposes-there (view_of o (Exposes r) j) in size-some (Expose t) k (omega arith)

-- ── a judgement tells of the rows
-- the rows that refuse a command, but for those that look at more than the text: the advance, and a call above 127
abbrev pub own_rows : Env → List ℕ → ℕ → Option Opened → Command → List Row
own_rows E text p o RunRaster = run_rows E.cards text p o
own_rows E text p o (Expose time) = expose_rows text time o
own_rows E text p o (LoopBack target) = loop_rows text p target o
own_rows E text p o (CallSequence n) = close_rows text p o
own_rows E text p o Terminate = close_rows text p o
own_rows E text p o (Delay time) = []
own_rows E text p o Nothing = row 3 true ∷ []
own_rows E text p o Unknown = row 3 true ∷ []
own_rows E text p o Unfit = row 3 true ∷ []

abbrev pub Tells : List Row → Act → Type 0
Tells rows (Refused code) = FirstBears code rows
Tells rows Opens = NoneHolds rows
Tells rows (Exposes r) = NoneHolds rows
Tells rows (Loops t) = NoneHolds rows
Tells rows Waits = NoneHolds rows
Tells rows (Calls n) = NoneHolds rows
Tells rows Ends = NoneHolds rows

tells-by : (rs : List Row) (a : Act) → T (coded rs) → (NoneHolds rs → Tells rs a) → Tells rs (unless (first_code rs) a)
tells-by rs a k g = by_first (Tells rs) rs a k (first-bears rs) g

module _ (E : Env) (text : List ℕ) (p : ℕ) where
  tells-command : (o : Option Opened) (k : Command) → Tells (own_rows E text p o k) (judged E.cards text p o k)
  unfolding judged run_rows raster_rows path_rows expose_rows loop_rows close_rows
  tells-command o RunRaster = tells-by (run_rows E.cards text p o) Opens tt (λ h. h)
  tells-command None (Expose time) = inl (refl, refl)
  tells-command (Some o) (Expose time) = tells-by (expose_rows text time (Some o)) (Exposes o.place) tt (λ h. h)
  tells-command None (LoopBack target) = inl (refl, refl)
  tells-command (Some o) (LoopBack target) = tells-by (loop_rows text p target (Some o)) (Loops target) tt (λ h. h)
  tells-command o (CallSequence n) = tells-by (close_rows text p o) (Calls n) tt (λ h. h)
  tells-command o Terminate = tells-by (close_rows text p o) Ends tt (λ h. h)
  tells-command o (Delay time) = tt
  tells-command o Nothing = inl (refl, refl)
  tells-command o Unknown = inl (refl, refl)
  tells-command o Unfit = inl (refl, refl)

  pub tells : (o : Option Opened) (a : Act) → judge E.cards text p o ≡ a → Tells (own_rows E text p o (command_at text p)) a
  unfolding judge
  tells o a j = subst (Tells (own_rows E text p o (command_at text p))) j (tells-command o (command_at text p))

-- ── entering: the header's repeats, which are not 0, or a fault in the header
by-header : (P : Result ℕ Fault → Type 0) (q code : ℕ) → (code ≡ 0 → P (Ok q)) → ((place : ℕ) → place ≤ 3 → P (Err (fault code place))) → P (header_by q code)
by-header P q code f g = go (eqb code 0) refl
  where
    most : (b : Bool) → cond b 3 0 ≤ 3
    most true = omega arith
    most false = omega arith

    go : (b : Bool) → eqb code 0 ≡ b → P (cond b (Ok q) (Err (fault code (header_place code))))
    go true e = f (eqb-true code 0 e)
    go false e = g (header_place code) (most (eqb code 10))

pub header-case : (P : Result ℕ Fault → Type 0) (text : List ℕ) → (0 < byte_at text 3 → header_of text ≡ Ok (byte_at text 3) → P (Ok (byte_at text 3)))
    → ((code place : ℕ) → code ≤ 15 → place ≤ 3 → header_of text ≡ Err (fault code place) → P (Err (fault code place))) → P (header_of text)
unfolding header_of header_rows
header-case P text f g =
    by-header (λ (h : Result ℕ Fault). header_of text ≡ h → P h) (byte_at text 3) (first_code (header_rows text))
    (λ e h. let n = none-holds (header_rows text) tt e in f (omega (arith, eqb-false (byte_at text 3) 0 n.1.1.0)) h)
    (λ place l h. g (first_code (header_rows text)) place (code-small (header_rows text) refl) l h) refl

-- ── places of an entry
-- a raster's: 255 stands for none
abbrev pub RasterPlace : Format → ℕ → Type 0
RasterPlace F p = (p < F.size) × (p < 255)

module _ (E : Env) (seqs : List ℕ) (n p : ℕ) where
  abbrev text : List ℕ
  text = text_of E seqs n

  pub place_inside : 0 < size_at text p → (p < E.format.size) × (p + size_at text p < E.format.size)
  place_inside z =
      let (h, l) = size-inside text p z in
      omega (arith, length-take E.format.size (drop (n * E.format.size) seqs))

  pub opens-place : Fair E.format → judge E.cards text p None ≡ Opens → RasterPlace E.format p
  opens-place fair j =
      let f = fair.size in
      let z = opens-size E text p j in
      let (h, l) = place_inside z in (h, omega arith)
