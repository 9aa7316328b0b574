-- The commands of a text that the check passes, in text order: their places beside the items that the check finds.
-- So the rasters found are the run rasters among the starts of commands, and the closing command is the last. Assumes nothing.
use Rattle.std.specs.Prelude.{Option, None}
use Prim.Native.Nat.{ℕ, zero, suc, ◌+◌, ◌-◌, ◌≤◌, ◌<◌}
use native.Mathlib.Omega.{arith}
use mathlib.Core.Path.{◌≡◌, refl, sym, ap, subst, ◌∙◌}
use mathlib.Core.Bool.{Bool, true, false, cond}
use mathlib.Core.List.{List, [], ◌∷◌, ◌++◌}
use lib.Dec.{eqb}
use lib.ListN.{length}
use borrow.Author.Tests.{eqb-true, not-false}
use Rattle.octets.specs.Rows.{NoneHolds}
use Rattle.memory.specs.Memory.{place_at}
use Rattle.sequence.specs.declared.Command.{Command}
use Rattle.sequence.specs.declared.Command.TheVariants.{RunRaster, Expose, LoopBack, CallSequence, Terminate, Delay}
use Rattle.sequence.specs.Text.{limit, command_at, size_at, size_of, number_of, is_run_raster}
use Rattle.sequence.specs.Starts.{starts, starts_of, rasters_among}
use Rattle.sequence.specs.Env.{Env}
use Rattle.sequence.proofs.Laws.{size-inside, none_last, starts-off, starts-on}
use Rattle.sequence.proofs.Hops.{hops-le}
use Rattle.runner.specs.declared.Opened.{Opened}
use Rattle.runner.specs.declared.Act.{Act}
use Rattle.runner.specs.declared.Act.TheVariants.{Refused, Opens, Exposes, Loops, Waits, Calls, Ends}
use Rattle.runner.specs.Judge.{close_rows, judge}
use Rattle.survey.specs.declared.Item.{Item}
use Rattle.survey.specs.declared.Item.TheVariants.{Pause, Scan}
use Rattle.survey.specs.declared.Closing.{Closing}
use Rattle.survey.specs.declared.Closing.TheVariants.{Terminates, CallsOn}
use Rattle.promises.specs.Demand3.{last_of, closing_of}
use Rattle.promises.specs.EachCheck.{is_loop_back}
use Rattle.promises.proofs.Text.Rules.{View, refused, opens, opens-again, exposes, loops, waits, calls, ends, view_of, opens-command, opens-size, size-some, own_rows, tells}
use Rattle.promises.proofs.Text.Lines.{Line, stop, delay, expose, closed, closing_act, Body, closes, pauses, scans}
use Rattle.promises.proofs.Text.Targets.{line-hops}

-- ── places with what stands there
-- something holds of each of these places
abbrev pub Each : (ℕ → Type 0) → List ℕ → Type 0
Each P [] = Unit {0}
Each P (x ∷ xs) = P x × Each P xs

pub each_map : {P Q : ℕ → Type 0} → ((x : ℕ) → P x → Q x) → (xs : List ℕ) → Each P xs → Each Q xs
each_map f [] a = tt
each_map f (x ∷ xs) (a, rest) = (f x a, each_map f xs rest)

-- the command at x neither begins a raster nor ends one
abbrev pub Inner : List ℕ → ℕ → Type 0
Inner text x = (is_run_raster (command_at text x) ≡ false) × (is_loop_back (command_at text x) ≡ false)

-- such commands, from a up to b
abbrev pub Within : List ℕ → ℕ → ℕ → List ℕ → Type 0
Within text a b xs = Each (λ x. Inner text x × (a ≤ x) × (x < b)) xs

-- ── what the rules tell of a command
abbrev pub command_of : Closing → Command
command_of Terminates = Terminate
command_of (CallsOn n) = CallSequence n

-- a delay, an exposure or a closing command
abbrev IsInner : Act → Type 0
IsInner (Refused code) = ⊥
IsInner Opens = ⊥
IsInner (Exposes r) = Unit {0}
IsInner (Loops t) = ⊥
IsInner Waits = Unit {0}
IsInner (Calls n) = Unit {0}
IsInner Ends = Unit {0}

module _ (E : Env) (text : List ℕ) (p : ℕ) where
  stands : (k : Command) → command_at text p ≡ k → 0 < size_of (number_of k) → is_run_raster k ≡ false → is_loop_back k ≡ false → (0 < size_at text p) × Inner text p
  stands k e s r l = (size-some E text p k e s, (rw e r, rw e l))

  inner : (o : Option Opened) (a : Act) → IsInner a → View E text p o a → (0 < size_at text p) × Inner text p
  unfolding size_of
  inner o a x (refused b) = absurd x
  inner o a x (opens k g) = absurd x
  inner o a x (opens-again k g z e) = absurd x
  inner o a x (exposes {t} k h) = stands (Expose t) k (omega arith) refl refl
  inner o a x (loops k h g) = absurd x
  inner o a x (waits {t} k) = stands (Delay t) k (omega arith) refl refl
  inner o a x (calls {n} k) = stands (CallSequence n) k (omega arith) refl refl
  inner o a x (ends k) = stands Terminate k (omega arith) refl refl

  by-judge : (o : Option Opened) (a : Act) → IsInner a → judge E.cards text p o ≡ a → (0 < size_at text p) × Inner text p
  by-judge o a x j = inner o a x (view_of E text p o a j)

  loops-there : (o : Option Opened) (t : ℕ) → View E text p o (Loops t) → (0 < size_at text p) × (command_at text p ≡ LoopBack t)
  unfolding size_of
  loops-there o t (loops k h g) = (size-some E text p (LoopBack t) k (omega arith), k)

  -- a closing command stands last
  ends-text : NoneHolds (close_rows text p None) → p + size_at text p ≡ limit text
  unfolding close_rows
  ends-text n = eqb-true (p + size_at text p) (limit text) (not-false (eqb (p + size_at text p) (limit text)) n.1.0)

  closes-last : (closing : Closing) → judge E.cards text p None ≡ closing_act closing → View E text p None (closing_act closing)
      → (p + size_at text p ≡ limit text) × (command_at text p ≡ command_of closing)
  closes-last Terminates j (ends k) = (ends-text (subst (λ (y : Command). NoneHolds (own_rows E text p None y)) k (tells E text p None Ends j)), k)
  closes-last (CallsOn n) j (calls k) = (ends-text (subst (λ (y : Command). NoneHolds (own_rows E text p None y)) k (tells E text p None (Calls n) j)), k)

closing-inner : (c : Closing) → IsInner (closing_act c)
closing-inner Terminates = tt
closing-inner (CallsOn n) = tt

-- ── the places of a text's commands beside the items found in it
pub data Order (text : List ℕ) (closing : Closing) : List ℕ → List Item → Type 0 where
  last : {p : ℕ} → Inner text p → command_at text p ≡ command_of closing → Order text closing (p ∷ []) []
  pause : {p : ℕ} {ps : List ℕ} {items : List Item} → Inner text p → Order text closing ps items → Order text closing (p ∷ ps) (Pause p ∷ items)
  raster : {p t q before from : ℕ} (xs ys ps : List ℕ) {items : List Item} → command_at text p ≡ RunRaster → Within text 0 t xs → length xs ≡ before
      → Within text t q ys → length ys ≡ from → command_at text q ≡ LoopBack t → t ≤ q → Each (λ x. q < x) ps
      → Order text closing ps items → Order text closing (p ∷ (xs ++ (ys ++ (q ∷ ps)))) (Scan p t q before from ∷ items)

-- the commands from p up to p', and those that come after
record Stretch (text : List ℕ) (f p p' len : ℕ) : Type 0 where
  fuel : ℕ
  places : List ℕ
  are : starts text f p ≡ places ++ starts text fuel p'
  many : length places ≡ len
  within : Within text p p' places
  enough : length text ≤ p' + fuel

module _ (text : List ℕ) where
  next_start : (f p : ℕ) → length text ≤ p + f → 0 < size_at text p → (g : ℕ) × (starts text f p ≡ p ∷ starts text g (p + size_at text p)) × (length text ≤ p + size_at text p + g)
  next_start f p h z =
      let (l, w) = size-inside text p z in
      (f - 1, starts-on text f p (size_at text p) (λ e. omega arith) refl (λ e. omega arith), omega arith)

  starts-later : (f p : ℕ) → Each (λ x. p ≤ x) (starts text f p)
  unfolding starts
  starts-later zero p = tt
  starts-later (suc f) p = go (eqb (size_at text p) 0) (starts-later f (p + size_at text p))
    where
      go : (b : Bool) → Each (λ x. p + size_at text p ≤ x) (starts text f (p + size_at text p)) → Each (λ x. p ≤ x) (cond b [] (p ∷ starts text f (p + size_at text p)))
      go true ih = tt
      go false ih = (omega arith, each_map (λ x h. omega arith) (starts text f (p + size_at text p)) ih)

  one_more : (f p p' len : ℕ) → length text ≤ p + f → (0 < size_at text p) × Inner text p → p + size_at text p ≤ p'
      → ((g : ℕ) → length text ≤ p + size_at text p + g → Stretch text g (p + size_at text p) p' len) → Stretch text f p p' (suc len)
  one_more f p p' len h (z, i) l rest =
      let (g, e, k) = next_start f p h z in
      let d = rest g k in
      record {
        fuel = d.fuel;
        places = p ∷ d.places;
        are = e ∙ ap (λ (ps : List ℕ). p ∷ ps) d.are;
        many = ap suc d.many;
        within = ((i, omega arith, omega arith), each_map (λ x (j, a, b). (j, omega arith, b)) d.places d.within);
        enough = d.enough;
      }

line-order : {E : Env} {text : List ℕ} {r p c len p' c' : ℕ} → Line E text r p c len p' c' → (f : ℕ) → length text ≤ p + f → Stretch text f p p' len
line-order stop f h = record { fuel = f; places = []; are = refl; many = refl; within = tt; enough = h }
line-order {E} {text} {r} {p'} (delay {p} {c} {len} j l) f h =
    one_more text f p p' len h (by-judge E text p _ Waits tt (j 0)) (hops-le (line-hops l)) (λ g k. line-order l g k)
line-order {E} {text} {r} {p'} (expose {p} {c} {len} j y l) f h =
    one_more text f p p' len h (by-judge E text p _ (Exposes (place_at r)) tt (j 0)) (hops-le (line-hops l)) (λ g k. line-order l g k)

body-order : {E : Env} {text : List ℕ} {p e : ℕ} {items : List Item} {closing : Closing} → Body E text p items (closed e closing) → (f : ℕ) → length text ≤ p + f
    → Order text closing (starts text f p) items
body-order {E} {text} (closes {p} closing j) f h =
    let (z, i) = by-judge E text p None (closing_act closing) (closing-inner closing) j in
    let (g, e, k) = next_start text f p h z in
    let (there, command) = closes-last E text p closing j (view_of E text p None (closing_act closing) j) in
    let none : size_at text (p + size_at text p) ≡ 0 = rw there (none_last text) in
    let same = e ∙ ap (λ (ps : List ℕ). p ∷ ps) (starts-off text g (p + size_at text p) (size_at text (p + size_at text p)) refl none) in
    subst (λ (ps : List ℕ). Order text closing ps []) (sym same) (last i command)
body-order {E} {text} {closing} (pauses {p} {items} j b) f h =
    let (z, i) = by-judge E text p None Waits tt j in
    let (g, e, k) = next_start text f p h z in
    subst (λ (ps : List ℕ). Order text closing ps (Pause p ∷ items)) (sym e) (pause i (body-order b g k))
body-order {E} {text} {closing} (scans {p} {t} {b = q} {before} {from} {items} R b) f h =
    let (g, e, k) = next_start text f p h (opens-size E text p R.run) in
    let first = line-order R.first g k in
    let again = line-order R.again first.fuel first.enough in
    let (z, back) = loops-there E text q _ t (view_of E text q _ (Loops t) (R.loops 0)) in
    let (g', e', k') = next_start text again.fuel q again.enough z in
    let rest = starts text g' (q + size_at text q) in
    let same = e ∙ ap (λ (ps : List ℕ). p ∷ ps) (first.are ∙ ap (λ (ps : List ℕ). first.places ++ ps) (again.are ∙ ap (λ (ps : List ℕ). again.places ++ ps) e')) in
    subst (λ (ps : List ℕ). Order text closing ps (Scan p t q before from ∷ items)) (sym same)
    (raster first.places again.places rest (opens-command E text p R.run) (each_map (λ x (i, a, c). (i, omega arith, c)) first.places first.within) first.many
    again.within again.many back (hops-le (line-hops R.again))
    (each_map (λ x a. omega arith) rest (starts-later text g' (q + size_at text q))) (body-order b g' k'))

-- counted on from place 4
pub text-order : {E : Env} {text : List ℕ} {e : ℕ} {items : List Item} {closing : Closing} → Body E text 4 items (closed e closing) → Order text closing (starts_of text) items
unfolding starts_of
text-order {text} b = body-order b (length text) (omega arith)

-- ── the rasters among them
-- the places of the rasters among items
abbrev pub scans_of : List Item → List ℕ
scans_of [] = []
scans_of (Pause p ∷ items) = scans_of items
scans_of (Scan p t b before from ∷ items) = p ∷ scans_of items

rasters-past : (text : List ℕ) (a b : ℕ) (xs ps : List ℕ) → Within text a b xs → rasters_among text (xs ++ ps) ≡ rasters_among text ps
rasters-past text a b [] ps w = refl
rasters-past text a b (x ∷ xs) ps ((i, _, _), w) = rw i.0 (rasters-past text a b xs ps w)

rasters-in : {text : List ℕ} {closing : Closing} {ps : List ℕ} {items : List Item} → Order text closing ps items → rasters_among text ps ≡ scans_of items
rasters-in (last i k) = rw i.0
rasters-in (pause i o) = rw i.0 (rasters-in o)
rasters-in {text} (raster {p} {t} {q} xs ys ps run f _ g _ back l later o) =
    rw run (ap (λ (rs : List ℕ). p ∷ rs) (rasters-past text 0 t xs (ys ++ (q ∷ ps)) f ∙ rasters-past text t q ys (q ∷ ps) g ∙ rw back (rasters-in o)))

pub rasters-of : {E : Env} {text : List ℕ} {e : ℕ} {items : List Item} {closing : Closing} → Body E text 4 items (closed e closing) → rasters_among text (starts_of text) ≡ scans_of items
rasters-of b = rasters-in (text-order b)

-- ── the last of them
last-append : (d : ℕ) (xs ys : List ℕ) → last_of d (xs ++ ys) ≡ last_of (last_of d xs) ys
last-append d [] ys = refl
last-append d (x ∷ xs) ys = last-append x xs ys

closes-with : {text : List ℕ} {closing : Closing} {ps : List ℕ} {items : List Item} → Order text closing ps items → (d : ℕ) → command_at text (last_of d ps) ≡ command_of closing
closes-with (last i k) d = k
closes-with (pause {p} i o) d = closes-with o p
closes-with {text} (raster {p} {q} xs ys ps run f _ g _ back l later o) d =
    ap (command_at text) (last-append p xs (ys ++ (q ∷ ps)) ∙ last-append (last_of p xs) ys (q ∷ ps)) ∙ closes-with o q

pub closing-of : {E : Env} {text : List ℕ} {e : ℕ} {items : List Item} {closing : Closing} → Body E text 4 items (closed e closing) → closing_of text ≡ command_of closing
closing-of b = closes-with (text-order b) 0
