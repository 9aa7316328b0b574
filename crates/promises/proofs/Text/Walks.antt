-- What the check's walk of a text finds is a derivation with that many steps and exposures.
-- Assumes nothing.
use Rattle.std.specs.Prelude.{Result, Ok, Err, Option, Some, None}
use Prim.Native.Nat.{ℕ, zero, suc, ◌+◌, ◌*◌, ◌≤◌, ◌<◌}
use native.Mathlib.Omega.{arith}
use mathlib.Core.Path.{◌≡◌, refl, ap, subst}
use mathlib.Core.List.{List, [], ◌∷◌}
use lib.Dec.{ltb}
use lib.ListN.{length}
use borrow.Author.Tests.{ltb-true, ltb-false}
use Rattle.octets.specs.Bytes.{byte_at}
use Rattle.octets.proofs.Bools.{choice}
use Rattle.memory.specs.Memory.{place_at}
use Rattle.sequence.specs.declared.Command.TheVariants.{LoopBack}
use Rattle.sequence.specs.declared.Fault.{Fault}
use Rattle.sequence.specs.Text.{fault, header_of, size_at, size_of}
use Rattle.sequence.specs.Raster.{raster_at}
use Rattle.sequence.specs.Env.{Env}
use Rattle.sequence.proofs.Laws.{size-inside}
use Rattle.sequence.proofs.Hops.{here, hops-le, hops-snoc, hops-add}
use Rattle.runner.specs.declared.Opened.{Opened}
use Rattle.runner.specs.declared.Act.{Act}
use Rattle.runner.specs.declared.Act.TheVariants.{Opens, Loops}
use Rattle.runner.specs.Judge.{set_of, judge}
use Rattle.survey.specs.declared.Item.{Item}
use Rattle.survey.specs.declared.Item.TheVariants.{Pause, Scan}
use Rattle.survey.specs.declared.Closing.{Closing}
use Rattle.survey.specs.declared.Closing.TheVariants.{Terminates, CallsOn}
use Rattle.survey.specs.Items.{steps_of, exposures_of}
use Rattle.survey.specs.declared.Reason.{Reason}
use Rattle.survey.specs.Walk.{Finding, passes, faults, in_front, commands, walked, walk, rounds, checked_by, check_one}
use Rattle.survey.proofs.Counts.{Start, commands-hops}
use Rattle.promises.proofs.Text.Sound.{set-some}
use Rattle.promises.proofs.Text.Rules.{View, refused, opens, opens-again, exposes, loops, waits, calls, ends, view, opens-sound, header-case, judge-past, any_left, size-some, opens-size, waits-size, exposes-size}
use Rattle.promises.proofs.Text.Lines.{InRaster, Line, stop, Whole, End, closed, faulty, Body, closes, wrong, torn, pauses, scans}
use Rattle.promises.proofs.Text.Targets.{line-hops, line-most, line-delay, line-expose, target-split}

-- where the walk is; what it will find is told from the first place: its own, or the open raster's
pub data Walking (E : Env) (text : List ℕ) : ℕ → ℕ → Option Opened → ℕ → Type 0 where
  outside : {p : ℕ} → Start text p → Walking E text p p None 0
  within : {r p c left len : ℕ} → Start text r → judge E.cards text r None ≡ Opens → Line E text r (r + size_at text r) 0 len p c → Walking E text r p (Some (record { place = place_at r; count = c; run = left })) len

-- what the walk has found from p on
unfoldable pub Found : Env → List ℕ → ℕ → Finding → Type 0
Found E text p (passes k x items e closing) = Body E text p items (closed e closing) × (k ≡ steps_of text items + 1) × (x ≡ exposures_of text items)
Found E text p (faults f reason) = (items : List Item) × Body E text p items (faulty f)

module _ (E : Env) (text : List ℕ) where
  start-next : {p : ℕ} → Start text p → 0 < size_at text p → Start text (p + size_at text p)
  start-next (n, h) z = (suc n, hops-snoc h z)

  start-line : {r p c len : ℕ} → Start text r → judge E.cards text r None ≡ Opens → Line E text r (r + size_at text r) 0 len p c → Start text p
  start-line {r} {len} s j l = let (n, h) = start-next s (opens-size E text r j) in (n + len, hops-add h (line-hops l))

  inside : {r p c len : ℕ} {a : Act} (left : ℕ) → judge E.cards text r None ≡ Opens → Line E text r (r + size_at text r) 0 len p c
      → judge E.cards text p (Some (record { place = place_at r; count = c; run = left })) ≡ a → InRaster E text r p c a
  inside {r} {p} {c} {a} left k l j other =
      let w = hops-le (line-hops l) in
      let y = opens-size E text r k in
      any_left E text p (place_at r) c left other a (omega arith) j

  found-item : {p p' : ℕ} (i : Item) → ((items : List Item) (end : End) → Body E text p' items end → Body E text p (i ∷ items) end)
      → (v : Finding) → Found E text p' v → Found E text p (in_front text i v)
  unfolding Found
  found-item i f (passes k x items e closing) (b, ek, ex) = (f items (closed e closing) b, omega arith, omega arith)
  found-item i f (faults w reason) (items, b) = (i ∷ items, f items (faulty w) b)

-- one command of the walk; `go` is the walk of the text after it, and `ih` what that finds
module _ (E : Env) (text : List ℕ) (f : ℕ) (go : ℕ → Option Opened → Finding)
    (ih : (r p : ℕ) (o : Option Opened) (len : ℕ) → Walking E text r p o len → length text ≤ p + f → Found E text r (go p o)) where
  -- the loop back of the raster at r: what stands before it is a whole raster
  found-scan : (r p c left t len : ℕ) → Start text r → judge E.cards text r None ≡ Opens → Line E text r (r + size_at text r) 0 len p c → length text ≤ p + suc f
      → InRaster E text r p c (Loops t) → View E text p (Some (record { place = place_at r; count = c; run = left })) (Loops t)
      → Found E text r (walked E.cards text go p (Some (record { place = place_at r; count = c; run = left })) (Loops t))
  unfolding walked size_of
  found-scan r p c left t len (a, s) k l h j (loops m z g) =
      let y = size-some E text p (LoopBack t) m (omega arith) in
      let full : c ≡ set_of (raster_at text r) = (let w = line-most l (omega arith) in omega arith) in
      let (before, hk, sp) = target-split E text r p t c len a s k l (let w = set-some (opens-sound E text r k) in omega arith) g in
      let again = line-hops sp.again in
      let inner = (size-inside text p y).0 in
      let past = hops-snoc s (opens-size E text r k) in
      let eb : commands text (r + size_at text r) t ≡ before = commands-hops past hk (let w = hops-le again in omega arith) in
      let er : commands text t p ≡ sp.from = commands-hops (hops-add past hk) again (omega arith) in
      let R : Whole E text r t p before sp.from =
      record {
        run = k;
        first = sp.first;
        again = subst (λ (x : ℕ). Line E text r t 0 sp.from p x) full sp.again;
        loops = subst (λ (x : ℕ). InRaster E text r p x (Loops t)) full j;
      } in
      rw (eb, er)
      (found-item E text (Scan r t p before sp.from) (λ items end b. scans R b) (go (p + size_at text p) None)
      (ih (p + size_at text p) (p + size_at text p) None 0 (outside (start-next E text (start-line E text (a, s) k l) y)) (omega arith)))

  found-next : (r p : ℕ) (o : Option Opened) (len : ℕ) (a : Act) → Walking E text r p o len → length text ≤ p + suc f → judge E.cards text p o ≡ a → View E text p o a
      → Found E text r (walked E.cards text go p o a)
  unfolding walked Found
  found-next r p o len a (outside s) h j (refused b) = ([], wrong j)
  found-next r p o len a (within {left} s k l) h j (refused b) = ([], torn k l (inside E text left k l j))
  found-next r p o len a (outside s) h j (opens m g) =
      let y = opens-size E text p j in
      ih p (p + size_at text p) (Some (record { place = place_at p; count = 0; run = 0 })) 0 (within s j stop) (omega arith)
  found-next r p o len a (within s k l) h j (opens-again m g i e) = (let w = hops-le (line-hops l) in let y = opens-size E text r k in absurd (omega arith))
  found-next r p o len a (within {c} {left} s k l) h j (exposes m z) =
      let y = exposes-size E text p o (place_at r) j in
      ih r (p + size_at text p) (Some (record { place = place_at r; count = c + 1; run = left })) (suc len) (within s k (line-expose l (inside E text left k l j) z)) (omega arith)
  found-next r p o len a (within {c} {left} s k l) h j (loops {t} m z g) = found-scan r p c left t len s k l h (inside E text left k l j) (loops m z g)
  found-next r p o len a (outside s) h j (waits m) =
      let y = waits-size E text p None j in
      found-item E text (Pause p) (λ items end b. pauses j b) (go (p + size_at text p) None)
      (ih (p + size_at text p) (p + size_at text p) None 0 (outside (start-next E text s y)) (omega arith))
  found-next r p o len a (within {left} s k l) h j (waits m) =
      let y = waits-size E text p o j in
      ih r (p + size_at text p) o (suc len) (within s k (line-delay l (inside E text left k l j))) (omega arith)
  found-next r p o len a (outside s) h j (calls {n} m) = (closes (CallsOn n) j, refl, refl)
  found-next r p o len a (outside s) h j (ends m) = (closes Terminates j, refl, refl)

pub found : (E : Env) (text : List ℕ) (f r p : ℕ) (o : Option Opened) (len : ℕ) → Walking E text r p o len → length text ≤ p + f → Found E text r (walk E.cards text f p o)
unfolding walk Found
found E text zero r p o len (outside s) h = ([], wrong (judge-past E text p None (omega arith)))
found E text zero r p o len (within s k l) h = ([], torn k l (λ left. judge-past E text p (Some (record { place = place_at r; count = _; run = left })) (omega arith)))
found E text (suc f) r p o len w h =
    found-next E text f (λ p' o'. walk E.cards text f p' o') (λ r' p' o' n' w' h'. found E text f r' p' o' n' w' h') r p o len (judge E.cards text p o) w h refl (view E text p o)

-- ── one sequence: what its check has read
-- a header that lets it be entered, and a closing command that calls no number past the last one
abbrev pub Entered : List ℕ → Type 0
Entered text = (0 < byte_at text 3) × (header_of text ≡ Ok (byte_at text 3))

abbrev pub Known : Env → Closing → Type 0
Known E Terminates = Unit {0}
Known E (CallsOn k) = k ≤ E.format.last

-- the text of one that passes, its steps and its exposures
abbrev pub Counted : Env → List ℕ → ℕ → ℕ → List Item → ℕ → Closing → Type 0
Counted E text k x items e closing =
    Body E text 4 items (closed e closing) × (k ≡ 1 + byte_at text 3 * (steps_of text items + 1)) × (x ≡ byte_at text 3 * exposures_of text items)

pub data Read (E : Env) (text : List ℕ) : Finding → Type 0 where
  whole : {k x e : ℕ} {items : List Item} {closing : Closing} → Entered text → Known E closing → Counted E text k x items e closing → Read E text (passes k x items e closing)
  broken : {f : Fault} {reason : Reason} {items : List Item} → Entered text → Body E text 4 items (faulty f) → Read E text (faults f reason)
  miscalls : {e t : ℕ} {reason : Reason} {items : List Item} → Entered text → Body E text 4 items (closed e (CallsOn t)) → E.format.last < t → Read E text (faults (fault 4 e) reason)
  barred : {f : Fault} {reason : Reason} → header_of text ≡ Err f → Read E text (faults f reason)

module _ (E : Env) (text : List ℕ) where
  read-rounds : Entered text → (v : Finding) → Found E text 4 v → Read E text (rounds E.format (byte_at text 3) v)
  unfolding Found
  read-rounds h (passes k x items e Terminates) (b, ek, ex) = whole h tt (b, ap (λ (y : ℕ). 1 + byte_at text 3 * y) ek, ap (λ (y : ℕ). byte_at text 3 * y) ex)
  read-rounds h (passes k x items e (CallsOn m)) (b, ek, ex) =
      choice (Read E text) (ltb E.format.last m) _ _ (λ l. miscalls h b (ltb-true E.format.last m l))
      (λ l. whole h (ltb-false E.format.last m l) (b, ap (λ (y : ℕ). 1 + byte_at text 3 * y) ek, ap (λ (y : ℕ). byte_at text 3 * y) ex))
  read-rounds h (faults f reason) (items, b) = broken h b

  pub read_one : Read E text (check_one E text)
  unfolding check_one
  read_one =
      header-case (λ (h : Result ℕ Fault). Read E text (checked_by E text h)) text
      (λ some h. read-rounds (some, h) (walk E.cards text (length text) 4 None) (found E text (length text) 4 4 None 0 (outside (0, here)) (omega arith)))
      (λ code place c l h. barred h)

  counted : {k x e : ℕ} {items : List Item} {closing : Closing} → Read E text (passes k x items e closing) → Counted E text k x items e closing
  counted (whole h w c) = c

  pub passed-read : {k x e : ℕ} {items : List Item} {closing : Closing} → check_one E text ≡ passes k x items e closing → Counted E text k x items e closing
  passed-read says = counted (subst (Read E text) says read_one)
