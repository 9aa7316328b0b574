-- The check of one sequence finds what the rules say, applied in text order. Assumes nothing.
use Rattle.std.specs.Prelude.{Ok, Err, Option, Some, None}
use Prim.Native.Nat.{ℕ, zero, suc, ◌+◌, ◌*◌, ◌≤◌}
use native.Mathlib.Omega.{arith}
use mathlib.Core.Path.{◌≡◌, refl, sym, subst, ◌∙◌}
use mathlib.Core.Bool.{Bool, true, false, cond, true≢false}
use mathlib.Core.List.{List, [], ◌∷◌, ◌++◌}
use mathlib.Core.Logic.{inl, inr}
use lib.Dec.{ltb, eqb}
use lib.ListN.{length}
use borrow.Author.Tests.{eqb-true, eqb-false}
use Rattle.octets.specs.Bytes.{byte_at}
use Rattle.octets.specs.Rows.{Row, row, first_code, NoneHolds, FirstBears}
use Rattle.octets.proofs.Laws.{none-holds, first-bears}
use Rattle.sequence.specs.declared.Command.{Command}
use Rattle.sequence.specs.declared.Command.TheVariants.{RunRaster, Expose, LoopBack, CallSequence, Terminate, Delay, Nothing, Unknown, Unfit}
use Rattle.memory.specs.Memory.{place_at}
use Rattle.sequence.specs.Text.{fault, header_rows, header_place, header_by, header_of, command_at, size_of, size_at}
use Rattle.sequence.specs.Env.{Env}
use Rattle.runner.specs.declared.Opened.{Opened}
use Rattle.runner.specs.declared.Act.{Act}
use Rattle.runner.specs.declared.Act.TheVariants.{Refused}
use Rattle.runner.specs.Judge.{close_rows, judge}
use Rattle.survey.specs.declared.Item.{Item}
use Rattle.survey.specs.declared.Item.TheVariants.{Pause}
use Rattle.survey.specs.declared.Closing.TheVariants.{Terminates, CallsOn}
use Rattle.survey.specs.declared.Reason.TheVariants.{None}
use Rattle.survey.specs.Walk.{Finding, passes, faults, in_front, scan, paused, one_more, walked, walk, rounds, checked_by, check_one}
use Rattle.promises.specs.EachCheck.{rules_for, rules_at, open_after, is_closing, UpTo, there, next, Passes, Breaks}
use Rattle.promises.proofs.Text.Rules.{View, refused, opens, opens-again, exposes, loops, waits, calls, ends, view, size-some, judge-past, own_rows, tells}
use Rattle.promises.proofs.Text.TextOrder.{command_of}

-- ── the rule on a call above 127 comes last
module _ (E : Env) (text : List ℕ) (p : ℕ) where
  bears-more : (code : ℕ) (rs more : List Row) → FirstBears code rs → FirstBears code (rs ++ more)
  bears-more code [] more b = elim b [ ]
  bears-more code (r ∷ rs) more (inl b) = inl b
  bears-more code (r ∷ rs) more (inr (h, b)) = inr (h, bears-more code rs more b)

  none_more : (rs more : List Row) → NoneHolds rs → NoneHolds more → NoneHolds (rs ++ more)
  none_more [] more h g = g
  none_more (r ∷ rs) more (h, hs) g = (h, none_more rs more hs g)

  bears-last : (code : ℕ) (rs more : List Row) → NoneHolds rs → FirstBears code more → FirstBears code (rs ++ more)
  bears-last code [] more h b = b
  bears-last code (r ∷ rs) more (h, hs) b = inr (h, bears-last code rs more hs b)

  own-bears : (o : Option Opened) (code : ℕ) (k : Command) → FirstBears code (own_rows E text p o k) → FirstBears code (rules_for E text p o k)
  own-bears o code RunRaster b = b
  own-bears o code (Expose time) b = b
  own-bears o code (LoopBack target) b = b
  own-bears o code (CallSequence n) b = bears-more code (close_rows text p o) (row 4 (ltb E.format.last n) ∷ []) b
  own-bears o code Terminate b = b
  own-bears o code (Delay time) b = b
  own-bears o code Nothing b = b
  own-bears o code Unknown b = b
  own-bears o code Unfit b = b

  own-none : (o : Option Opened) (k : Command) → is_closing k ≡ false → NoneHolds (own_rows E text p o k) → NoneHolds (rules_for E text p o k)
  own-none o RunRaster c h = h
  own-none o (Expose time) c h = h
  own-none o (LoopBack target) c h = h
  own-none o (CallSequence n) c h = absurd (true≢false c)
  own-none o Terminate c h = h
  own-none o (Delay time) c h = h
  own-none o Nothing c h = h
  own-none o Unknown c h = h
  own-none o Unfit c h = h

-- ── the walk
-- what it finds from p on, where o is open
abbrev Walked : Env → List ℕ → ℕ → Option Opened → Finding → Type 0
Walked E text p o (passes k x items e closing) =
    (o' : Option Opened) × UpTo E text e o' p o × (command_at text e ≡ command_of closing) × NoneHolds (close_rows text e o')
Walked E text p o (faults f reason) = (o' : Option Opened) × UpTo E text f.place o' p o × FirstBears f.code (rules_at E text f.place o')

module _ (E : Env) (text : List ℕ) where
  -- an item in front changes nothing of it
  in-front : (p : ℕ) (o : Option Opened) (i : Item) (v : Finding) → Walked E text p o v → Walked E text p o (in_front text i v)
  in-front p o i (passes k x items e closing) w = w
  in-front p o i (faults f reason) w = w

  -- one command that passes, and the walk after it
  step-on : (p : ℕ) (o : Option Opened) (k : Command) → command_at text p ≡ k → is_closing k ≡ false → NoneHolds (own_rows E text p o (command_at text p)) → (v : Finding)
      → Walked E text (p + size_at text p) (open_after text p o k) v → Walked E text p o v
  step-on p o k e c h (passes k' x items q closing) (o', u, rest, none) =
      (o', next {p = p} {o = o} (rw e c) (own-none E text p o (command_at text p) (rw e c) h) (subst (λ (y : Command). UpTo E text q o' (p + size_at text p) (open_after text p o y)) (sym e) u), rest, none)
  step-on p o k e c h (faults f reason) (o', u, bears) =
      (o', next {p = p} {o = o} (rw e c) (own-none E text p o (command_at text p) (rw e c) h) (subst (λ (y : Command). UpTo E text f.place o' (p + size_at text p) (open_after text p o y)) (sym e) u), bears)

  module _ (f : ℕ) (go : ℕ → Option Opened → Finding) (ih : (p : ℕ) (o : Option Opened) → length text ≤ p + f → Walked E text p o (go p o)) where
    one-command : (p : ℕ) (o : Option Opened) (a : Act) → length text ≤ p + suc f → judge E.cards text p o ≡ a → View E text p o a → Walked E text p o (walked E.cards text go p o a)
    unfolding walked size_of
    one-command p o a h j (refused {code} b) = (o, there, own-bears E text p o code (command_at text p) (tells E text p o a j))
    one-command p o a h j (opens k g) =
        let z = size-some E text p RunRaster k (omega arith) in
        step-on p o RunRaster k refl (tells E text p o a j) (walked E.cards text go p o a) (ih (p + size_at text p) (Some (record { place = place_at p; count = 0; run = 0 })) (omega arith))
    one-command p o a h j (opens-again k g i e) =
        let z = size-some E text p RunRaster k (omega arith) in
        step-on p o RunRaster k refl (tells E text p o a j) (walked E.cards text go p o a) (ih (p + size_at text p) (Some (record { place = place_at p; count = 0; run = 0 })) (omega arith))
    one-command p o a h j (exposes {r} {c} {t} k l) =
        let z = size-some E text p (Expose t) k (omega arith) in
        step-on p o (Expose t) k refl (tells E text p o a j) (walked E.cards text go p o a) (ih (p + size_at text p) (one_more o) (omega arith))
    one-command p o a h j (loops {r} {c} {t} k l g) =
        let z = size-some E text p (LoopBack t) k (omega arith) in
        step-on p o (LoopBack t) k refl (tells E text p o a j) (walked E.cards text go p o a) (in-front (p + size_at text p) None (scan text r.0 t p) (go (p + size_at text p) None) (ih (p + size_at text p) None (omega arith)))
    one-command p o a h j (waits {t} k) =
        let z = size-some E text p (Delay t) k (omega arith) in
        step-on p o (Delay t) k refl (tells E text p o a j) (walked E.cards text go p o a) (pause o (go (p + size_at text p) o) (ih (p + size_at text p) o (omega arith)))
      where
        pause : (o : Option Opened) (v : Finding) → Walked E text (p + size_at text p) o v → Walked E text (p + size_at text p) o (paused text p o v)
        pause None v w = in-front (p + size_at text p) None (Pause p) v w
        pause (Some o) v w = w
    one-command p o a h j (calls k) = (o, there, k, subst (λ (y : Command). NoneHolds (own_rows E text p o y)) k (tells E text p o a j))
    one-command p o a h j (ends k) = (o, there, k, subst (λ (y : Command). NoneHolds (own_rows E text p o y)) k (tells E text p o a j))

  in_order : (f p : ℕ) (o : Option Opened) → length text ≤ p + f → Walked E text p o (walk E.cards text f p o)
  unfolding walk
  in_order zero p o h = (o, there, own-bears E text p o 3 (command_at text p) (tells E text p o (Refused 3) (judge-past E text p o (omega arith))))
  in_order (suc f) p o h = one-command f (λ p' o'. walk E.cards text f p' o') (λ p' o' l. in_order f p' o' l) p o (judge E.cards text p o) h refl (view E text p o)

  -- ── one sequence
  abbrev pub Checked : Finding → Type 0
  Checked (passes k x items e closing) = Passes E text
  Checked (faults f reason) = Breaks E text f.code f.place

  all-rounds : (q : ℕ) (v : Finding) → NoneHolds (header_rows text) → Walked E text 4 None v → Checked (rounds E.format q v)
  all-rounds q (passes k x items e Terminates) h (o, u, c, n) = record { header = h; last = e; held = o; before = u; closes = rw c; obeyed = rw c n }
  all-rounds q (passes k x items e (CallsOn m)) h (o, u, c, n) = go (ltb E.format.last m) refl
    where
      go : (b : Bool) → ltb E.format.last m ≡ b → Checked (cond b (faults (fault 4 e) None) (passes (1 + q * k) (q * x) items e (CallsOn m)))
      go true l = inr (record { header = h; held = o; before = u; broken = rw c (bears-last E text e 4 (close_rows text e o) (row 4 (ltb E.format.last m) ∷ []) n (inl (l, refl))) })
      go false l = record { header = h; last = e; held = o; before = u; closes = rw c; obeyed = rw c (none_more E text e (close_rows text e o) (row 4 (ltb E.format.last m) ∷ []) n (l, tt)) }
  all-rounds q (faults f reason) h (o, u, b) = inr (record { header = h; held = o; before = u; broken = b })

  by-header : (code : ℕ) → first_code (header_rows text) ≡ code → Checked (checked_by E text (header_by (byte_at text 3) code))
  unfolding header_rows
  by-header code e = go (eqb code 0) refl
    where
      go : (b : Bool) → eqb code 0 ≡ b → Checked (checked_by E text (cond b (Ok (byte_at text 3)) (Err (fault code (header_place code)))))
      go true z = all-rounds (byte_at text 3) (walk E.cards text (length text) 4 None) (none-holds (header_rows text) tt (e ∙ eqb-true code 0 z)) (in_order (length text) 4 None (omega arith))
      go false z = inl (first-bears (header_rows text) code (omega (arith, eqb-false code 0 z)) e, refl)

  pub one-checked : (v : Finding) → check_one E text ≡ v → Checked v
  unfolding check_one header_of
  one-checked v e = subst Checked e (by-header (first_code (header_rows text)) refl)
