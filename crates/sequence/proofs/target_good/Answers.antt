-- What is found from here is what is found from place 4, as long as the raster lies ahead. The measure is what is left of the text.
use Rattle.std.proofs.Common.{◌≡◌, ℕ, ◌+◌, Bool, false, List, sym, refl, ap, ◌∙◌, arith, le-ltb, lt-ltb}
use Rattle.sequence.specs.Text.{size_of, size_at}
use Rattle.sequence.specs.Starts.{target_good, starts_of}
use Rattle.sequence.proofs.Targets.{leads, leads-off, leads-before}
use Rattle.sequence.proofs.target_good.Goals as goal
use Rattle.sequence.proofs.target_good.Goals.{In-loop-at}

-- ── a turn of the loop, whatever the command's branch
module _ (turn : In-loop-at) where
  abbrev text : List ℕ
  text = turn.args.text.now

  abbrev at : ℕ
  at = turn.loop-at.at

  abbrev raster : ℕ
  raster = turn.index-raster.result

  abbrev leads_from : ℕ → Bool
  leads_from = leads text raster turn.args.q.0 turn.args.t false

  -- where no command stands the answer is no, and past one it is what it was
  stops : (size : ℕ) → size ≡ size_at text at → size ≡ 0 → false ≡ target_good text turn.args.r.0 turn.args.q.0 turn.args.t
  stops size e z =
      let l = turn.if-target-raster.false in
      sym (turn.loop-at.invariant ∙ leads-off _ _ _ _ false at size (omega arith) e z)
      ∙ ap (λ (r : ℕ). target_good text r turn.args.q.0 turn.args.t) turn.index-raster.ensures.0

  goes_on : (size : ℕ) → size ≡ size_at text at → (size ≡ 0 → ⊥) → target_good text raster turn.args.q.0 turn.args.t ≡ leads_from (at + size)
  goes_on size e z = turn.loop-at.invariant ∙ leads-before _ _ _ _ at size e z turn.if-target-raster.false turn.loop-at-test.true

-- a command takes its row's bytes
row-size : (op bytes number size byte here : ℕ) → size_of op ≡ bytes → number ≡ byte → size ≡ here → size ≡ size_of byte → number ≡ op → bytes ≡ here
row-size op bytes number size byte here a b c d e = cc

pub returns-then-target-raster : goal.returns-then-target-raster
unfolding target_good
returns-then-target-raster c = simp (← c.index-raster.ensures.0, le-ltb _ _ c.if-target-raster.true)

pub loop-at-init : goal.loop-at-init
unfolding target_good starts_of
loop-at-init c = rw (lt-ltb _ _ c.if-target-raster.false)

pub returns-then-size_at-eq0 : goal.returns-then-size_at-eq0
returns-then-size_at-eq0 c = stops (goal.at.returns-then-size_at-eq0 c).In-loop-at _ c.size_at.ensures.value c.if-size_at-eq0.true

pub loop-at-preserved-then-number : goal.loop-at-preserved-then-number
unfolding size_of
loop-at-preserved-then-number c = let size = c.size_at.ensures in
    goes_on (goal.at.loop-at-preserved-then-number c).In-loop-at 23
    (row-size 144 23 _ _ _ _ refl c.byte-number.ensures size.value (size.whole c.if-size_at-eq0.false).0 c.if-number.true) (λ z. omega arith)

pub returns-then-size_at-eq0-2 : goal.returns-then-size_at-eq0-2
returns-then-size_at-eq0-2 c = stops (goal.at.returns-then-size_at-eq0-2 c).In-loop-at _ c.size_at-then-number-2.ensures.value c.if-size_at-eq0-2.true

pub loop-at-preserved-then-number-2 : goal.loop-at-preserved-then-number-2
unfolding size_of
loop-at-preserved-then-number-2 c = let size = c.size_at-then-number-2.ensures in
    goes_on (goal.at.loop-at-preserved-then-number-2 c).In-loop-at 3
    (row-size 145 3 _ _ _ _ refl c.byte-number.ensures size.value (size.whole c.if-size_at-eq0-2.false).0 c.if-number-2.true) (λ z. omega arith)

pub returns-then-size-eq0 : goal.returns-then-size-eq0
returns-then-size-eq0 c = stops (goal.at.returns-then-size-eq0 c).In-loop-at _ c.size_at-size.ensures.value c.if-size-eq0.true

pub loop-at-preserved : goal.loop-at-preserved
loop-at-preserved c = goes_on (goal.at.loop-at-preserved c).In-loop-at _ c.size_at-size.ensures.value c.if-size-eq0.false
