-- The chain lists the names so far, none of them with a wrong card; what they and the rest come to is the whole.
use Prim.Native.Nat.{ℕ, ◌+◌, ◌≤◌, ◌<◌, ◌^◌}
use native.Mathlib.Omega.{arith}
use mathlib.Core.Path.{◌≡◌, refl, sym, ap, subst, ◌∙◌}
use mathlib.Core.Bool.{true}
use mathlib.Core.List.{List}
use lib.ListN.{set}
use Rattle.std.specs.Prelude.{Some, Ok}
use Rattle.memory.specs.declared.Format.{Format}
use Rattle.memory.proofs.Laws.{fair-of}
use Rattle.survey.specs.declared.Chain.{Chain}
use Rattle.survey.specs.declared.Closed.{Closed}
use Rattle.survey.specs.declared.Ending.TheVariants.{Finishes, Returns, Faults}
use Rattle.survey.proofs.Chains.{room, free-start}
use Rattle.summary.specs.Summary.{card_in}
use Rattle.survey.specs.Held.{reported_as}
use Rattle.summary.specs.Held.{said_of}
use Rattle.summary.proofs.Chains.{Way, way-start, wrong-out, fault-out, sums-fit, end-out, call_below, back-out, way_on}
use Rattle.summary.proofs.follow.Goals as goal
use Rattle.summary.proofs.follow.Goals.{After-said_by, In-Some-Ok}

-- what is known past the card
module _ (y : After-said_by) where
  abbrev F : Format
  F = y.args.format

  abbrev s : List ℕ
  s = y.args.summary.now

  abbrev chain : Chain
  chain = y.loop-at.chain

  abbrev n : ℕ
  n = y.loop-at.n

  way : Way F s y.args.first chain n
  way = y.loop-at.invariant.0

  place : chain.count ≡ y.loop-at.at
  place = y.loop-at.invariant.1

  -- the sequence listed at a place, with totals added
  abbrev with : ℕ → ℕ → ℕ → Chain
  with k steps exposures = record { listed = set chain.listed k n; marks = set chain.marks n true; count = k + 1; steps = steps; exposures = exposures }

  few : F.last ≤ 127
  few = (fair-of F y.requires.0.fill).last

  is-card : y.said_by.result ≡ said_of F (card_in s n)
  is-card = y.said_by.ensures ∙ ap (said_of F) y.card_at.ensures

-- and past one that closes
module _ (c : In-Some-Ok) where
  abbrev past : After-said_by
  past = (goal.at.In-Some-Ok c).After-said_by

  abbrev closed : Closed
  closed = c.in-Some-Ok.closed

  says : said_of (F past) (card_in (s past) (n past)) ≡ Some (Ok closed)
  says = sym (is-card past) ∙ c.in-Some-Ok.is ∙ ap Some c.in-Some-Ok.field-0-is

  abbrev grown : ℕ → Chain
  grown k = with past k ((chain past).steps + closed.steps) ((chain past).exposures + closed.exposures)

  sums : ((chain past).steps + closed.steps < 2 ^ 64) × ((chain past).exposures + closed.exposures < 2 ^ 64)
  sums = sums-fit (F past) (s past) _ (chain past) (n past) (way past) closed says

pub loop-at-init : goal.loop-at-init
loop-at-init c =
    let f = fair-of c.args.format c.requires.0.fill in
    (way-start c.args.format c.args.summary.now c.args.first _ c.empty-chain.ensures (free-start _ c.args.first c.empty-chain.ensures (omega (arith, c.requires.1, f.last))) c.requires.1, ap (λ (x : Chain). x.count) c.empty-chain.ensures)

pub returns-in-Some-Err : goal.returns-in-Some-Err
returns-in-Some-Err c =
    let y = (goal.at.returns-in-Some-Err c).After-said_by in
    let d = c.in-Some-Err in
    c.reported.ensures ∙ ap (λ (k : ℕ). reported_as (with y k (chain y).steps (chain y).exposures) (Faults (n y) d.fault d.reason)) (sym (place y))
    ∙ fault-out (F y) (s y) _ (chain y) (n y) (way y) d.fault d.reason (sym (is-card y) ∙ d.is ∙ ap Some d.field-0-is)

pub returns-in-None : goal.returns-in-None
returns-in-None c = let y = (goal.at.returns-in-None c).After-said_by in
    c.unlisted.ensures ∙ wrong-out (F y) (s y) _ (chain y) (n y) (way y) (sym (is-card y) ∙ c.in-None.is)

pub overflow_add-chain-in-loop-at : goal.overflow_add-chain-in-loop-at
overflow_add-chain-in-loop-at c = omega (arith, (sums (goal.at.overflow_add-chain-in-loop-at c).In-Some-Ok).0)

pub overflow_add-chain-in-loop-at-2 : goal.overflow_add-chain-in-loop-at-2
overflow_add-chain-in-loop-at-2 c = omega (arith, (sums (goal.at.overflow_add-chain-in-loop-at-2 c).In-Some-Ok).1)

pub returns-in-Terminates : goal.returns-in-Terminates
returns-in-Terminates c =
    let t = (goal.at.returns-in-Terminates c).In-Some-Ok in
    let y = past t in
    c.reported-in-Terminates.ensures ∙ ap (λ (k : ℕ). reported_as (grown t k) Finishes) (sym (place y)) ∙ end-out (F y) (s y) _ (chain y) (n y) (way y) (closed t) (says t) c.in-Terminates.is

pub bounds-chain-target : goal.bounds-chain-target
bounds-chain-target c =
    let t = (goal.at.bounds-chain-target c).In-Some-Ok in
    let y = past t in
    call_below (F y) (s y) _ (chain y) (n y) (way y) (closed t) (says t) _ c.in-CallsOn.is (few y)

pub returns-then-chain-target : goal.returns-then-chain-target
returns-then-chain-target c =
    let t = (goal.at.returns-then-chain-target c).In-Some-Ok in
    let y = past t in
    c.reported-then-chain-target.ensures ∙ ap (λ (k : ℕ). reported_as (grown t k) Returns) (sym (place y))
    ∙ back-out (F y) (s y) _ (chain y) (n y) (way y) (closed t) (says t) _ c.in-CallsOn.is (few y) c.if-chain-target.true

pub loop-at-preserved : goal.loop-at-preserved
loop-at-preserved c =
    let t = (goal.at.loop-at-preserved c).In-Some-Ok in
    let y = past t in
    let w = way_on (F y) (s y) _ (chain y) (n y) (way y) (closed t) (says t) _ c.in-CallsOn.is (few y) c.if-chain-target.false in
    (subst (λ (k : ℕ). Way (F y) (s y) y.args.first (grown t k) c.in-CallsOn.target) (place y) w, refl)

pub returns : goal.returns
returns c = let l = c.loop-at in let r = room l.chain l.n l.invariant.0.free in absurd (omega (arith, l.invariant.1))
