-- One card more is worked out.
use Prim.Native.Nat.{ℕ, ◌+◌, ◌*◌}
use native.Mathlib.Omega.{arith}
use mathlib.Core.Path.{◌≡◌, refl, ap, subst, ◌∙◌}
use mathlib.Core.Bool.{true}
use mathlib.Core.Logic.{inl}
use Rattle.memory.specs.Memory.{written}
use Rattle.summary.specs.Summary.{line_card}
use Rattle.summary.specs.Held.{Lines}
use Rattle.summary.proofs.Writing.{line-card, line-long, renewed_step}
use Rattle.summary.proofs.renew_lines.Goals as goal
use Rattle.summary.proofs.renew_lines.Goals.{After-write}

step : (c : After-write) → Lines c.args.lists.now c.args.first (c.loop-k.k + 1) c.args.lines.now c.write.new.table
step c =
    let l = c.loop-k in
    let lists = c.args.lists.now in
    let card = line-card lists _ l.k _ _ c.list.ensures c.list_card.ensures c.card_bytes-card.ensures in
    renewed_step 4 (line_card lists) (λ k. true) c.args.first c.args.lines.now l.k l.lines l.invariant l.auto.k _ true refl (line-long lists l.k) (omega (arith, c.requires))
    (inl (refl, c.write.ensures ∙ ap (written l.lines (l.k * 4)) card))

pub loop-k-preserved : goal.loop-k-preserved
loop-k-preserved c = step (goal.at.loop-k-preserved c).After-write

pub returns-2 : goal.returns-2
returns-2 c =
    let e : c.loop-k.k ≡ c.args.last = omega arith in
    subst (λ (k : ℕ). Lines c.args.lists.now c.args.first (k + 1) c.args.lines.now c.write.new.table) e (step (goal.at.returns-2 c).After-write)
