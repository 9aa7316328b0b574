-- Denied, idle, or what the event moves written: a law for each way out.
use mathlib.Core.Path.{refl, ◌∙◌, sym}
use borrow.Author.Rules.{rules}
use borrow.Author.Tests.{not-true}
use Rattle.memory.specs.Memory.{format_of}
use Rattle.keel.proofs.Laws.{refused_some, refused_none}
use Rattle.keel.proofs.Ways.{whole, step-held-back, denies, refuses, idles, moves-on}
use Rattle.keel.proofs.keel_step.Goals as goal

pub returns-in-Some : goal.returns-in-Some
returns-in-Some c =
    let a = c.args in
    let (told, some) = refused_some _ c.in-Some.code _ c.refusal.ensures c.in-Some.is in
    let x = step-held-back (format_of a.kind) a.state.now a.seqs.now a.lists.now _ _ c.tables_wrong.ensures told some in
    record { value = c.denied.ensures ∙ x.0; state_after = x.1 }

pub returns-then-out_of_range : goal.returns-then-out_of_range
returns-then-out_of_range c =
    let a = c.args in
    let none = refused_none _ _ c.refusal.ensures c.in_default.not-Some in
    let x = refuses (format_of a.kind) a.state.now a.seqs.now a.lists.now _ _ c.tables_wrong.ensures refl none c.unit_of-unit.result (whole a.state.now _ _ c.runner_of.ensures c.unit_of-unit.ensures) (not-true c.unit_of-unit.result.runner.running c.if-not-unit.true) (sym (rw c.of.ensures at c.out_of_range.ensures) ∙ c.if-out_of_range.true) in
    record { value = c.denied-then-out_of_range.ensures ∙ x.0; state_after = x.1 }

pub returns-then-not-unit : goal.returns-then-not-unit
returns-then-not-unit c =
    let a = c.args in
    let none = refused_none _ _ c.refusal.ensures c.in_default.not-Some in
    let x = idles (format_of a.kind) a.state.now a.seqs.now a.lists.now _ _ c.tables_wrong.ensures refl none c.unit_of-unit.result (whole a.state.now _ _ c.runner_of.ensures c.unit_of-unit.ensures) (not-true c.unit_of-unit.result.runner.running c.if-not-unit.true) (λ i. search rules) (sym (rw c.of.ensures at c.out_of_range.ensures) ∙ c.if-out_of_range.false) in
    record { value = x.0; state_after = x.1 }

pub returns-in-Ok : goal.returns-in-Ok
returns-in-Ok c =
    let a = c.args in
    let none = refused_none _ _ c.refusal.ensures c.in_default.not-Some in
    let x = moves-on (format_of a.kind) a.state.now a.seqs.now a.lists.now _ _ c.tables_wrong.ensures refl none c.unit_of-unit.result (whole a.state.now _ _ c.runner_of.ensures c.unit_of-unit.ensures) c.step-stepped.result c.step-stepped.ensures (λ i. search rules) _ c.in-Ok.is _ c.save_step.ensures in
    record { value = c.packed_event.ensures ∙ x.0; state_after = x.1 }

pub returns-in-Err : goal.returns-in-Err
returns-in-Err c =
    let a = c.args in
    let none = refused_none _ _ c.refusal.ensures c.in_default.not-Some in
    let x = denies (format_of a.kind) a.state.now a.seqs.now a.lists.now _ _ c.tables_wrong.ensures refl none c.unit_of-unit.result (whole a.state.now _ _ c.runner_of.ensures c.unit_of-unit.ensures) c.step-stepped.result c.step-stepped.ensures _ c.in-Err.is in
    record { value = c.denied-in-Err.ensures ∙ x.0; state_after = x.1 }
