-- 16 of no kind; else what the check of the text in the kind's format found, and its fault's reason.
use Rattle.std.proofs.Common.{refl, sym}
use Rattle.memory.proofs.Laws.{kind-fills, no_kind}
use Rattle.memory.specs.Memory.{format_of}
use Rattle.sequence.specs.Env.{cards_lent}
use Rattle.survey.proofs.Apart.{alone-none, alone-fault, alone-closed}
use Rattle.survey.proofs.taken_alone.Goals as goal

pub returns-then-kind-gt-BENCH : goal.returns-then-kind-gt-BENCH
returns-then-kind-gt-BENCH c = sym (alone-none _ _ _ (no_kind _ c.if-kind-gt-BENCH.true))

pub of-text-requires : goal.of-text-requires
of-text-requires c = rw c.of.ensures (kind-fills _ c.if-kind-gt-BENCH.false)

pub returns-in-Err : goal.returns-in-Err
returns-in-Err c =
    let a = c.args in
    let t = c.of-text.ensures in
    let f = rw (t.fields.0, t.fields.1, t.fields.2, t.cut, c.of.ensures) at c.check-surveyed.ensures in
    let r = rw (t.fields.1, t.fields.2, t.cut, c.of.ensures) at c.reason_for.ensures in
    alone-fault (format_of a.kind) (cards_lent a.lent a.lists.now) _ (kind-fills _ c.if-kind-gt-BENCH.false) a.text.now refl _ _ f.found_value f.tested_value _ c.in-Err.is _ r

pub returns-in-Ok : goal.returns-in-Ok
returns-in-Ok c =
    let a = c.args in
    let t = c.of-text.ensures in
    let f = rw (t.fields.0, t.fields.1, t.fields.2, t.cut, c.of.ensures) at c.check-surveyed.ensures in
    alone-closed (format_of a.kind) (cards_lent a.lent a.lists.now) _ (kind-fills _ c.if-kind-gt-BENCH.false) a.text.now refl _ _ f.found_value f.tested_value _ c.in-Ok.is
