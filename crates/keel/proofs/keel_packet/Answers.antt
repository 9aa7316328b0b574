-- The bytes refused, or the unit's answer with what it changed written.
use mathlib.Core.Path.{refl, ◌∙◌}
use borrow.Author.Rules.{rules}
use Rattle.memory.specs.Memory.{format_of}
use Rattle.keel.proofs.Laws.{refused_some, refused_none}
use Rattle.keel.proofs.Ways.{whole, short, held_back, answered}
use Rattle.keel.proofs.keel_packet.Goals as goal

pub returns-in-Some : goal.returns-in-Some
returns-in-Some c =
    let a = c.args in
    let (told, some) = refused_some _ c.in-Some.code _ c.refusal.ensures c.in-Some.is in
    let w = held_back (format_of a.kind) a.state.now a.time a.seqs.now a.lists.now a.out.now a.packet.now _ _ c.lent_wrong.ensures told some in
    record { value = c.into.ensures ∙ w.0; state_after = w.1.0; seqs_after = w.1.1.0; lists_after = w.1.1.1.0; out_after = w.1.1.1.1 }

pub answer_of-requires : goal.answer_of-requires
answer_of-requires c = let a = c.args in
    short (format_of a.kind) c.unit_of-unit.result a.time a.seqs.now a.lists.now a.out.now a.packet.now c.packet-answer.result c.packet-answer.ensures.value

pub returns : goal.returns
returns c =
    let a = c.args in
    let none = refused_none _ _ c.refusal.ensures c.in_default.not-Some in
    let x = answered (format_of a.kind) a.state.now a.time a.seqs.now a.lists.now a.out.now a.packet.now _ _ c.lent_wrong.ensures refl none c.unit_of-unit.result (whole a.state.now _ _ c.runner_of.ensures c.unit_of-unit.ensures) c.packet-answer.result _ _ _ (c.packet-answer.ensures.value, (c.packet-answer.ensures.seqs_after, (c.packet-answer.ensures.lists_after, c.packet-answer.ensures.out_after))) _ (λ i. search rules) c.save_answer.ensures in
    record { value = c.answer_of.ensures ∙ x.0; state_after = x.1.0; seqs_after = x.1.1.0; lists_after = x.1.1.1.0; out_after = x.1.1.1.1 }
