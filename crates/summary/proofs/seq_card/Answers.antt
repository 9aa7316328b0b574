-- What is known of the sequence, in bytes.
use mathlib.Core.Path.{◌≡◌, ap, ◌∙◌}
use Rattle.memory.specs.declared.Format.{Format}
use Rattle.memory.specs.Memory.{format_of, entry_of}
use Rattle.survey.specs.Report.{alone_of}
use Rattle.summary.specs.Card.{bytes_of}
use Rattle.sequence.specs.Env.{cards_kept}
use Rattle.summary.proofs.Writing.{seq-card}
use Rattle.summary.proofs.seq_card.Goals as goal

pub returns : goal.returns
returns c =
    let a = c.args in
    let F = format_of a.kind in
    let cards = cards_kept a.lines.now in
    let text : c.entry-text.result.now ≡ entry_of F a.seqs.now a.n = c.entry-text.ensures ∙ ap (λ (f : Format). entry_of f a.seqs.now a.n) c.of.ensures in
    c.card_of.ensures ∙ ap bytes_of (c.taken_alone.ensures ∙ ap (alone_of F cards) text) ∙ seq-card F cards a.seqs.now a.n c.requires
