-- The line list's card is the definition's but for marks that no flag needs.
use mathlib.Core.Path.{◌≡◌, ap, ◌∙◌}
use mathlib.Core.Bool.{Bool}
use Rattle.sequence.specs.Raster.{needs_mark}
use Rattle.sequence.specs.LineList.{card_with}
use Rattle.sequence.specs.Env.{cards_lent}
use Rattle.runner.specs.Judge.{run_rows}
use Rattle.runner.proofs.Laws.{raster_rows_of}
use Rattle.runner.proofs.run_fault.Goals as goal

pub returns : goal.returns
unfolding run_rows
returns c =
    let a = c.args in
    let raster = c.raster_at-raster.result in
    let cards = cards_lent a.lent a.lists.now in
    let is : c.card_of-card.result ≡ card_with (needs_mark raster.science) (cards raster.list) =
    c.card_of-card.ensures ∙ ap (λ (wanted : Bool). card_with wanted (cards raster.list)) c.needs_mark-wanted.ensures in
    rw (← c.if-elsewhere.ensures, c.raster_fault.ensures, raster_rows_of cards raster _ is c.repeat_begun.result, c.repeat_begun.ensures, c.raster_at-raster.ensures)
