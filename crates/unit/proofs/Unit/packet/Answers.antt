-- `Unit::packet` meets its contract: an output that is not refused has room for the reply. Assumes nothing.
use Rattle.std.proofs.Common.{sym}
use Rattle.memory.specs.Memory.{format_of}
use Rattle.unit.proofs.Laws.{lent-right, room}
use Rattle.unit.proofs.Unit.packet.Goals as goal

pub reply-size-requires : goal.reply-size-requires
reply-size-requires c =
    let a = c.args in
    let F = format_of a.kind in
    room F a.seqs.now a.lists.now a.out.now (lent-right F a.self a.seqs.now a.lists.now a.out.now a.pkt.now (sym c.in-Ok.ensures.code))
