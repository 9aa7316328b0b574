-- `Unit::reply` meets its contract: the output has room for every dump. Assumes nothing.
use Rattle.std.proofs.Common.{ap, length, arith}
use Rattle.std.proofs.lemmas.Grind.{common_steps}
use Rattle.telecommand.proofs.Ways.{dump-short}
use Rattle.unit.specs.Answer.{reply}
use Rattle.unit.proofs.Unit.reply.Goals as goal

pub returns-in-Dump : goal.returns-in-Dump
unfolding reply
returns-in-Dump c =
    let a = c.args in
    let short = dump-short a.seqs.now a.lists.now a.pkt.now in
    let size = ap length c.dumped-part.ensures in
    grind (arith, common_steps)
