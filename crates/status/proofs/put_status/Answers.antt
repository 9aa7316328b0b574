-- `put_status` meets its contract: where the output has room the status stands over its start, by `over-start`. Assumes nothing.
use Rattle.std.proofs.Common.{rules}
use Rattle.status.proofs.Ways.{over-start}
use Rattle.status.proofs.put_status.Goals as goal

pub returns-in-Some : goal.returns-in-Some
returns-in-Some c =
    let a = c.args in
    over-start a.ledger a.control a.watch a.runner a.time a.out.now _ (search rules) c.fill.ensures
