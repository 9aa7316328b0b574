-- `Unit::command_of` meets its contract: where its shape or its own checks refuse a packet, no row before them does. Assumes nothing.
use Rattle.std.proofs.Common.{arith}
use Rattle.std.proofs.lemmas.Grind.{common_steps}
use Rattle.std.proofs.lemmas.Result.{err_from_is_err_and}
use Rattle.telecommand.specs.Packet.{shape_rows}
use Rattle.telecommand.proofs.Laws.{refused-above}
use Rattle.unit.specs.Packet.{own_rows, packet_rows, code_of}
use Rattle.unit.proofs.Laws.{first-kept}
use Rattle.unit.proofs.Unit.command_of.Goals as goal

pub returns-in_err-shape_fault-clause-code : goal.returns-in_err-shape_fault-clause-code
unfolding packet_rows code_of
returns-in_err-shape_fault-clause-code c =
    let a = c.args in
    let k = c.telecommand_of-command.result in
    let p = err_from_is_err_and c.from_residual.result c.from_residual.ensures.1 in
    let e = c.in_err-shape_fault.ensures {u = tt} in
    rw (p.1, p.2, e, ← first-kept (shape_rows k a.pkt.now) (own_rows c.of-format.result k a.self a.pkt.now) (rw (← e) (refused-above c.in_err-shape_fault.field-0.0))) (grind (arith, common_steps))

pub returns-in_err-own_fault-clause-code : goal.returns-in_err-own_fault-clause-code
unfolding packet_rows code_of
returns-in_err-own_fault-clause-code c =
    let p = err_from_is_err_and c.from_residual-in_err-own_fault.result c.from_residual-in_err-own_fault.ensures.1 in
    let e = c.in_err-own_fault.ensures {u = tt} in
    rw (p.1, p.2) (grind (arith, common_steps))
