-- `Unit::own_fault` meets its contract: what a mode change and an uplink are refused for is the same in either format. Assumes nothing.
use Rattle.unit.proofs.Unit.own_fault.Goals as goal

pub returns-in-Mode : goal.returns-in-Mode
returns-in-Mode c = rw c.in-Mode.is (c.mode_fault.ensures c.args.format)

pub returns-in-Uplink : goal.returns-in-Uplink
returns-in-Uplink c = rw c.in-Uplink.is (c.uplink_fault.ensures c.args.format)
