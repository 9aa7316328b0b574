-- The demands, for the code: the contracts are equations with what the demands name. Assumes nothing.
use Rattle.promises.specs.TheCode.{PowerOnIs, PacketIs, StepIs, RunIs, CheckIs, StillIs, MakeIs, UpdateIs, CardsCheckIs, WindowCodeIs, WindowIs, OutOfRangeIs, TelecommandIs}

pub power-on-is : PowerOnIs
power-on-is κs args result exit learnt = learnt

pub packet-is : PacketIs
packet-is κs args result exit learnt = (learnt.0, learnt.1.0, learnt.1.1.0, learnt.1.1.1)

pub step_is : StepIs
step_is κs args result exit learnt = learnt

pub run_is : RunIs
run_is κs args result exit learnt = learnt

pub check-is : CheckIs
check-is κs args result exit learnt = learnt

pub still-is : StillIs
still-is κs args result exit learnt = learnt

pub make-is : MakeIs
make-is κs args result exit learnt = learnt

pub update-is : UpdateIs
update-is κs args result exit learnt = learnt

pub cards-check-is : CardsCheckIs
cards-check-is κs args result exit learnt = learnt

pub window-code-is : WindowCodeIs
window-code-is κs args result exit learnt = learnt

pub window-is : WindowIs
window-is κs args result exit learnt = learnt

pub out-of-range-is : OutOfRangeIs
out-of-range-is κs args result exit learnt = learnt

pub telecommand-is : TelecommandIs
telecommand-is κs args result exit learnt = learnt
