-- A part that is copied over is its bytes set one after another, by `sets-eq`.
use Rattle.std.proofs.Common.{arith}
use Rattle.std.proofs.lemmas.Grind.{common_steps}
use Rattle.std.proofs.lemmas.List.Edits.{sets-eq}
use Rattle.status.proofs.put.Goals as goal

pub returns : goal.returns
returns g c = grind (arith, common_steps, sets-eq)
