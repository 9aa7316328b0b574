-- A number that is a place has that place's command, and past the text none stands.
use native.Mathlib.Omega.{arith}
use native.Mathlib.Nat.{le_trans}
use Rattle.survey.proofs.Laws.{placed-outside, none-outside}
use Rattle.survey.proofs.Text.past.Goals as goal

pub returns-in-None : goal.returns-in-None
returns-in-None c =
    let s = c.args.self in
    let h = none-outside s.bytes.now c.args.number (le_trans s.short (placed-outside s.format _ _ c.of.ensures c.in-None.is)) in
    omega arith
