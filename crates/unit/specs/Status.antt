-- The status of a unit.
use Rattle.std.specs.Prelude.{ℕ, List}
use Rattle.status.specs.Status.{status_bytes}
use Rattle.unit.specs.declared.Unit.{Unit}

unfoldable pub status_of : Unit → ℕ → List ℕ
status_of u time = status_bytes u.ledger u.control u.watch u.runner time
