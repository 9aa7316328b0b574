-- The number so far is that of the bytes read, and has no more of them; there are at most eight.
use Rattle.std.proofs.Common.{◌^◌, ◌≡◌, length, ◌<◌, ◌≤◌}
use Rattle.octets.specs.Bytes.{number_at}
use Rattle.octets.proofs.number.Given as goal

abbrev pub invariant-loop-b : goal.invariant-loop-b
invariant-loop-b l = (l.n ≡ number_at l.b-items 0 l.b-index) × (l.n < 256 ^ l.b-index) × (length l.b-items ≤ 8)
