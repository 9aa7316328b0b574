-- The bytes of the digits so far are laid.
use Prim.Native.Nat.{◌*◌}
use mathlib.Core.Path.{◌≡◌}
use lib.ListN.{length, drop}
use Rattle.line.specs.Digits.{bytes_in}
use Rattle.line.specs.Writing.{put_over}
use Rattle.line.proofs.read_packet.Given as goal

abbrev pub invariant-loop-i : goal.invariant-loop-i
invariant-loop-i l =
    let done = length l.yielded in
    put_over l.packet done (bytes_in (drop (2 * done) l.line)) ≡ put_over l.initial.packet 0 (bytes_in l.line)
