-- What is left to be XORed gives the whole answer; the count is that of the place; what is seen are the marks of the windows whose
-- headers stand before it.
use Rattle.std.proofs.Common.{◌≡◌, drop}
use Rattle.octets.specs.Bytes.{xor_on}
use Rattle.sequence.proofs.Windows.{count_at, Seen}
use Rattle.sequence.proofs.walk_list.Given as goal

abbrev pub invariant-loop-byte : goal.invariant-loop-byte
invariant-loop-byte l = record {
  xored : xor_on l.sum (drop l.byte-index l.list) ≡ xor_on l.start l.list;
  counted : l.count ≡ count_at l.byte-index;
  seen : Seen l.list l.seen l.byte-index;
}
