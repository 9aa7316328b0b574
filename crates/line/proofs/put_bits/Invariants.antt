-- What is laid so far, and the numbers of the bits that are left, are the whole text.
use Prim.Native.Nat.{◌+◌, ◌-◌, ℕ}
use mathlib.Core.Path.{◌≡◌}
use mathlib.Core.List.{List, ◌++◌}
use Rattle.line.specs.Writing.{Laid, members, bits_set}
use mathlib.Core.Bool.{false}
use Rattle.line.proofs.put_bits.Given as goal

abbrev pub invariant-loop-k : goal.invariant-loop-k
invariant-loop-k l =
    (text : List ℕ) × (Laid l.initial.out l.out l.at l.p text × (text ++ members l.others (bits_set l.bits (64 - l.k) (l.first + l.k)) ≡ members false (bits_set l.bits 64 l.first)))
