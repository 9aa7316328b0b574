-- What a dump shows, for the functions above. Assumes nothing.
use Prim.Native.Nat.{ℕ, ◌≤◌}
use native.Mathlib.Omega.{arith}
use mathlib.Core.List.{List}
use lib.ListN.{length, length-take}
use Rattle.octets.specs.Bytes.{triple_at}
use Rattle.memory.specs.declared.Range.{Range}
use Rattle.memory.specs.declared.Range.TheVariants.{Sequences, LineLists, Wrong}
use Rattle.memory.specs.Memory.{part_of}
use Rattle.memory.proofs.Laws.{Fits, range-fits}
use Rattle.telecommand.specs.Packet.{dump_range}

part-short : (seqs lists : List ℕ) (len : ℕ) (r : Range) → Fits len r → length (part_of seqs lists len r) ≤ 16384
part-short seqs lists len (Sequences at) f = simp length-take (omega arith)
part-short seqs lists len (LineLists at) f = simp length-take (omega arith)
part-short seqs lists len Wrong f = omega arith

-- what a dump shows is never longer than the least output that is lent
pub dump-short : (seqs lists p : List ℕ) → length (part_of seqs lists (triple_at p 4) (dump_range p)) ≤ 16384
dump-short seqs lists p = part-short seqs lists (triple_at p 4) (dump_range p) (range-fits (triple_at p 1) (triple_at p 4))
