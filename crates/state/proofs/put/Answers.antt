-- `put` meets its contract: at each turn the bytes that are left, written from here on, give the whole. Assumes nothing.
use Rattle.std.proofs.Common.{◌≡◌, ℕ, ◌+◌, ◌<◌, List, length, get_or, set, drop, add-one, drop-cons, arith}
use Rattle.std.proofs.lemmas.Grind.{common_steps}
use Rattle.std.proofs.lemmas.List.{set_past}
use Rattle.std.proofs.lemmas.List.Edits.{sets}
use Rattle.state.proofs.put.Goals as goal

-- the next byte set, and those after it
one-more : (s bytes : List ℕ) (at k : ℕ) → k < length bytes → sets (set s (at + k) (get_or bytes k 0)) (at + k + 1) (drop (k + 1) bytes) ≡ sets s (at + k) (drop k bytes)
one-more s bytes at k h = rw (add-one (at + k), add-one k, drop-cons bytes k 0)

pub loop-k-preserved : goal.loop-k-preserved
loop-k-preserved g c =
    let e = one-more c.loop-k.state c.args.bytes c.args.at c.loop-k.k (omega arith) in
    grind (arith, common_steps, set_past)
