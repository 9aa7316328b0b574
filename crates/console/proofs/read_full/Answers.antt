use Rattle.std.proofs.Common.{◌≡◌, ℕ, ◌+◌, ◌≤◌, List, ◌++◌, rules, length, take, sym, ap, ◌∙◌, subst, length-take-le}
use Rattle.std.proofs.lemmas.List.{take-append-le}
use Rattle.std.proofs.Math.Seq.{take-append-add}
use Rattle.std.proofs.KnownBytes.{Consumes-trans}
use Rattle.std.specs.Io.KnownBytes.{Consumes}
use borrow.Rule.Slice.PartMut.{put_mid, post_of}
use Rattle.console.proofs.read_full.Goals as goal

-- Bytes read behind those that are there stand next to them.
behind :
    (a k n : ℕ) (xs ys : List ℕ) → a ≤ length xs → n ≤ length ys → take a xs ++ take n ys ≡ take (a + n) (put_mid a k xs ys)
behind a k n xs ys within fits =
    let before = take a xs in
    let after = ys ++ post_of a k xs in
    ap (λ l. before ++ l) (sym (take-append-le n ys (post_of a k xs) fits))
    ∙ sym (take-append-add before after n)
    ∙ ap (λ m. take (m + n) (before ++ after)) (length-take-le a xs within)

pub loop-done-preserved : goal.loop-done-preserved
loop-done-preserved g c =
    let read = c.read_some-n in
    let joined = behind c.loop-done.done _ read.result c.loop-done.buf read.new.buf c.loop-done.invariant.0 (search rules) in
    (search rules, subst (Consumes _ _) joined (Consumes-trans _ _ _ _ _ c.loop-done.invariant.1 read.ensures.bytes))
