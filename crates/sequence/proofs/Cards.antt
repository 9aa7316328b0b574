-- A line list's card in four bytes: what is written is what is read. Assumes nothing.
use Rattle.std.proofs.Common.{◌≡◌, Bool, true, false, refl, Ok, Err}
use Rattle.sequence.specs.declared.Marks.{Marks}
use Rattle.sequence.specs.declared.BadList.TheVariants.{WindowCount, Length, Checksum}
use Rattle.sequence.specs.LineList.{ListCard, mark_bits, marks_read, card_bytes, card_read}

marks-back : (aec event flare : Bool) → let m : Marks = record { aec = aec; event = event; flare = flare } in marks_read (mark_bits m) ≡ m
marks-back true true true = refl
marks-back true true false = refl
marks-back true false true = refl
marks-back true false false = refl
marks-back false true true = refl
marks-back false true false = refl
marks-back false false true = refl
marks-back false false false = refl

pub card-back : (card : ListCard) → card_read (card_bytes card) ≡ card
card-back (Ok marks) = rw (marks-back marks.aec marks.event marks.flare)
card-back (Err WindowCount) = refl
card-back (Err Length) = refl
card-back (Err (Checksum expected)) = refl
