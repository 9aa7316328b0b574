-- Laws of the science flags, and of a card without the marks that nobody wants. Assumes nothing.
use Rattle.std.proofs.Common.{◌≡◌, ℕ, Bool, false, ◌||◌, sym, refl, ◌∙◌, Ok, Err}
use Rattle.octets.specs.Bytes.{byte_bit}
use Rattle.octets.proofs.Bools.{or-neither, by-test}
use Rattle.sequence.specs.declared.Marks.{Marks}
use Rattle.sequence.specs.Raster.{needs_mark, mark_missing}
use Rattle.sequence.specs.LineList.{ListCard, card_shown, no_marks, marks_in, card_with}

-- where none needs a mark none is missing
pub none-missing : (marks : Marks) (science : ℕ) → needs_mark science ≡ false → mark_missing marks science ≡ false
unfolding needs_mark mark_missing
none-missing marks science e =
    let (aec, rest) = or-neither (byte_bit 3 science) (byte_bit 4 science || byte_bit 5 science) e in
    let (event, flare) = or-neither (byte_bit 4 science) (byte_bit 5 science) rest in
    rw (aec, event, flare)

-- ── a card without the marks that nobody wants
-- the test's answer is the same
pub with-shown : (wanted : Bool) (card : ListCard) → card_shown (card_with wanted card) ≡ card_shown card
with-shown wanted (Ok marks) = refl
with-shown wanted (Err bad) = refl

-- and so is whether a mark is missing, if those that a flag needs are wanted
pub with-missing : (science : ℕ) (card : ListCard) → mark_missing (marks_in (card_with (needs_mark science) card)) science ≡ mark_missing (marks_in card) science
with-missing science (Ok marks) = by-test (needs_mark science) (λ e. rw e) (λ e. rw e (none-missing no_marks science e ∙ sym (none-missing marks science e)))
with-missing science (Err bad) = refl
