-- What passes its test has a length within its bytes: a text whose header is good, and a line list that is. Assumes nothing.
use Rattle.std.proofs.Common.{◌≡◌, ℕ, ◌+◌, ◌*◌, ◌≤◌, ◌&&◌, eqb, leb, List, length, arith, eqb-true, leb-true, Ok}
use borrow.Author.Tests.{not-false}
use Rattle.octets.specs.Bytes.{byte_at}
use Rattle.octets.specs.Rows.{first_code}
use Rattle.octets.proofs.Bools.{and_both, by-test, clash}
use Rattle.octets.proofs.Laws.{none-holds}
use Rattle.sequence.specs.declared.Marks.{Marks}
use Rattle.sequence.specs.Text.{length_good, header_rows, header_by, header_of}
use Rattle.sequence.specs.LineList.{list_card}

-- a header that has repeats is refused by no row
unrefused : (repeats code q : ℕ) → header_by repeats code ≡ Ok q → code ≡ 0
unrefused repeats code q e = by-test (eqb code 0) (eqb-true code 0) (λ t. let f = rw t at e in absurd (clash (cc)))

-- so its length is 6 at least, and no more than its bytes
pub header-length : (text : List ℕ) (q : ℕ) → header_of text ≡ Ok q → (6 ≤ byte_at text 0) × (byte_at text 0 ≤ length text)
unfolding header_of header_rows length_good
header-length text q e =
    let n = byte_at text 0 in
    let none = none-holds (header_rows text) tt (unrefused (byte_at text 3) (first_code (header_rows text)) q e) in
    let (a, b) = and_both (leb 6 n) (leb n (length text)) (not-false (length_good text) none.0) in
    (leb-true 6 n a, leb-true n (length text) b)

-- a good list passed both tests of its length, whichever comes first: so it has that of 1 to 25 windows
pub card-length : (l : List ℕ) (marks : Marks) → list_card l ≡ Ok marks → (20 ≤ byte_at l 0) × (byte_at l 0 ≤ 164)
unfolding list_card
card-length l marks e =
    let n = byte_at l 2 in
    by-test (leb 1 n && leb n 25)
    (λ t.
    by-test (eqb (byte_at l 0) (14 + 6 * n))
    (λ u.
    let (a, b) = and_both (leb 1 n) (leb n 25) t in
    let is = eqb-true (byte_at l 0) (14 + 6 * n) u in
    (omega (arith, leb-true 1 n a), omega (arith, leb-true n 25 b)))
    (λ u. let bad = simp (t, u) at e in absurd (clash (cc))))
    (λ t. by-test (eqb (byte_at l 0) (14 + 6 * n)) (λ u. let bad = simp (t, u) at e in absurd (clash (cc))) (λ u. let bad = simp (t, u) at e in absurd (clash (cc))))
