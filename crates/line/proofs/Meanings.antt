-- What the definitions come to: a text that fits stands in the output whole, a packet's line leaves its bytes at the
-- packet's start, and what is written is read back. Assumes nothing.
use Prim.Native.Nat.{ℕ, zero, suc, ◌+◌, ◌*◌, ◌-◌, ◌/◌, ◌%◌, ◌^◌, ◌<◌, ◌≤◌}
use native.Mathlib.Omega.{arith}
use native.Mathlib.Numerals.{add-one}
use mathlib.Core.Path.{◌≡◌, refl, sym, ◌∙◌}
use mathlib.Core.Bool.{Bool, true, false, cond}
use mathlib.Core.List.{List, [], ◌∷◌, ◌++◌}
use lib.Dec.{ltb, eqb}
use lib.ListN.{length, get_or, set, take, drop, length-append, get_or-append}
use lib.Seq.{sets, sets-eq, take_at}
use borrow.Author.Tests.{lt-ltb, le-leb, ne_eqb, ltb-true, ltb-false, eqb-true}
use Rattle.octets.specs.Words.{bytes_of}
use Rattle.octets.proofs.Bools.{and_both, by-test}
use Rattle.line.specs.Digits.{digit_of, value_of, hex_of, bytes_in, spell, decimal, shown_on, is_digit, all, each}
use Rattle.line.specs.Writing.{last_place, place_after, put_over, Laid}
use Rattle.line.specs.Reading.{zero_leads, numeral_of, begins, is_packet, steps_from, line_of, packet_after}
use Rattle.line.specs.declared.Line.TheVariants.{Packet, Steps, Bad}
use Rattle.std.specs.Prelude.{Option, Some, None}
use Rattle.line.proofs.DigitLaws.{tested, digit_low, tens}
use Rattle.line.proofs.WritingLaws.{next_place}
use Rattle.line.proofs.ReadingLaws.{packet-told}

-- ── texts in an output
-- a writer's contract leaves one output and one next place
pub one-result : {o a b : List ℕ} {at r s : ℕ} {text : List ℕ} → Laid o a at r text → Laid o b at s text → (a ≡ b) × (r ≡ s)
one-result p q = (p.bytes ∙ sym q.bytes, p.place ∙ sym q.place)

pub place-fits : (at n : ℕ) → at + n ≤ last_place → place_after at n ≡ at + n
place-fits at n h = omega arith

laid-sets : (o : List ℕ) (at : ℕ) (text : List ℕ) → at + length text ≤ last_place → put_over o at text ≡ sets o at text
unfolding put_over
laid-sets o at [] h = refl
laid-sets o at (b ∷ text) h =
    rw (next_place at (omega arith), add-one at) (laid-sets (set o at b) (suc at) text (omega arith))

pub laid-fits : (o : List ℕ) (at : ℕ) (text : List ℕ) → at + length text ≤ length o → length o ≤ last_place
    → put_over o at text ≡ take at o ++ text ++ drop (at + length text) o
laid-fits o at text h k = laid-sets o at text (omega arith) ∙ sets-eq text o at h

-- ── a packet's line
bytes-length : (l : List ℕ) → length (bytes_in l) ≡ length l / 2
unfolding bytes_in
bytes-length [] = refl
bytes-length (h ∷ []) = refl
bytes-length (h ∷ k ∷ l) = let e = bytes-length l in omega arith

pub packet-bytes : (l p : List ℕ) → is_packet l ≡ true → length p ≡ 140 → take (length l / 2) (packet_after l p) ≡ bytes_in l
packet-bytes l p e k =
    let t = packet-told l e in
    let n = bytes-length l in
    rw (e, laid-fits p 0 (bytes_in l) (omega arith) (omega arith)) (take_at (bytes_in l) (drop (0 + length (bytes_in l)) p) (length l / 2) n)

-- the packet that a line is has no more bytes than the lent one
pub packet-size : (l : List ℕ) (n : ℕ) → line_of l ≡ Packet n → n ≤ 140
packet-size l n e =
    by-test (is_packet l)
    (λ t. let g : length l / 2 ≡ n = is n (rw t at e) in let u = packet-told l t in omega arith)
    (λ t. absurd (never (begins (bytes_of "STEP ") l) (numeral_of (drop 5 l)) n (rw t at e)))
  where
    is : {m : ℕ} (k : ℕ) → Packet m ≡ Packet k → m ≡ k
    is k f = cc

    no-bad : {k : ℕ} → Bad ≡ Packet k → ⊥
    no-bad f = let z : ◌≡◌ {A = ℕ} 0 1 = cc in omega arith

    no_steps : {v k : ℕ} → Steps v ≡ Packet k → ⊥
    no_steps f = let z : ◌≡◌ {A = ℕ} 0 1 = cc in omega arith

    never : (b : Bool) (m : Option ℕ) (k : ℕ) → cond b (steps_from m) Bad ≡ Packet k → ⊥
    never false m k f = no-bad f
    never true None k f = no-bad f
    never true (Some v) k f = by-test (eqb v 0) (λ t. no-bad (rw t at f)) (λ t. no_steps (rw t at f))

-- ── a byte in hex, read back
digit_value : (n : ℕ) → n < 16 → value_of (digit_of n) ≡ n
unfolding digit_of value_of
digit_value n h = eqb-true (value_of (digit_of n)) n (tested (λ (k : ℕ). eqb (value_of (digit_of k)) k) 16 refl n h)

pub hex-back : (s : List ℕ) → all (λ (b : ℕ). ltb b 256) s ≡ true → bytes_in (each hex_of s) ≡ s
unfolding bytes_in
hex-back [] e = refl
hex-back (b ∷ s) e =
    let (h, t) = and_both (ltb b 256) (all (λ (x : ℕ). ltb x 256) s) e in
    let k = ltb-true b 256 h in
    let g : b / 16 * 16 + b % 16 ≡ b = omega arith in
    rw (digit_value (b / 16) (omega arith), digit_value (b % 16) (omega arith), g, hex-back s t)

-- ── a number in decimal, read back
shown-more : (n : ℕ) (s : List ℕ) (d : ℕ) → shown_on n (s ++ (d ∷ [])) ≡ shown_on n s * 10 + (d - 48)
unfolding shown_on
shown-more n [] d = refl
shown-more n (b ∷ s) d = shown-more (n * 10 + (b - 48)) s d

all_more : (test : ℕ → Bool) (s : List ℕ) (d : ℕ) → all test s ≡ true → test d ≡ true → all test (s ++ (d ∷ [])) ≡ true
all_more test [] d e t = rw t
all_more test (b ∷ s) d e t = let (p, q) = and_both (test b) (all test s) e in rw (p, all_more test s d q t)

-- the text of a number: digits that show it, and no zero first but for 0 alone
pub record Reads (n : ℕ) (s : List ℕ) : Type 0 where
  pub shown : shown_on 0 s ≡ n
  pub digits : all is_digit s ≡ true
  pub some : 0 < length s
  pub first : 0 < n → get_or s 0 0 ≡ 48 → ⊥

reads-digit : (n : ℕ) → n < 10 → Reads n (digit_of n ∷ [])
unfolding shown_on
reads-digit n h =
    let e = digit_low n h in
    rw e
    (record {
      shown = omega arith;
      digits = rw (le-leb 48 (48 + n) (omega arith), le-leb (48 + n) 57 (omega arith));
      some = omega arith;
      first = λ p q. omega arith;
    })

reads_more : (n : ℕ) (s : List ℕ) → 10 ≤ n → Reads (n / 10) s → Reads n (s ++ (digit_of (n % 10) ∷ []))
reads_more n s h r =
    let e = digit_low (n % 10) (omega arith) in
    rw e
    (record {
      shown = shown-more 0 s (48 + n % 10) ∙ omega (arith, r.shown);
      digits = all_more is_digit s (48 + n % 10) r.digits (rw (le-leb 48 (48 + n % 10) (omega arith), le-leb (48 + n % 10) 57 (omega arith)));
      some = omega (arith, r.some, length-append s ((48 + n % 10) ∷ []));
      first = λ p q. r.first (omega arith) (sym (get_or-append s ((48 + n % 10) ∷ []) 0 0 r.some) ∙ q);
    })

reads-spell : (k n : ℕ) → n < 10 ^ suc k → Reads n (spell k n)
unfolding spell
reads-spell zero n h = reads-digit n h
reads-spell (suc k) n h =
    by-test (ltb n 10)
    (λ t. rw t (reads-digit n (ltb-true n 10 t)))
    (λ t. let l = ltb-false n 10 t in rw t (reads_more n (spell k (n / 10)) l (reads-spell k (n / 10) (tens k n h))))

pub decimal-reads : (n : ℕ) → n < 2 ^ 64 → Reads n (decimal n)
unfolding decimal
decimal-reads n h = reads-spell 19 n (omega arith)

no-zero-leads : (n : ℕ) → n < 2 ^ 64 → zero_leads (decimal n) ≡ false
unfolding decimal spell digit_of
no-zero-leads zero h = refl
no-zero-leads (suc n) h = rw (ne_eqb (get_or (decimal (suc n)) 0 0) 48 ((decimal-reads (suc n) h).first (omega arith)))

pub number-back : (n : ℕ) → n ≤ 65535 → numeral_of (decimal n) ≡ Some n
number-back n h =
    let r = decimal-reads n (omega arith) in
    rw (lt-ltb 0 (length (decimal n)) r.some, r.digits, no-zero-leads n (omega arith), r.shown, le-leb n 65535 h)
