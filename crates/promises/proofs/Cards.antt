-- P13 of our library: fresh, kept, told and least, of every format. Assumes nothing.
use Rattle.std.specs.Prelude.{Option, Some, None}
use Prim.Native.Nat.{ℕ, zero, suc, ◌+◌, ◌*◌, ◌-◌, ◌/◌, ◌≤◌, ◌<◌}
use native.Mathlib.Nat.{suc-mul, div-lt_iff_lt-mul, le-div_iff_mul-le}
use native.Mathlib.Decide.{dec_lt}
use native.Mathlib.Omega.{arith}
use mathlib.Core.Path.{◌≡◌, refl, sym, ap, ◌∙◌}
use mathlib.Core.Bool.{Bool, true, false, cond, ◌||◌}
use mathlib.Core.List.{List}
use mathlib.Core.Logic.{⊎_elim}
use lib.Dec.{ltb, leb, eqb}
use lib.ListN.{length, drop, replicate, length-take, length-drop, length-replicate}
use borrow.Author.Tests.{le-leb, leb-true, le-ltb, eq-eqb}
use Rattle.octets.specs.Bytes.{byte_at, triple_at}
use Rattle.octets.proofs.Bools.{by-test, choice, clash, and_both, or-neither}
use Rattle.memory.specs.declared.Format.{Format}
use Rattle.memory.specs.declared.Address.{Address}
use Rattle.memory.specs.declared.Range.{Range}
use Rattle.memory.specs.declared.Range.TheVariants.{Sequences, LineLists, Wrong}
use Rattle.memory.specs.Memory.{fills, entry_of, tables_wrong, within, range_of, range_from, range_at, written, seqs_written, lists_written}
use Rattle.memory.proofs.Laws.{has-offset, Fits, range-fits, sizes, right-sizes, written-length}
use Rattle.sequence.specs.Starts.{among}
use Rattle.sequence.specs.Env.{cards_of}
use Rattle.sequence.proofs.Within.{card-alike}
use Rattle.telecommand.specs.declared.Telecommand.TheVariants.{Uplink}
use Rattle.telecommand.specs.Packet.{telecommand_of}
use Rattle.survey.specs.Tested.{tested_in, has_list}
use Rattle.survey.proofs.Frame.{one_alike, frame_found}
use Rattle.survey.proofs.Names.{listed-low}
use Rattle.survey.proofs.Tested.{tested-same}
use Rattle.summary.specs.Card.{used_in}
use Rattle.summary.specs.Summary.{line_card, seq_card, laid, lines_at, summary_wrong, card_in, line_in, summary_of, make_code, made, touches, line_touched, uses_touched, seq_named, line_after, card_after, renewed, update_code, updated}
use Rattle.summary.specs.Held.{Sized}
use Rattle.summary.proofs.Parts.{laid-long, card-laid, line-laid, laid_same}
use Rattle.summary.proofs.Writing.{seq-long, line-long}
use Rattle.summary.proofs.Whole.{sized_of}
use Rattle.summary.proofs.Kept.{fresh-used, kept-sequences, kept-lists}
use Rattle.summary.proofs.Told.{told_same}
use Rattle.promises.specs.Formats.{Fills}
use Rattle.promises.specs.Library.{ours}
use Rattle.promises.specs.Sent.{seqs_left, lists_left}
use Rattle.promises.specs.Cards.{LentCards, CardsSixteen, Fresh, Kept, CardsTold, UsedEnough, HasByteIn, Least}
use Rattle.promises.proofs.Formats.{fills-exactly, fair-in}
use Rattle.promises.proofs.Packets.Leaves.{left}
use Rattle.promises.proofs.Packets.Tests.{in-sequences, in-line-lists}

-- ── sizes
module _ {F : Format} {seqs lists s : List ℕ} (l : LentCards F seqs lists s) where
  filled : fills F ≡ true
  filled = (fills-exactly F).1 l.format

  tables-right : tables_wrong F seqs lists ≡ false
  tables-right = right-sizes F seqs lists filled l.sequences l.line_lists

  sized : Sized F s
  sized = record { fill = filled; long = l.summary ∙ (let e : (F.last + 1) * 32 + 48 * 4 ≡ suc F.last * 32 + 192 = omega arith in e) }

  summary-right : summary_wrong F s ≡ false
  unfolding summary_wrong
  summary-right = rw (filled, eq-eqb (length s) (lines_at F + 192) sized.long)

  made-is : (make_code F seqs lists s ≡ 0) × (made F seqs lists s ≡ summary_of F seqs lists)
  unfolding make_code made
  made-is = (rw (tables-right, summary-right), rw (tables-right, summary-right))

pub cards-sixteen : CardsSixteen ours
unfolding make_code made update_code updated
cards-sixteen F seqs lists s h =
    let t : (tables_wrong F seqs lists || summary_wrong F s) ≡ true = by-test (tables_wrong F seqs lists || summary_wrong F s) (λ e. e) (λ e. absurd (h (lent e))) in
    (rw t, rw t, λ a len. (rw t, rw t))
  where
    lent : (tables_wrong F seqs lists || summary_wrong F s) ≡ false → LentCards F seqs lists s
    lent e =
        let (a, b) = or-neither (tables_wrong F seqs lists) (summary_wrong F s) e in
        let (f, x, y) = sizes F seqs lists a in
        let z = sized_of F s b in
        record { format = (fills-exactly F).0 f; sequences = x; line_lists = y; summary = z.long ∙ (let q : suc F.last * 32 + 192 ≡ (F.last + 1) * 32 + 48 * 4 = omega arith in q) }

-- ── fresh
pub fresh : {F : Format} → Fresh F ours
fresh seqs lists s s' l l' = ((made-is l).0, (made-is l).1 ∙ sym (made-is l').1)

fresh-long : (F : Format) (seqs lists : List ℕ) → length (summary_of F seqs lists) ≡ lines_at F + 192
unfolding summary_of
fresh-long F seqs lists = laid-long F (seq_card F seqs (cards_of lists)) (line_card lists) (seq-long F seqs (cards_of lists)) (line-long lists)

-- ── kept
module _ (F : Format) (full : Fills F) (seqs lists seqs' lists' : List ℕ) (x : length seqs' ≡ 16384) (y : length lists' ≡ 7872) (a len : ℕ) (short : len ≤ 128) where
  abbrev S : List ℕ
  S = summary_of F seqs lists

  S-right : summary_wrong F S ≡ false
  unfolding summary_wrong
  S-right = rw ((fills-exactly F).1 full, eq-eqb (length S) (lines_at F + 192) (fresh-long F seqs lists))

  -- what an update of a range leaves
  updates-to : (r : Range) → range_at a len ≡ r → (r ≡ Wrong → ⊥) → (t : List ℕ) → renewed F seqs' lists' S r len ≡ t
      → (update_code F seqs' lists' S a len ≡ 0) × (updated F seqs' lists' S a len ≡ t)
  unfolding update_code updated
  updates-to (Sequences at) e n t h = let w = right-sizes F seqs' lists' ((fills-exactly F).1 full) x y in (rw (w, S-right, e, le-ltb 128 len short), rw (w, S-right, e, le-ltb 128 len short) h)
  updates-to (LineLists at) e n t h = let w = right-sizes F seqs' lists' ((fills-exactly F).1 full) x y in (rw (w, S-right, e, le-ltb 128 len short), rw (w, S-right, e, le-ltb 128 len short) h)
  updates-to Wrong e n t h = absurd (n refl)

pub kept : {F : Format} → Kept F ours
unfolding telecommand_of
kept {F} s o c lc =
    let a = triple_at s.bytes 1 in
    let len = byte_at s.bytes 4 in
    let d = drop 5 s.bytes in
    let l = left Uplink 0xE7 refl s o in
    let (lent, _, (e, short, _, (least, most, where'))) = l.wants in
    let whole : length d ≡ len = simp length-drop (omega arith) in
    let full = lc.format in
    let was = (made-is lc).1 in
    ⊎_elim
    (λ h.
    let f = in-sequences a len least most h in
    let at = a - 0x070000 in
    let seqs-is : seqs_left ours s ≡ written s.seqs at d = l.seqs ∙ ap (λ (q : Range). seqs_written q s.seqs d) f in
    let lists-is : lists_left ours s ≡ s.lists = l.lists ∙ ap (λ (q : Range). lists_written q s.lists d) f in
    let x : length (written s.seqs at d) ≡ 16384 = written-length s.seqs at d ∙ lc.sequences in
    let now : LentCards F (written s.seqs at d) s.lists c = record { format = full; sequences = x; line_lists = lc.line_lists; summary = lc.summary } in
    let some : 0 < length d = rw whole (omega arith) in
    rw (seqs-is, lists-is, was, (made-is now).1)
    (updates-to F full s.seqs s.lists (written s.seqs at d) s.lists x lc.line_lists a len short (Sequences at) f (λ z. not-sequences z) _ (rw (← whole) (kept-sequences F (fair-in full) s.seqs s.lists at d some))))
    (λ h.
    let f = in-line-lists a len least most h in
    let at = a - 0x074000 in
    let seqs-is : seqs_left ours s ≡ s.seqs = l.seqs ∙ ap (λ (q : Range). seqs_written q s.seqs d) f in
    let lists-is : lists_left ours s ≡ written s.lists at d = l.lists ∙ ap (λ (q : Range). lists_written q s.lists d) f in
    let y : length (written s.lists at d) ≡ 7872 = written-length s.lists at d ∙ lc.line_lists in
    let now : LentCards F s.seqs (written s.lists at d) c = record { format = full; sequences = lc.sequences; line_lists = y; summary = lc.summary } in
    let some : 0 < length d = rw whole (omega arith) in
    rw (seqs-is, lists-is, was, (made-is now).1)
    (updates-to F full s.seqs s.lists s.seqs (written s.lists at d) lc.sequences y a len short (LineLists at) f (λ z. not-lists z) _ (rw (← whole) (kept-lists F (fair-in full) s.seqs s.lists at d some))))
    where'
  where
    not-sequences : {at : ℕ} → Sequences at ≡ Wrong → ⊥
    not-sequences z = clash (cc)

    not-lists : {at : ℕ} → LineLists at ≡ Wrong → ⊥
    not-lists z = clash (cc)

-- ── told
pub cards-told : {F : Format} → CardsTold F ours
cards-told {F} seqs lists s l oct n = ap (λ (c : List ℕ). ours.checks_cards F c n) (made-is l).1 ∙ told_same F seqs lists (tables-right l) oct n

-- ── used
pub used-enough : {F : Format} → UsedEnough F ours
used-enough {F} seqs lists seqs' lists' s l l' n same =
    frame_found F seqs lists seqs' lists' (tables-right l) (tables-right l') n
    (λ m a.
    let (entry, used) = same m a in
    one_alike (cards_of lists') (cards_of lists') entry F (λ k b u. refl)
    ∙ (tested-same (cards_of lists) (cards_of lists') (entry_of F seqs m) F (λ k b t. card-alike (used k b (tests m k (listed-low F seqs lists n m a) b ∙ t)))).0)
  where
    tests : (m k : ℕ) → m ≤ F.last → k ≤ 47 → has_list (used_in (card_in (made F seqs lists s) m)) k ≡ among k (tested_in (cards_of lists) (entry_of F seqs m))
    tests m k low b = ap (λ (c : List ℕ). has_list (used_in (card_in c m)) k) (made-is l).1 ∙ fresh-used F seqs lists m k low b

-- ── least
-- an entry from that of the range's first byte to that of its last has a byte in it
has-byte : (first size : ℕ) → 0 < size → (at len n : ℕ) → 0 < len → touches size at len n ≡ true → HasByteIn first size (first + at) len n
has-byte first size pos at len n some t =
    let (a, b) = and_both (leb (at / size) n) (leb n ((at + len - 1) / size)) t in
    let under : n * size ≤ at + len - 1 = (le-div_iff_mul-le pos).0 (leb-true n ((at + len - 1) / size) b) in
    let over : at < suc n * size = (div-lt_iff_lt-mul pos).0 (omega (arith, leb-true (at / size) n a)) in
    by (dec_lt at (n * size)) under over
  where
    by : Dec (at < n * size) → n * size ≤ at + len - 1 → at < suc n * size → HasByteIn first size (first + at) len n
    by (yes l) u v = (0, omega arith, omega arith, omega arith)
    by (no l) u v = (at - n * size, omega (arith, suc-mul n size), omega arith, omega arith)

-- no line list that is touched is used
none-used : (at len used n : ℕ) → ((k : ℕ) → k < n → touches 164 at len k ≡ true → has_list used k ≡ false) → uses_touched at len used n ≡ false
unfolding uses_touched
none-used at len used zero h = refl
none-used at len used (suc n) h =
    by-test (touches 164 at len n) (λ t. rw (t, h n (omega arith) t) (none-used at len used n (λ k l. h k (omega arith)))) (λ t. rw t (none-used at len used n (λ k l. h k (omega arith))))

-- the parts of a summary whose own cards have the right sizes
module _ (F : Format) (card line : ℕ → List ℕ) (cards : (n : ℕ) → n ≤ F.last → length (card n) ≡ 32) (lines : (k : ℕ) → k ≤ 47 → length (line k) ≡ 4) where
  abbrev cut : ℕ → ℕ → (ℕ → List ℕ) → ℕ → List ℕ
  cut most size part n = cond (leb n most) (part n) (replicate size 0)

  cut-long : (most size : ℕ) (part : ℕ → List ℕ) → ((n : ℕ) → n ≤ most → length (part n) ≡ size) → (n : ℕ) → length (cut most size part n) ≡ size
  cut-long most size part h n = choice (λ (x : List ℕ). length x ≡ size) (leb n most) (part n) (replicate size 0) (λ e. h n (leb-true n most e)) (λ _. length-replicate size 0)

  cut-same : (most size : ℕ) (part : ℕ → List ℕ) (n : ℕ) → n ≤ most → part n ≡ cut most size part n
  cut-same most size part n l = rw (le-leb n most l)

  cut-laid : laid F card line ≡ laid F (cut F.last 32 card) (cut 47 4 line)
  cut-laid = laid_same F card line (cut F.last 32 card) (cut 47 4 line) (cut-same F.last 32 card) (cut-same 47 4 line)

  part-long : length (laid F card line) ≡ lines_at F + 192
  part-long = ap length cut-laid ∙ laid-long F (cut F.last 32 card) (cut 47 4 line) (cut-long F.last 32 card cards) (cut-long 47 4 line lines)

  part-card : (n : ℕ) → n ≤ F.last → card_in (laid F card line) n ≡ card n
  part-card n l =
      ap (λ (s : List ℕ). card_in s n) cut-laid ∙ card-laid F (cut F.last 32 card) (cut 47 4 line) (cut-long F.last 32 card cards) (cut-long 47 4 line lines) n l ∙ sym (cut-same F.last 32 card n l)

  part-line : (k : ℕ) → k ≤ 47 → line_in F (laid F card line) k ≡ line k
  part-line k l =
      ap (λ (s : List ℕ). line_in F s k) cut-laid ∙ line-laid F (cut F.last 32 card) (cut 47 4 line) (cut-long F.last 32 card cards) (cut-long 47 4 line lines) k l ∙ sym (cut-same 47 4 line k l)

-- a range begins at its address
abbrev Starts : Range → ℕ → Type 0
Starts (Sequences at) a = 0x070000 + at ≡ a
Starts (LineLists at) a = 0x074000 + at ≡ a
Starts Wrong a = Unit {0}

of-starts : (a len : ℕ) → Starts (range_of a len) a
unfolding range_of
of-starts a len =
    choice (λ r. Starts r a) (eqb len 0 || ltb 16384 len) Wrong _ (λ _. tt)
    (λ _. choice (λ r. Starts r a) (within 0x070000 16384 a len) (Sequences (a - 0x070000)) _ (λ h. let l = has-offset 0x070000 a _ h in omega arith)
    (λ _. choice (λ r. Starts r a) (within 0x074000 7872 a len) (LineLists (a - 0x074000)) Wrong (λ h. let l = has-offset 0x074000 a _ h in omega arith) (λ _. tt)))

range-starts : (a len : ℕ) → Starts (range_at a len) a
unfolding range_at
range-starts a len =
    let P : Option Address → Type 0 = λ x. Starts (range_from x len) a in
    choice P (ltb a 0x070000) None _ (λ _. tt)
    (λ _. choice P (ltb a 0x075EC0) (Some (record { 0 = a })) None (λ _. of-starts a len) (λ _. tt))

-- a test that cannot hold
never : (t : Bool) → (t ≡ true → ⊥) → t ≡ false
never true h = absurd (h refl)
never false h = refl

-- what an update leaves, card by card
pub record Leaves (F : Format) (s t : List ℕ) (a len : ℕ) : Type 0 where
  pub long : length t ≡ length s
  pub cards : (n : ℕ) → n ≤ F.last → (HasByteIn 0x070000 F.size a len n → ⊥)
      → ((k : ℕ) → k ≤ 47 → has_list (used_in (card_in s n)) k ≡ true → HasByteIn 0x074000 164 a len k → ⊥) → card_in t n ≡ card_in s n
  pub lines : (k : ℕ) → k ≤ 47 → (HasByteIn 0x074000 164 a len k → ⊥) → line_in F t k ≡ line_in F s k

module _ (F : Format) (full : Fills F) (seqs lists s : List ℕ) (z : length s ≡ lines_at F + 192) (a len : ℕ) where
  nothing : Leaves F s s a len
  nothing = record { long = refl; cards = λ n l h g. refl; lines = λ k l h. refl }

  size-of-card : (r : Range) (n : ℕ) → n ≤ F.last → length (card_after F seqs lists s r len n) ≡ 32
  size-of-card r n l =
      choice (λ (x : List ℕ). length x ≡ 32) (seq_named F s r len n) _ (card_in s n) (λ _. seq-long F seqs _ n) (λ _. simp (length-take, length-drop) (omega arith))

  size-of-line : (r : Range) (k : ℕ) → k ≤ 47 → length (line_after F lists s r len k) ≡ 4
  size-of-line r k l =
      choice (λ (x : List ℕ). length x ≡ 4) (line_touched r len k) _ (line_in F s k) (λ _. line-long lists k) (λ _. simp (length-take, length-drop) (omega arith))

  module _ (r : Range) (h : (n : ℕ) → n ≤ F.last → (HasByteIn 0x070000 F.size a len n → ⊥) → ((k : ℕ) → k ≤ 47 → has_list (used_in (card_in s n)) k ≡ true → HasByteIn 0x074000 164 a len k → ⊥) → seq_named F s r len n ≡ false)
      (g : (k : ℕ) → k ≤ 47 → (HasByteIn 0x074000 164 a len k → ⊥) → line_touched r len k ≡ false) where
    renews : Leaves F s (renewed F seqs lists s r len) a len
    unfolding renewed
    renews =
        record {
          long = part-long F (card_after F seqs lists s r len) (line_after F lists s r len) (size-of-card r) (size-of-line r) ∙ sym z;
          cards = λ n l x y. part-card F (card_after F seqs lists s r len) (line_after F lists s r len) (size-of-card r) (size-of-line r) n l ∙ rw (h n l x y);
          lines = λ k l x. part-line F (card_after F seqs lists s r len) (line_after F lists s r len) (size-of-card r) (size-of-line r) k l ∙ rw (g k l x);
        }

  -- by the range that the address and the length have
  by-range : (r : Range) → Fits len r → Starts r a → Leaves F s (renewed F seqs lists s r len) a len
  by-range (Sequences at) f q =
      renews (Sequences at)
      (λ n l x y. never (touches F.size at len n) (λ t. x (rw q at (has-byte 0x070000 F.size (omega (arith, (fair-in full).room)) at len n f.1 t))))
      (λ k l x. refl)
  by-range (LineLists at) f q =
      let touched : (k : ℕ) → touches 164 at len k ≡ true → HasByteIn 0x074000 164 a len k = λ k t. rw q at (has-byte 0x074000 164 (omega arith) at len k f.1 t) in
      renews (LineLists at)
      (λ n l x y. none-used at len (used_in (card_in s n)) 48 (λ k b t. never (has_list (used_in (card_in s n)) k) (λ u. y k (omega arith) u (touched k t))))
      (λ k l x. never (touches 164 at len k) (λ t. x (touched k t)))
  by-range Wrong f q = renews Wrong (λ n l x y. refl) (λ k l x. refl)

  leaves : Leaves F s (updated F seqs lists s a len) a len
  unfolding updated
  leaves =
      choice (λ (t : List ℕ). Leaves F s t a len) (eqb (update_code F seqs lists s a len) 0) (renewed F seqs lists s (range_at a len) len) s
      (λ _. by-range (range_at a len) (range-fits a len) (range-starts a len)) (λ _. nothing)

pub least : {F : Format} → Least F ours
least {F} seqs lists s a len l = let w = leaves F l.format seqs lists s (sized l).long a len in (w.long, w.cards, w.lines)
