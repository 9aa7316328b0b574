-- When a packet is obeyed, in words: the rows of its command, each test as a proposition.
-- Assumes nothing.
use Prim.Native.Nat.{ℕ, ◌+◌, ◌≤◌, ◌<◌}
use native.Mathlib.Omega.{arith}
use mathlib.Core.Path.{◌≡◌, refl, sym, ◌∙◌}
use mathlib.Core.Bool.{Bool, true, false, not, ◌&&◌, true≢false, false≢true}
use mathlib.Core.Logic.{◌⊎◌, inl, inr, ⊎_elim}
use lib.Dec.{leb, eqb}
use lib.ListN.{length}
use borrow.Author.Tests.{le-ltb, ltb-false, le-leb, leb-true, eq-eqb, ne_eqb, eqb-true, eqb-false, not-false}
use Rattle.octets.specs.Bytes.{byte_at, triple_at}
use Rattle.octets.specs.Rows.{NoneHolds}
use Rattle.octets.proofs.Bools.{and_both, or-either}
use Rattle.memory.specs.declared.Format.{Format}
use Rattle.telecommand.specs.declared.Telecommand.{Telecommand}
use Rattle.telecommand.specs.declared.Telecommand.TheVariants.{Status, Dump, Allow, Mode, Clear, Select, Uplink, Foreign, Unheard}
use Rattle.unit.specs.State.{is_none}
use Rattle.telecommand.specs.Packet.{telecommand_of, is, size_good, pair_allowed}
use Rattle.unit.specs.Packet.{own_rows, packet_rows}
use Rattle.unit.specs.Answer.{answer_of}
use Rattle.unit.proofs.Laws.{accepted, passed}
use Rattle.promises.specs.Library.{ours}
use Rattle.promises.specs.Sent.{Sent, bc1, bc2}
use Rattle.promises.specs.Demand2.{Pair, Wanted, ObeyedExactly}
use Rattle.promises.proofs.Packets.Tests.{range-exactly, lent-exactly, one-table-exactly}

-- ── pairs of modes, and the selection that AUTO wants
module _ (a b : ℕ) where
  pair-at : (x y : ℕ) → (eqb a x && eqb b y) ≡ true → (a ≡ x) × (b ≡ y)
  pair-at x y e = let (p, q) = and_both (eqb a x) (eqb b y) e in (eqb-true a x p, eqb-true b y q)

  pair-told : pair_allowed a b ≡ true → Pair a b
  pair-told e =
      or-either (eqb a 1 && eqb b 2) _ e (λ h. inl (pair-at 1 2 h)) (λ f.
      or-either (eqb a 2 && eqb b 1) _ f (λ h. inr (inl (pair-at 2 1 h))) (λ g.
      or-either (eqb a 2 && eqb b 3) _ g (λ h. inr (inr (inl (pair-at 2 3 h)))) (λ i.
      or-either (eqb a 3 && eqb b 2) false i (λ h. inr (inr (inr (pair-at 3 2 h)))) (λ j. absurd (false≢true j)))))

  -- the pair is allowed, and the mode asked for is 1, 2 or 3
  pair-test : Pair a b → (pair_allowed a b ≡ true) × (1 ≤ b) × (b ≤ 3)
  pair-test (inl (p, q)) = (rw (p, q), omega arith, omega arith)
  pair-test (inr (inl (p, q))) = (rw (p, q), omega arith, omega arith)
  pair-test (inr (inr (inl (p, q)))) = (rw (p, q), omega arith, omega arith)
  pair-test (inr (inr (inr (p, q)))) = (rw (p, q), omega arith, omega arith)

selected-told : (m n : ℕ) → (eqb m 3 && is_none n) ≡ false → m ≡ 3 → n ≡ 255 → ⊥
selected-told m n e p q = true≢false (sym (simp (p, q)) ∙ e)

selected-test : (m n : ℕ) → (m ≡ 3 → n ≡ 255 → ⊥) → (eqb m 3 && is_none n) ≡ false
selected-test m n f = go (eqb m 3) (eqb n 255) refl refl
  where
    go : (a b : Bool) → eqb m 3 ≡ a → eqb n 255 ≡ b → (a && b) ≡ false
    go true true p q = absurd (f (eqb-true m 3 p) (eqb-true n 255 q))
    go true false p q = refl
    go false b p q = refl

one-or-two : (n : ℕ) → 1 ≤ n → n ≤ 2 → (n ≡ 1) ⊎ (n ≡ 2)
one-or-two n h k = go (eqb n 1) refl
  where
    go : (b : Bool) → eqb n 1 ≡ b → (n ≡ 1) ⊎ (n ≡ 2)
    go true e = inl (eqb-true n 1 e)
    go false e = inr (let d = eqb-false n 1 e in omega arith)

yes : (t : Bool) → t ≡ true → not t ≡ false
yes t e = rw e

-- ── what is left of a packet's rows, once sizes and state are right
record Passed {F : Format} (k : Telecommand) (s : Sent F) : Type 0 where
  some : 0 < length s.bytes
  most : length s.bytes ≤ 133
  ours : is Foreign k ≡ false
  heard : is Unheard k ≡ false
  sized : size_good k s.bytes ≡ true
  own : NoneHolds (own_rows F k s.unit s.bytes)

-- it is what the command needs
told : {F : Format} (k : Telecommand) (s : Sent F) → Passed k s → Wanted k s
unfolding own_rows
told Status s w = eqb-true (length s.bytes) 1 w.sized
told Dump s w = (eqb-true (length s.bytes) 7 w.sized, (one-table-exactly (triple_at s.bytes 1) (triple_at s.bytes 4)).0 w.own.0)
told Allow s w =
    let n = length s.bytes in
    let (a, b) = and_both (leb 1 n) (leb n 2) w.sized in
    one-or-two n (leb-true 1 n a) (leb-true n 2 b)
told Mode s w =
    let u = s.unit.control in (
      eqb-true (length s.bytes) 2 w.sized,
      not-false u.allowed w.own.0,
      pair-told u.mode (bc2 s) (not-false (pair_allowed u.mode (bc2 s)) w.own.1.1.1.0),
      selected-told (bc2 s) u.selection w.own.1.1.1.1.0,
    )
told Clear s w = eqb-true (length s.bytes) 1 w.sized
told {F} Select s w =
    let mode = s.unit.control.mode in (
      eqb-true (length s.bytes) 2 w.sized,
      eqb-true mode 2 (not-false (eqb mode 2) w.own.0),
      ltb-false F.last (bc2 s) w.own.1.0,
    )
told Uplink s w =
    let e = eqb-true (length s.bytes) (5 + byte_at s.bytes 4) w.sized in
    let most = w.most in
    (e, omega arith, w.own.0, (one-table-exactly (triple_at s.bytes 1) (byte_at s.bytes 4)).0 w.own.1.0)
told Foreign s w = true≢false w.ours
told Unheard s w = true≢false w.heard

-- and what it needs is enough
by_length : {F : Format} (k : Telecommand) (s : Sent F) → is Foreign k ≡ false → is Unheard k ≡ false → 0 < length s.bytes → length s.bytes ≤ 133
    → size_good k s.bytes ≡ true → NoneHolds (own_rows F k s.unit s.bytes) → Passed k s
by_length k s ours heard some most sized own = record { some = some; most = most; ours = ours; heard = heard; sized = sized; own = own }

enough : {F : Format} (k : Telecommand) (s : Sent F) → Wanted k s → Passed k s
unfolding own_rows
enough Status s e = by_length Status s refl refl (omega arith) (omega arith) (eq-eqb (length s.bytes) 1 e) tt
enough Dump s (e, i) =
    by_length Dump s refl refl (omega arith) (omega arith) (eq-eqb (length s.bytes) 7 e)
    ((one-table-exactly (triple_at s.bytes 1) (triple_at s.bytes 4)).1 i, tt)
enough Allow s e =
    let n = length s.bytes in
    let h : 1 ≤ n = ⊎_elim (λ f. omega arith) (λ f. omega arith) e in
    let k : n ≤ 2 = ⊎_elim (λ f. omega arith) (λ f. omega arith) e in
    by_length Allow s refl refl (omega arith) (omega arith) (simp (le-leb 1 n h, le-leb n 2 k)) tt
enough Mode s (e, a, p, f) =
    let u = s.unit.control in
    let (t, l, h) = pair-test u.mode (bc2 s) p in
    by_length Mode s refl refl (omega arith) (omega arith) (eq-eqb (length s.bytes) 2 e) (
      yes u.allowed a,
      (
        simp (le-leb 1 (bc2 s) l, le-leb (bc2 s) 5 (omega arith)),
        (
          le-ltb 3 (bc2 s) h,
          (
            yes (pair_allowed u.mode (bc2 s)) t,
            (selected-test (bc2 s) u.selection f, tt),
          ),
        ),
      ),
    )
enough Clear s e = by_length Clear s refl refl (omega arith) (omega arith) (eq-eqb (length s.bytes) 1 e) tt
enough {F} Select s (e, m, h) =
    let mode = s.unit.control.mode in
    by_length Select s refl refl (omega arith) (omega arith) (eq-eqb (length s.bytes) 2 e)
    (yes (eqb mode 2) (eq-eqb mode 2 m), (le-ltb F.last (bc2 s) h, tt))
enough Uplink s (e, h, r, i) =
    by_length Uplink s refl refl (omega arith) (omega arith) (eq-eqb (length s.bytes) (5 + byte_at s.bytes 4) e)
    (r, ((one-table-exactly (triple_at s.bytes 1) (byte_at s.bytes 4)).1 i, tt))
enough Foreign s h = absurd h
enough Unheard s h = absurd h

-- ── the whole table
pub obeyed-exactly : (F : Format) → ObeyedExactly F ours
unfolding answer_of packet_rows
obeyed-exactly F s =
    let k = telecommand_of (bc1 s) in
    let n = length s.bytes in
    let table = accepted F s.unit s.seqs s.lists s.out s.bytes in (
      λ z.
          let (arrives, shape, own) = passed F s.unit s.seqs s.lists s.out s.bytes z in
          let e = eqb-false n 0 arrives.1.1.0 in (
            (lent-exactly s).0 arrives.0,
            (range-exactly F s.unit).0 arrives.1.0,
            told k s
                (record {
                  some = omega arith;
                  most = ltb-false 133 n arrives.1.1.1.0;
                  ours = shape.0;
                  heard = shape.1.0;
                  sized = not-false (size_good k s.bytes) shape.1.1.0;
                  own = own;
                }),
          ),
      λ (l, r, v).
          let w = enough k s v in
          let some = w.some in
          table.1 (
            (lent-exactly s).1 l,
            (
              (range-exactly F s.unit).1 r,
              (
                ne_eqb n 0 (λ z. omega arith),
                (
                  le-ltb 133 n w.most,
                  (w.ours, (w.heard, (yes (size_good k s.bytes) w.sized, w.own))),
                ),
              ),
            ),
          ),
    )
