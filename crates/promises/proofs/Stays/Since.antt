-- Whatever is done since: the tables change only where an obeyed uplink writes. Assumes nothing.
use Prim.Native.Nat.{ℕ, ◌+◌, ◌-◌, ◌≤◌, ◌<◌}
use native.Mathlib.Omega.{arith}
use mathlib.Core.Path.{◌≡◌, refl, ap, ap₂, ◌∙◌}
use mathlib.Core.Bool.{true, ◌&&◌, true≢false}
use mathlib.Core.List.{List, [], ◌∷◌}
use mathlib.Core.Logic.{inl, inr, ⊎_elim}
use lib.Dec.{ltb, eqb}
use lib.ListN.{drop}
use borrow.Author.Tests.{ltb-true, ltb-false, eqb-true, eq-eqb}
use Rattle.octets.specs.Bytes.{byte_at, triple_at}
use Rattle.octets.proofs.Bools.{and_both, by-test, choice}
use Rattle.memory.specs.declared.Format.{Format}
use Rattle.memory.specs.declared.Range.{Range}
use Rattle.memory.specs.declared.Range.TheVariants.{Wrong}
use Rattle.memory.specs.Memory.{seqs_written, lists_written}
use Rattle.telecommand.specs.declared.Telecommand.TheVariants.{Uplink}
use Rattle.telecommand.specs.Packet.{is, command_of, writes_to}
use Rattle.telecommand.proofs.Laws.{is-told}
use Rattle.unit.specs.Answer.{answer_of}
use Rattle.promises.specs.Library.{ours}
use Rattle.promises.specs.Sent.{Sent, code, seqs_left, lists_left, bc1, TablesKept}
use Rattle.promises.specs.Demand2.{Written, Obeyed}
use Rattle.promises.specs.Demand3.{World, Action, step, packet, after, after_all}
use Rattle.promises.specs.EachCheck.{Given}
use Rattle.promises.specs.Stays.{byte_in, WithinLength, RestsOn, Untouched, StaysAfter, Touches, NeverTouched, StaysUntouched}
use Rattle.promises.proofs.Packets.Packets.{packet-sizes}
use Rattle.promises.proofs.Packets.Auto.{number_is, seqs-same, lists-same}
use Rattle.promises.proofs.Packets.Transfers.{effect-E7}
use Rattle.promises.proofs.Stays.Rests.{stays}

-- ── whatever was done since
-- no action changes the tables' sizes, nor do several
given-once : {F : Format} (act : Action) (w : World F) {n : ℕ} → Given F w.seqs w.lists n → let v = after ours act w in Given F v.seqs v.lists n
given-once step w g = g
given-once {F} (packet out time bytes) w g =
    let (s, l) = packet-sizes F w.unit w.seqs w.lists out bytes in
    record { format = g.format; sequences = s ∙ g.sequences; line_lists = l ∙ g.line_lists; number = g.number }

given-after : {F : Format} (acts : List Action) (w : World F) {n : ℕ} → Given F w.seqs w.lists n → let v = after_all ours acts w in Given F v.seqs v.lists n
given-after [] w g = g
given-after (act ∷ acts) w g = given-after acts (after ours act w) (given-once act w g)

pub stays_after_lem : {F : Format} → StaysAfter F ours
stays_after_lem w acts n g y same =
    let v = after_all ours acts w in stays w.seqs w.lists v.seqs v.lists n g (given-after acts w g) y same

-- ── what no uplink touches
-- a packet of another number writes nowhere
writes-nowhere : (p : List ℕ) → (byte_at p 0 ≡ 0xE7 → ⊥) → writes_to (command_of p) p ≡ Wrong
writes-nowhere p other =
    choice (λ (r : Range). r ≡ Wrong) (is Uplink (command_of p)) _ Wrong
    (λ e. absurd (other (number_is Uplink refl refl (byte_at p 0) (is-told Uplink (command_of p) e))))
    (λ _. refl)

-- outside what was written a table is as it was
outside : {at len : ℕ} {sent was is : List ℕ} → Written at len sent was is → (i : ℕ) → (at ≤ i → i < at + len → ⊥) → byte_at is i ≡ byte_at was i
outside {at} {len} w i x =
    by-test (ltb i at) (λ e. w.front i (ltb-true i at e))
    (λ e.
    let from = ltb-false i at e in
    by-test (ltb i (at + len)) (λ f. absurd (x from (ltb-true i (at + len) f))) (λ f. w.behind i (ltb-false i (at + len) f)))

-- the byte at an address is that of the one table or of the other
pub by-table : (seqs lists seqs' lists' : List ℕ) (a : ℕ) → (a < 0x074000 → byte_at seqs' (a - 0x070000) ≡ byte_at seqs (a - 0x070000))
    → (0x074000 ≤ a → byte_at lists' (a - 0x074000) ≡ byte_at lists (a - 0x074000)) → byte_in seqs' lists' a ≡ byte_in seqs lists a
by-table seqs lists seqs' lists' a f g =
    by-test (ltb a 0x074000) (λ e. rw e (f (ltb-true a 0x074000 e))) (λ e. rw e (g (ltb-false a 0x074000 e)))

module _ {F : Format} (s : Sent F) where
  -- a packet that is no obeyed uplink leaves both tables
  kept : (Obeyed ours 0xE7 s → ⊥) → TablesKept ours s
  unfolding answer_of
  kept x =
      let nowhere : eqb (code ours s) 0 ≡ true → writes_to (command_of s.bytes) s.bytes ≡ Wrong =
      λ o. writes-nowhere s.bytes (λ e. x (record { accepted = eqb-true (code ours s) 0 o; command = e })) in
      record {
        sequences = seqs-same F s.unit s.seqs s.lists s.out s.bytes (λ o. ap (λ (r : Range). seqs_written r s.seqs (drop 5 s.bytes)) (nowhere o));
        line_lists = lists-same F s.unit s.seqs s.lists s.out s.bytes (λ o. ap (λ (r : Range). lists_written r s.lists (drop 5 s.bytes)) (nowhere o));
      }

  -- it is one, or not
  uplinked : {A : Type 0} → (Obeyed ours 0xE7 s → A) → ((Obeyed ours 0xE7 s → ⊥) → A) → A
  uplinked f g =
      by-test (eqb (code ours s) 0 && eqb (bc1 s) 0xE7)
      (λ e. let (a, b) = and_both (eqb (code ours s) 0) (eqb (bc1 s) 0xE7) e in f (record { accepted = eqb-true (code ours s) 0 a; command = eqb-true (bc1 s) 0xE7 b }))
      (λ e. g (λ o. true≢false (rw (eq-eqb (code ours s) 0 o.accepted, eq-eqb (bc1 s) 0xE7 o.command) at e)))

  -- outside an obeyed uplink's range every byte is as it was
  written-outside : Obeyed ours 0xE7 s → (a : ℕ) → 0x070000 ≤ a → (triple_at s.bytes 1 ≤ a → a < triple_at s.bytes 1 + byte_at s.bytes 4 → ⊥)
      → byte_in (seqs_left ours s) (lists_left ours s) a ≡ byte_in s.seqs s.lists a
  written-outside o a h off =
      let ((_, _, there), _, _, first, second) = effect-E7 F s o in
      let by = by-table s.seqs s.lists (seqs_left ours s) (lists_left ours s) a in
      ⊎_elim
      (λ i. let (w, same) = first i in by (λ l. outside w (a - 0x070000) (λ p q. off (omega arith) (omega arith))) (λ l. ap (λ (t : List ℕ). byte_at t (a - 0x074000)) same))
      (λ i. let (w, same) = second i in by (λ l. ap (λ (t : List ℕ). byte_at t (a - 0x070000)) same) (λ l. outside w (a - 0x074000) (λ p q. off (omega arith) (omega arith))))
      there

-- an action leaves every byte that it does not touch
untouched-once : {F : Format} (act : Action) (w : World F) (a : ℕ) → 0x070000 ≤ a → (Touches ours act w a → ⊥)
    → let v = after ours act w in byte_in v.seqs v.lists a ≡ byte_in w.seqs w.lists a
untouched-once step w a h x = refl
untouched-once {F} (packet out time bytes) w a h x =
    let s : Sent F = record { unit = w.unit; time = time; seqs = w.seqs; lists = w.lists; out = out; bytes = bytes } in
    uplinked s (λ o. written-outside s o a h (λ p q. x (o.accepted, o.command, p, q)))
    (λ none. let k = kept s none in ap₂ (λ (q l : List ℕ). byte_in q l a) k.sequences k.line_lists)

-- a byte of the tables that no obeyed uplink touches is afterwards what it was
pub untouched-after : {F : Format} (Rests : ℕ → Type 0) → ((a : ℕ) → Rests a → 0x070000 ≤ a) → (acts : List Action) (w : World F) → NeverTouched ours Rests acts w
    → let v = after_all ours acts w in Untouched Rests w.seqs w.lists v.seqs v.lists
untouched-after Rests above [] w x a r = refl
untouched-after Rests above (act ∷ acts) w (x, xs) a r = untouched-after Rests above acts (after ours act w) xs a r ∙ untouched-once act w a (above a r) (x a r)

-- no address that a pass rests on is below the tables
pub rests-above : (F : Format) (seqs lists names : List ℕ) (a : ℕ) → RestsOn WithinLength F seqs lists names a → 0x070000 ≤ a
rests-above F seqs lists names a (inl (n, i, _, _, e)) = omega arith
rests-above F seqs lists names a (inr (n, k, i, _, _, _, e)) = omega arith

pub stays-untouched : {F : Format} → StaysUntouched F ours
stays-untouched {F} w acts n g y x =
    let names = (ours.checks F w.seqs w.lists n).names in
    stays_after_lem w acts n g y (untouched-after (RestsOn WithinLength F w.seqs w.lists names) (rests-above F w.seqs w.lists names) acts w x)
