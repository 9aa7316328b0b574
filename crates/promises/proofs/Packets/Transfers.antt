-- Dump and uplink: the range's bytes shown, and the packet's bytes written into it.
-- Assumes nothing.
use Prim.Native.Nat.{ℕ, ◌+◌, ◌-◌, ◌≤◌}
use native.Mathlib.Omega.{arith}
use mathlib.Core.Path.{◌≡◌, refl, sym, ap, subst, ◌∙◌}
use mathlib.Core.List.{List}
use mathlib.Core.Logic.{inl, inr, ⊎_elim}
use lib.ListN.{length, length-take, length-drop}
use Rattle.octets.specs.Bytes.{byte_at, triple_at}
use Rattle.memory.specs.declared.Format.{Format}
use Rattle.memory.specs.declared.Range.{Range}
use Rattle.memory.specs.Memory.{part_of, written, seqs_written, lists_written}
use Rattle.memory.proofs.Laws.{written-length, written_same, written-other}
use Rattle.telecommand.specs.declared.Telecommand.TheVariants.{Dump, Uplink}
use Rattle.telecommand.specs.Packet.{telecommand_of, uplink_range}
use Rattle.unit.specs.Answer.{effect, obeyed_unit, reply}
use Rattle.promises.specs.Library.{ours}
use Rattle.promises.specs.Sent.{seqs_left, lists_left}
use Rattle.promises.specs.Demand2.{InSequences, InLineLists, part, Answered, OnlyLogged, Effect07, Written, data_of, EffectE7}
use Rattle.promises.proofs.Packets.Tests.{in-sequences, in-line-lists}
use Rattle.promises.proofs.Packets.Leaves.{left, answered, silent, tables, becomes, logged-only}

-- ── 07
-- a part that lies in a list has its length
part_length : (t : List ℕ) (at len : ℕ) → at + len ≤ length t → length (part t at len) ≡ len
part_length t at len h = simp (length-take, length-drop) (omega arith)

pub effect-07 : (F : Format) → Effect07 F ours
unfolding telecommand_of effect obeyed_unit reply
effect-07 F s o =
    let a = triple_at s.bytes 1 in
    let len = triple_at s.bytes 4 in
    let l = left Dump 0x07 refl s o in
    let (lent, _, (_, there)) = l.wants in
    let (least, most, i) = there in
    let x = lent.sequences in
    let y = lent.line_lists in
    let first : InSequences a len → Answered ours (part s.seqs (a - 0x070000) len) s =
    λ h. answered l (ap (part_of s.seqs s.lists len) (in-sequences a len least most h)) in
    let second : InLineLists a len → Answered ours (part s.lists (a - 0x074000) len) s =
    λ h. answered l (ap (part_of s.seqs s.lists len) (in-line-lists a len least most h)) in (
      there,
      becomes l (OnlyLogged s.bytes s.unit) (logged-only s.bytes s.unit),
      tables l refl refl,
      ⊎_elim
          (λ h. (first h).size ∙ part_length s.seqs (a - 0x070000) len (omega arith))
          (λ h. (second h).size ∙ part_length s.lists (a - 0x074000) len (omega arith))
          i,
      first,
      second,
    )

-- ── E7
-- bytes written over a table where they fit
written_over : (t : List ℕ) (at len : ℕ) (d : List ℕ) → length d ≡ len → at + len ≤ length t → Written at len d t (written t at d)
written_over t at len d e h =
    record {
      size = written-length t at d;
      written =
          λ i l.
          let k : at + i - at ≡ i = omega arith in
          written_same t at d (at + i) (omega arith) (omega arith) (omega arith) ∙ ap (byte_at d) k;
      front = λ i l. written-other t at d i (inl l);
      behind = λ i l. written-other t at d i (inr (omega arith));
    }

pub effect-E7 : (F : Format) → EffectE7 F ours
unfolding telecommand_of effect obeyed_unit reply
effect-E7 F s o =
    let a = triple_at s.bytes 1 in
    let len = byte_at s.bytes 4 in
    let d = data_of s in
    let l = left Uplink 0xE7 refl s o in
    let (lent, _, (e, _, _, there)) = l.wants in
    let (least, most, _) = there in
    let x = lent.sequences in
    let y = lent.line_lists in
    let whole : length d ≡ len = simp length-drop (omega arith) in
    let seqs-in : (r : Range) → uplink_range s.bytes ≡ r → seqs_left ours s ≡ seqs_written r s.seqs d =
    λ r f. l.seqs ∙ ap (λ (q : Range). seqs_written q s.seqs d) f in
    let lists-in : (r : Range) → uplink_range s.bytes ≡ r → lists_left ours s ≡ lists_written r s.lists d =
    λ r f. l.lists ∙ ap (λ (q : Range). lists_written q s.lists d) f in (
      there,
      becomes l (OnlyLogged s.bytes s.unit) (logged-only s.bytes s.unit),
      silent l refl,
      λ h.
          let at = a - 0x070000 in
          let f = in-sequences a len least most h in
          (subst (Written at len d s.seqs) (sym (seqs-in _ f)) (written_over s.seqs at len d whole (omega arith)), lists-in _ f),
      λ h.
          let at = a - 0x074000 in
          let f = in-line-lists a len least most h in
          (subst (Written at len d s.lists) (sym (lists-in _ f)) (written_over s.lists at len d whole (omega arith)), seqs-in _ f),
    )
