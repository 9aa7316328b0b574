-- What an obeyed packet of a known command leaves: the definitions at that command.
-- Assumes nothing.
use Prim.Native.Nat.{ℕ}
use mathlib.Core.Path.{◌≡◌, refl, sym, ap, subst, ◌∙◌}
use mathlib.Core.List.{List, [], ◌++◌}
use lib.ListN.{length, drop}
use borrow.Author.Tests.{eq-eqb}
use Rattle.memory.specs.declared.Format.{Format}
use Rattle.memory.specs.Memory.{seqs_written, lists_written}
use Rattle.unit.specs.declared.Unit.{Unit as ControlUnit}
use Rattle.status.specs.declared.Ledger.{Ledger}
use Rattle.telecommand.specs.declared.Telecommand.{Telecommand}
use Rattle.status.specs.State.{arrived}
use Rattle.telecommand.specs.Packet.{telecommand_of, writes_to}
use Rattle.unit.specs.Packet.{code_of}
use Rattle.unit.specs.Answer.{with_arrival, obeyed_unit, reply, unit_after, reply_of, answer_of, seqs_after, lists_after, out_after}
use Rattle.promises.specs.Library.{ours}
use Rattle.promises.specs.Sent.{Sent, unit_left, seqs_left, lists_left, bc1, TablesKept, NoAnswer, Logged}
use Rattle.promises.specs.Demand2.{Lent, InRange, Wanted, Obeyed, Answered, OnlyLogged}
use Rattle.promises.proofs.Packets.Needs.{obeyed-exactly}

pub record Left {F : Format} (k : Telecommand) (s : Sent F) : Type 0 where
  pub wants : Lent s × InRange F s.unit × Wanted k s
  pub unit : unit_left ours s ≡ obeyed_unit k s.bytes s.unit
  pub seqs : seqs_left ours s ≡ seqs_written (writes_to k s.bytes) s.seqs (drop 5 s.bytes)
  pub lists : lists_left ours s ≡ lists_written (writes_to k s.bytes) s.lists (drop 5 s.bytes)
  pub reply : reply_of F s.unit s.time s.seqs s.lists s.out s.bytes ≡ reply k s.unit s.time s.seqs s.lists s.bytes

pub left : {F : Format} (k : Telecommand) (number : ℕ) → telecommand_of number ≡ k → (s : Sent F) → Obeyed ours number s → Left k s
unfolding answer_of unit_after seqs_after lists_after reply_of
left {F} k number known s o =
    let telecommand-is : telecommand_of (bc1 s) ≡ k = ap telecommand_of o.command ∙ known in
    let obeyed = eq-eqb (code_of F s.unit s.seqs s.lists s.out s.bytes) 0 o.accepted in
    let (l, r, w) = (obeyed-exactly F s).0 o.accepted in
    record {
      wants = (l, r, subst (λ (x : Telecommand). Wanted x s) telecommand-is w);
      unit = simp (obeyed, telecommand-is);
      seqs = simp (obeyed, telecommand-is);
      lists = simp (obeyed, telecommand-is);
      reply = simp (obeyed, telecommand-is);
    }

module _ {F : Format} {k : Telecommand} {s : Sent F} (l : Left k s) where
  pub answered : {bytes : List ℕ} → reply k s.unit s.time s.seqs s.lists s.bytes ≡ bytes → Answered ours bytes s
  unfolding answer_of out_after
  answered e =
      let f = l.reply ∙ e in
      record { size = ap length f; output = ap (λ (x : List ℕ). x ++ drop (length x) s.out) f }

  pub silent : reply k s.unit s.time s.seqs s.lists s.bytes ≡ [] → NoAnswer ours s
  silent e = let a = answered e in record { size = a.size; output = a.output }

  pub tables : seqs_written (writes_to k s.bytes) s.seqs (drop 5 s.bytes) ≡ s.seqs → lists_written (writes_to k s.bytes) s.lists (drop 5 s.bytes) ≡ s.lists → TablesKept ours s
  tables e f = record { sequences = l.seqs ∙ e; line_lists = l.lists ∙ f }

  -- what holds of the unit as it is defined holds of the unit after the packet
  pub becomes : (P : ControlUnit → Type 0) → P (obeyed_unit k s.bytes s.unit) → P (unit_left ours s)
  becomes P h = subst P (sym l.unit) h

pub logged-as : (p : List ℕ) (l : Ledger) → Logged p l (arrived p l)
logged-as p l = record { received = refl; failed = refl; code = refl; number = refl; log = refl }

pub logged-only : (p : List ℕ) (u : ControlUnit) → OnlyLogged p u (with_arrival p u)
logged-only p u = record { ledger = logged-as p u.ledger; control = refl; watch = refl; runner = refl }
