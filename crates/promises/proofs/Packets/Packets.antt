-- What any packet keeps: the unit's range, mode changes that are allowed outside STANDBY, and the tables' sizes.
-- Assumes nothing.
use Prim.Native.Nat.{ℕ}
use mathlib.Core.Path.{◌≡◌, refl}
use mathlib.Core.Bool.{Bool, true}
use mathlib.Core.List.{List}
use mathlib.Core.Logic.{◌⊎◌, inr}
use lib.Dec.{leb, eqb}
use lib.ListN.{length, drop}
use borrow.Author.Tests.{eqb-true}
use Rattle.octets.specs.Rows.{NoneHolds}
use Rattle.octets.proofs.Bools.{choice}
use Rattle.memory.specs.declared.Format.{Format}
use Rattle.memory.specs.declared.Range.{Range}
use Rattle.memory.specs.declared.Range.TheVariants.{Sequences, LineLists, Wrong}
use Rattle.memory.specs.Memory.{seqs_written, lists_written}
use Rattle.memory.proofs.Laws.{written-length}
use Rattle.unit.specs.declared.Unit.{Unit as ControlUnit}
use Rattle.telecommand.specs.declared.Telecommand.{Telecommand}
use Rattle.telecommand.specs.declared.Telecommand.TheVariants.{Status, Dump, Allow, Mode, Clear, Select, Uplink, Foreign, Unheard}
use Rattle.unit.specs.State.{moded, selected}
use Rattle.telecommand.specs.Packet.{command_of, writes_to}
use Rattle.unit.specs.Packet.{own_rows, code_of}
use Rattle.unit.specs.Answer.{effect, obeyed_unit, refused_unit, unit_after, seqs_after, lists_after}
use Rattle.promises.proofs.Range.Units.{InOrder}
use Rattle.promises.proofs.Packets.Obeyed.{own-passed, mode-passed, obeyed-order, refused-order}

-- ── mode changes stay allowed outside STANDBY
abbrev pub Free : ControlUnit → Type 0
Free u = (u.control.mode ≡ 1) ⊎ (u.control.allowed ≡ true)

obeyed-free : (F : Format) (u : ControlUnit) (k : Telecommand) (p : List ℕ) → NoneHolds (own_rows F k u p) → Free u → Free (obeyed_unit k p u)
unfolding effect obeyed_unit moded selected
obeyed-free F u Status p h f = f
obeyed-free F u Dump p h f = f
obeyed-free F u Allow p h f = inr refl
obeyed-free F u Mode p h f = inr (mode-passed F u p h).allowed
obeyed-free F u Clear p h f = f
obeyed-free F u Select p h f = f
obeyed-free F u Uplink p h f = f
obeyed-free F u Foreign p h f = f
obeyed-free F u Unheard p h f = f

-- ── the tables keep their sizes
seqs-written : (r : Range) (t d : List ℕ) → length (seqs_written r t d) ≡ length t
seqs-written (Sequences at) t d = written-length t at d
seqs-written (LineLists at) t d = refl
seqs-written Wrong t d = refl

lists-written : (r : Range) (t d : List ℕ) → length (lists_written r t d) ≡ length t
lists-written (Sequences at) t d = refl
lists-written (LineLists at) t d = written-length t at d
lists-written Wrong t d = refl

module _ (F : Format) (u : ControlUnit) (seqs lists out p : List ℕ) where
  abbrev obeyed : Bool
  obeyed = eqb (code_of F u seqs lists out p) 0

  pub packet-order : InOrder F u → InOrder F (unit_after F u seqs lists out p)
  unfolding unit_after
  packet-order g =
      choice (InOrder F) obeyed _ _
      (λ e. obeyed-order u g (command_of p) p (own-passed F u seqs lists out p (eqb-true (code_of F u seqs lists out p) 0 e)))
      (λ e. refused-order u g (code_of F u seqs lists out p) p)

  pub packet-free : Free u → Free (unit_after F u seqs lists out p)
  unfolding unit_after refused_unit
  packet-free f =
      choice Free obeyed _ _
      (λ e. obeyed-free F u (command_of p) p (own-passed F u seqs lists out p (eqb-true (code_of F u seqs lists out p) 0 e)) f)
      (λ e. choice Free (leb 16 (code_of F u seqs lists out p)) _ _ (λ c. f) (λ c. f))

  pub packet-sizes : (length (seqs_after F u seqs lists out p) ≡ length seqs) × (length (lists_after F u seqs lists out p) ≡ length lists)
  unfolding seqs_after lists_after
  packet-sizes = (
    choice (λ (t : List ℕ). length t ≡ length seqs) obeyed _ _ (λ e. seqs-written (writes_to (command_of p) p) seqs (drop 5 p)) (λ e. refl),
    choice (λ (t : List ℕ). length t ≡ length lists) obeyed _ _ (λ e. lists-written (writes_to (command_of p) p) lists (drop 5 p)) (λ e. refl),
  )
