-- In MANUAL 83 n and then 21 03 are obeyed, and the runner stands at the door of sequence n.
-- Assumes nothing.
use Prim.Native.Nat.{ℕ, ◌≤◌}
use native.Mathlib.Omega.{arith}
use mathlib.Core.Path.{◌≡◌, refl, sym, ap, ◌∙◌, subst}
use mathlib.Core.Bool.{true, false}
use mathlib.Core.List.{List, [], ◌∷◌}
use mathlib.Core.Logic.{⊎_elim}
use lib.ListN.{length}
use borrow.Author.Tests.{le-ltb, ne_eqb}
use Rattle.memory.specs.declared.Format.{Format}
use Rattle.unit.specs.declared.Unit.{Unit as ControlUnit}
use Rattle.unit.specs.State.{power_on, moded, selected}
use Rattle.telecommand.specs.Packet.{command_of, telecommand_of}
use Rattle.unit.specs.Packet.{own_rows, lent_wrong, packet_rows, code_of}
use Rattle.unit.specs.Answer.{effect, obeyed_unit, unit_after, answer_of}
use Rattle.promises.specs.Formats.{Fills}
use Rattle.promises.specs.Library.{ours}
use Rattle.promises.specs.Runs.{AtDoor}
use Rattle.promises.specs.Demand3.{World, world, packet, after, powered, acted, mode_of, selecting, starting, SelectionObeyed, Starts, Applies}
use Rattle.promises.proofs.Formats.{fair-in}
use Rattle.promises.proofs.Range.Units.{order-in}
use Rattle.promises.proofs.Packets.Auto.{seqs-same, lists-same}
use Rattle.promises.proofs.Range.Steady.{Steady, tables-right, steady}

unit-obeyed : (F : Format) (u : ControlUnit) (seqs lists out p : List ℕ) → code_of F u seqs lists out p ≡ 0 → unit_after F u seqs lists out p ≡ obeyed_unit (command_of p) p u
unfolding unit_after
unit-obeyed F u seqs lists out p e = rw e

module _ {F : Format} {w : World F} (g : Steady w) (out : List ℕ) (room : 16384 ≤ length out) where
  lent-right : lent_wrong F w.seqs w.lists out ≡ false
  unfolding lent_wrong
  lent-right = rw (tables-right g, le-ltb (length out) 16384 room)

  -- ── 83 n
  select_code : (n : ℕ) → mode_of w ≡ 2 → n ≤ F.last → code_of F w.unit w.seqs w.lists out (selecting n) ≡ 0
  unfolding code_of packet_rows telecommand_of own_rows
  select_code n m h = rw (lent-right, order-in (fair-in g.full) w.unit g.order, m, le-ltb F.last n h)

  -- ── 21 03
  start-code : (n : ℕ) → mode_of w ≡ 2 → w.unit.control.selection ≡ n → n ≤ F.last → code_of F w.unit w.seqs w.lists out starting ≡ 0
  unfolding code_of packet_rows telecommand_of own_rows
  start-code n m s h = rw (lent-right, order-in (fair-in g.full) w.unit g.order, allowed, m, ne_eqb w.unit.control.selection 255 (let last = (fair-in g.full).last in λ e. omega arith))
    where
      allowed : w.unit.control.allowed ≡ true
      allowed = ⊎_elim (λ (e : mode_of w ≡ 1). absurd (omega arith)) (λ e. e) g.free

  -- ── 20, and 21 02 from STANDBY
  allow-code : code_of F w.unit w.seqs w.lists out (0x20 ∷ []) ≡ 0
  unfolding code_of packet_rows telecommand_of own_rows
  allow-code = rw (lent-right, order-in (fair-in g.full) w.unit g.order)

  manual-code : mode_of w ≡ 1 → w.unit.control.allowed ≡ true → code_of F w.unit w.seqs w.lists out (0x21 ∷ 0x02 ∷ []) ≡ 0
  unfolding code_of packet_rows telecommand_of own_rows
  manual-code m a = rw (lent-right, order-in (fair-in g.full) w.unit g.order, a, m)

pub applies : {F : Format} → Fills F → Applies F ours
unfolding answer_of effect obeyed_unit telecommand_of power_on moded
applies {F} full seqs lists s l out out' room room' time time' =
    let w = world {F = F} power_on seqs lists in
    let v = after ours (packet out time (0x20 ∷ [])) w in
    let r = acted (packet out time (0x20 ∷ [])) (powered seqs lists s l) in
    let e = unit-obeyed F power_on seqs lists out (0x20 ∷ []) (allow-code (steady full (powered seqs lists s l)) out room) in
    let m = ap (λ (u : ControlUnit). u.control.mode) e in
    let a = ap (λ (u : ControlUnit). u.control.allowed) e in
    let e' = unit-obeyed F v.unit v.seqs v.lists out' (0x21 ∷ 0x02 ∷ []) (manual-code (steady full r) out' room' m a) in (
      acted (packet out' time' (0x21 ∷ 0x02 ∷ [])) r,
      ap (λ (u : ControlUnit). u.control.mode) e',
      seqs-same F _ v.seqs v.lists out' (0x21 ∷ 0x02 ∷ []) (λ o. refl) ∙ seqs-same F _ seqs lists out (0x20 ∷ []) (λ o. refl),
      lists-same F _ v.seqs v.lists out' (0x21 ∷ 0x02 ∷ []) (λ o. refl) ∙ lists-same F _ seqs lists out (0x20 ∷ []) (λ o. refl),
    )

pub selects : {F : Format} → Fills F → SelectionObeyed F ours
unfolding answer_of effect obeyed_unit telecommand_of selected
selects {F} full w r m n h out room time =
    let u = w.unit in
    let code = select_code (steady full r) out room n m h in
    let e = unit-obeyed F u w.seqs w.lists out (selecting n) code in (
      code,
      record {
        reached = acted (packet out time (selecting n)) r;
        manual = ap (λ (v : ControlUnit). v.control.mode) e ∙ m;
        selection = ap (λ (v : ControlUnit). v.control.selection) e;
        known = h;
      },
      seqs-same F _ w.seqs w.lists out (selecting n) (λ o. refl),
      lists-same F _ w.seqs w.lists out (selecting n) (λ o. refl),
    )

pub starts : {F : Format} → Fills F → Starts F ours
unfolding answer_of effect obeyed_unit telecommand_of moded
starts {F} full n w g out room time =
    let u = w.unit in
    let code = start-code (steady full g.reached) out room n g.manual g.selection g.known in
    let e = unit-obeyed F u w.seqs w.lists out starting code in (
      code,
      record {
        reached = acted (packet out time starting) g.reached;
        auto = ap (λ (v : ControlUnit). v.control.mode) e;
        door =
            subst (λ (v : ControlUnit). AtDoor n v.runner.mirror v.runner) (sym e)
            (record { running = refl; entering = refl; sequence = g.selection; place = refl; raster = refl; mirror = refl });
        known = g.known;
      },
      seqs-same F _ w.seqs w.lists out starting (λ o. refl),
      lists-same F _ w.seqs w.lists out starting (λ o. refl),
    )
