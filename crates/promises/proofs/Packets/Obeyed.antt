-- What an obeyed packet has passed, and that it leaves the unit in range; a refused one does too.
-- Assumes nothing.
use Prim.Native.Nat.{ℕ, ◌≤◌}
use native.Mathlib.Omega.{arith}
use mathlib.Core.Path.{◌≡◌, refl, sym, ◌∙◌}
use mathlib.Core.Bool.{Bool, true, false, true≢false, false≢true}
use mathlib.Core.List.{List}
use mathlib.Core.Logic.{inl, inr}
use lib.Dec.{leb, eqb}
use borrow.Author.Tests.{ltb-false, leb-true, leb-false, eqb-true, not-false}
use Rattle.octets.specs.Bytes.{byte_at, counted}
use Rattle.octets.specs.Rows.{NoneHolds}
use Rattle.octets.proofs.Bools.{and_both, choice}
use Rattle.memory.specs.declared.Format.{Format}
use Rattle.unit.specs.declared.Unit.{Unit as ControlUnit}
use Rattle.status.specs.declared.Ledger.{Ledger}
use Rattle.telecommand.specs.declared.Telecommand.{Telecommand}
use Rattle.telecommand.specs.declared.Telecommand.TheVariants.{Status, Dump, Allow, Mode, Clear, Select, Uplink, Foreign, Unheard}
use Rattle.status.specs.State.{with_mode, with_allowed, with_requests, with_abort, arrived, failed, cleared}
use Rattle.unit.specs.State.{with_ledger, with_control, with_watch, is_none, started, stopped, moded, selected}
use Rattle.telecommand.specs.Packet.{command_of, from_to, size_good, pair_allowed}
use Rattle.unit.specs.Packet.{own_rows, code_of}
use Rattle.unit.specs.Answer.{with_arrival, effect, obeyed_unit, refused_unit}
use Rattle.unit.proofs.Laws.{passed}
use Rattle.promises.proofs.Range.Units.{InOrder, some_known}

-- ── what an obeyed packet has passed
module _ (F : Format) (u : ControlUnit) (seqs lists out p : List ℕ) (e : code_of F u seqs lists out p ≡ 0) where
  pub own-passed : NoneHolds (own_rows F (command_of p) u p)
  own-passed = (passed F u seqs lists out p e).2

  pub length-passed : size_good (command_of p) p ≡ true
  length-passed = not-false (size_good (command_of p) p) (passed F u seqs lists out p e).1.1.1.0

-- a mode change: the new mode, and the pair
pub record Changes (u : ControlUnit) (m : ℕ) : Type 0 where
  pub allowed : u.control.allowed ≡ true
  pub low : 1 ≤ m
  pub high : m ≤ 3
  pub pair : pair_allowed u.control.mode m ≡ true
  pub chosen : m ≡ 3 → is_none u.control.selection ≡ false

pub mode-passed : (F : Format) (u : ControlUnit) (p : List ℕ) → NoneHolds (own_rows F Mode u p) → Changes u (byte_at p 1)
unfolding own_rows
mode-passed F u p h =
    let m = byte_at p 1 in
    record {
      allowed = not-false u.control.allowed h.0;
      low = leb-true 1 m (and_both (leb 1 m) (leb m 5) (not-false (from_to 1 5 m) h.1.0)).0;
      high = ltb-false 3 m h.1.1.0;
      pair = not-false (pair_allowed u.control.mode m) h.1.1.1.0;
      chosen = λ e. rw e at h.1.1.1.1.0;
    }

-- ── the range
module _ {F : Format} (u : ControlUnit) (g : InOrder F u) where
  ledger-order : (l : Ledger) (abort : ℕ) → l.code ≤ 15 → abort ≤ 15 → InOrder F (with_ledger l (with_watch (with_abort abort u.watch) u))
  ledger-order l abort h k = record { low = g.low; high = g.high; code = h; abort = k; selection = g.selection; list = g.list; runner = g.runner; auto = g.auto }

  -- a packet that arrived
  arrival-order : (p : List ℕ) → InOrder F (with_arrival p u)
  arrival-order p = ledger-order (arrived p u.ledger) u.watch.abort g.code g.abort

  -- requests counted, mode changes allowed
  control-order : (b : Bool) (n : ℕ) → InOrder F (with_control (with_allowed b (with_requests n u.control)) u)
  control-order b n = record { low = g.low; high = g.high; code = g.code; abort = g.abort; selection = g.selection; list = g.list; runner = g.runner; auto = g.auto }

  selected-order : (n : ℕ) → n ≤ F.last → InOrder F (selected n u)
  unfolding selected
  selected-order n h =
      record {
        low = g.low;
        high = g.high;
        code = g.code;
        abort = g.abort;
        selection = inl h;
        list = g.list;
        runner = record { sequence = inl h; place = let l = g.runner.place in omega arith; raster = g.runner.raster; count = g.runner.count; mirror = g.runner.mirror; known = λ r. h };
        auto = λ r. ((g.auto r).0, h);
      }

  started-order : (m : ℕ) → m ≡ 3 → is_none u.control.selection ≡ false → InOrder F (with_control (with_mode m u.control) (started u))
  started-order m e n =
      let h = some_known g.selection n in
      record {
        low = omega arith;
        high = omega arith;
        code = g.code;
        abort = omega arith;
        selection = g.selection;
        list = g.list;
        runner = record { sequence = inl h; place = let l = g.runner.place in omega arith; raster = inr refl; count = g.runner.count; mirror = g.runner.mirror; known = λ r. h };
        auto = λ r. (e, h);
      }

  -- a mode for a unit that does not run
  mode-order : (m : ℕ) → 1 ≤ m → m ≤ 3 → u.runner.running ≡ false → InOrder F (with_control (with_mode m u.control) u)
  mode-order m l h e =
      record { low = l; high = h; code = g.code; abort = g.abort; selection = g.selection; list = g.list; runner = g.runner; auto = λ r. absurd (true≢false (sym r ∙ e)) }

  stopped-order : InOrder F (stopped u)
  stopped-order =
      record {
        low = g.low;
        high = g.high;
        code = g.code;
        abort = omega arith;
        selection = g.selection;
        list = g.list;
        runner =
            record { sequence = g.runner.sequence; place = g.runner.place; raster = g.runner.raster; count = g.runner.count; mirror = g.runner.mirror; known = λ r. absurd (false≢true r) };
        auto = λ r. absurd (false≢true r);
      }

moded-order : {F : Format} (u : ControlUnit) → InOrder F u → (m : ℕ) → Changes u m → InOrder F (moded m u)
unfolding moded
moded-order {F} u g m c =
    let P : ControlUnit → Type 0 = λ v. InOrder F (with_control (with_mode m u.control) v) in
    choice P (eqb m 3) _ _
    (λ e. let auto = eqb-true m 3 e in started-order u g m auto (c.chosen auto))
    (λ e.
    choice P u.runner.running _ _
    (λ r. mode-order (stopped u) (stopped-order u g) m c.low c.high refl)
    (λ r. mode-order u g m c.low c.high r))

pub select-passed : (F : Format) (u : ControlUnit) (p : List ℕ) → NoneHolds (own_rows F Select u p) → (u.control.mode ≡ 2) × (byte_at p 1 ≤ F.last)
unfolding own_rows
select-passed F u p h = (eqb-true u.control.mode 2 (not-false (eqb u.control.mode 2) h.0), ltb-false F.last (byte_at p 1) h.1.0)

pub obeyed-order : {F : Format} (u : ControlUnit) → InOrder F u → (k : Telecommand) (p : List ℕ) → NoneHolds (own_rows F k u p) → InOrder F (obeyed_unit k p u)
unfolding effect obeyed_unit
obeyed-order u g Status p h = control-order u g u.control.allowed (counted u.control.requests)
obeyed-order u g Dump p h = arrival-order u g p
obeyed-order u g Allow p h = control-order (with_arrival p u) (arrival-order u g p) true u.control.requests
obeyed-order {F} u g Mode p h =
    let c = mode-passed F u p h in
    moded-order (with_arrival p u) (arrival-order u g p) (byte_at p 1)
    (record { allowed = c.allowed; low = c.low; high = c.high; pair = c.pair; chosen = c.chosen })
obeyed-order u g Clear p h = ledger-order u g (cleared (arrived p u.ledger)) 0 (omega arith) (omega arith)
obeyed-order {F} u g Select p h = selected-order (with_arrival p u) (arrival-order u g p) (byte_at p 1) (select-passed F u p h).1
obeyed-order u g Uplink p h = arrival-order u g p
obeyed-order u g Foreign p h = arrival-order u g p
obeyed-order u g Unheard p h = arrival-order u g p

pub refused-order : {F : Format} (u : ControlUnit) → InOrder F u → (code : ℕ) (p : List ℕ) → InOrder F (refused_unit code p u)
unfolding refused_unit
refused-order {F} u g code p =
    choice (InOrder F) (leb 16 code) _ _ (λ e. g)
    (λ e. ledger-order u g (failed (byte_at p 0) code (arrived p u.ledger)) u.watch.abort (let l = leb-false 16 code e in omega arith) g.abort)
