-- Laws of packets over the definitions alone: which codes there are, when a packet is obeyed, and what a refusal leaves. Assumes nothing.
use Prim.Native.Nat.{ℕ, ◌≤◌, ◌<◌}
use native.Mathlib.Omega.{arith}
use mathlib.Core.Path.{◌≡◌, refl}
use mathlib.Core.Bool.{Bool, true, false, cond, ◌&&◌}
use mathlib.Core.List.{List, [], ◌∷◌, ◌++◌}
use mathlib.Core.Logic.{◌↔◌, ◌⊎◌, inl, inr}
use lib.Dec.{T, ltb, leb}
use lib.ListN.{length, drop}
use borrow.Author.Tests.{ltb-false, leb-true, le-leb, ne_eqb}
use Rattle.octets.specs.Rows.{Row, first_code, NoneHolds, coded as no_zero}
use Rattle.octets.proofs.Laws.{none-split, obeyed-exactly}
use Rattle.octets.proofs.Bools.{and_T, or-neither, by-test}
use Rattle.memory.specs.declared.Format.{Format}
use Rattle.memory.specs.Memory.{tables_wrong}
use Rattle.status.specs.declared.Ledger.{Ledger}
use Rattle.telecommand.specs.declared.Telecommand.{Telecommand}
use Rattle.telecommand.specs.declared.Telecommand.TheVariants.{Status, Dump, Allow, Mode, Clear, Select, Uplink, Foreign, Unheard}
use Rattle.telecommand.specs.Packet.{telecommand_of, command_of, shape_rows}
use Rattle.unit.specs.declared.Unit.{Unit}
use Rattle.unit.specs.State.{with_ledger, out_of_range}
use Rattle.unit.specs.Packet.{own_rows, lent_wrong, arrival_rows, packet_rows, code_of}
use Rattle.unit.specs.Answer.{refused_unit, unit_after, reply_of, seqs_after, lists_after, out_after}

-- ── which codes there are
-- no row's code is above a number
abbrev capped : ℕ → List Row → Bool
capped n [] = true
capped n (r ∷ rs) = leb r.code n && capped n rs

first-capped : (n : ℕ) (rs : List Row) → T (capped n rs) → first_code rs ≤ n
first-capped n [] p = omega arith
first-capped n (r ∷ rs) p =
    let (h, q) = and_T (leb r.code n) (capped n rs) p in
    by-test r.holds (λ e. rw e (leb-true r.code n h)) (λ e. rw e (first-capped n rs q))

-- of the commands' own rows: no code is 0, none is above 10
own-rows : (F : Format) (k : Telecommand) (u : Unit) (p : List ℕ) → T (no_zero (own_rows F k u p)) × T (capped 10 (own_rows F k u p))
unfolding own_rows
own-rows F Status u p = (tt, tt)
own-rows F Dump u p = (tt, tt)
own-rows F Allow u p = (tt, tt)
own-rows F Mode u p = (tt, tt)
own-rows F Clear u p = (tt, tt)
own-rows F Select u p = (tt, tt)
own-rows F Uplink u p = (tt, tt)
own-rows F Foreign u p = (tt, tt)
own-rows F Unheard u p = (tt, tt)

-- a code up to 10, or 16, or 17
abbrev pub Known : ℕ → Type 0
Known code = (code ≤ 10) ⊎ ((code ≡ 16) ⊎ (code ≡ 17))

known : (code : ℕ) (lent range : Bool) → code ≤ 10 → Known (cond lent 16 (cond range 17 code))
known code true range h = inr (inl refl)
known code false true h = inr (inr refl)
known code false false h = inl h

-- what is kept is kept whichever way a test goes
refused-parts : (t : Bool) (u : Unit) (l : Ledger) → let v : Unit = cond t u (with_ledger l u) in
    (v.control ≡ u.control) × ((v.watch ≡ u.watch) × (v.runner ≡ u.runner))
refused-parts true u l = (refl, (refl, refl))
refused-parts false u l = (refl, (refl, refl))

module _ (F : Format) (u : Unit) (seqs lists out p : List ℕ) where
  -- no row bears 0
  pub coded : T (no_zero (packet_rows F u seqs lists out p))
  unfolding packet_rows
  coded = (own-rows F (command_of p) u p).0

  pub own-codes : Known (code_of F u seqs lists out p)
  unfolding code_of packet_rows
  own-codes =
      let rest = drop 2 (packet_rows F u seqs lists out p) in
      known (first_code rest) (lent_wrong F seqs lists out) (out_of_range F u) (first-capped 10 rest (own-rows F (command_of p) u p).1)

  -- ── when a packet is obeyed
  pub accepted : (code_of F u seqs lists out p ≡ 0) ↔ NoneHolds (packet_rows F u seqs lists out p)
  unfolding code_of
  accepted = obeyed-exactly (packet_rows F u seqs lists out p) coded

  -- it passes each of the three tables
  pub passed : code_of F u seqs lists out p ≡ 0 → NoneHolds (arrival_rows F u seqs lists out p) × NoneHolds (shape_rows (command_of p) p) × NoneHolds (own_rows F (command_of p) u p)
  unfolding packet_rows
  passed h =
      let shape = shape_rows (command_of p) p in
      let own = own_rows F (command_of p) u p in
      let (arrives, rest) = none-split (arrival_rows F u seqs lists out p) (shape ++ own) (accepted.0 h) in
      let (whole, obeys) = none-split shape own rest in
      (arrives, whole, obeys)

  pub lent-right : code_of F u seqs lists out p ≡ 0 → lent_wrong F seqs lists out ≡ false
  lent-right h = (passed h).0.0

  -- ── what a refusal leaves
  -- "Refusals write no output and no table."
  pub record Kept (time : ℕ) : Type 0 where
    pub control : (unit_after F u seqs lists out p).control ≡ u.control
    pub watch : (unit_after F u seqs lists out p).watch ≡ u.watch
    pub runner : (unit_after F u seqs lists out p).runner ≡ u.runner
    pub sequences : seqs_after F u seqs lists out p ≡ seqs
    pub linelists : lists_after F u seqs lists out p ≡ lists
    pub output : out_after F u time seqs lists out p ≡ out

  pub refused-keeps : (time : ℕ) → (code_of F u seqs lists out p ≡ 0 → ⊥) → Kept time
  unfolding refused_unit unit_after reply_of seqs_after lists_after out_after
  refused-keeps time n =
      let e = ne_eqb (code_of F u seqs lists out p) 0 n in
      let k = refused-parts (leb 16 (code_of F u seqs lists out p)) u _ in
      record { control = simp e k.0; watch = simp e k.1.0; runner = simp e k.1.1; sequences = simp e; linelists = simp e; output = simp e }

  -- "16 and 17 change nothing and aren't counted."
  pub sixteen-on : 16 ≤ code_of F u seqs lists out p → unit_after F u seqs lists out p ≡ u
  unfolding refused_unit unit_after
  sixteen-on h =
      simp (ne_eqb (code_of F u seqs lists out p) 0 (λ z. omega arith), le-leb 16 (code_of F u seqs lists out p) h)

-- whatever its state in range, a unit that is lent the right sizes obeys a status request: no table of rows may refuse everything
pub status-obeyed : (F : Format) (u : Unit) (seqs lists out : List ℕ) → lent_wrong F seqs lists out ≡ false → out_of_range F u ≡ false → code_of F u seqs lists out (0x01 ∷ []) ≡ 0
unfolding telecommand_of own_rows packet_rows code_of
status-obeyed F u seqs lists out lent range = simp (lent, range)

-- an output of the right size has room for every answer
pub room : (F : Format) (seqs lists out : List ℕ) → lent_wrong F seqs lists out ≡ false → 16384 ≤ length out
unfolding lent_wrong
room F seqs lists out h = ltb-false (length out) 16384 (or-neither (tables_wrong F seqs lists) (ltb (length out) 16384) h).1

-- where a row of the first of two tables one after the other holds, the code is that of the first
pub first-kept : (xs ys : List Row) → 0 < first_code xs → first_code (xs ++ ys) ≡ first_code xs
first-kept [] ys h = absurd (omega arith)
first-kept (r ∷ rs) ys h = by-test r.holds (λ t. rw t) (λ f. rw f (first-kept rs ys (rw f at h)))
