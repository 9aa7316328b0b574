-- In AUTO no packet but a call back moves the runner, and none writes a table while a sequence runs: 83 is refused outside MANUAL, 21 takes
-- AUTO to MANUAL alone, and E7 is refused to a running unit. Assumes nothing.
use Prim.Native.Nat.{ℕ}
use native.Mathlib.Omega.{arith}
use mathlib.Core.Path.{◌≡◌, refl, sym, ap, ap₂, subst, ◌∙◌}
use mathlib.Core.Bool.{Bool, true, false, cond, true≢false, false≢true}
use mathlib.Core.List.{List, [], ◌∷◌}
use lib.Dec.{leb, eqb}
use lib.ListN.{length, drop}
use borrow.Author.Tests.{eqb-true, eq-eqb}
use Rattle.octets.specs.Bytes.{byte_at}
use Rattle.octets.specs.Rows.{NoneHolds}
use Rattle.octets.proofs.Bools.{by-test, choice}
use Rattle.memory.specs.declared.Format.{Format}
use Rattle.memory.specs.declared.Range.{Range}
use Rattle.memory.specs.declared.Range.TheVariants.{Wrong}
use Rattle.memory.specs.Memory.{seqs_written, lists_written}
use Rattle.unit.specs.declared.Unit.{Unit as ControlUnit}
use Rattle.telecommand.specs.declared.Telecommand.{Telecommand}
use Rattle.telecommand.specs.declared.Telecommand.TheVariants.{Status, Dump, Allow, Mode, Clear, Select, Uplink, Foreign, Unheard}
use Rattle.telecommand.specs.Packet.{command_of, foreign, bc1_of, is, obeyable, telecommand_of, size_good, pair_allowed, writes_to}
use Rattle.unit.specs.Packet.{own_rows, code_of}
use Rattle.unit.specs.Answer.{effect, obeyed_unit, refused_unit, unit_after, seqs_after, lists_after}
use Rattle.telecommand.proofs.Laws.{is-told, numbers}
use Rattle.promises.specs.Demand3.{calling_back}
use Rattle.promises.proofs.Packets.Obeyed.{own-passed, length-passed, mode-passed, select-passed}

-- the runner is where it was, and the mode is AUTO
abbrev pub Stays : ControlUnit → ControlUnit → Type 0
Stays u v = (v.runner ≡ u.runner) × (v.control.mode ≡ 3)

only-back : (a m : ℕ) → a ≡ 3 → pair_allowed a m ≡ true → m ≡ 2
only-back a m e h = by-test (eqb m 2) (λ b. eqb-true m 2 b) (λ b. absurd (false≢true (rw (e, b) at h)))

obeyed-stays : (F : Format) (u : ControlUnit) (k : Telecommand) (p : List ℕ) → NoneHolds (own_rows F k u p) → u.control.mode ≡ 3 → (k ≡ Mode → byte_at p 1 ≡ 2 → ⊥) → Stays u (obeyed_unit k p u)
unfolding effect obeyed_unit
obeyed-stays F u Status p h e x = (refl, e)
obeyed-stays F u Dump p h e x = (refl, e)
obeyed-stays F u Allow p h e x = (refl, e)
obeyed-stays F u Mode p h e x = absurd (x refl (only-back u.control.mode (byte_at p 1) e (mode-passed F u p h).pair))
obeyed-stays F u Clear p h e x = (refl, e)
obeyed-stays F u Select p h e x = let m = (select-passed F u p h).0 in absurd (omega arith)
obeyed-stays F u Uplink p h e x = (refl, e)
obeyed-stays F u Foreign p h e x = (refl, e)
obeyed-stays F u Unheard p h e x = (refl, e)

-- a command that the unit obeys is known by its own number alone
pub number_is : (k : Telecommand) → is k Foreign ≡ false → is k Unheard ≡ false → (n : ℕ) → telecommand_of n ≡ k → n ≡ bc1_of k
unfolding telecommand_of
number_is k f h n e =
    let other : (c : Telecommand) → is k c ≡ false → c ≡ k → ⊥ = λ c x z. false≢true (sym x ∙ ap (is k) z ∙ eq-eqb (bc1_of k) (bc1_of k) refl) in
    numbers n obeyable (cond (foreign n) Foreign Unheard) k (choice (λ (c : Telecommand). c ≡ k → ⊥) (foreign n) Foreign Unheard (λ _. other Foreign f) (λ _. other Unheard h)) e

-- the only packet that is obeyed as a change to MANUAL is 21 02
two_bytes : (p : List ℕ) (a b : ℕ) → length p ≡ 2 → byte_at p 0 ≡ a → byte_at p 1 ≡ b → p ≡ a ∷ b ∷ []
two_bytes [] a b l e f = absurd (omega arith)
two_bytes (x ∷ []) a b l e f = absurd (omega arith)
two_bytes (x ∷ y ∷ []) a b l e f = ap₂ (λ (v w : ℕ). v ∷ w ∷ []) e f
two_bytes (x ∷ y ∷ z ∷ zs) a b l e f = absurd (omega arith)

calls_back : (p : List ℕ) → command_of p ≡ Mode → size_good (command_of p) p ≡ true → byte_at p 1 ≡ 2 → p ≡ calling_back
calls_back p k l b = two_bytes p 0x21 0x02 (eqb-true (length p) 2 (subst (λ (x : Telecommand). size_good x p ≡ true) k l)) (number_is Mode refl refl (byte_at p 0) k) b

uplink-passed : (F : Format) (u : ControlUnit) (p : List ℕ) → NoneHolds (own_rows F Uplink u p) → u.runner.running ≡ false
unfolding own_rows
uplink-passed F u p h = h.0

writes-none : (F : Format) (u : ControlUnit) (k : Telecommand) (p : List ℕ) → NoneHolds (own_rows F k u p) → u.runner.running ≡ true → writes_to k p ≡ Wrong
writes-none F u k p h r =
    choice (λ (x : Range). x ≡ Wrong) (is Uplink k) _ _
    (λ e. absurd (true≢false (sym r ∙ uplink-passed F u p (subst (λ (c : Telecommand). NoneHolds (own_rows F c u p)) (is-told Uplink k e) h))))
    (λ e. refl)

module _ (F : Format) (u : ControlUnit) (seqs lists out p : List ℕ) where
  abbrev obeyed : Bool
  obeyed = eqb (code_of F u seqs lists out p) 0

  passed : obeyed ≡ true → NoneHolds (own_rows F (command_of p) u p)
  passed e = own-passed F u seqs lists out p (eqb-true (code_of F u seqs lists out p) 0 e)

  pub packet-stays : u.control.mode ≡ 3 → (p ≡ calling_back → code_of F u seqs lists out p ≡ 0 → ⊥) → Stays u (unit_after F u seqs lists out p)
  unfolding unit_after refused_unit
  packet-stays e x =
      choice (Stays u) obeyed _ _
      (λ o.
      let c = eqb-true (code_of F u seqs lists out p) 0 o in
      obeyed-stays F u (command_of p) p (passed o) e (λ k b. x (calls_back p k (length-passed F u seqs lists out p c) b) c))
      (λ o. choice (Stays u) (leb 16 (code_of F u seqs lists out p)) _ _ (λ c. (refl, e)) (λ c. (refl, e)))

  -- a table that an obeyed packet leaves alone is as it was
  pub seqs-same : (obeyed ≡ true → seqs_written (writes_to (command_of p) p) seqs (drop 5 p) ≡ seqs) → seqs_after F u seqs lists out p ≡ seqs
  unfolding seqs_after
  seqs-same f = choice (λ (t : List ℕ). t ≡ seqs) obeyed _ _ f (λ o. refl)

  pub lists-same : (obeyed ≡ true → lists_written (writes_to (command_of p) p) lists (drop 5 p) ≡ lists) → lists_after F u seqs lists out p ≡ lists
  unfolding lists_after
  lists-same f = choice (λ (t : List ℕ). t ≡ lists) obeyed _ _ f (λ o. refl)

  pub packet-tables : u.runner.running ≡ true → (seqs_after F u seqs lists out p ≡ seqs) × (lists_after F u seqs lists out p ≡ lists)
  packet-tables r = (
    seqs-same (λ o. ap (λ (x : Range). seqs_written x seqs (drop 5 p)) (writes-none F u (command_of p) p (passed o) r)),
    lists-same (λ o. ap (λ (x : Range). lists_written x lists (drop 5 p)) (writes-none F u (command_of p) p (passed o) r)),
  )
