-- The tests that refuse packets, as propositions: sizes, the state's range, and ranges of memory.
-- Assumes nothing.
use Rattle.std.specs.Prelude.{Option, Some, None}
use Prim.Native.Nat.{ℕ, ◌+◌, ◌-◌, ◌≤◌}
use native.Mathlib.Omega.{arith}
use mathlib.Core.Path.{◌≡◌, refl, ap}
use mathlib.Core.Bool.{Bool, true, false, not, ◌&&◌, ◌||◌, true≢false}
use mathlib.Core.List.{List, [], ◌∷◌}
use mathlib.Core.Logic.{◌↔◌, ◌⊎◌, inl, inr, ⊎_elim}
use lib.Dec.{ltb, leb, eqb}
use lib.ListN.{length}
use borrow.Author.Tests.{lt-ltb, le-ltb, ltb-false, lt-leb, le-leb, leb-true, leb-false, eq-eqb, ne_eqb, eqb-true, eqb-false, not-false}
use Rattle.octets.proofs.Bools.{and_both, or-neither, choice}
use Rattle.memory.specs.declared.Format.{Format}
use Rattle.memory.specs.declared.Address.{Address}
use Rattle.memory.specs.declared.Range.{Range}
use Rattle.memory.specs.declared.Range.TheVariants.{Sequences, LineLists, Wrong}
use Rattle.memory.specs.Memory.{tables_wrong, within, range_of, range_from, range_at, is_wrong}
use Rattle.memory.proofs.Laws.{sizes, right-sizes}
use Rattle.unit.specs.declared.Unit.{Unit as ControlUnit}
use Rattle.octets.specs.Rows.{some}
use Rattle.unit.specs.State.{is_none, runs_wrong, range_tests, out_of_range}
use Rattle.unit.specs.Packet.{lent_wrong}
use Rattle.promises.proofs.Formats.{fills-exactly}
use Rattle.promises.specs.Sent.{Sent}
use Rattle.promises.specs.Demand2.{Lent, RangeExactly, InSequences, InLineLists, InOneTable}

-- none of these tests holds
abbrev NoneOf : List Bool → Type 0
NoneOf [] = Prim.Unit {0}
NoneOf (t ∷ ts) = (t ≡ false) × NoneOf ts

none_of : (ts : List Bool) → some ts ≡ false → NoneOf ts
none_of [] e = tt
none_of (t ∷ ts) e = let (h, k) = or-neither t (some ts) e in (h, none_of ts k)

of_none : (ts : List Bool) → NoneOf ts → some ts ≡ false
of_none [] n = refl
of_none (t ∷ ts) n = rw n.0 (of_none ts n.1)

-- ── the state
-- a test that none passes does not hold exactly when what it stands for does, or the number is none
unless-none : (t : Bool) (n : ℕ) {A : Type 0} → (t ≡ false → A) → (t && not (is_none n)) ≡ false → A ⊎ (n ≡ 255)
unless-none t n {A} f = go t (is_none n) refl refl
  where
    go : (a b : Bool) → t ≡ a → is_none n ≡ b → (a && not b) ≡ false → A ⊎ (n ≡ 255)
    go true true p q e = inr (eqb-true n 255 q)
    go true false p q e = absurd (true≢false e)
    go false b p q e = inl (f p)

none_passes : (t : Bool) (n : ℕ) {A : Type 0} → (A → t ≡ false) → A ⊎ (n ≡ 255) → (t && not (is_none n)) ≡ false
none_passes t n f (inl h) = simp (f h)
none_passes true n f (inr e) = simp (e)
none_passes false n f (inr e) = refl

abbrev RunsWell : ControlUnit → Type 0
RunsWell u = u.runner.running ≡ true → (u.control.mode ≡ 3) × (u.control.selection ≡ 255 → ⊥) × (u.runner.sequence ≡ 255 → ⊥)

runs-well : (u : ControlUnit) → runs_wrong u ≡ false → RunsWell u
unfolding runs_wrong
runs-well u e on =
    let (m, n) = or-neither (not (eqb u.control.mode 3)) _ (simp on at e) in
    let (p, q) = or-neither (is_none u.control.selection) (is_none u.runner.sequence) n in
    (eqb-true u.control.mode 3 (not-false (eqb u.control.mode 3) m), eqb-false u.control.selection 255 p, eqb-false u.runner.sequence 255 q)

not-wrong : (u : ControlUnit) → RunsWell u → runs_wrong u ≡ false
unfolding runs_wrong
not-wrong u f = go u.runner.running refl
  where
    go : (b : Bool) → u.runner.running ≡ b → (b && (not (eqb u.control.mode 3) || (is_none u.control.selection || is_none u.runner.sequence))) ≡ false
    go true e = let (m, p, q) = f e in simp (eq-eqb u.control.mode 3 m, ne_eqb u.control.selection 255 p, ne_eqb u.runner.sequence 255 q)
    go false e = refl

pub range-exactly : (F : Format) → RangeExactly F
unfolding out_of_range range_tests
range-exactly F u = (
  λ e.
      let n = none_of (range_tests F u) e in
      record {
        least = ltb-false u.control.mode 1 n.0;
        most = ltb-false 3 u.control.mode n.1.0;
        failed = ltb-false 15 u.ledger.code n.1.1.0;
        abort = ltb-false 15 u.watch.abort n.1.1.1.0;
        sequence = unless-none (ltb F.last u.runner.sequence) u.runner.sequence (ltb-false F.last u.runner.sequence) n.1.1.1.1.0;
        selection = unless-none (ltb F.last u.control.selection) u.control.selection (ltb-false F.last u.control.selection) n.1.1.1.1.1.0;
        place = leb-false F.size u.runner.place n.1.1.1.1.1.1.0;
        raster = unless-none (leb F.size u.runner.raster.place) u.runner.raster.place (leb-false F.size u.runner.raster.place) n.1.1.1.1.1.1.1.0;
        list = ltb-false 47 u.watch.list n.1.1.1.1.1.1.1.1.0;
        mirror = ltb-false 2400 u.runner.mirror n.1.1.1.1.1.1.1.1.1.0;
        count = ltb-false 8 u.runner.raster.count n.1.1.1.1.1.1.1.1.1.1.0;
        runs = runs-well u n.1.1.1.1.1.1.1.1.1.1.1.0;
      },
  λ r.
      of_none (range_tests F u) (
        le-ltb u.control.mode 1 r.least,
        (
          le-ltb 3 u.control.mode r.most,
          (
            le-ltb 15 u.ledger.code r.failed,
            (
              le-ltb 15 u.watch.abort r.abort,
              (
                none_passes (ltb F.last u.runner.sequence) u.runner.sequence (le-ltb F.last u.runner.sequence) r.sequence,
                (
                  none_passes (ltb F.last u.control.selection) u.control.selection (le-ltb F.last u.control.selection) r.selection,
                  (
                    lt-leb F.size u.runner.place r.place,
                    (
                      none_passes (leb F.size u.runner.raster.place) u.runner.raster.place (lt-leb F.size u.runner.raster.place) r.raster,
                      (
                        le-ltb 47 u.watch.list r.list,
                        (
                          le-ltb 2400 u.runner.mirror r.mirror,
                          (
                            le-ltb 8 u.runner.raster.count r.count,
                            (not-wrong u r.runs, tt),
                          ),
                        ),
                      ),
                    ),
                  ),
                ),
              ),
            ),
          ),
        ),
      ),
)

-- ── sizes
pub lent-exactly : {F : Format} (s : Sent F) → (lent_wrong F s.seqs s.lists s.out ≡ false) ↔ Lent s
unfolding lent_wrong
lent-exactly {F} s = (
  λ e.
      let (a, b) = or-neither (tables_wrong F s.seqs s.lists) (ltb (length s.out) 16384) e in
      let (f, p, q) = sizes F s.seqs s.lists a in
      record { format = (fills-exactly F).0 f; sequences = p; line_lists = q; output = ltb-false (length s.out) 16384 b },
  λ l. simp (right-sizes F s.seqs s.lists ((fills-exactly F).1 l.format) l.sequences l.line_lists, le-ltb (length s.out) 16384 l.output),
)

-- ── ranges
module _ (a len : ℕ) (least : 1 ≤ len) (most : len ≤ 16384) where
  pub in-sequences : InSequences a len → range_at a len ≡ Sequences (a - 0x070000)
  unfolding range_at range_of
  in-sequences h =
      simp (
        le-ltb a 0x070000 h.0,
        lt-ltb a 0x075EC0 (omega arith),
        ne_eqb len 0 (λ z. omega arith),
        le-ltb 16384 len most,
        le-leb 0x070000 a h.0,
        le-leb (a + len) 0x074000 h.1,
      )

  pub in-line-lists : InLineLists a len → range_at a len ≡ LineLists (a - 0x074000)
  unfolding range_at range_of
  in-line-lists h =
      simp (
        le-ltb a 0x070000 (omega arith),
        lt-ltb a 0x075EC0 (omega arith),
        ne_eqb len 0 (λ z. omega arith),
        le-ltb 16384 len most,
        le-leb 0x070000 a (omega arith),
        lt-leb (a + len) 0x074000 (omega arith),
        le-leb 0x074000 a h.0,
        le-leb (a + len) 0x075EC0 h.1,
      )

module _ (a len : ℕ) where
  abbrev Told : Range → Type 0
  Told r = is_wrong r ≡ false → InOneTable a len

  of_range : Told (range_of a len)
  unfolding range_of
  of_range =
      choice Told (eqb len 0 || ltb 16384 len) Wrong _ (λ _ e. absurd (true≢false e))
      (λ n.
      let (p, q) = or-neither (eqb len 0) (ltb 16384 len) n in
      let some = eqb-false len 0 p in
      let most = ltb-false 16384 len q in
      let least : 1 ≤ len = omega arith in
      choice Told (within 0x070000 16384 a len) (Sequences (a - 0x070000)) _
      (λ h _. let (x, y) = and_both (leb 0x070000 a) (leb (a + len) 0x074000) h in
      (least, most, inl (leb-true 0x070000 a x, leb-true (a + len) 0x074000 y)))
      (λ _. choice Told (within 0x074000 7872 a len) (LineLists (a - 0x074000)) Wrong
      (λ h _. let (x, y) = and_both (leb 0x074000 a) (leb (a + len) 0x075EC0) h in
      (least, most, inr (leb-true 0x074000 a x, leb-true (a + len) 0x075EC0 y)))
      (λ _ e. absurd (true≢false e))))

  range-told : Told (range_at a len)
  unfolding range_at
  range-told =
      let P : Option Address → Type 0 = λ x. Told (range_from x len) in
      choice P (ltb a 0x070000) None _ (λ _ e. absurd (true≢false e))
      (λ _. choice P (ltb a 0x075EC0) (Some (record { 0 = a })) None (λ _. of_range) (λ _ e. absurd (true≢false e)))

  pub one-table-exactly : (is_wrong (range_at a len) ≡ false) ↔ InOneTable a len
  one-table-exactly = (
    range-told,
    λ h. ⊎_elim (λ i. ap is_wrong (in-sequences a len h.0 h.1 i)) (λ i. ap is_wrong (in-line-lists a len h.0 h.1 i)) h.2,
  )
