-- `still`: the first address at which its test holds is the lowest one of a byte that the pass rests on and that is another now. Assumes nothing.
use Prim.Native.Nat.{ℕ, ◌-◌, ◌≤◌, ◌<◌}
use native.Mathlib.Decide.{dec_lt}
use native.Mathlib.Omega.{arith}
use mathlib.Core.Path.{◌≡◌, refl, sym, ap, subst, ◌∙◌}
use mathlib.Core.Bool.{Bool, true, false, true≢false}
use mathlib.Core.List.{List}
use mathlib.Core.Logic.{◌⊎◌, ◌↔◌, inl, inr}
use lib.Dec.{ltb, eqb}
use borrow.Author.Tests.{ltb-true, ltb-false, lt-ltb, le-ltb, eqb-true, eqb-false}
use Rattle.octets.specs.Bytes.{byte_at}
use Rattle.octets.proofs.Bools.{by-test}
use Rattle.memory.specs.declared.Format.{Format}
use Rattle.memory.specs.Memory.{list_of, tables_wrong, address_of}
use Rattle.memory.proofs.Laws.{sizes, right-sizes}
use Rattle.sequence.specs.Starts.{among}
use Rattle.survey.specs.declared.Ending.{Ending}
use Rattle.survey.specs.declared.Ending.TheVariants.{Unlisted, Finishes, Returns, Faults}
use Rattle.survey.specs.declared.Standing.{Standing}
use Rattle.survey.specs.declared.Standing.TheVariants.{Unpassed, Same, Changed}
use Rattle.survey.specs.Chain.{Told}
use Rattle.survey.specs.Still.{lists_over, changed_in, changed_at, first_of, standing_at, StandingShown, standing_as, standing_shown, standing_by}
use Rattle.survey.proofs.Passing.{check-given}
use Rattle.survey.proofs.Search.{First, first-of}
use Rattle.survey.proofs.Changes.{InEntry, changed-exactly}
use Rattle.survey.proofs.Rests.{over-out, over-in, lowest, still-wrong, still-told}
use Rattle.promises.specs.Formats.{Fills}
use Rattle.promises.specs.Library.{ours}
use Rattle.promises.specs.Demand3.{EndsOrReturns}
use Rattle.promises.specs.EachCheck.{Given}
use Rattle.promises.specs.Stays.{byte_in, WithinLength, RestsOn, Untouched, Lowest, StillExact, StillSafe, StillSixteen, StillUnpassed}
use Rattle.promises.proofs.Formats.{fills-exactly, fair-in}
use Rattle.promises.proofs.Run.Events.{passed-so}
use Rattle.promises.proofs.EachCheck.{check-sixteen}
use Rattle.promises.proofs.Stays.Rests.{listed-low, in_table, Fits, ended_so, given-right, pass_fits, stays}
use Rattle.promises.proofs.Stays.Since.{rests-above}

-- ── what a pass rests on, by the test
module _ {F : Format} (full : Fills F) (seqs lists seqs' lists' names : List ℕ) (low : (n : ℕ) → among n names ≡ true → n ≤ F.last) (fits : Fits F seqs lists names) where
  abbrev Rests : ℕ → Type 0
  Rests = RestsOn WithinLength F seqs lists names

  abbrev Differs : ℕ → Type 0
  Differs a = byte_in seqs' lists' a ≡ byte_in seqs lists a → ⊥

  abbrev test : ℕ → Bool
  test = changed_at F seqs lists seqs' lists' names

  -- no entry is empty
  some : 0 < F.size
  some = let r = (fair-in full).room in omega arith

  -- no address that the pass rests on is past the tables
  rests-most : (a : ℕ) → Rests a → a < 0x075EC0
  rests-most a (inl (n, i, l, c, e)) = let s = fits.sequences n l in let t = in_table full n i (low n l) (omega arith) in omega arith
  rests-most a (inr (n, k, i, l, u, c, e)) = let (b, s) = fits.line_lists n k l u in omega arith

  -- no line list in use is longer than it has room
  short-lists : (k : ℕ) → among k (lists_over F seqs names) ≡ true → byte_at (list_of lists k) 0 ≤ 164
  short-lists k a = let (n, l, u) = over-out F seqs k names a in (fits.line_lists n k l u).1

  -- the test by address, in the one table and in the other
  in-sequences : (a : ℕ) → (changed_in F.size seqs seqs' names (a - 0x070000) ≡ true) ↔ (InEntry F.size seqs names (a - 0x070000) × (byte_at seqs' (a - 0x070000) ≡ byte_at seqs (a - 0x070000) → ⊥))
  in-sequences a = changed-exactly F.size some seqs seqs' names (a - 0x070000) fits.sequences

  in-lists : (a : ℕ) → (changed_in 164 lists lists' (lists_over F seqs names) (a - 0x074000) ≡ true) ↔ (InEntry 164 lists (lists_over F seqs names) (a - 0x074000) × (byte_at lists' (a - 0x074000) ≡ byte_at lists (a - 0x074000) → ⊥))
  in-lists a = changed-exactly 164 (omega arith) lists lists' (lists_over F seqs names) (a - 0x074000) short-lists

  -- where the test holds of an address, the pass rests on it and its byte is another now
  test-so : (a : ℕ) → 0x070000 ≤ a → test a ≡ true → Rests a × Differs a
  unfolding changed_at
  test-so a h t =
      by-test (ltb a 0x074000)
      (λ e. let ((n, i, l, c, w), d) = (in-sequences a).0 (rw e at t) in (inl (n, i, l, c, omega arith), rw e d))
      (λ e.
      let from = ltb-false a 0x074000 e in
      let ((k, i, u, c, w), d) = (in-lists a).0 (rw e at t) in
      let (n, l, v) = over-out F seqs k names u in
      (inr (n, k, i, l, v, c, omega arith), rw e d))

  -- and where it does, the test holds
  so-test : (a : ℕ) → Rests a → Differs a → test a ≡ true
  unfolding changed_at
  so-test a (inl (n, i, l, c, w)) d =
      let s = fits.sequences n l in
      let t = in_table full n i (low n l) (omega arith) in
      let e = lt-ltb a 0x074000 (omega arith) in
      rw e ((in-sequences a).1 ((n, i, l, c, omega arith), rw e at d))
  so-test a (inr (n, k, i, l, u, c, w)) d =
      let e = le-ltb a 0x074000 (omega arith) in
      rw e ((in-lists a).1 ((k, i, over-in F seqs k names n l u, c, omega arith), rw e at d))

  -- where it does not hold, the byte is what it was
  untested : (a : ℕ) → Rests a → test a ≡ false → byte_in seqs' lists' a ≡ byte_in seqs lists a
  untested a r f =
      by-test (eqb (byte_in seqs' lists' a) (byte_in seqs lists a)) (eqb-true (byte_in seqs' lists' a) (byte_in seqs lists a))
      (λ e. absurd (true≢false (sym (so-test a r (eqb-false (byte_in seqs' lists' a) (byte_in seqs lists a) e)) ∙ f)))

  -- ── what the search says
  abbrev found : ℕ
  found = first_of test 24256 0x070000

  abbrev says : Standing
  says = standing_at (address_of found)

  first : First test 24256 0x070000 found
  first = first-of test 24256 0x070000

  -- no lower byte that the pass rests on is another now
  none_below : (b : ℕ) → b < found → Rests b → byte_in seqs' lists' b ≡ byte_in seqs lists b
  none_below b l r = untested b r (first.before b (rests-above F seqs lists names b r) l)

  -- one of two: the same and all untouched, or the lowest address that is touched
  abbrev Either : Standing → Type 0
  Either s = ((s ≡ Same) × Untouched Rests seqs lists seqs' lists') ⊎ ((a : ℕ) × (s ≡ Changed (record { 0 = a })) × Lowest Rests seqs lists seqs' lists' a)

  either_way : Either says
  either_way =
      let least = first.least in
      let most = first.most in
      by-test (ltb found 0x075EC0)
      (λ e.
      let (r, d) = test-so found least (first.holds (ltb-true found 0x075EC0 e)) in
      inr (found, rw (le-ltb found 0x070000 least, e), record { rests = r; differs = d; lowest = none_below }))
      (λ e.
      let past = ltb-false found 0x075EC0 e in
      inl (rw (le-ltb found 0x070000 least, e), λ a r. let m = rests-most a r in none_below a (omega arith) r))

  -- there is one lowest address
  one-lowest : (a b : ℕ) → Lowest Rests seqs lists seqs' lists' a → Lowest Rests seqs lists seqs' lists' b → a ≡ b
  one-lowest a b x y = by (dec_lt a b) (dec_lt b a)
    where
      by : Dec (a < b) → Dec (b < a) → a ≡ b
      by (yes l) d = absurd (x.differs (y.lowest a l x.rests))
      by (no n) (yes l) = absurd (y.differs (x.lowest b l y.rests))
      by (no n) (no m) = omega arith

  -- so it says the one exactly when all is untouched, and the other exactly of the lowest
  exactly : (s : Standing) → Either s
      → ((standing_shown s ≡ standing_as 1 0) ↔ Untouched Rests seqs lists seqs' lists') × ((a : ℕ) → (standing_shown s ≡ standing_as 2 a) ↔ Lowest Rests seqs lists seqs' lists' a)
  exactly s (inl (e, u)) = (
    (λ _. u, λ _. ap standing_shown e),
    λ a. (
      λ f. let z : ◌≡◌ {A = ℕ} 1 2 = ap (λ (x : StandingShown). x.number) (sym (ap standing_shown e) ∙ f) in absurd (omega arith),
      λ l. absurd (l.differs (u a l.rests)),
    ),
  )
  exactly s (inr (b, e, l)) = (
    (
      λ f. let z : ◌≡◌ {A = ℕ} 2 1 = ap (λ (x : StandingShown). x.number) (sym (ap standing_shown e) ∙ f) in absurd (omega arith),
      λ u. absurd (l.differs (u b l.rests)),
    ),
    λ a. (
      λ f. subst (Lowest Rests seqs lists seqs' lists') (ap (λ (x : StandingShown). x.address) (sym (ap standing_shown e) ∙ f)) l,
      λ m. ap standing_shown e ∙ ap (standing_as 2) (one-lowest b a l m),
    ),
  )

-- ── the answer
-- 0 is no yes
no-yes : standing_as 0 0 ≡ standing_as 1 0 → ⊥
no-yes h = let z : ◌≡◌ {A = ℕ} 0 1 = ap (λ (x : StandingShown). x.number) h in omega arith

-- what was found counts where the check passed, and only there
passed-by : (found : Standing) (e : Ending) → EndsOrReturns e → standing_by found e ≡ found
passed-by found (Unlisted code) y = absurd (passed-so (Unlisted code) y)
passed-by found Finishes y = refl
passed-by found Returns y = refl
passed-by found (Faults n f reason) y = absurd (passed-so (Faults n f reason) y)

unpassed-by : (found : Standing) (e : Ending) → (EndsOrReturns e → ⊥) → standing_by found e ≡ Unpassed e
unpassed-by found (Unlisted code) x = refl
unpassed-by found Finishes x = absurd (x (inl refl))
unpassed-by found Returns x = absurd (x (inr refl))
unpassed-by found (Faults n f reason) x = refl

pub still-exact : {F : Format} → Fills F → StillExact F ours
still-exact {F} full seqs lists seqs' lists' n g g' y =
    let t = ours.checks F seqs lists n in
    let low = listed-low F seqs lists n in
    let f = pass_fits F seqs lists n y in
    let says = still-told F seqs lists seqs' lists' n (given-right g') ∙ passed-by (lowest F seqs lists seqs' lists' n) t.ending y in
    exactly full seqs lists seqs' lists' t.names low f (ours.still F seqs lists seqs' lists' n)
    (subst (Either full seqs lists seqs' lists' t.names low f) (sym says) (either_way full seqs lists seqs' lists' t.names low f))

-- ── a yes
-- it is said only where the check passed
yes-passed : (found : Standing) (e : Ending) → standing_shown (standing_by found e) ≡ standing_as 1 0 → EndsOrReturns e
yes-passed found (Unlisted code) h = absurd (no-yes h)
yes-passed found Finishes h = inl refl
yes-passed found Returns h = inr refl
yes-passed found (Faults n f reason) h = absurd (no-yes h)

-- a check that passed was given tables of the right sizes, and a sequence number
passed-given : (F : Format) (seqs lists : List ℕ) (n : ℕ) → EndsOrReturns (ours.checks F seqs lists n).ending → Given F seqs lists n
passed-given F seqs lists n y =
    let (right, low) = check-given F seqs lists n (ended_so (ours.checks F seqs lists n).ending y) in
    let (f, s, l) = sizes F seqs lists right in
    record { format = (fills-exactly F).0 f; sequences = s; line_lists = l; number = low }

pub still-safe : StillSafe ours
still-safe F seqs lists seqs' lists' n e =
    by-test (tables_wrong F seqs' lists')
    (λ w. absurd (no-yes (ap standing_shown (still-wrong F seqs lists seqs' lists' n w) ∙ e)))
    (λ w.
    let y = yes-passed (lowest F seqs lists seqs' lists' n) (ours.checks F seqs lists n).ending (ap standing_shown (sym (still-told F seqs lists seqs' lists' n w)) ∙ e) in
    let g = passed-given F seqs lists n y in
    let (f, s, l) = sizes F seqs' lists' w in
    let g' : Given F seqs' lists' n = record { format = g.format; sequences = s; line_lists = l; number = g.number } in
    (y, stays seqs lists seqs' lists' n g g' y ((still-exact g.format seqs lists seqs' lists' n g g' y).0.0 e)))

-- ── what is refused
pub still-sixteen : StillSixteen ours
still-sixteen F seqs lists seqs' lists' n x =
    by-test (tables_wrong F seqs' lists')
    (λ e. sym (still-wrong F seqs lists seqs' lists' n e))
    (λ e.
    let (f, s', l') = sizes F seqs' lists' e in
    still-told F seqs lists seqs' lists' n e ∙ ap (λ (t : Told). standing_by (lowest F seqs lists seqs' lists' n) t.ending) (check-sixteen F seqs lists n (λ (full, s, l). x (full, s, l, s', l'))))

pub still-unpassed : StillUnpassed ours
still-unpassed F seqs lists seqs' lists' n full s l s' l' x =
    still-told F seqs lists seqs' lists' n (right-sizes F seqs' lists' ((fills-exactly F).1 full) s' l') ∙ unpassed-by (lowest F seqs lists seqs' lists' n) (ours.checks F seqs lists n).ending x
