-- Laws of a text: where commands stand, and what their bytes say. They stand on the definitions of specs/ alone.
-- Assumes nothing.
use Rattle.std.proofs.Common.{◌≡◌, ℕ, zero, suc, ◌+◌, ◌-◌, ◌<◌, ◌≤◌, Bool, true, false, cond, not, ◌&&◌, ◌||◌, eqb, ltb, leb, ◌⊎◌, List, [], ◌∷◌, map, length, get_or, sym, refl, ap, ◌∙◌, subst, inl, inr, ⊎_elim, arith, ltb-false, le-ltb, eq-eqb, ne_eqb, eqb-true, leb-false, leb-true}
use borrow.Author.Tests.{eqb-false, not-false}
use Rattle.octets.specs.Bytes.{byte_at, word_at}
use Rattle.octets.proofs.Bools.{and_both, or-neither, by-test, choice}
use Rattle.sequence.specs.declared.CommandRow.{CommandRow}
use Rattle.sequence.specs.declared.Command.{Command}
use Rattle.sequence.specs.declared.Command.TheVariants.{RunRaster, Expose, LoopBack, CallSequence, Terminate, Delay, Nothing, Unknown, Unfit}
use Rattle.sequence.specs.Text.{limit, length_good, row_of, number_of, commands_at, size_in, size_of, command_in, decoded, none_there, command_at, size_at}
use Rattle.sequence.specs.Starts.{starts}

-- ── the checksum's place
pub limit-below : (text : List ℕ) → length_good text ≡ true → limit text < length text
unfolding length_good limit
limit-below text e =
    let (a, b) = and_both (leb 6 (byte_at text 0)) (leb (byte_at text 0) (length text)) e in
    omega (arith, leb-true 6 (byte_at text 0) a, leb-true (byte_at text 0) (length text) b)

-- ── where a command can stand
-- so many bytes from p on lie among the commands
pub record Whole (text : List ℕ) (p size : ℕ) : Type 0 where
  pub from : 4 ≤ p
  pub fits : p + size ≤ limit text
  pub inside : limit text < length text

pub some-there : (text : List ℕ) (p : ℕ) → none_there text p ≡ false → Whole text p 1
unfolding none_there
some-there text p e =
    let (a, r) = or-neither (ltb p 4) (not (length_good text) || leb (limit text) p) e in
    let (g, l) = or-neither (not (length_good text)) (leb (limit text) p) r in
    record { from = ltb-false p 4 a; fits = omega (arith, leb-false (limit text) p l); inside = limit-below text (not-false (length_good text) g) }

pub none-past : (text : List ℕ) (p : ℕ) → length text ≤ p → command_at text p ≡ Nothing
unfolding command_at
none-past text p h = by-test (none_there text p) (λ e. rw e) (λ e. let w = some-there text p e in absurd (omega arith))

-- ── the command of a number
-- what is shown of each of these commands, from its number
abbrev pub Each : (Command → Type 0) → ℕ → List Command → Type 0
Each P n [] = Unit {0}
Each P n (k ∷ ks) = (n ≡ number_of k → P k) × Each P n ks

module _ (P : Command → Type 0) where
  each : (n : ℕ) (ks : List Command) → ((k : Command) → n ≡ number_of k → P k) → Each P n ks
  each n [] f = tt
  each n (k ∷ ks) f = (f k, each n ks f)

  pub of_number : (n : ℕ) (ks : List Command) → (Each (λ k. ⊥) n ks → P Unknown) → Each P n ks → P (command_in n ks)
  of_number n [] u e = u tt
  of_number n (k ∷ ks) u (f, e) =
      let m = number_of k in
      choice P (eqb n m) k _ (λ t. f (eqb-true n m t)) (λ t. of_number n ks (λ s. u (eqb-false n m t, s)) e)

  ways : (n u x : Bool) (k : Command) → P Nothing → P Unknown → P Unfit → (n ≡ false → x ≡ false → P k)
      → P (cond n Nothing (cond u Unknown (cond x Unfit k)))
  ways true u x k a b c d = a
  ways false true x k a b c d = b
  ways false false true k a b c d = c
  ways false false false k a b c d = d refl refl

  -- what holds where no whole command stands, and of each command that stands whole, holds of what stands at a place
  pub of-command : (text : List ℕ) (p : ℕ) → P Nothing → P Unknown → P Unfit
      → (Whole text p (size_of (byte_at text p)) → Each P (byte_at text p) (commands_at text (p + 1))) → P (command_at text p)
  unfolding command_at decoded
  of-command text p a b c d =
      let n = byte_at text p in
      ways (none_there text p) (eqb (size_of n) 0) (ltb (limit text) (p + size_of n)) (decoded text p) a b c
      (λ e f. of_number n (commands_at text (p + 1)) (λ s. b) (let w = some-there text p e in d record { from = w.from; fits = ltb-false (limit text) (p + size_of n) f; inside = w.inside }))

-- ── the rows of the commands
-- the rule of a table, tested of each of its rows: a row has the bytes of its number, and no more than 23
abbrev pub all_rows : (CommandRow → Bool) → List CommandRow → Bool
all_rows test [] = true
all_rows test (r ∷ rs) = test r && all_rows test rs

row_at : (test : CommandRow → Bool) (rs : List CommandRow) (k : ℕ) (d : CommandRow) → all_rows test rs ≡ true → k < length rs → test (get_or rs k d) ≡ true
row_at test [] k d e h = absurd (omega arith)
row_at test (r ∷ rs) zero d e h = (and_both (test r) (all_rows test rs) e).0
row_at test (r ∷ rs) (suc k) d e h = row_at test rs k d (and_both (test r) (all_rows test rs) e).1 (omega arith)

abbrev pub row_right : CommandRow → Bool
row_right r = eqb r.size (size_of r.op) && leb r.size 23

pub row-right : (rs : List CommandRow) (k : ℕ) (d : CommandRow) (n : ℕ) → all_rows row_right rs ≡ true → k < length rs → (get_or rs k d).op ≡ n
    → ((get_or rs k d).size ≡ size_of n) × ((get_or rs k d).size ≤ 23)
row-right rs k d n e h o =
    let r = get_or rs k d in
    let (a, b) = and_both (eqb r.size (size_of r.op)) (leb r.size 23) (row_at row_right rs k d e h) in
    (eqb-true r.size (size_of r.op) a ∙ ap size_of o, leb-true r.size 23 b)

-- a number that none of these commands has is in none of their rows
size-strange-in : (n : ℕ) (ks : List Command) → Each (λ k. ⊥) n ks → 0 ≡ size_in n (map row_of ks)
size-strange-in n [] s = refl
size-strange-in n (k ∷ ks) (f, s) = rw (ne_eqb n (number_of k) f) (size-strange-in n ks s)

pub size-strange : (n : ℕ) (text : List ℕ) (at : ℕ) → Each (λ k. ⊥) n (commands_at text at) → 0 ≡ size_of n
unfolding size_of
size-strange n text at = size-strange-in n (commands_at text at)

pub size-zero : 0 ≡ size_of 0
unfolding size_of
size-zero = refl

-- a command takes as many bytes as its number says, and stands where they lie among the commands
module _ (text : List ℕ) (p : ℕ) where
  abbrev Sized : Command → Type 0
  Sized k = size_of (number_of k) ≡ size_of (byte_at text p)

  size-decoded : Sized (decoded text p)
  unfolding decoded
  size-decoded =
      let n = byte_at text p in let ks = commands_at text (p + 1) in
      of_number Sized n ks (λ s. sym size-zero ∙ size-strange n text (p + 1) s) (each Sized n ks (λ k h. ap size_of (sym h)))

  pub size-stands : none_there text p ≡ false → p + size_of (byte_at text p) ≤ limit text → size_at text p ≡ size_of (byte_at text p)
  unfolding size_at command_at
  size-stands none fits =
      let n = size_of (byte_at text p) in
      rw (none, le-ltb (limit text) (p + n) fits)
      (choice Sized (eqb n 0) Unknown (decoded text p) (λ e. sym size-zero ∙ sym (eqb-true n 0 e)) (λ _. size-decoded))

-- the opcode and the operand that stand at a command's place
abbrev pub Bytes : List ℕ → ℕ → Command → Type 0
Bytes text p RunRaster = byte_at text p ≡ number_of RunRaster
Bytes text p (Expose t) = (byte_at text p ≡ number_of (Expose t)) × (t ≡ word_at text (p + 1))
Bytes text p (LoopBack t) = (byte_at text p ≡ number_of (LoopBack t)) × (t ≡ byte_at text (p + 1))
Bytes text p (CallSequence n) = (byte_at text p ≡ number_of (CallSequence n)) × (n ≡ byte_at text (p + 1))
Bytes text p Terminate = byte_at text p ≡ number_of Terminate
Bytes text p (Delay t) = (byte_at text p ≡ number_of (Delay t)) × (t ≡ word_at text (p + 1))
Bytes text p Nothing = Unit {0}
Bytes text p Unknown = Unit {0}
Bytes text p Unfit = Unit {0}

pub command-bytes : (text : List ℕ) (p : ℕ) → Bytes text p (command_at text p)
command-bytes text p =
    of-command (Bytes text p) text p tt tt tt
    (λ w. (λ e. e, (λ e. (e, refl), (λ e. (e, refl), (λ e. (e, refl), (λ e. e, (λ e. (e, refl), tt)))))))

-- ── the bytes that a command takes
-- none, or those that lie whole among the commands
abbrev Takes : List ℕ → ℕ → Command → Type 0
Takes text p k = (size_of (number_of k) ≡ 0) ⊎ Whole text p (size_of (number_of k))

module _ (text : List ℕ) (p : ℕ) where
  pub size-whole : (size_at text p ≡ 0) ⊎ Whole text p (size_at text p)
  unfolding size_at size_of
  size-whole =
      of-command (Takes text p) text p (inl refl) (inl refl) (inl refl)
      (λ w. each (Takes text p) (byte_at text p) (commands_at text (p + 1)) (λ k e. inr (subst (λ (n : ℕ). Whole text p (size_of n)) e w)))

  -- a command that stands takes as many bytes as its number says
  pub size-named : (number size op bytes : ℕ) → number ≡ byte_at text p → size ≡ size_at text p → (size ≡ 0 → ⊥) → number ≡ op → size_of op ≡ bytes → bytes ≡ size_at text p
  unfolding size_at size_of
  size-named number size op bytes e f some g h =
      let P : Command → Type 0 = λ k. (size_of (number_of k) ≡ 0) ⊎ (size_of (byte_at text p) ≡ size_of (number_of k)) in
      let found : P (command_at text p) =
      of-command P text p (inl refl) (inl refl) (inl refl) (λ w. each P (byte_at text p) (commands_at text (p + 1)) (λ k n. inr (ap size_of n))) in
      ⊎_elim (λ z. absurd (some (f ∙ z))) (λ n. sym h ∙ ap size_of (sym g ∙ e) ∙ n) found

  pub size-inside : 0 < size_at text p → (p + size_at text p < length text) × (4 ≤ p)
  size-inside h = ⊎_elim (λ e. absurd (omega arith)) (λ w. (omega arith, w.from)) size-whole

  -- the checksum's place is a byte, and so is the place past a command
  pub size_below : byte_at text 0 < 256 → p < 256 → p + size_at text p < 256
  unfolding limit
  size_below b h = ⊎_elim (λ e. omega arith) (λ w. omega arith) size-whole

-- no command stands at the checksum
pub none_last : (text : List ℕ) → size_at text (limit text) ≡ 0
none_last text = ⊎_elim (λ z. z) (λ w. omega arith) (size-whole text (limit text))

-- ── the starts counted on from a place
module _ (text : List ℕ) where
  pub starts-off : (left p size : ℕ) → size ≡ size_at text p → size ≡ 0 → starts text left p ≡ []
  unfolding starts
  starts-off zero p size e z = refl
  starts-off (suc f) p size e z = rw (eq-eqb (size_at text p) 0 (sym e ∙ z))

  pub starts-on : (left p size : ℕ) → (left ≡ 0 → ⊥) → size ≡ size_at text p → (size ≡ 0 → ⊥) → starts text left p ≡ p ∷ starts text (left - 1) (p + size)
  unfolding starts
  starts-on zero p size l e z = absurd (l refl)
  starts-on (suc f) p size l e z =
      let g : suc f - 1 ≡ f = omega arith in
      rw (e, g, ne_eqb (size_at text p) 0 (λ h. z (e ∙ h)))

  pub next-inside : (p size : ℕ) → size ≡ size_at text p → (size ≡ 0 → ⊥) → p + size < length text
  next-inside p size e z = omega (arith, size-inside text p (omega arith))

  -- where as many are looked at as bytes stand from p on, one more finds no more
  starts_more : (left p : ℕ) → length text ≤ left + p → starts text (suc left) p ≡ starts text left p
  unfolding starts
  starts_more zero p h = starts-off 1 p (size_at text p) refl (⊎_elim (λ e. e) (λ w. absurd (omega arith)) (size-whole text p))
  starts_more (suc left) p h =
      by-test (eqb (size_at text p) 0)
      (λ e. rw e)
      (λ e. ap (λ (ps : List ℕ). cond (eqb (size_at text p) 0) [] (p ∷ ps)) (starts_more left (p + size_at text p) (omega (arith, eqb-false (size_at text p) 0 e))))

  pub starts_from : (p size : ℕ) → size ≡ size_at text p → (size ≡ 0 → ⊥) → starts text (length text) p ≡ p ∷ starts text (length text) (p + size)
  starts_from p size e z =
      let i = next-inside p size e z in
      let g : suc (length text - 1) ≡ length text = omega arith in
      starts-on (length text) p size (λ l. omega arith) e z
      ∙ ap (λ (ps : List ℕ). p ∷ ps) (sym (rw g at (starts_more (length text - 1) (p + size) (omega arith))))
