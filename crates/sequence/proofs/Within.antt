-- What is known of a text, and of a line list, comes from the bytes that are read of it: entries that are alike have it in common.
-- Assumes nothing.
use Rattle.std.proofs.Common.{◌≡◌, ℕ, zero, suc, ◌+◌, ◌*◌, ◌/◌, ◌%◌, ◌<◌, ◌≤◌, true, eqb, ltb, ◌⊎◌, List, [], ◌∷◌, length, take, sym, refl, ◌∙◌, ap₂, inl, inr, ⊎_elim, arith, length-take, get_or-take, ext_get_or, ltb-false, ltb-true, eqb-true}
use mathlib.Core.Bool.{false≢true}
use borrow.Author.Tests.{eqb-false}
use Rattle.octets.specs.Bytes.{byte_at, word_at}
use Rattle.octets.proofs.Bools.{by-test}
use Rattle.octets.proofs.Laws.{byte_past}
use Rattle.sequence.specs.declared.Command.{Command}
use Rattle.sequence.specs.declared.Command.TheVariants.{RunRaster, Expose, LoopBack, CallSequence, Terminate, Delay, Nothing, Unknown, Unfit}
use Rattle.sequence.specs.Text.{limit, length_good, xor_good, header_rows, header_of, commands_at, size_of, command_in, decoded, none_there, command_at, size_at, is_run_raster}
use Rattle.sequence.specs.Starts.{starts, starts_of, rasters_among, exposes_between, first_exposure, target_good}
use Rattle.sequence.specs.Raster.{raster_at}
use Rattle.sequence.specs.LineList.{checksum_of, marked, marks_of, list_card}
use Rattle.sequence.specs.Within.{Alike}
use Rattle.sequence.proofs.Laws.{some-there, of_number, size-strange, size-whole}

-- a test that tells a run raster
pub is-run : (k : Command) → is_run_raster k ≡ true → k ≡ RunRaster
is-run RunRaster e = refl
is-run (Expose t) e = absurd (false≢true e)
is-run (LoopBack t) e = absurd (false≢true e)
is-run (CallSequence n) e = absurd (false≢true e)
is-run Terminate e = absurd (false≢true e)
is-run (Delay t) e = absurd (false≢true e)
is-run Nothing e = absurd (false≢true e)
is-run Unknown e = absurd (false≢true e)
is-run Unfit e = absurd (false≢true e)

-- the bytes of a run raster lie within the length
raster-fits : (text : List ℕ) (p : ℕ) → command_at text p ≡ RunRaster → p + 23 < byte_at text 0
unfolding size_at size_of limit
raster-fits text p e =
    let size : size_at text p ≡ 23 = rw e in
    ⊎_elim (λ z. absurd (omega arith)) (λ w. omega arith) (size-whole text p)

module _ {text text' : List ℕ} (a : Alike text text') where
  -- ── bytes: past the end both have 0
  byte-alike : (i : ℕ) → (i < 4) ⊎ (i < byte_at text 0) → byte_at text' i ≡ byte_at text i
  byte-alike i r =
      by-test (ltb i (length text))
      (λ t. a.bytes i (ltb-true i (length text) t, r))
      (λ t. let past = ltb-false i (length text) t in byte_past text' i (omega (arith, a.long)) ∙ sym (byte_past text i past))

  -- one of the first four
  low_alike : (i : ℕ) → i < 4 → byte_at text' i ≡ byte_at text i
  low_alike i h = byte-alike i (inl h)

  -- one within the length, and a word there
  inner-alike : (i : ℕ) → i < byte_at text 0 → byte_at text' i ≡ byte_at text i
  inner-alike i h = byte-alike i (inr h)

  word-alike : (i : ℕ) → i + 1 < byte_at text 0 → word_at text' i ≡ word_at text i
  word-alike i h = ap₂ (λ (x y : ℕ). x * 256 + y) (inner-alike i (omega arith)) (inner-alike (i + 1) h)

  -- the first bytes, no more than the length
  take-alike : (n : ℕ) → n ≤ byte_at text 0 → take n text' ≡ take n text
  take-alike n h =
      ext_get_or 0 _ _ (simp length-take (rw a.long))
      (λ i l. let b : i < n = omega (arith, simp length-take at l) in get_or-take n text' i 0 b ∙ inner-alike i (omega arith) ∙ sym (get_or-take n text i 0 b))

  -- ── the header: byte 0 and the length, the bytes up to the checksum, and byte 3
  length-alike : length_good text' ≡ length_good text
  unfolding length_good
  length-alike = rw (low_alike 0 (omega arith), a.long)

  pub limit-alike : limit text' ≡ limit text
  unfolding limit
  limit-alike = rw (low_alike 0 (omega arith))

  xor-alike : xor_good text' ≡ xor_good text
  unfolding xor_good limit
  xor-alike = rw (limit-alike, take-alike (limit text) (omega arith), byte-alike (limit text) last)
    where
      last : (limit text < 4) ⊎ (limit text < byte_at text 0)
      last = by-test (ltb 0 (byte_at text 0)) (λ t. inr (omega (arith, ltb-true 0 (byte_at text 0) t))) (λ t. inl (omega (arith, ltb-false 0 (byte_at text 0) t)))

  pub header-alike : header_of text' ≡ header_of text
  unfolding header_of header_rows
  header-alike = rw (length-alike, xor-alike, low_alike 3 (omega arith))

  -- ── the command at a place: its bytes lie before the checksum
  none_alike : (p : ℕ) → none_there text' p ≡ none_there text p
  unfolding none_there
  none_alike p = rw (length-alike, limit-alike)

  -- a number that has a row, and whose bytes lie within the length
  decoded-alike : (p : ℕ) → (size_of (byte_at text p) ≡ 0 → ⊥) → p + size_of (byte_at text p) < byte_at text 0 → decoded text' p ≡ decoded text p
  unfolding decoded size_of
  decoded-alike p some fits =
      rw (inner-alike p (omega arith))
      (of_number (λ k. command_in n (commands_at text' (p + 1)) ≡ k) n (commands_at text (p + 1)) (λ s. absurd (some (sym (size-strange n text (p + 1) s))))
      (λ e. rw e, (λ e. rw (e, word (rw e (omega arith))), (λ e. rw (e, byte (rw e (omega arith))), (λ e. rw (e, byte (rw e (omega arith))), (λ e. rw e, (λ e. rw (e, word (rw e (omega arith))), tt)))))))
    where
      n : ℕ
      n = byte_at text p

      byte : 1 < size_of n → byte_at text' (p + 1) ≡ byte_at text (p + 1)
      byte h = inner-alike (p + 1) (omega arith)

      word : 2 < size_of n → word_at text' (p + 1) ≡ word_at text (p + 1)
      word h = word-alike (p + 1) (omega arith)

  pub command-alike : (p : ℕ) → command_at text' p ≡ command_at text p
  unfolding command_at limit
  command-alike p =
      by-test (none_there text p)
      (λ e. rw (none_alike p, e))
      (λ e.
      let w = some-there text p e in
      let n = byte_at text p in
      let same = inner-alike p (omega arith) in
      by-test (eqb (size_of n) 0)
      (λ z. rw (none_alike p, e, same, z))
      (λ z.
      by-test (ltb (limit text) (p + size_of n))
      (λ f. rw (none_alike p, e, same, z, limit-alike, f))
      (λ f. rw (none_alike p, e, same, z, limit-alike, f) (decoded-alike p (eqb-false (size_of n) 0 z) (omega (arith, ltb-false (limit text) (p + size_of n) f))))))

  pub size-alike : (p : ℕ) → size_at text' p ≡ size_at text p
  unfolding size_at
  size-alike p = rw (command-alike p)

  -- ── the starts of commands
  pub counted-alike : (f p : ℕ) → starts text' f p ≡ starts text f p
  unfolding starts
  counted-alike zero p = refl
  counted-alike (suc f) p = rw (size-alike p, counted-alike f (p + size_at text p))

  pub starts-alike : starts_of text' ≡ starts_of text
  unfolding starts_of
  starts-alike = rw a.long (counted-alike (length text) 4)

  pub rasters-alike : (ps : List ℕ) → rasters_among text' ps ≡ rasters_among text ps
  rasters-alike [] = refl
  rasters-alike (p ∷ ps) = rw (command-alike p, rasters-alike ps)

  -- ── the raster that stands at a place: all its bytes lie within the length
  pub raster-alike : (p : ℕ) → command_at text p ≡ RunRaster → raster_at text' p ≡ raster_at text p
  unfolding raster_at
  raster-alike p e =
      λ i. record {
        id = word 1 (omega arith) i;
        initial = word 3 (omega arith) i;
        loops = word 5 (omega arith) i;
        compression = word 7 (omega arith) i;
        ocbx = byte 9 (omega arith) i;
        ocby = byte 10 (omega arith) i;
        flush = byte 11 (omega arith) i;
        flushes = byte 12 (omega arith) i;
        spare = byte 13 (omega arith) i / 16;
        exposures = byte 13 (omega arith) i % 16;
        asrc = byte 14 (omega arith) i;
        nodes = byte 15 (omega arith) i / 16;
        repeats = word 15 (omega arith) i % 4096;
        skip = byte 17 (omega arith) i;
        readout = byte 18 (omega arith) i;
        step = word 19 (omega arith) i;
        list = byte 21 (omega arith) i;
        science = byte 22 (omega arith) i;
      }
    where
      byte : (k : ℕ) → k < 23 → byte_at text' (p + k) ≡ byte_at text (p + k)
      byte k h = inner-alike (p + k) (omega (arith, raster-fits text p e))

      word : (k : ℕ) → k < 22 → word_at text' (p + k) ≡ word_at text (p + k)
      word k h = word-alike (p + k) (omega (arith, raster-fits text p e))

  -- ── a loop back's target: of the text no more than the starts, and whether an expose is at one
  first_alike : (r q f p : ℕ) → first_exposure text' r q (starts text f p) ≡ first_exposure text r q (starts text f p)
  unfolding first_exposure starts exposes_between limit
  first_alike r q zero p = refl
  first_alike r q (suc f) p =
      by-test (eqb (size_at text p) 0)
      (λ e. rw e)
      (λ e.
      let same = ⊎_elim (λ z. absurd (eqb-false (size_at text p) 0 e z)) (λ w. inner-alike p (omega arith)) (size-whole text p) in
      rw (e, same, first_alike r q f (p + size_at text p)))

  pub target-alike : (r q t : ℕ) → target_good text' r q t ≡ target_good text r q t
  unfolding target_good starts_of
  target-alike r q t = rw (starts-alike, first_alike r q (length text) 4)

-- ── line lists
module _ {l l' : List ℕ} (a : Alike l l') where
  -- the windows that lie within the length
  marked-alike : (b n : ℕ) → 14 + 6 * n ≤ byte_at l 0 → marked l' b n ≡ marked l b n
  unfolding marked
  marked-alike b zero h = refl
  marked-alike b (suc n) h = rw (word-alike a (14 + 6 * n) (omega arith), marked-alike b n (omega arith))

  -- what is known of a list whose length is that of its windows
  sum_alike : 14 ≤ byte_at l 0 → checksum_of l' ≡ checksum_of l
  unfolding checksum_of
  sum_alike h = rw (low_alike a 0 (omega arith), take-alike a 3 (omega arith), take-alike a (byte_at l 0) (omega arith))

  marks-alike : 14 + 6 * byte_at l 2 ≤ byte_at l 0 → marks_of l' ≡ marks_of l
  unfolding marks_of
  marks-alike h = rw (low_alike a 2 (omega arith), marked-alike 11 (byte_at l 2) h, marked-alike 12 (byte_at l 2) h, marked-alike 13 (byte_at l 2) h)

  pub card-alike : list_card l' ≡ list_card l
  unfolding list_card
  card-alike =
      let n = byte_at l 2 in
      rw (low_alike a 2 (omega arith), low_alike a 0 (omega arith), low_alike a 3 (omega arith))
      (by-test (eqb (byte_at l 0) (14 + 6 * n))
      (λ e. let is = eqb-true (byte_at l 0) (14 + 6 * n) e in rw (sum_alike (omega arith), marks-alike (omega arith)))
      (λ e. rw e))
