-- No total of a check is too large for 64 bits: what each command, round, sequence and chain adds is bounded by its bytes.
-- Assumes nothing.
use Prim.Native.Nat.{ℕ, zero, suc, ◌+◌, ◌*◌, ◌≤◌, ◌<◌, ◌^◌, zero-le}
use native.Mathlib.Nat.{mul-le-mul, le_refl, suc-mul}
use native.Mathlib.Omega.{arith}
use mathlib.Core.List.{List, [], ◌∷◌}
use lib.Dec.{ltb, eqb}
use lib.ListN.{length, take, drop, length-take, get_or-eq_default}
use native.Mathlib.Decide.{dec_lt}
use Rattle.std.specs.Prelude.{Option, Some, None, Result, Ok, Err}
use Rattle.octets.specs.Bytes.{byte_at}
use Rattle.octets.specs.Rows.{first_code}
use Rattle.octets.proofs.Bools.{choice}
use Rattle.memory.specs.declared.Format.{Format}
use Rattle.memory.specs.Memory.{place_at, entry_of}
use Rattle.memory.proofs.Laws.{Fair, part-byte, entry-short}
use Rattle.sequence.specs.declared.Fault.{Fault}
use Rattle.sequence.specs.LineList.{ListCard}
use Rattle.sequence.specs.declared.RasterWords.{RasterWords}
use Rattle.sequence.specs.Text.{header_rows, header_of, size_at}
use Rattle.sequence.specs.Raster.{raster_at}
use Rattle.sequence.specs.Starts.{among}
use Rattle.sequence.specs.Env.{Env, env_of}
use Rattle.runner.specs.declared.Opened.{Opened}
use Rattle.runner.specs.declared.Act.{Act}
use Rattle.runner.specs.declared.Act.TheVariants.{Refused, Opens, Exposes, Loops, Waits, Calls, Ends}
use Rattle.runner.specs.Judge.{judge}
use Rattle.survey.specs.declared.Item.{Item}
use Rattle.survey.specs.declared.Item.TheVariants.{Pause}
use Rattle.survey.specs.declared.Closing.TheVariants.{Terminates, CallsOn}
use Rattle.survey.specs.declared.Ending.{Ending}
use Rattle.survey.specs.declared.Ending.TheVariants.{Unlisted, Finishes, Returns, Faults}
use Rattle.survey.specs.Items.{raster_steps, raster_exposures, item_steps, item_exposures}
use Rattle.survey.specs.Walk.{opened_at, Finding, passes, faults, in_front, commands, scan, closed, paused, one_more, walked, walk, rounds, checked_by, check_one, finding_of}
use Rattle.survey.specs.Chain.{Told, total, onward, follow, chain_of, check_of}
pub use Rattle.survey.specs.Held.{Octets}
use Rattle.survey.proofs.Names.{of-check}
use Rattle.survey.proofs.Counts.{commands-most}

-- ── bytes
pub part-octets : (s : List ℕ) (at size : ℕ) → Octets s → Octets (take size (drop at s))
part-octets s at size o k = near (dec_lt k size)
  where
    near : Dec (k < size) → byte_at (take size (drop at s)) k < 256
    near (yes l) = rw (part-byte s at size k l) (o (at + k))
    near (no l) = rw (get_or-eq_default (take size (drop at s)) 0 {n = k} (simp length-take (omega arith))) (omega arith)

-- ── one raster
-- its counts are no wider than their fields
pub record Narrow (raster : RasterWords) : Type 0 where
  pub loops : raster.loops ≤ 65535
  pub exposures : raster.exposures ≤ 15
  pub repeats : raster.repeats ≤ 4095

pub narrow : (text : List ℕ) (p : ℕ) → Octets text → Narrow (raster_at text p)
unfolding raster_at
narrow text p o =
    record {
      loops = omega (arith, o (p + 5), o (p + 5 + 1));
      exposures = omega arith;
      repeats = omega arith;
    }

module _ (raster : RasterWords) (n : Narrow raster) where
  pub pass-most : (from : ℕ) → from ≤ 511 → raster.loops * (from + 1) ≤ 65535 * 512
  pass-most from h = let e : from + 1 ≤ 512 = omega arith in mul-le-mul n.loops e

  pub steps-most : (before from : ℕ) → before ≤ 511 → from ≤ 511 → raster_steps raster before from ≤ 2 ^ 37
  steps-most before from b f =
      let l = pass-most from f in
      let s : 1 + before + raster.loops * (from + 1) ≤ 512 + 65535 * 512 = omega arith in
      let m : raster.repeats * (1 + before + raster.loops * (from + 1)) ≤ 4095 * (512 + 65535 * 512) = mul-le-mul n.repeats s in
      omega arith

  pub sets-most : raster.loops * raster.exposures ≤ 65535 * 15
  sets-most = mul-le-mul n.loops n.exposures

  pub exposures-most : raster_exposures raster ≤ 2 ^ 37
  exposures-most =
      let m : raster.loops * raster.exposures * raster.repeats ≤ 65535 * 15 * 4095 = mul-le-mul sets-most n.repeats in
      omega arith

-- ── a round: f commands add at most f times what one raster adds
-- steps and exposures of at most these
abbrev pub Brings : ℕ → ℕ → Finding → Type 0
Brings a b (passes k x is p c) = (k ≤ a) × (x ≤ b)
Brings a b (faults g reason) = Unit {0}

abbrev pub Small : ℕ → Finding → Type 0
Small most found = Brings most most found

pub small-more : {a b : ℕ} → a ≤ b → (found : Finding) → Small a found → Small b found
small-more l (passes k x is p c) s = (omega arith, omega arith)
small-more l (faults g reason) s = tt

small-front : (text : List ℕ) (i : Item) (a b : ℕ) → item_steps text i + a ≤ b → item_exposures text i + a ≤ b → (found : Finding) → Small a found → Small b (in_front text i found)
small-front text i a b h g (passes k x is p c) s = (omega arith, omega arith)
small-front text i a b h g (faults e reason) s = tt

module _ (cards : ℕ → ListCard) (text : List ℕ) (oct : Octets text) (short : length text ≤ 511) where
  module _ (f : ℕ) (go : ℕ → Option Opened → Finding) (ih : (p : ℕ) (o : Option Opened) → Small (f * 2 ^ 37) (go p o)) where
    more : (found : Finding) → Small (f * 2 ^ 37) found → Small (suc f * 2 ^ 37) found
    more found s = let l : f * 2 ^ 37 ≤ suc f * 2 ^ 37 = omega arith in small-more l found s

    small-closed : (p t : ℕ) (o : Option Opened) (found : Finding) → Small (f * 2 ^ 37) found → Small (suc f * 2 ^ 37) (closed text p t o found)
    small-closed p t None found s = more found s
    small-closed p t (Some opened) found s =
        let b = commands-most text (opened.place.0 + size_at text opened.place.0) t in
        let d = commands-most text t p in
        let w = narrow text opened.place.0 oct in
        let k = steps-most (raster_at text opened.place.0) w (commands text (opened.place.0 + size_at text opened.place.0) t) (commands text t p) (omega arith) (omega arith) in
        let x = exposures-most (raster_at text opened.place.0) w in
        small-front text (scan text opened.place.0 t p) (f * 2 ^ 37) (suc f * 2 ^ 37) (omega arith) (omega arith) found s

    small-paused : (p : ℕ) (o : Option Opened) (found : Finding) → Small (f * 2 ^ 37) found → Small (suc f * 2 ^ 37) (paused text p o found)
    small-paused p None found s = small-front text (Pause p) (f * 2 ^ 37) (suc f * 2 ^ 37) (omega arith) (omega arith) found s
    small-paused p (Some opened) found s = more found s

    small-walked : (p : ℕ) (o : Option Opened) (a : Act) → Small (suc f * 2 ^ 37) (walked cards text go p o a)
    unfolding walked
    small-walked p o (Refused code) = tt
    small-walked p o Opens = more (go _ _) (ih (p + size_at text p) (opened_at (place_at p)))
    small-walked p o (Exposes r) = more (go _ _) (ih (p + size_at text p) (one_more o))
    small-walked p o (Loops t) = small-closed p t o (go (p + size_at text p) None) (ih _ None)
    small-walked p o Waits = small-paused p o (go (p + size_at text p) o) (ih _ o)
    small-walked p o (Calls m) = (omega arith, zero-le)
    small-walked p o Ends = (omega arith, zero-le)

  pub walk-small : (f p : ℕ) (o : Option Opened) → Small (f * 2 ^ 37) (walk cards text f p o)
  unfolding walk
  walk-small zero p o = tt
  walk-small (suc f) p o = small-walked f (λ q u. walk cards text f q u) (walk-small f) p o (judge cards text p o)

-- ── all rounds of a sequence
pub rounds-most : (q : ℕ) → q ≤ 255 → (k : ℕ) → k ≤ 2 ^ 46 → 1 + q * k ≤ 2 ^ 54
rounds-most q l k h = let m : q * k ≤ 255 * 2 ^ 46 = mul-le-mul l h in omega arith

pub small-rounds : (F : Format) (q : ℕ) → q ≤ 255 → (found : Finding) → Small (2 ^ 46) found → Small (2 ^ 54) (rounds F q found)
small-rounds F q l (passes k x is p Terminates) s = let m = rounds-most q l x s.1 in (rounds-most q l k s.0, omega arith)
small-rounds F q l (passes k x is p (CallsOn m)) s =
    let w = rounds-most q l x s.1 in
    choice (Small (2 ^ 54)) (ltb F.last m) _ _ (λ _. tt) (λ _. (rounds-most q l k s.0, omega arith))
small-rounds F q l (faults g reason) s = tt

-- a sequence's repeats are a byte
abbrev FewRounds : Result ℕ Fault → Type 0
FewRounds (Ok q) = q ≤ 255
FewRounds (Err f) = Unit {0}

few-rounds : (text : List ℕ) → Octets text → FewRounds (header_of text)
unfolding header_of
few-rounds text o =
    choice FewRounds (eqb (first_code (header_rows text)) 0) (Ok (byte_at text 3)) _ (λ _. let h = o 3 in omega arith) (λ _. tt)

module _ (E : Env) (text : List ℕ) (oct : Octets text) (short : length text ≤ 511) where
  small_by : (h : Result ℕ Fault) → FewRounds h → Small (2 ^ 54) (checked_by E text h)
  small_by (Ok q) l =
      let w = walk E.cards text (length text) 4 None in
      small-rounds E.format q l w (small-more (let m : length text * 2 ^ 37 ≤ 2 ^ 46 = omega arith in m) w (walk-small E.cards text oct short (length text) 4 None))
  small_by (Err f) l = tt

  pub one-small : Small (2 ^ 54) (check_one E text)
  unfolding check_one
  one-small = small_by (header_of text) (few-rounds text oct)

-- ── a chain of f sequences, each of which brings at most a steps and b exposures
abbrev pub Within : ℕ → ℕ → ℕ → Told → Type 0
Within a b f t = (t.steps ≤ f * a) × (t.exposures ≤ f * b)

total-most : (e : Ending) (a b : ℕ) → total e a b ≤ a + b
total-most (Unlisted code) a b = zero-le
total-most Finishes a b = le_refl (a + b)
total-most Returns a b = le_refl (a + b)
total-most (Faults n f reason) a b = zero-le

module _ (a b : ℕ) where
  within-onward : (f n : ℕ) (go : ℕ → Told) → ((m : ℕ) → Within a b f (go m)) → (found : Finding) → Brings a b found
      → Within a b (suc f) (onward go n found)
  unfolding onward
  within-onward f n go ih (passes k x is p Terminates) s = (omega (arith, suc-mul f a), omega (arith, suc-mul f b))
  within-onward f n go ih (passes k x is p (CallsOn m)) s =
      let t = go m in
      let w = ih m in
      (omega (arith, total-most t.ending k t.steps, suc-mul f a), omega (arith, total-most t.ending x t.exposures, suc-mul f b))
  within-onward f n go ih (faults g reason) s = (zero-le, zero-le)

  module _ (found : ℕ → Finding) (one : (n : ℕ) → Brings a b (found n)) where
    within-follow : (f : ℕ) (names : List ℕ) (n : ℕ) → Within a b f (follow found f names n)
    unfolding follow
    within-follow zero names n = (zero-le, zero-le)
    within-follow (suc f) names n =
        choice (Within a b (suc f)) (among n names) _ _ (λ _. (zero-le, zero-le))
        (λ _. within-onward f n (λ m. follow found f (n ∷ names) m) (within-follow f (n ∷ names)) (found n) (one n))

    pub chain-within : (F : Format) (n : ℕ) → Within a b (suc F.last) (chain_of F found n)
    unfolding chain_of
    chain-within F n = within-follow (suc F.last) [] n

-- ── the check
module _ (F : Format) (fair : Fair F) (seqs lists : List ℕ) (oct : Octets seqs) where
  pub entry-small : (n : ℕ) → Small (2 ^ 54) (finding_of (env_of F lists) seqs n)
  entry-small n = one-small (env_of F lists) (entry_of F seqs n) (part-octets seqs (n * F.size) F.size oct) (omega (arith, entry-short F seqs n, fair.size))

  -- no total comes near 2^63
  pub totals-fit : (n : ℕ) → ((check_of F seqs lists n).steps < 2 ^ 63) × ((check_of F seqs lists n).exposures < 2 ^ 63)
  totals-fit n =
      of-check (λ t. (t.steps < 2 ^ 63) × (t.exposures < 2 ^ 63)) F seqs lists n (λ _. (omega arith, omega arith))
      (λ _ _. let w = chain-within (2 ^ 54) (2 ^ 54) (finding_of (env_of F lists) seqs) entry-small F n in let l = fair.last in (omega arith, omega arith))
