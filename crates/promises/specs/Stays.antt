-- P14, "a pass stays a pass": where the bytes that a pass rests on are now what they were, the check gives the same answer now, and demand 3 holds for
-- a run begun now. Each definition says a part of it, in plain words and then in symbols; it is a statement of any library L.
use Rattle.std.specs.Prelude.{ℕ, ◌+◌, ◌*◌, ◌-◌, ◌≤◌, ◌<◌, ◌≡◌, true, cond, List, [], ◌∷◌, ◌⊎◌, ◌↔◌, ltb, length}
use Rattle.octets.specs.Bytes.{byte_at, triple_at}
use Rattle.memory.specs.declared.Format.{Format}
use Rattle.memory.specs.Memory.{entry_of, list_of}
use Rattle.sequence.specs.Starts.{among}
use Rattle.sequence.specs.Within.{Read}
use Rattle.survey.specs.declared.Ending.{Ending}
use Rattle.survey.specs.declared.Ending.TheVariants.{Unlisted}
use Rattle.survey.specs.declared.Standing.TheVariants.{Unpassed}
use Rattle.survey.specs.Frame.{lists_used}
use Rattle.survey.specs.Chain.{Told}
use Rattle.survey.specs.Still.{standing_as, standing_shown}
use Rattle.promises.specs.Formats.{Fills}
use Rattle.promises.specs.Library.{Library}
use Rattle.promises.specs.Demand3.{World, Action, step, packet, after, after_all, outcomes, Reached, mode_of, selecting, starting, code_for, NeverCalledBack, Lists, chain_plan, ComesBack, EndsOrReturns, IsFault, KeepsPassed, KeepsFaulted, Again, GoesRound}
use Rattle.promises.specs.EachCheck.{Given}

-- ── 1. What a pass rests on

-- The byte at an address: "0x070000 to 0x073FFF .. 0x074000 to 0x075EBF".
abbrev pub byte_in : List ℕ → List ℕ → ℕ → ℕ
byte_in seqs lists a = cond (ltb a 0x074000) (byte_at seqs (a - 0x070000)) (byte_at lists (a - 0x074000))

-- The bytes of an entry that count: those within its length, which its byte 0 says.
abbrev pub WithinLength : List ℕ → ℕ → Type 0
WithinLength entry i = i < byte_at entry 0

-- "A byte of a listed sequence", at address a, where Counts says which bytes of an entry count.
abbrev pub OfSequence : (List ℕ → ℕ → Type 0) → Format → List ℕ → List ℕ → List ℕ → ℕ → Type 0
OfSequence Counts F seqs lists names a =
    (n : ℕ) × (i : ℕ) × (among n names ≡ true) × Counts (entry_of F seqs n) i × (a ≡ 0x070000 + n * F.size + i)

-- "Of a line list one of them uses": one that a run raster of a listed sequence names.
abbrev pub OfLineList : (List ℕ → ℕ → Type 0) → Format → List ℕ → List ℕ → List ℕ → ℕ → Type 0
OfLineList Counts F seqs lists names a =
    (n : ℕ) × (k : ℕ) × (i : ℕ) × (among n names ≡ true) × (among k (lists_used (entry_of F seqs n)) ≡ true) × Counts (list_of lists k) i
    × (a ≡ 0x074000 + k * 164 + i)

-- What the answer rests on: both.
abbrev pub RestsOn : (List ℕ → ℕ → Type 0) → Format → List ℕ → List ℕ → List ℕ → ℕ → Type 0
RestsOn Counts F seqs lists names a = OfSequence Counts F seqs lists names a ⊎ OfLineList Counts F seqs lists names a

-- What stands at these addresses now is what stood there then: "a touched byte given its old value again counts as untouched".
abbrev pub Untouched : (ℕ → Type 0) → List ℕ → List ℕ → List ℕ → List ℕ → Type 0
Untouched Rests seqs lists seqs' lists' = (a : ℕ) → Rests a → byte_in seqs' lists' a ≡ byte_in seqs lists a

-- ── 2. The check gives the same answer now

-- Of an answer that is Such, over two pairs of tables of the right sizes: "the check gives the same answer now, totals and order included".
abbrev pub StaysIf : (Ending → Type 0) → (Format → List ℕ → List ℕ → List ℕ → ℕ → Type 0) → Format → Library → Type 0
StaysIf Such Rests F L = (seqs lists seqs' lists' : List ℕ) (n : ℕ) → Given F seqs lists n → Given F seqs' lists' n
    → let t = L.checks F seqs lists n in
    Such t.ending → Untouched (Rests F seqs lists t.names) seqs lists seqs' lists' → L.checks F seqs' lists' n ≡ t

-- "If the check passed a sequence".
abbrev pub Stays : Format → Library → Type 0
Stays F L = StaysIf EndsOrReturns (RestsOn WithinLength) F L

-- The same for a fault, of the sequences through the faulty one. Byte 0 may say anything there, so that an entry's first four bytes count too.
abbrev pub FaultStays : Format → Library → Type 0
FaultStays F L = StaysIf IsFault (RestsOn Read) F L

-- ── 3. Whatever was done since

-- The tables of now come from those of then by any actions, packets of any kind and steps.
abbrev pub StaysAfter : Format → Library → Type 0
StaysAfter F L = (w : World F) (acts : List Action) (n : ℕ) → Given F w.seqs w.lists n
    → let t = L.checks F w.seqs w.lists n in
    let v = after_all L acts w in
    EndsOrReturns t.ending → Untouched (RestsOn WithinLength F w.seqs w.lists t.names) w.seqs w.lists v.seqs v.lists
    → L.checks F v.seqs v.lists n ≡ t

-- In the paper's plain form: "every uplink obeyed since has touched no byte". An uplink's range are BC5 bytes from the address in BC2 to BC4.
abbrev pub Touches : {F : Format} → Library → Action → World F → ℕ → Type 0
Touches L step w a = ⊥
Touches L (packet out time bytes) w a =
    (code_for L out time bytes w ≡ 0) × (byte_at bytes 0 ≡ 0xE7) × (triple_at bytes 1 ≤ a) × (a < triple_at bytes 1 + byte_at bytes 4)

abbrev pub NeverTouched : {F : Format} → Library → (ℕ → Type 0) → List Action → World F → Type 0
NeverTouched L Rests [] w = Unit {0}
NeverTouched L Rests (act ∷ acts) w = ((a : ℕ) → Rests a → Touches L act w a → ⊥) × NeverTouched L Rests acts (after L act w)

abbrev pub StaysUntouched : Format → Library → Type 0
StaysUntouched F L = (w : World F) (acts : List Action) (n : ℕ) → Given F w.seqs w.lists n
    → let t = L.checks F w.seqs w.lists n in
    let v = after_all L acts w in
    EndsOrReturns t.ending → NeverTouched L (RestsOn WithinLength F w.seqs w.lists t.names) acts w → L.checks F v.seqs v.lists n ≡ t

-- ── 4. "And so demand 3 holds for a run begun now"

-- Demand 3 of a run begun now in v, s once it is begun, with what the check told then: the chain is listed, what it told is kept, and a chain that
-- returns goes round for good.
pub record Holds (F : Format) (L : Library) (n : ℕ) (t : Told) (v s : World F) : Type 0 where
  pub lists : Lists F v.seqs v.lists n t
  pub passed : KeepsPassed L t s
  pub faulted : KeepsFaulted L t s
  pub returns : ComesBack t.ending
      → (m : ℕ) × Again F L s.seqs s.lists n m
      × ((acts : List Action) → NeverCalledBack L acts s → GoesRound F s.seqs t (L.checks F s.seqs s.lists m) (outcomes L acts s))

-- In MANUAL the packets 83 n and 21 03 are obeyed, one after the other, and it holds.
abbrev pub RunsIf : (Ending → Type 0) → (Format → List ℕ → List ℕ → List ℕ → ℕ → Type 0) → Format → Library → Type 0
RunsIf Such Rests F L = (seqs lists : List ℕ) (n : ℕ) → Given F seqs lists n → (v : World F) → Reached L v → mode_of v ≡ 2
    → (out out' : List ℕ) → 16384 ≤ length out → 16384 ≤ length out' → (time time' : ℕ)
    → let t = L.checks F seqs lists n in
    let u = after L (packet out time (selecting n)) v in
    let s = after L (packet out' time' starting) u in
    Such t.ending → Untouched (Rests F seqs lists t.names) seqs lists v.seqs v.lists
    → (code_for L out time (selecting n) v ≡ 0) × (code_for L out' time' starting u ≡ 0) × Holds F L n t v s

-- So of a pass, and of a fault.
abbrev pub StaysRuns : Format → Library → Type 0
StaysRuns F L = RunsIf EndsOrReturns (RestsOn WithinLength) F L

abbrev pub FaultRuns : Format → Library → Type 0
FaultRuns F L = RunsIf IsFault (RestsOn Read) F L

-- The plan, which sequences are entered, which rasters begun and where each exposure is made, is that of then.
abbrev pub PlanStays : Format → Library → Type 0
PlanStays F L = (seqs lists seqs' lists' : List ℕ) (n : ℕ) → Given F seqs lists n → Given F seqs' lists' n
    → let t = L.checks F seqs lists n in
    EndsOrReturns t.ending → Untouched (RestsOn WithinLength F seqs lists t.names) seqs lists seqs' lists'
    → chain_plan F seqs' t.names ≡ chain_plan F seqs t.names

-- ── 5. `still`, for the desk

-- The address of a byte that counts and is another now, and no lower one is.
pub record Lowest (Rests : ℕ → Type 0) (seqs lists seqs' lists' : List ℕ) (a : ℕ) : Type 0 where
  pub rests : Rests a
  pub differs : byte_in seqs' lists' a ≡ byte_in seqs lists a → ⊥
  pub lowest : (b : ℕ) → b < a → Rests b → byte_in seqs' lists' b ≡ byte_in seqs lists b

-- By its number and value (survey/specs/Still): of a sequence that passed it says 1, yes, exactly when what the pass rests on is untouched, and 2 with
-- an address exactly when that is the lowest one touched.
abbrev pub StillExact : Format → Library → Type 0
StillExact F L = (seqs lists seqs' lists' : List ℕ) (n : ℕ) → Given F seqs lists n → Given F seqs' lists' n
    → let t = L.checks F seqs lists n in
    let Rests = RestsOn WithinLength F seqs lists t.names in
    let says = standing_shown (L.still F seqs lists seqs' lists' n) in
    EndsOrReturns t.ending
    → ((says ≡ standing_as 1 0) ↔ Untouched Rests seqs lists seqs' lists')
    × ((a : ℕ) → (says ≡ standing_as 2 a) ↔ Lowest Rests seqs lists seqs' lists' a)

-- "Still safe": wherever it says yes, whatever the tables and the number are, the check passed then and gives the same answer now.
abbrev pub StillSafe : Library → Type 0
StillSafe L = (F : Format) (seqs lists seqs' lists' : List ℕ) (n : ℕ)
    → let t = L.checks F seqs lists n in
    standing_shown (L.still F seqs lists seqs' lists' n) ≡ standing_as 1 0 → EndsOrReturns t.ending × (L.checks F seqs' lists' n ≡ t)

-- "16, then [the] check's own 7 or fault".
abbrev pub StillSixteen : Library → Type 0
StillSixteen L = (F : Format) (seqs lists seqs' lists' : List ℕ) (n : ℕ)
    → (Fills F × (length seqs ≡ 16384) × (length lists ≡ 7872) × (length seqs' ≡ 16384) × (length lists' ≡ 7872) → ⊥)
    → L.still F seqs lists seqs' lists' n ≡ Unpassed (Unlisted 16)

-- Over tables of the right sizes: how the check ended, where that is no pass.
abbrev pub StillUnpassed : Library → Type 0
StillUnpassed L = (F : Format) (seqs lists seqs' lists' : List ℕ) (n : ℕ)
    → Fills F → length seqs ≡ 16384 → length lists ≡ 7872 → length seqs' ≡ 16384 → length lists' ≡ 7872
    → let t = L.checks F seqs lists n in
    (EndsOrReturns t.ending → ⊥) → L.still F seqs lists seqs' lists' n ≡ Unpassed t.ending
