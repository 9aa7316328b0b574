-- The samples of document 01 for the header and the loop back, as rows of one list; those of line lists are among promises'. Assumes nothing.
use Rattle.std.proofs.Common.{◌≡◌, ℕ, true, cond, List, [], ◌∷◌, ◌++◌, take, replicate, refl, Result, Ok, Err}
use Rattle.octets.specs.Bytes.{xor_on}
use Rattle.octets.proofs.Samples.{Sample, sample, all_right}
use Rattle.sequence.specs.declared.Fault.{Fault}
use Rattle.sequence.specs.Text.{limit, length_good, xor_good, header_rows, header_of, size_of, decoded, none_there, command_at, size_at}
use Rattle.sequence.specs.Starts.{starts, starts_of, among, exposes_between, first_exposure, target_good}
use Rattle.sequence.proofs.SampleTables.{ends, the_raster}

-- an entry that begins with these bytes, 0 in the rest
abbrev sequence_of : List ℕ → List ℕ
sequence_of bytes = take 128 (bytes ++ replicate 128 0)

-- 0 and the repeats, or the code and the place of the fault
abbrev header_numbers : Result ℕ Fault → List ℕ
header_numbers (Ok n) = 0 ∷ n ∷ []
header_numbers (Err f) = f.code ∷ f.place ∷ []

abbrev enters : List ℕ → List ℕ
enters bytes = header_numbers (header_of (sequence_of bytes))

-- the loop back of the raster at place 4: 0 where its target is good, and else the code that a step gives for it
abbrev loops : ℕ → ℕ → List ℕ → List ℕ
loops back target bytes = cond (target_good (sequence_of bytes) 4 back target) 0 3 ∷ []

abbrev samples : List Sample
samples =
    sample (enters (ends 0x92)) (0 ∷ 1 ∷ [])
    ∷ sample (enters (ends 0x93)) (2 ∷ 0 ∷ [])
    ∷ sample (enters (0x06 ∷ 0x00 ∷ 0x01 ∷ 0x00 ∷ 0x94 ∷ 0x93 ∷ [])) (10 ∷ 3 ∷ [])
    ∷ sample (enters (0x05 ∷ 0x00 ∷ 0x01 ∷ 0x01 ∷ 0x05 ∷ [])) (2 ∷ 0 ∷ [])
    ∷ sample (enters the_raster) (0 ∷ 1 ∷ [])
    ∷ sample (loops 30 0x1B the_raster) (0 ∷ [])
    ∷ sample (loops 30 0x1C the_raster) (3 ∷ [])
    ∷ []

pub samples-right : all_right samples ≡ true
unfolding xor_on limit length_good xor_good header_rows header_of size_of decoded none_there command_at size_at starts starts_of among exposes_between first_exposure target_good
samples-right = refl
