-- For the proofs of demand 3, where a chain exposes: listed sequence by listed sequence, round by round, raster by raster, repeat by repeat.
use Rattle.std.specs.Prelude.{ℕ, ◌≤◌, List, [], ◌∷◌, ◌++◌}
use Rattle.octets.specs.Bytes.{byte_at}
use Rattle.sequence.specs.Env.{Env, text_of}
use Rattle.survey.specs.Turns.{turns}
use Rattle.survey.specs.Items.{positions_of}
use Rattle.survey.specs.Walk.{Finding, passes, faults, finding_of}

-- all rounds of a sequence, from what its check finds: each shows the positions of its rasters in text order
abbrev pub rounds_positions : List ℕ → Finding → List ℕ
rounds_positions text (passes k x items p closing) = turns 0 (byte_at text 3) (λ r left. positions_of text items)
rounds_positions text (faults fault reason) = []

-- the listed sequences, one after another
unfoldable pub chain_positions : Env → List ℕ → List ℕ → List ℕ
chain_positions E seqs [] = []
chain_positions E seqs (n ∷ ns) = rounds_positions (text_of E seqs n) (finding_of E seqs n) ++ chain_positions E seqs ns

-- none of these numbers is past the stop
abbrev pub NonePast : ℕ → List ℕ → Type 0
NonePast stop [] = Unit {0}
NonePast stop (x ∷ xs) = (x ≤ stop) × NonePast stop xs
