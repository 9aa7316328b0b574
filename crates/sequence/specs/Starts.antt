-- Where commands start, counted on from place 4, and what a loop back may jump to.
use Rattle.std.specs.Prelude.{ℕ, zero, suc, ◌+◌, Bool, false, cond, ◌&&◌, ◌||◌, List, [], ◌∷◌, length, ◌==◌, nat_le, nat_lt}
use Rattle.octets.specs.Bytes.{byte_at}
use Rattle.sequence.specs.declared.Command.TheVariants.{Expose}
use Rattle.sequence.specs.Text.{number_of, size_at, command_at, is_run_raster}

-- the places at which commands start, counted on from p: at most as many as the text has bytes
unfoldable pub starts : List ℕ → ℕ → ℕ → List ℕ
starts text zero p = []
starts text (suc f) p = cond (size_at text p == 0) [] (p ∷ starts text f (p + size_at text p))

unfoldable pub starts_of : List ℕ → List ℕ
starts_of text = starts text (length text) 4

-- the run rasters among these places
abbrev pub rasters_among : List ℕ → List ℕ → List ℕ
rasters_among text [] = []
rasters_among text (p ∷ ps) = cond (is_run_raster (command_at text p)) (p ∷ rasters_among text ps) (rasters_among text ps)

unfoldable pub among : ℕ → List ℕ → Bool
among t [] = false
among t (p ∷ ps) = p == t || among t ps

-- an expose at p, after the run raster at r and before the loop back at q
unfoldable pub exposes_between : List ℕ → ℕ → ℕ → ℕ → Bool
exposes_between text r q p = nat_lt r p && (nat_lt p q && byte_at text p == number_of (Expose 0))

-- "this raster's first exposure": the first of these places with such an expose, 0 where there is none
unfoldable pub first_exposure : List ℕ → ℕ → ℕ → List ℕ → ℕ
first_exposure text r q [] = 0
first_exposure text r q (p ∷ ps) = cond (exposes_between text r q p) p (first_exposure text r q ps)

-- "the start of a command (counted on from place 4) after the run raster and at or before this raster's first exposure"
unfoldable pub target_good : List ℕ → ℕ → ℕ → ℕ → Bool
target_good text r q t = nat_lt r t && (among t (starts_of text) && nat_le t (first_exposure text r q (starts_of text)))
