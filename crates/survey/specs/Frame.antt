-- What a check reads of the tables: the listed sequences, and the line lists that those use.
use Rattle.std.specs.Prelude.{ℕ, ◌≤◌, ◌≡◌, true, List, [], ◌∷◌}
use Rattle.memory.specs.declared.Format.{Format}
use Rattle.memory.specs.Memory.{entry_of, list_of}
use Rattle.sequence.specs.Starts.{among, starts_of, rasters_among}
use Rattle.sequence.specs.Raster.{raster_at}
use Rattle.sequence.specs.Within.{Alike}

-- the line lists that the run rasters at these places name
abbrev pub lists_named : List ℕ → List ℕ → List ℕ
lists_named text [] = []
lists_named text (p ∷ ps) = (raster_at text p).list ∷ lists_named text ps

-- the line lists that a sequence uses: those that the run rasters among its starts name
unfoldable pub lists_used : List ℕ → List ℕ
lists_used text = lists_named text (rasters_among text (starts_of text))

-- the second pair of tables is alike in each of these sequences, and in each line list that one of them uses
pub record Agree (F : Format) (seqs lists seqs' lists' names : List ℕ) : Type 0 where
  pub entries : (n : ℕ) → among n names ≡ true → Alike (entry_of F seqs n) (entry_of F seqs' n)
  pub used : (n k : ℕ) → among n names ≡ true → k ≤ 47 → among k (lists_used (entry_of F seqs n)) ≡ true → Alike (list_of lists k) (list_of lists' k)
