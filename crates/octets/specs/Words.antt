-- Words as quoted text.
use Rattle.std.specs.Prelude.{ℕ, List, [], ◌∷◌}
use Prim.Native.String.{String}
use Prim.Native.String.{[] as none, ◌∷◌ as ◌then◌}
use Prim.Native.Char.{code}

-- the bytes of a quoted text
abbrev pub bytes_of : String → List ℕ
bytes_of none = []
bytes_of (◌then◌ c s) = code c ∷ bytes_of s
