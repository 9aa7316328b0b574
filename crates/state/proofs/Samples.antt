-- The bytes of the state at power-on, and those of a run number and a shift, computed. Assumes nothing.
use mathlib.Core.Path.{◌≡◌, refl}
use mathlib.Core.List.{[], ◌∷◌, ◌++◌}
use lib.IntN.{negsuc}
use lib.ListN.{drop, replicate}
use Rattle.runner.specs.With.{with_raster}
use Rattle.unit.specs.State.{with_runner, power_on}
use Rattle.state.specs.State.{state_of}

-- mode 1; selection, status sequence and open raster none; all else 0
pub power-on-bytes : state_of power_on ≡ (0x01 ∷ replicate 14 0x00 ++ (0xFF ∷ 0xFF ∷ replicate 8 0x00 ++ (0xFF ∷ replicate 10 0x00)))
unfolding power_on state_of
power-on-bytes = refl

-- repeat 3, moved back by 5
pub shift-bytes : drop 32 (state_of (with_runner (with_raster (record { place = 4; count = 0; passes = 1; repeats = 1; run = 3; shift = negsuc 4 }) power_on.runner) power_on)) ≡ (0x00 ∷ 0x03 ∷ 0xFF ∷ 0xFB ∷ [])
unfolding power_on state_of
shift-bytes = refl
