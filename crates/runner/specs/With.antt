-- A runner, or its open raster, with one field changed: a function for each field.
use Rattle.std.specs.Prelude.{ℕ, Bool}
use Rattle.runner.specs.declared.OpenRaster.{OpenRaster}
use Rattle.runner.specs.declared.Runner.{Runner}

abbrev pub with_sequence : ℕ → Runner → Runner
with_sequence x s = record { sequence = x; place = s.place; running = s.running; entering = s.entering; raster = s.raster; rounds = s.rounds; mirror = s.mirror }

abbrev pub with_place : ℕ → Runner → Runner
with_place x s = record { sequence = s.sequence; place = x; running = s.running; entering = s.entering; raster = s.raster; rounds = s.rounds; mirror = s.mirror }

abbrev pub with_running : Bool → Runner → Runner
with_running x s = record { sequence = s.sequence; place = s.place; running = x; entering = s.entering; raster = s.raster; rounds = s.rounds; mirror = s.mirror }

abbrev pub with_entering : Bool → Runner → Runner
with_entering x s = record { sequence = s.sequence; place = s.place; running = s.running; entering = x; raster = s.raster; rounds = s.rounds; mirror = s.mirror }

abbrev pub with_raster : OpenRaster → Runner → Runner
with_raster x s = record { sequence = s.sequence; place = s.place; running = s.running; entering = s.entering; raster = x; rounds = s.rounds; mirror = s.mirror }

abbrev pub with_rounds : ℕ → Runner → Runner
with_rounds x s = record { sequence = s.sequence; place = s.place; running = s.running; entering = s.entering; raster = s.raster; rounds = x; mirror = s.mirror }

abbrev pub with_mirror : ℕ → Runner → Runner
with_mirror x s = record { sequence = s.sequence; place = s.place; running = s.running; entering = s.entering; raster = s.raster; rounds = s.rounds; mirror = x }

-- ── the open raster
abbrev pub open_at : ℕ → OpenRaster → OpenRaster
open_at x o = record { place = x; count = o.count; passes = o.passes; repeats = o.repeats; run = o.run; shift = o.shift }

abbrev pub with_count : ℕ → OpenRaster → OpenRaster
with_count x o = record { place = o.place; count = x; passes = o.passes; repeats = o.repeats; run = o.run; shift = o.shift }

abbrev pub with_passes : ℕ → OpenRaster → OpenRaster
with_passes x o = record { place = o.place; count = o.count; passes = x; repeats = o.repeats; run = o.run; shift = o.shift }

abbrev pub with_repeats : ℕ → OpenRaster → OpenRaster
with_repeats x o = record { place = o.place; count = o.count; passes = o.passes; repeats = x; run = o.run; shift = o.shift }

abbrev pub with_run : ℕ → OpenRaster → OpenRaster
with_run x o = record { place = o.place; count = o.count; passes = o.passes; repeats = o.repeats; run = x; shift = o.shift }
