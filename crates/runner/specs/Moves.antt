-- What a step moves in the runner, by its event; all else stays.
use Rattle.runner.specs.declared.Runner.{Runner}
use Rattle.runner.specs.declared.Event.{Event}
use Rattle.runner.specs.declared.Event.TheVariants.{Idle, Enter, Raster, Exp, Loop, Next, Done, Wait, Call, End, Abort}
use Rattle.runner.specs.With.{with_sequence, with_place, with_running, with_entering, with_raster, with_rounds, with_mirror, open_at, with_count, with_passes, with_repeats, with_run}

-- s with the parts that the event moves taken from r; a NEXT is a raster's repeat or a sequence's
abbrev pub moves : Event → Runner → Runner → Runner
moves Idle r s = s
moves (Enter n) r s = with_place r.place (with_entering r.entering (with_rounds r.rounds s))
moves (Raster id pos list) r s = with_place r.place (with_raster r.raster (with_mirror r.mirror s))
moves (Exp pos) r s = with_place r.place (with_raster (with_count r.raster.count s.raster) (with_mirror r.mirror s))
moves (Loop place) r s = with_place r.place (with_raster (with_count r.raster.count (with_passes r.raster.passes s.raster)) s)
moves Next r s = with_place r.place (with_raster (with_repeats r.raster.repeats (with_run r.raster.run s.raster)) (with_rounds r.rounds s))
moves Done r s = with_place r.place (with_raster (open_at r.raster.place s.raster) s)
moves (Wait t) r s = with_place r.place s
moves (Call n) r s = with_sequence r.sequence (with_place r.place (with_entering r.entering s))
moves End r s = with_running r.running s
moves (Abort code n place) r s = with_place r.place (with_running r.running s)
