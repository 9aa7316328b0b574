-- For the proofs of demand 3, the range that a step keeps.
use Rattle.std.specs.Prelude.{◌≤◌, ◌<◌, ◌≡◌, true, ◌⊎◌}
use Rattle.memory.specs.declared.Format.{Format}
use Rattle.runner.specs.declared.Runner.{Runner}
use Rattle.runner.specs.declared.Stepped.{Stepped}
use Rattle.runner.specs.declared.Event.{Event}
use Rattle.runner.specs.declared.Event.TheVariants.{Idle, Enter, Raster, Exp, Loop, Next, Done, Wait, Call, End, Abort}

-- "sequence .. above 127 (unless none), place or open raster's place above 127, .. mirror above 2400, exposures in the set above 8, or
-- running .. with .. status sequence none"; 255 is none
pub record RunnerInRange (F : Format) (s : Runner) : Type 0 where
  pub sequence : (s.sequence ≤ F.last) ⊎ (s.sequence ≡ 255)
  pub place : s.place < F.size
  pub raster : (s.raster.place < F.size) ⊎ (s.raster.place ≡ 255)
  pub count : s.raster.count ≤ 8
  pub mirror : s.mirror ≤ 2400
  pub known : s.running ≡ true → s.sequence ≤ F.last

-- what the status takes from an event: "line list above 47", "abort code above 15"; and no position is past 2400
abbrev pub Shows : Event → Type 0
Shows Idle = Unit {0}
Shows (Enter n) = Unit {0}
Shows (Raster id pos list) = (pos ≤ 2400) × (list ≤ 47)
Shows (Exp pos) = pos ≤ 2400
Shows (Loop place) = Unit {0}
Shows Next = Unit {0}
Shows Done = Unit {0}
Shows (Wait t) = Unit {0}
Shows (Call n) = Unit {0}
Shows End = Unit {0}
Shows (Abort code n place) = code ≤ 15

abbrev pub StepInRange : Format → Stepped → Type 0
StepInRange F r = RunnerInRange F r.runner × Shows r.event
