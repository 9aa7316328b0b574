-- What is written over the bytes of a state where a part of the unit has changed: that part and nothing else. v is the unit after it.
use Rattle.std.specs.Prelude.{ℕ, cond, List, [], ◌∷◌, ◌++◌, leb, eqb, set}
use Rattle.std.proofs.lemmas.List.Edits.{sets}
use Rattle.octets.specs.Bytes.{two}
use Rattle.octets.specs.Layout.{flag, complement}
use Rattle.runner.specs.declared.OpenRaster.{OpenRaster}
use Rattle.runner.specs.declared.Runner.{Runner}
use Rattle.runner.specs.declared.Event.{Event}
use Rattle.runner.specs.declared.Event.TheVariants.{Idle, Enter, Raster, Exp, Loop, Next, Done, Wait, Call, End, Abort}
use Rattle.unit.specs.declared.Unit.{Unit}
use Rattle.status.specs.declared.Ledger.{Ledger}
use Rattle.status.specs.declared.Watch.{Watch}
use Rattle.telecommand.specs.declared.Telecommand.{Telecommand}
use Rattle.telecommand.specs.declared.Telecommand.TheVariants.{Status, Dump, Allow, Mode, Clear, Select, Uplink, Foreign, Unheard}
use Rattle.unit.specs.declared.Answer.{Answer}
use Rattle.telecommand.specs.Packet.{command_of}

-- ── parts of the unit
-- what every counted packet changes: the count and the log
abbrev pub log_over : Ledger → List ℕ → List ℕ
log_over l s = sets (sets s 4 (two l.received)) 11 (l.log.bc1 ∷ l.log.bc2 ∷ l.log.bc3 ∷ l.log.size ∷ [])

-- what a refusal changes
abbrev pub ledger_over : Ledger → List ℕ → List ℕ
ledger_over l s = sets (log_over l s) 6 (two l.failed ++ (l.code ∷ l.number ∷ []))

-- the sequence and the place that the status shows
abbrev pub place_over : Runner → List ℕ → List ℕ
place_over r s = sets s 16 (r.sequence ∷ r.place ∷ [])

-- what a start or a stop changes beside them
abbrev pub run_over : Watch → Runner → List ℕ → List ℕ
run_over w r s = sets (sets (set s 10 w.abort) 19 (two w.exposures)) 23 (flag r.running ∷ flag r.entering ∷ r.raster.place ∷ [])

-- the run number and the shift
abbrev pub shift_over : OpenRaster → List ℕ → List ℕ
shift_over o s = sets s 32 (two o.run ++ two (complement o.shift))

-- the mirror and the open raster
abbrev pub raster_over : Runner → List ℕ → List ℕ
raster_over r s = shift_over r.raster (sets (sets s 21 (two r.mirror)) 25 ((r.raster.place ∷ r.raster.count ∷ two r.raster.passes) ++ two r.raster.repeats))

-- the repeats and the rounds left, and the run number
abbrev pub next_over : Runner → List ℕ → List ℕ
next_over r s = sets s 29 (two r.raster.repeats ++ (r.rounds ∷ two r.raster.run))

-- ── a packet
-- obeyed, of this command
unfoldable pub obeyed_over : Telecommand → Unit → List ℕ → List ℕ
obeyed_over Status v s = sets s 2 (two v.control.requests)
obeyed_over Dump v s = log_over v.ledger s
obeyed_over Allow v s = set (log_over v.ledger s) 1 (flag v.control.allowed)
obeyed_over Mode v s = run_over v.watch v.runner (place_over v.runner (set (log_over v.ledger s) 0 v.control.mode))
obeyed_over Clear v s = sets (log_over v.ledger s) 8 (v.ledger.code ∷ v.ledger.number ∷ v.watch.abort ∷ [])
obeyed_over Select v s = place_over v.runner (set (log_over v.ledger s) 15 v.control.selection)
obeyed_over Uplink v s = log_over v.ledger s
obeyed_over Foreign v s = log_over v.ledger s
obeyed_over Unheard v s = log_over v.ledger s

-- any, by its answer: "16 and 17 change nothing"
unfoldable pub answer_over : Answer → List ℕ → List ℕ → List ℕ
answer_over a p s = cond (eqb a.code 0) (obeyed_over (command_of p) a.unit s) (cond (leb 16 a.code) s (ledger_over a.unit.ledger s))

-- ── a step
-- what its event moves beside the place
abbrev pub moved_over : Event → Unit → List ℕ → List ℕ
moved_over Idle v s = s
moved_over (Enter n) v s = set (set s 24 (flag v.runner.entering)) 31 v.runner.rounds
moved_over (Raster id pos list) v s = raster_over v.runner (set s 18 list)
moved_over (Exp pos) v s = set (sets s 19 (two v.watch.exposures ++ two v.runner.mirror)) 26 v.runner.raster.count
moved_over (Loop place) v s = sets s 26 (v.runner.raster.count ∷ two v.runner.raster.passes)
moved_over Next v s = next_over v.runner s
moved_over Done v s = set s 25 v.runner.raster.place
moved_over (Wait t) v s = s
moved_over (Call n) v s = set (set s 16 v.runner.sequence) 24 (flag v.runner.entering)
moved_over End v s = set s 23 (flag v.runner.running)
moved_over (Abort code n place) v s = set (set s 10 code) 23 (flag v.runner.running)

unfoldable pub step_over : Event → Unit → List ℕ → List ℕ
step_over e v s = moved_over e v (set s 17 v.runner.place)
