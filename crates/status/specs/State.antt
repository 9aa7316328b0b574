-- What the unit shows of itself, and how it changes: the counts and the log, what commands set, what a run leaves.
use Rattle.std.specs.Prelude.{ℕ, Bool, cond, List, ltb, length}
use Rattle.octets.specs.Bytes.{byte_at, counted}
use Rattle.runner.specs.declared.Event.{Event}
use Rattle.runner.specs.declared.Event.TheVariants.{Idle, Enter, Raster, Exp, Loop, Next, Done, Wait, Call, End, Abort}
use Rattle.status.specs.declared.Log.{Log}
use Rattle.status.specs.declared.Ledger.{Ledger}
use Rattle.status.specs.declared.Control.{Control}
use Rattle.status.specs.declared.Watch.{Watch}

-- ── a record with one part changed
abbrev pub with_mode : ℕ → Control → Control
with_mode x u = record { mode = x; allowed = u.allowed; requests = u.requests; selection = u.selection }

abbrev pub with_allowed : Bool → Control → Control
with_allowed x u = record { mode = u.mode; allowed = x; requests = u.requests; selection = u.selection }

abbrev pub with_requests : ℕ → Control → Control
with_requests x u = record { mode = u.mode; allowed = u.allowed; requests = x; selection = u.selection }

abbrev pub with_selection : ℕ → Control → Control
with_selection x u = record { mode = u.mode; allowed = u.allowed; requests = u.requests; selection = x }

abbrev pub with_list : ℕ → Watch → Watch
with_list x u = record { list = x; exposures = u.exposures; abort = u.abort }

abbrev pub with_exposures : ℕ → Watch → Watch
with_exposures x u = record { list = u.list; exposures = x; abort = u.abort }

abbrev pub with_abort : ℕ → Watch → Watch
with_abort x u = record { list = u.list; exposures = u.exposures; abort = x }

-- ── counts and log
-- "log: BC1, BC2, BC3 (0 where absent), length (255 if above 133)"
abbrev pub log_of : List ℕ → Log
log_of p = record { bc1 = byte_at p 0; bc2 = byte_at p 1; bc3 = byte_at p 2; size = cond (ltb 133 (length p)) 255 (length p) }

-- a packet "adds 1 to TC_REC_PKTC and sets the log"
abbrev pub arrived : List ℕ → Ledger → Ledger
arrived p l = record { received = counted l.received; failed = l.failed; code = l.code; number = l.number; log = log_of p }

-- a refusal "adds 1 to TC_FAILED_PKTC and sets the failed number (0 if empty) and code"
abbrev pub failed : ℕ → ℕ → Ledger → Ledger
failed number code l = record { received = l.received; failed = counted l.failed; code = code; number = number; log = l.log }

-- "failed code, failed number and abort code to 0"
abbrev pub cleared : Ledger → Ledger
cleared l = record { received = l.received; failed = l.failed; code = 0; number = 0; log = l.log }

-- ── a run
-- "the status takes the line list"; "exposures since AUTO, wrapping"; "an abort sets place and code"
abbrev pub watched : Event → Watch → Watch
watched Idle w = w
watched (Enter s) w = w
watched (Raster id pos list) w = with_list list w
watched (Exp pos) w = with_exposures (counted w.exposures) w
watched (Loop place) w = w
watched Next w = w
watched Done w = w
watched (Wait t) w = w
watched (Call s) w = w
watched End w = w
watched (Abort code s place) w = with_abort code w
