-- The status block, a table of fields by the paper's positions.
use Rattle.std.specs.Prelude.{ℕ, Bool, true, false, cond, List, [], ◌∷◌, ◌++◌, eqb, replicate}
use Rattle.octets.specs.Layout.{Cell, Field, field, laid}
use Rattle.octets.specs.Layout.Cell.{Byte, Word, Four, Halves, Fixed}
use Rattle.runner.specs.declared.Runner.{Runner}
use Rattle.status.specs.declared.Ledger.{Ledger}
use Rattle.status.specs.declared.Control.{Control}
use Rattle.status.specs.declared.Watch.{Watch}

-- "bits 4-7 are 1 running, 2 stopped"
abbrev pub running : Bool → ℕ
running true = 1
running false = 2

-- "0 if none"
abbrev pub or_zero : ℕ → ℕ
or_zero n = cond (eqb n 255) 0 n

-- "The rest 0."
abbrev blank : ℕ → Cell
blank n = Fixed (replicate n 0)

-- "0: 0x10. 1: mode in bits 0-3, failed code in 4-7. 2-3 STATUS_PC after this request. 4-7 the time given with the call. 8-9 received.
-- 12-13 failed. 14 failed number. 17: 2 in bits 0-3 .. 20 sequence. 21 place. 22 line list. 24-25 exposures since AUTO. 26-27 mirror.
-- 64-67 log. 90: abort code in bits 0-3."
abbrev pub status_fields : Ledger → Control → Watch → Runner → ℕ → List Field
status_fields l c w r time =
    field 0 (Fixed (0x10 ∷ []))
    ∷ field 1 (Halves c.mode l.code)
    ∷ field 2 (Word c.requests)
    ∷ field 4 (Four time)
    ∷ field 8 (Word l.received)
    ∷ field 10 (blank 2)
    ∷ field 12 (Word l.failed)
    ∷ field 14 (Byte l.number)
    ∷ field 15 (blank 2)
    ∷ field 17 (Halves 2 (running r.running))
    ∷ field 18 (blank 2)
    ∷ field 20 (Byte (or_zero r.sequence))
    ∷ field 21 (Byte r.place)
    ∷ field 22 (Byte w.list)
    ∷ field 23 (blank 1)
    ∷ field 24 (Word w.exposures)
    ∷ field 26 (Word r.mirror)
    ∷ field 28 (blank 36)
    ∷ field 64 (Byte l.log.bc1)
    ∷ field 65 (Byte l.log.bc2)
    ∷ field 66 (Byte l.log.bc3)
    ∷ field 67 (Byte l.log.size)
    ∷ field 68 (blank 22)
    ∷ field 90 (Halves w.abort 0)
    ∷ field 91 (blank 9)
    ∷ []

-- "byte 01, size 00 00 64, then 100 bytes"
abbrev pub status_bytes : Ledger → Control → Watch → Runner → ℕ → List ℕ
status_bytes l c w r time = (0x01 ∷ 0x00 ∷ 0x00 ∷ 0x64 ∷ []) ++ laid (status_fields l c w r time)
