-- Lines and texts of the desk as one list of rows and one computed test. Assumes nothing.
use Prim.Native.Nat.{ℕ, ◌+◌, ◌^◌}
use Prim.Native.String.{String}
use mathlib.Core.Path.{◌≡◌, refl}
use mathlib.Core.Bool.{true, false}
use mathlib.Core.List.{List, [], ◌∷◌, ◌++◌}
use lib.ListN.{replicate}
use Rattle.octets.specs.Words.{bytes_of}
use Rattle.octets.proofs.Samples.{Sample, sample, all_right}
use Rattle.runner.specs.declared.Event.TheVariants.{Idle, Raster, Exp, Abort}
use Rattle.line.specs.Digits.{digit_of, value_of, bytes_in, spell, decimal, shown_on, each}
use Rattle.line.specs.Writing.{spaced, members, bits_set, bits_text, marks_text, answer_text, block_text, event_text, bad_text, reason_text}
use Rattle.line.specs.Reading.{line_of}
use Rattle.line.specs.declared.Line.{Line}
use Rattle.line.specs.declared.Line.TheVariants.{Packet, Steps, Bad}

-- what a line says as a list of numbers: a packet with its bytes, steps with their number
abbrev told : List ℕ → Line → List ℕ
told line (Packet n) = 0 ∷ n ∷ bytes_in line
told line (Steps n) = 1 ∷ n ∷ []
told line Bad = 2 ∷ []

abbrev line-is : List ℕ → List ℕ → Sample
line-is line right = sample (told line (line_of line)) right

abbrev packet : String → ℕ → List ℕ → Sample
packet line n bytes = line-is (bytes_of line) (0 ∷ n ∷ bytes)

abbrev steps : String → ℕ → Sample
steps line n = line-is (bytes_of line) (1 ∷ n ∷ [])

abbrev bad : String → Sample
bad line = line-is (bytes_of line) (2 ∷ [])

abbrev written : List ℕ → String → Sample
written text right = sample text (bytes_of right)

abbrev samples : List Sample
samples =
    packet "" 0 []
    ∷ packet "e7FF" 2 (0xE7 ∷ 0xFF ∷ [])
    ∷ packet "2102" 2 (0x21 ∷ 2 ∷ [])
    ∷ line-is (replicate 280 48) (0 ∷ 140 ∷ replicate 140 0)
    ∷ line-is (replicate 282 48) (2 ∷ [])
    ∷ bad "210"
    ∷ bad "21 02"
    ∷ bad "2G"
    ∷ steps "STEP 1" 1
    ∷ steps "STEP 65535" 65535
    ∷ bad "STEP 65536"
    ∷ bad "STEP 99999999999999999999"
    ∷ bad "STEP 0"
    ∷ bad "STEP 01"
    ∷ bad "STEP +1"
    ∷ bad "STEP 1 "
    ∷ bad "STEP  1"
    ∷ bad "STEP "
    ∷ bad "STEP"
    ∷ bad "step 1"
    ∷ bad " STEP 1"
    ∷ bad "20\r"
    ∷ bad "\t"
    ∷ written (answer_text 0xE7 10) "TC E7 10\n"
    ∷ written (answer_text 0 1) "TC 00 1\n"
    ∷ written (block_text true (1 ∷ 0 ∷ 0 ∷ 0x64 ∷ [])) "ST 01000064\n"
    ∷ written (block_text false (0xAB ∷ [])) "DU AB\n"
    ∷ written (event_text 0 Idle) "IDLE\n"
    ∷ written (event_text 65535 (Exp 2400)) "EXP 65535 2400\n"
    ∷ written (event_text 0 (Raster 14421 1883 47)) "RASTER 14421 1883\n"
    ∷ written (event_text 0 (Abort 2 0 0)) "ABORT 2 0 0\n"
    ∷ written bad_text "BAD\n"
    ∷ written (bits_text 0 0) "-"
    ∷ written (bits_text (2 ^ 63) 0) "0"
    ∷ written (bits_text (2 ^ 62 + 2 ^ 53 + 2 ^ 16) 0) "1,10,47"
    ∷ written (bits_text 3 192) "254,255"
    ∷ written (marks_text 0x1C) "11,12,13"
    ∷ written (marks_text 0x08) "12"
    ∷ written (marks_text 0) "-"
    ∷ written (reason_text 0 7) ""
    ∷ written (reason_text 1 0) "count"
    ∷ written (reason_text 2 0) "length"
    ∷ written (reason_text 3 0x6E) "checksum 6E"
    ∷ written (reason_text 4 0) "mark"
    ∷ written (bytes_of "PASS" ++ spaced 2 ++ bytes_of " ENDS" ++ spaced 289062331117568 ++ each spaced (0 ∷ 45 ∷ [])) "PASS 2 ENDS 289062331117568 0 45"
    ∷ []

pub samples-right : all_right samples ≡ true
unfolding value_of bytes_in shown_on digit_of decimal spell members bits_set
samples-right = refl
