-- One answer, proved: each contract is an equation with a definition of specs/, so two results are equal to the same thing.
-- Assumes nothing.
use Prim.Native.Nat.{ℕ}
use mathlib.Core.Path.{◌≡◌, sym, ◌∙◌}
use mathlib.Core.List.{List}
use Rattle.telecommand.proofs.Laws.{same_result}
use Rattle.line.specs.Writing.{Laid}
use Rattle.promises.specs.OneAnswer.{
  OneOctetsByte,
  OneOctetsWord,
  OneOctetsTriple,
  OneOctetsEight,
  OneOctetsNumber,
  OneOctetsPart,
  OneOctetsCounted,
  OneOctetsXorOn,
  OneOctetsRefuse,
  OneOctetsPair,
  OneOctetsEither,
  OneOctetsBoth,
  OneMemoryFormatOf,
  OneMemoryPlaceOf,
  OneMemoryPlaceNumber,
  OneMemoryAddressOf,
  OneMemoryAddressNumber,
  OneMemoryAddressRange,
  OneMemoryRangeAt,
  OneMemoryRangeFrom,
  OneMemoryRangeIsWrong,
  OneMemoryPartOf,
  OneMemoryTablesWrong,
  OneMemoryWindowCode,
  OneMemoryWindow,
  OneMemoryWrite,
  OneMemoryWriteRange,
  OneMemoryEntry,
  OneMemoryList,
  OneSequenceSizeOf,
  OneSequenceLimit,
  OneSequenceIdAt,
  OneSequenceInitialAt,
  OneSequenceLoopsAt,
  OneSequenceAsrcAt,
  OneSequenceSkipAt,
  OneSequenceRepeatsAt,
  OneSequenceListAt,
  OneSequenceRasterStands,
  OneSequenceLengthGood,
  OneSequenceXorGood,
  OneSequenceHeaderOf,
  OneSequenceCommandAt,
  OneSequenceRasterAt,
  OneSequenceFlagsGood,
  OneSequenceNeedsMark,
  OneSequenceMarksLack,
  OneSequenceListCard,
  OneSequenceBadListShown,
  OneSequenceCardShown,
  OneSequenceMarksIn,
  OneSequenceCardBytes,
  OneSequenceKeptCard,
  OneSequenceCardOf,
  OneSequencePast,
  OneSequenceTargetGood,
  OneRunnerJudge,
  OneRunnerTestsList,
  OneRunnerRunnerStep,
  OneSurveyCheck,
  OneSurveyCheckOne,
  OneSurveyTakenAlone,
  OneSurveyHasList,
  OneSurveyEmpty,
  OneSurveyUnlisted,
  OneSurveyChainReported,
  OneSurveyTotal,
  OneSummaryLinesAt,
  OneSummaryMake,
  OneSummaryUpdate,
  OneSummaryCheck,
  OneSurveyReasonShown,
  OneSurveyStill,
  OneTelecommandTelecommandOf,
  OneTelecommandRefusalCode,
  OneTelecommandTelecommandShapeFault,
  OneTelecommandPairAllowed,
  OneTelecommandDumpRange,
  OneTelecommandUplinkRange,
  OneTelecommandDumped,
  OneTelecommandUplink,
  OneStatusLedgerArrived,
  OneStatusLedgerFailed,
  OneStatusLedgerCleared,
  OneStatusWatched,
  OneStatusPutStatus,
  OneUnitUnitPowerOn,
  OneUnitUnitOutOfRange,
  OneUnitLentWrong,
  OneUnitUnitPacket,
  OneUnitWindowCode,
  OneUnitWindow,
  OneUnitUnitStep,
  OneSequenceExposuresAt,
  OneSequenceStepAt,
  OneLinePut,
  OneLinePutWord,
  OneLinePutNumber,
  OneLinePutBlankNumber,
  OneLinePutNumbers,
  OneLinePutBits,
  OneLinePutMarks,
  OneLinePutOctet,
  OneLinePutOctets,
  OneLinePutAnswer,
  OneLinePutReason,
  OneLinePutBlock,
  OneLinePutEvent,
  OneLinePutBad,
  OneLineIsHex,
  OneLineNumber,
  OneLineBegins,
  OneLineIsWord,
  OneLineKindNamed,
  OneLineReadLine,
  OneStateRunnerOf,
  OneStateUnitOf,
  OneStateSaveAnswer,
  OneStateSaveStep,
  OneStateFlagsWrong,
  OneKeelKeelPowerOn,
  OneKeelKeelPacket,
  OneKeelKeelStep,
  OneKeelKeelCheck,
  OneKeelKeelCards,
  OneKeelKeelCardsUpdate,
  OneKeelKeelCardsCheck,
  OneConsolePageOver,
  OneConsolePageShow,
  OneConsolePageMakeRoom,
  OneConsolePagePut,
  OneConsolePagePutWord,
  OneConsolePagePutNumber,
  OneConsolePagePutNumbers,
  OneConsolePagePutBits,
  OneConsolePagePutOctets,
  OneConsolePagePutReason,
  OneConsolePagePutList,
  OneConsolePagePutAnswer,
  OneConsolePagePutBlock,
  OneConsolePagePutEvent,
  OneConsolePagePutBad,
}

-- ── octets
pub one-result-octets-byte : OneOctetsByte
one-result-octets-byte κs a r r' e e' p q = p ∙ sym q

pub one-result-octets-word : OneOctetsWord
one-result-octets-word κs a r r' e e' p q = p ∙ sym q

pub one-result-octets-triple : OneOctetsTriple
one-result-octets-triple κs a r r' e e' p q = p ∙ sym q

pub one-result-octets-eight : OneOctetsEight
one-result-octets-eight κs a r r' e e' p q = p ∙ sym q

pub one-result-octets-number : OneOctetsNumber
one-result-octets-number κs a r r' e e' p q = p ∙ sym q

pub one-result-octets-part : OneOctetsPart
one-result-octets-part κs a r r' e e' p q = p ∙ sym q

pub one-result-octets-counted : OneOctetsCounted
one-result-octets-counted κs a r r' e e' p q = p ∙ sym q

pub one-result-octets-xor-on : OneOctetsXorOn
one-result-octets-xor-on κs a r r' e e' p q = p ∙ sym q

pub one-result-octets-refuse : OneOctetsRefuse
one-result-octets-refuse κs a r r' e e' p q = p ∙ sym q

pub one-result-octets-pair : OneOctetsPair
one-result-octets-pair κs a r r' e e' p q = p ∙ sym q

pub one-result-octets-either : OneOctetsEither
one-result-octets-either κs a r r' e e' p q = p ∙ sym q

pub one-result-octets-both : OneOctetsBoth
one-result-octets-both κs a r r' e e' p q = p ∙ sym q

-- ── memory
pub one-result-memory-Format-of : OneMemoryFormatOf
one-result-memory-Format-of κs a r r' e e' p q = p ∙ sym q

pub one-result-memory-Place-of : OneMemoryPlaceOf
one-result-memory-Place-of κs a r r' e e' p q = p ∙ sym q

pub one-result-memory-Place-number : OneMemoryPlaceNumber
one-result-memory-Place-number κs a r r' e e' p q = p ∙ sym q

pub one-result-memory-Address-of : OneMemoryAddressOf
one-result-memory-Address-of κs a r r' e e' p q = p ∙ sym q

pub one-result-memory-Address-number : OneMemoryAddressNumber
one-result-memory-Address-number κs a r r' e e' p q = p ∙ sym q

pub one-result-memory-Address-range : OneMemoryAddressRange
one-result-memory-Address-range κs a r r' e e' p q = p ∙ sym q

pub one-result-memory-range-at : OneMemoryRangeAt
one-result-memory-range-at κs a r r' e e' p q = p ∙ sym q

pub one-result-memory-range-from : OneMemoryRangeFrom
one-result-memory-range-from κs a r r' e e' p q = p ∙ sym q

pub one-result-memory-Range-is-wrong : OneMemoryRangeIsWrong
one-result-memory-Range-is-wrong κs a r r' e e' p q = p ∙ sym q

pub one-result-memory-part-of : OneMemoryPartOf
one-result-memory-part-of κs a r r' e e' p q = p ∙ sym q

pub one-result-memory-tables-wrong : OneMemoryTablesWrong
one-result-memory-tables-wrong κs a r r' e e' p q = p ∙ sym q

pub one-result-memory-window-code : OneMemoryWindowCode
one-result-memory-window-code κs a r r' e e' p q = p ∙ sym q

pub one-result-memory-window : OneMemoryWindow
one-result-memory-window κs a r r' e e' p q = p ∙ sym q

pub one-result-memory-write : OneMemoryWrite
one-result-memory-write κs a r r' e e' p q = p ∙ sym q

pub one-result-memory-write-range : OneMemoryWriteRange
one-result-memory-write-range κs a r r' e e' p q = λ i. ((p.0 ∙ sym q.0) i, (p.1 ∙ sym q.1) i)

pub one-result-memory-entry : OneMemoryEntry
one-result-memory-entry κs a r r' e e' p q = p ∙ sym q

pub one-result-memory-list : OneMemoryList
one-result-memory-list κs a r r' e e' p q = p ∙ sym q

-- ── sequence
pub one-result-sequence-size-of : OneSequenceSizeOf
one-result-sequence-size-of κs a r r' e e' p q = p.0 ∙ sym q.0

pub one-result-sequence-limit : OneSequenceLimit
one-result-sequence-limit κs a r r' e e' p q = p ∙ sym q

pub one-result-sequence-id-at : OneSequenceIdAt
one-result-sequence-id-at κs a r r' e e' p q = p ∙ sym q

pub one-result-sequence-initial-at : OneSequenceInitialAt
one-result-sequence-initial-at κs a r r' e e' p q = p ∙ sym q

pub one-result-sequence-loops-at : OneSequenceLoopsAt
one-result-sequence-loops-at κs a r r' e e' p q = p ∙ sym q

pub one-result-sequence-asrc-at : OneSequenceAsrcAt
one-result-sequence-asrc-at κs a r r' e e' p q = p ∙ sym q

pub one-result-sequence-skip-at : OneSequenceSkipAt
one-result-sequence-skip-at κs a r r' e e' p q = p ∙ sym q

pub one-result-sequence-repeats-at : OneSequenceRepeatsAt
one-result-sequence-repeats-at κs a r r' e e' p q = p ∙ sym q

pub one-result-sequence-list-at : OneSequenceListAt
one-result-sequence-list-at κs a r r' e e' p q = p ∙ sym q

pub one-result-sequence-raster-stands : OneSequenceRasterStands
one-result-sequence-raster-stands κs a r r' e e' p q = p ∙ sym q

pub one-result-sequence-length-good : OneSequenceLengthGood
one-result-sequence-length-good κs a r r' e e' p q = p ∙ sym q

pub one-result-sequence-xor-good : OneSequenceXorGood
one-result-sequence-xor-good κs a r r' e e' p q = p ∙ sym q

pub one-result-sequence-header-of : OneSequenceHeaderOf
one-result-sequence-header-of κs a r r' e e' p q = p ∙ sym q

pub one-result-sequence-command-at : OneSequenceCommandAt
one-result-sequence-command-at κs a r r' e e' p q = p.0 ∙ sym q.0

pub one-result-sequence-raster-at : OneSequenceRasterAt
one-result-sequence-raster-at κs a r r' e e' p q = p ∙ sym q

pub one-result-sequence-exposures-at : OneSequenceExposuresAt
one-result-sequence-exposures-at κs a r r' e e' p q = p ∙ sym q

pub one-result-sequence-step-at : OneSequenceStepAt
one-result-sequence-step-at κs a r r' e e' p q = p ∙ sym q

pub one-result-sequence-flags-good : OneSequenceFlagsGood
one-result-sequence-flags-good κs a r r' e e' p q = p ∙ sym q

pub one-result-sequence-list-card : OneSequenceListCard
one-result-sequence-list-card κs a r r' e e' p q = p ∙ sym q

pub one-result-sequence-needs-mark : OneSequenceNeedsMark
one-result-sequence-needs-mark κs a r r' e e' p q = p ∙ sym q

pub one-result-sequence-Marks-lack : OneSequenceMarksLack
one-result-sequence-Marks-lack κs a r r' e e' p q = p ∙ sym q

pub one-result-sequence-BadList-shown : OneSequenceBadListShown
one-result-sequence-BadList-shown κs a r r' e e' p q = p ∙ sym q

pub one-result-sequence-card-shown : OneSequenceCardShown
one-result-sequence-card-shown κs a r r' e e' p q = p ∙ sym q

pub one-result-sequence-marks-in : OneSequenceMarksIn
one-result-sequence-marks-in κs a r r' e e' p q = p ∙ sym q

pub one-result-sequence-card-bytes : OneSequenceCardBytes
one-result-sequence-card-bytes κs a r r' e e' p q = p ∙ sym q

pub one-result-sequence-kept-card : OneSequenceKeptCard
one-result-sequence-kept-card κs a r r' e e' p q = p ∙ sym q

pub one-result-sequence-card-of : OneSequenceCardOf
one-result-sequence-card-of κs a r r' e e' p q = p ∙ sym q

pub one-result-sequence-past : OneSequencePast
one-result-sequence-past κs a r r' e e' p q = p ∙ sym q

pub one-result-sequence-target-good : OneSequenceTargetGood
one-result-sequence-target-good κs a r r' e e' p q = p ∙ sym q

-- ── runner
pub one-result-runner-judge : OneRunnerJudge
one-result-runner-judge κs a r r' e e' p q = p.0 ∙ sym q.0

pub one-result-runner-tests-list : OneRunnerTestsList
one-result-runner-tests-list κs a r r' e e' p q = p ∙ sym q

pub one-result-runner-Runner-step : OneRunnerRunnerStep
one-result-runner-Runner-step κs a r r' e e' p q = p ∙ sym q

-- ── survey
pub one-result-survey-check : OneSurveyCheck
one-result-survey-check κs a r r' e e' p q = p ∙ sym q

pub one-result-survey-check-one : OneSurveyCheckOne
one-result-survey-check-one κs a r r' e e' p q = p ∙ sym q

pub one-result-survey-taken-alone : OneSurveyTakenAlone
one-result-survey-taken-alone κs a r r' e e' p q = p ∙ sym q

pub one-result-survey-has-list : OneSurveyHasList
one-result-survey-has-list κs a r r' e e' p q = p ∙ sym q

pub one-result-survey-empty : OneSurveyEmpty
one-result-survey-empty κs a r r' e e' p q = p ∙ sym q

pub one-result-survey-unlisted : OneSurveyUnlisted
one-result-survey-unlisted κs a r r' e e' p q = p ∙ sym q

pub one-result-survey-Chain-reported : OneSurveyChainReported
one-result-survey-Chain-reported κs a r r' e e' p q = p ∙ sym q

pub one-result-survey-total : OneSurveyTotal
one-result-survey-total κs a r r' e e' p q = p ∙ sym q

pub one-result-survey-Reason-shown : OneSurveyReasonShown
one-result-survey-Reason-shown κs a r r' e e' p q = p ∙ sym q

pub one-result-survey-still : OneSurveyStill
one-result-survey-still κs a r r' e e' p q = p ∙ sym q

-- ── summary
pub one-result-summary-lines-at : OneSummaryLinesAt
one-result-summary-lines-at κs a r r' e e' p q = p ∙ sym q

pub one-result-summary-make : OneSummaryMake
one-result-summary-make κs a r r' e e' p q = λ i. ((p.0 ∙ sym q.0) i, (p.1 ∙ sym q.1) i)

pub one-result-summary-update : OneSummaryUpdate
one-result-summary-update κs a r r' e e' p q = λ i. ((p.0 ∙ sym q.0) i, (p.1 ∙ sym q.1) i)

pub one-result-summary-check : OneSummaryCheck
one-result-summary-check κs a r r' e e' p q = p ∙ sym q

-- ── telecommand
pub one-result-telecommand-telecommand-of : OneTelecommandTelecommandOf
one-result-telecommand-telecommand-of κs a r r' e e' p q = p ∙ sym q

pub one-result-telecommand-Refusal-code : OneTelecommandRefusalCode
one-result-telecommand-Refusal-code κs a r r' e e' p q = p ∙ sym q

pub one-result-telecommand-Telecommand-shape-fault : OneTelecommandTelecommandShapeFault
one-result-telecommand-Telecommand-shape-fault κs a r r' e e' p q = same_result r r' (p ∙ sym q)

pub one-result-telecommand-pair-allowed : OneTelecommandPairAllowed
one-result-telecommand-pair-allowed κs a r r' e e' p q = p ∙ sym q

pub one-result-telecommand-dump-range : OneTelecommandDumpRange
one-result-telecommand-dump-range κs a r r' e e' p q = p ∙ sym q

pub one-result-telecommand-uplink-range : OneTelecommandUplinkRange
one-result-telecommand-uplink-range κs a r r' e e' p q = p ∙ sym q

pub one-result-telecommand-dumped : OneTelecommandDumped
one-result-telecommand-dumped κs a r r' e e' p q = p ∙ sym q

pub one-result-telecommand-uplink : OneTelecommandUplink
one-result-telecommand-uplink κs a r r' e e' p q = λ i. ((p.0 ∙ sym q.0) i, (p.1 ∙ sym q.1) i)

-- ── status
pub one-result-status-Ledger-arrived : OneStatusLedgerArrived
one-result-status-Ledger-arrived κs a r r' e e' p q = p ∙ sym q

pub one-result-status-Ledger-failed : OneStatusLedgerFailed
one-result-status-Ledger-failed κs a r r' e e' p q = p ∙ sym q

pub one-result-status-Ledger-cleared : OneStatusLedgerCleared
one-result-status-Ledger-cleared κs a r r' e e' p q = p ∙ sym q

pub one-result-status-watched : OneStatusWatched
one-result-status-watched κs a r r' e e' p q = p ∙ sym q

pub one-result-status-put-status : OneStatusPutStatus
one-result-status-put-status κs a r r' e e' p q = p ∙ sym q

-- ── unit
pub one-result-unit-Unit-power-on : OneUnitUnitPowerOn
one-result-unit-Unit-power-on κs a r r' e e' p q = p ∙ sym q

pub one-result-unit-Unit-out-of-range : OneUnitUnitOutOfRange
one-result-unit-Unit-out-of-range κs a r r' e e' p q = p ∙ sym q

pub one-result-unit-lent-wrong : OneUnitLentWrong
one-result-unit-lent-wrong κs a r r' e e' p q = p ∙ sym q

pub one-result-unit-Unit-packet : OneUnitUnitPacket
one-result-unit-Unit-packet κs a r r' e e' p q = λ i. ((p.0 ∙ sym q.0) i, (p.1.0 ∙ sym q.1.0) i, (p.1.1.0 ∙ sym q.1.1.0) i, (p.1.1.1 ∙ sym q.1.1.1) i)

pub one-result-unit-window-code : OneUnitWindowCode
one-result-unit-window-code κs a r r' e e' p q = p ∙ sym q

pub one-result-unit-window : OneUnitWindow
one-result-unit-window κs a r r' e e' p q = p ∙ sym q

pub one-result-unit-Unit-step : OneUnitUnitStep
one-result-unit-Unit-step κs a r r' e e' p q = p ∙ sym q

-- ── line
-- what is laid from a place on leaves one place behind it and one content
same_laid : {old new new' : List ℕ} {at next next' : ℕ} {text : List ℕ} → Laid old new at next text → Laid old new' at next' text → ◌≡◌ {A = ℕ × List ℕ} (next, new) (next', new')
same_laid p q = λ i. ((p.place ∙ sym q.place) i, (p.bytes ∙ sym q.bytes) i)

pub one-result-line-put : OneLinePut
one-result-line-put κs a r r' e e' p q = same_laid p q

pub one-result-line-put-word : OneLinePutWord
one-result-line-put-word κs a r r' e e' p q = same_laid p q

pub one-result-line-put-number : OneLinePutNumber
one-result-line-put-number κs a r r' e e' p q = same_laid p q

pub one-result-line-put-blank-number : OneLinePutBlankNumber
one-result-line-put-blank-number κs a r r' e e' p q = same_laid p q

pub one-result-line-put-numbers : OneLinePutNumbers
one-result-line-put-numbers κs a r r' e e' p q = same_laid p q

pub one-result-line-put-bits : OneLinePutBits
one-result-line-put-bits κs a r r' e e' p q = same_laid p q

pub one-result-line-put-marks : OneLinePutMarks
one-result-line-put-marks κs a r r' e e' p q = same_laid p q

pub one-result-line-put-octet : OneLinePutOctet
one-result-line-put-octet κs a r r' e e' p q = same_laid p q

pub one-result-line-put-octets : OneLinePutOctets
one-result-line-put-octets κs a r r' e e' p q = same_laid p q

pub one-result-line-put-answer : OneLinePutAnswer
one-result-line-put-answer κs a r r' e e' p q = same_laid p q

pub one-result-line-put-reason : OneLinePutReason
one-result-line-put-reason κs a r r' e e' p q = same_laid p q

pub one-result-line-put-block : OneLinePutBlock
one-result-line-put-block κs a r r' e e' p q = same_laid p q

pub one-result-line-put-event : OneLinePutEvent
one-result-line-put-event κs a r r' e e' p q = same_laid p q

pub one-result-line-put-bad : OneLinePutBad
one-result-line-put-bad κs a r r' e e' p q = same_laid p q

pub one-result-line-is-hex : OneLineIsHex
one-result-line-is-hex κs a r r' e e' p q = p ∙ sym q

pub one-result-line-number : OneLineNumber
one-result-line-number κs a r r' e e' p q = p ∙ sym q

pub one-result-line-begins : OneLineBegins
one-result-line-begins κs a r r' e e' p q = p ∙ sym q

pub one-result-line-is-word : OneLineIsWord
one-result-line-is-word κs a r r' e e' p q = p ∙ sym q

pub one-result-line-kind-named : OneLineKindNamed
one-result-line-kind-named κs a r r' e e' p q = p ∙ sym q

pub one-result-line-read-line : OneLineReadLine
one-result-line-read-line κs a r r' e e' p q = λ i. ((p.0 ∙ sym q.0) i, (p.1 ∙ sym q.1) i)

-- ── state
pub one-result-state-runner-of : OneStateRunnerOf
one-result-state-runner-of κs a r r' e e' p q = p ∙ sym q

pub one-result-state-unit-of : OneStateUnitOf
one-result-state-unit-of κs a r r' e e' p q = p ∙ sym q

pub one-result-state-save-answer : OneStateSaveAnswer
one-result-state-save-answer κs a r r' e e' p q = p ∙ sym q

pub one-result-state-save-step : OneStateSaveStep
one-result-state-save-step κs a r r' e e' p q = p ∙ sym q

pub one-result-state-flags-wrong : OneStateFlagsWrong
one-result-state-flags-wrong κs a r r' e e' p q = p ∙ sym q

-- ── keel
pub one-result-keel-keel-power-on : OneKeelKeelPowerOn
one-result-keel-keel-power-on κs a r r' e e' p q = λ i. ((p.0 ∙ sym q.0) i, (p.1 ∙ sym q.1) i)

pub one-result-keel-keel-packet : OneKeelKeelPacket
one-result-keel-keel-packet κs a r r' e e' p q =
    λ i. ((p.0 ∙ sym q.0) i, (p.1.0 ∙ sym q.1.0) i, (p.1.1.0 ∙ sym q.1.1.0) i, (p.1.1.1.0 ∙ sym q.1.1.1.0) i, (p.1.1.1.1 ∙ sym q.1.1.1.1) i)

pub one-result-keel-keel-step : OneKeelKeelStep
one-result-keel-keel-step κs a r r' e e' p q = λ i. ((p.0 ∙ sym q.0) i, (p.1 ∙ sym q.1) i)

pub one-result-keel-keel-check : OneKeelKeelCheck
one-result-keel-keel-check κs a r r' e e' p q = λ i. ((p.0 ∙ sym q.0) i, (p.1 ∙ sym q.1) i)

pub one-result-keel-keel-cards : OneKeelKeelCards
one-result-keel-keel-cards κs a r r' e e' p q = λ i. ((p.0 ∙ sym q.0) i, (p.1 ∙ sym q.1) i)

pub one-result-keel-keel-cards-update : OneKeelKeelCardsUpdate
one-result-keel-keel-cards-update κs a r r' e e' p q = λ i. ((p.0 ∙ sym q.0) i, (p.1 ∙ sym q.1) i)

pub one-result-keel-keel-cards-check : OneKeelKeelCardsCheck
one-result-keel-keel-cards-check κs a r r' e e' p q = λ i. ((p.0 ∙ sym q.0) i, (p.1 ∙ sym q.1) i)

-- ── console
pub one-result-console-Page-over : OneConsolePageOver
one-result-console-Page-over κs a r r' e e' p q = λ i. ((p.1.1 ∙ sym q.1.1) i, (p.1.0 ∙ sym q.1.0) i)

pub one-result-console-Page-show : OneConsolePageShow
one-result-console-Page-show T laws g d κs a r r' e e' p q = λ i. ((p.1.1 ∙ sym q.1.1) i, (p.1.0 ∙ sym q.1.0) i)

pub one-result-console-Page-make-room : OneConsolePageMakeRoom
one-result-console-Page-make-room T laws g d κs a r r' e e' p q = λ i. ((p.1.1 ∙ sym q.1.1) i, (p.1.0 ∙ sym q.1.0) i)

pub one-result-console-Page-put : OneConsolePagePut
one-result-console-Page-put κs a r r' e e' p q = same_laid p.1 q.1

pub one-result-console-Page-put-word : OneConsolePagePutWord
one-result-console-Page-put-word κs a r r' e e' p q = same_laid p.1 q.1

pub one-result-console-Page-put-number : OneConsolePagePutNumber
one-result-console-Page-put-number κs a r r' e e' p q = same_laid p.1 q.1

pub one-result-console-Page-put-numbers : OneConsolePagePutNumbers
one-result-console-Page-put-numbers κs a r r' e e' p q = same_laid p.1 q.1

pub one-result-console-Page-put-bits : OneConsolePagePutBits
one-result-console-Page-put-bits κs a r r' e e' p q = same_laid p.1 q.1

pub one-result-console-Page-put-octets : OneConsolePagePutOctets
one-result-console-Page-put-octets κs a r r' e e' p q = same_laid p.1 q.1

pub one-result-console-Page-put-reason : OneConsolePagePutReason
one-result-console-Page-put-reason κs a r r' e e' p q = same_laid p.1 q.1

pub one-result-console-Page-put-list : OneConsolePagePutList
one-result-console-Page-put-list κs a r r' e e' p q = same_laid p.1 q.1

pub one-result-console-Page-put-answer : OneConsolePagePutAnswer
one-result-console-Page-put-answer κs a r r' e e' p q = same_laid p.1 q.1

pub one-result-console-Page-put-block : OneConsolePagePutBlock
one-result-console-Page-put-block κs a r r' e e' p q = same_laid p.1 q.1

pub one-result-console-Page-put-event : OneConsolePagePutEvent
one-result-console-Page-put-event κs a r r' e e' p q = same_laid p.1 q.1

pub one-result-console-Page-put-bad : OneConsolePagePutBad
one-result-console-Page-put-bad κs a r r' e e' p q = same_laid p.1 q.1
