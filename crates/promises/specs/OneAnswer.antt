-- How much a contract says. For each public function the contract leaves one possible result and one possible content of every lent slice, for
-- all inputs and refusals: two results that it allows coincide.
-- The statements are over the contracts themselves: `Learnt` is what a caller learns of a function from its `ensures`, as Rattle reads it from
-- the source. proofs/OneAnswer proves each under the name of its function.
-- The exports of `keel_c` have the clauses of `keel`'s functions, word for word, so what stands here of these holds of them.
use Rattle.std.specs.Prelude.{⊤, ℕ, ◌≡◌, Bool, List, Option, Result}
use contract.Lifetimes.{Lfts}
use denote.Triple.Clauses.{AtExit}
use mir.Syntax.{Dict}
use denote.RattleType.{RattleType}
use denote.Param.Laws.{Laws}
use borrow.Fn.Kinds.{ParamKind, ResultKind, Out, Dens, res_t, ended_of}
use Rattle.octets.proofs as octets
use Rattle.memory.proofs as memory
use Rattle.memory.specs.declared.Format.{Format}
use Rattle.memory.specs.declared.Place.{Place}
use Rattle.memory.specs.declared.Address.{Address}
use Rattle.memory.specs.declared.Range.{Range}
use Rattle.sequence.specs.declared.Fault.{Fault}
use Rattle.sequence.proofs as sequence
use Rattle.sequence.specs.declared.Command.{Command}
use Rattle.sequence.specs.declared.RasterWords.{RasterWords}
use Rattle.sequence.specs.declared.Marks.{Marks}
use Rattle.sequence.specs.LineList.{ListCard}
use Rattle.sequence.specs.declared.ReasonNumbers.{ReasonNumbers}
use Rattle.runner.proofs as runner
use Rattle.runner.specs.declared.Act.{Act}
use Rattle.runner.specs.declared.Runner.{Runner}
use Rattle.runner.specs.declared.Stepped.{Stepped}
use Rattle.survey.proofs as survey
use Rattle.survey.specs.declared.Alone.{Alone}
use Rattle.survey.specs.declared.Chain.{Chain}
use Rattle.survey.specs.declared.Report.{Report}
use Rattle.survey.specs.declared.Standing.{Standing}
use Rattle.survey.specs.Report.{Walked}
use Rattle.summary.proofs as summary
use Rattle.telecommand.proofs as telecommand
use Rattle.status.proofs as status
use Rattle.status.specs.declared.Ledger.{Ledger}
use Rattle.status.specs.declared.Watch.{Watch}
use Rattle.unit.proofs as unit
use Rattle.line.proofs as line
use Rattle.line.specs.declared.Line.{Line}
use Rattle.state.proofs as state
use Rattle.console.proofs as console
use Rattle.std.specs.declared.io.Print.{Ghosts}
use Rattle.keel.proofs as keel
use Rattle.unit.specs.declared.Unit.{Unit as ControlUnit}
use Rattle.telecommand.specs.declared.Refusal.{Refusal}
use Rattle.telecommand.specs.declared.Telecommand.{Telecommand}
use Rattle.unit.specs.declared.Answer.{Answer}
use Rattle.unit.specs.declared.UnitStep.{UnitStep}

-- A function with parameters ps and a result r is called with any arguments a. Its contract allows the result r₁ with the parameters as e₁ at
-- exit, and r₂ with e₂. Then what is seen of the two is the same: of a number, a bool, a struct or an enum all of it, of a part handed back
-- its bytes (`now r`), and of each slice lent for writing its bytes at exit (`now` of its place in e). A slice lent for reading is the same at
-- exit by its type.
abbrev pub One : (A : Type 0) {n : ℕ} (ps : List (ParamKind n)) (r : ResultKind n) → Out n ps r → ((κs : Lfts n) → (res_t r κs).Denot → AtExit (ended_of n ps r) κs → A) → Type 0
One A {n} ps r allows seen =
    (κs : Lfts n) (a : Dens κs ps) (r₁ r₂ : (res_t r κs).Denot) (e₁ e₂ : AtExit (ended_of n ps r) κs)
    → allows κs a r₁ e₁ → allows κs a r₂ e₂ → seen κs r₁ e₁ ≡ seen κs r₂ e₂

-- ── octets
abbrev pub OneOctetsByte : Type 0
OneOctetsByte = One ℕ octets.byte.Kinds.ps octets.byte.Kinds.r octets.byte.Reads.Learnt (λ κs r e. r)

abbrev pub OneOctetsWord : Type 0
OneOctetsWord = One ℕ octets.word.Kinds.ps octets.word.Kinds.r octets.word.Reads.Learnt (λ κs r e. r)

abbrev pub OneOctetsTriple : Type 0
OneOctetsTriple = One ℕ octets.triple.Kinds.ps octets.triple.Kinds.r octets.triple.Reads.Learnt (λ κs r e. r)

abbrev pub OneOctetsEight : Type 0
OneOctetsEight = One (List ℕ) octets.eight.Kinds.ps octets.eight.Kinds.r octets.eight.Reads.Learnt (λ κs r e. r)

abbrev pub OneOctetsNumber : Type 0
OneOctetsNumber = One ℕ octets.number.Kinds.ps octets.number.Kinds.r octets.number.Reads.Learnt (λ κs r e. r)

abbrev pub OneOctetsPart : Type 0
OneOctetsPart = One (List ℕ) octets.part.Kinds.ps octets.part.Kinds.r octets.part.Reads.Learnt (λ κs r e. r.now)

abbrev pub OneOctetsCounted : Type 0
OneOctetsCounted = One ℕ octets.counted.Kinds.ps octets.counted.Kinds.r octets.counted.Reads.Learnt (λ κs r e. r)

abbrev pub OneOctetsXorOn : Type 0
OneOctetsXorOn = One ℕ octets.xor_on.Kinds.ps octets.xor_on.Kinds.r octets.xor_on.Reads.Learnt (λ κs r e. r)

abbrev pub OneOctetsRefuse : Type 0
OneOctetsRefuse = One ℕ octets.refuse.Kinds.ps octets.refuse.Kinds.r octets.refuse.Reads.Learnt (λ κs r e. r)

abbrev pub OneOctetsPair : Type 0
OneOctetsPair = One ℕ octets.pair.Kinds.ps octets.pair.Kinds.r octets.pair.Reads.Learnt (λ κs r e. r)

abbrev pub OneOctetsEither : Type 0
OneOctetsEither = One Bool octets.either.Kinds.ps octets.either.Kinds.r octets.either.Reads.Learnt (λ κs r e. r)

abbrev pub OneOctetsBoth : Type 0
OneOctetsBoth = One Bool octets.both.Kinds.ps octets.both.Kinds.r octets.both.Reads.Learnt (λ κs r e. r)

-- ── memory
abbrev pub OneMemoryFormatOf : Type 0
OneMemoryFormatOf = One Format memory.Format.of.Kinds.ps memory.Format.of.Kinds.r memory.Format.of.Reads.Learnt (λ κs r e. r)

abbrev pub OneMemoryPlaceOf : Type 0
OneMemoryPlaceOf = One (Option Place) memory.Place.of.Kinds.ps memory.Place.of.Kinds.r memory.Place.of.Reads.Learnt (λ κs r e. r)

abbrev pub OneMemoryPlaceNumber : Type 0
OneMemoryPlaceNumber = One ℕ memory.Place.number.Kinds.ps memory.Place.number.Kinds.r memory.Place.number.Reads.Learnt (λ κs r e. r)

abbrev pub OneMemoryAddressOf : Type 0
OneMemoryAddressOf = One (Option Address) memory.Address.of.Kinds.ps memory.Address.of.Kinds.r memory.Address.of.Reads.Learnt (λ κs r e. r)

abbrev pub OneMemoryAddressNumber : Type 0
OneMemoryAddressNumber = One ℕ memory.Address.number.Kinds.ps memory.Address.number.Kinds.r memory.Address.number.Reads.Learnt (λ κs r e. r)

abbrev pub OneMemoryAddressRange : Type 0
OneMemoryAddressRange = One Range memory.Address.range.Kinds.ps memory.Address.range.Kinds.r memory.Address.range.Reads.Learnt (λ κs r e. r)

abbrev pub OneMemoryRangeAt : Type 0
OneMemoryRangeAt = One Range memory.range_at.Kinds.ps memory.range_at.Kinds.r memory.range_at.Reads.Learnt (λ κs r e. r)

abbrev pub OneMemoryRangeFrom : Type 0
OneMemoryRangeFrom = One Range memory.range_from.Kinds.ps memory.range_from.Kinds.r memory.range_from.Reads.Learnt (λ κs r e. r)

abbrev pub OneMemoryRangeIsWrong : Type 0
OneMemoryRangeIsWrong = One Bool memory.Range.is_wrong.Kinds.ps memory.Range.is_wrong.Kinds.r memory.Range.is_wrong.Reads.Learnt (λ κs r e. r)

abbrev pub OneMemoryPartOf : Type 0
OneMemoryPartOf = One (List ℕ) memory.part_of.Kinds.ps memory.part_of.Kinds.r memory.part_of.Reads.Learnt (λ κs r e. r.now)

abbrev pub OneMemoryTablesWrong : Type 0
OneMemoryTablesWrong = One Bool memory.tables_wrong.Kinds.ps memory.tables_wrong.Kinds.r memory.tables_wrong.Reads.Learnt (λ κs r e. r)

abbrev pub OneMemoryWindowCode : Type 0
OneMemoryWindowCode = One ℕ memory.window_code.Kinds.ps memory.window_code.Kinds.r memory.window_code.Reads.Learnt (λ κs r e. r)

abbrev pub OneMemoryWindow : Type 0
OneMemoryWindow = One (List ℕ) memory.window.Kinds.ps memory.window.Kinds.r memory.window.Reads.Learnt (λ κs r e. r.now)

abbrev pub OneMemoryWrite : Type 0
OneMemoryWrite = One (List ℕ) memory.write.Kinds.ps memory.write.Kinds.r memory.write.Reads.Learnt (λ κs r e. e.0.now)

abbrev pub OneMemoryWriteRange : Type 0
OneMemoryWriteRange = One (List ℕ × List ℕ) memory.write_range.Kinds.ps memory.write_range.Kinds.r memory.write_range.Reads.Learnt (λ κs r (seqs, (lists, _)). (seqs.now, lists.now))

abbrev pub OneMemoryEntry : Type 0
OneMemoryEntry = One (List ℕ) memory.entry.Kinds.ps memory.entry.Kinds.r memory.entry.Reads.Learnt (λ κs r e. r.now)

abbrev pub OneMemoryList : Type 0
OneMemoryList = One (List ℕ) memory.list.Kinds.ps memory.list.Kinds.r memory.list.Reads.Learnt (λ κs r e. r.now)

-- ── sequence
abbrev pub OneSequenceSizeOf : Type 0
OneSequenceSizeOf = One ℕ sequence.size_of.Kinds.ps sequence.size_of.Kinds.r sequence.size_of.Reads.Learnt (λ κs r e. r)

abbrev pub OneSequenceLimit : Type 0
OneSequenceLimit = One ℕ sequence.limit.Kinds.ps sequence.limit.Kinds.r sequence.limit.Reads.Learnt (λ κs r e. r)

abbrev pub OneSequenceIdAt : Type 0
OneSequenceIdAt = One ℕ sequence.id_at.Kinds.ps sequence.id_at.Kinds.r sequence.id_at.Reads.Learnt (λ κs r e. r)

abbrev pub OneSequenceInitialAt : Type 0
OneSequenceInitialAt = One ℕ sequence.initial_at.Kinds.ps sequence.initial_at.Kinds.r sequence.initial_at.Reads.Learnt (λ κs r e. r)

abbrev pub OneSequenceLoopsAt : Type 0
OneSequenceLoopsAt = One ℕ sequence.loops_at.Kinds.ps sequence.loops_at.Kinds.r sequence.loops_at.Reads.Learnt (λ κs r e. r)

abbrev pub OneSequenceAsrcAt : Type 0
OneSequenceAsrcAt = One ℕ sequence.asrc_at.Kinds.ps sequence.asrc_at.Kinds.r sequence.asrc_at.Reads.Learnt (λ κs r e. r)

abbrev pub OneSequenceSkipAt : Type 0
OneSequenceSkipAt = One ℕ sequence.skip_at.Kinds.ps sequence.skip_at.Kinds.r sequence.skip_at.Reads.Learnt (λ κs r e. r)

abbrev pub OneSequenceRepeatsAt : Type 0
OneSequenceRepeatsAt = One ℕ sequence.repeats_at.Kinds.ps sequence.repeats_at.Kinds.r sequence.repeats_at.Reads.Learnt (λ κs r e. r)

abbrev pub OneSequenceListAt : Type 0
OneSequenceListAt = One ℕ sequence.list_at.Kinds.ps sequence.list_at.Kinds.r sequence.list_at.Reads.Learnt (λ κs r e. r)

abbrev pub OneSequenceRasterStands : Type 0
OneSequenceRasterStands = One Bool sequence.raster_stands.Kinds.ps sequence.raster_stands.Kinds.r sequence.raster_stands.Reads.Learnt (λ κs r e. r)

abbrev pub OneSequenceLengthGood : Type 0
OneSequenceLengthGood = One Bool sequence.length_good.Kinds.ps sequence.length_good.Kinds.r sequence.length_good.Reads.Learnt (λ κs r e. r)

abbrev pub OneSequenceXorGood : Type 0
OneSequenceXorGood = One Bool sequence.xor_good.Kinds.ps sequence.xor_good.Kinds.r sequence.xor_good.Reads.Learnt (λ κs r e. r)

abbrev pub OneSequenceHeaderOf : Type 0
OneSequenceHeaderOf = One (Result ℕ Fault) sequence.header_of.Kinds.ps sequence.header_of.Kinds.r sequence.header_of.Reads.Learnt (λ κs r e. r)

abbrev pub OneSequenceCommandAt : Type 0
OneSequenceCommandAt = One Command sequence.command_at.Kinds.ps sequence.command_at.Kinds.r sequence.command_at.Reads.Learnt (λ κs r e. r)

abbrev pub OneSequenceRasterAt : Type 0
OneSequenceRasterAt = One RasterWords sequence.raster_at.Kinds.ps sequence.raster_at.Kinds.r sequence.raster_at.Reads.Learnt (λ κs r e. r)

abbrev pub OneSequenceExposuresAt : Type 0
OneSequenceExposuresAt = One ℕ sequence.exposures_at.Kinds.ps sequence.exposures_at.Kinds.r sequence.exposures_at.Reads.Learnt (λ κs r e. r)

abbrev pub OneSequenceStepAt : Type 0
OneSequenceStepAt = One ℕ sequence.step_at.Kinds.ps sequence.step_at.Kinds.r sequence.step_at.Reads.Learnt (λ κs r e. r)

abbrev pub OneSequenceFlagsGood : Type 0
OneSequenceFlagsGood = One Bool sequence.flags_good.Kinds.ps sequence.flags_good.Kinds.r sequence.flags_good.Reads.Learnt (λ κs r e. r)

abbrev pub OneSequenceListCard : Type 0
OneSequenceListCard = One ListCard sequence.list_card.Kinds.ps sequence.list_card.Kinds.r sequence.list_card.Reads.Learnt (λ κs r e. r)

abbrev pub OneSequenceNeedsMark : Type 0
OneSequenceNeedsMark = One Bool sequence.needs_mark.Kinds.ps sequence.needs_mark.Kinds.r sequence.needs_mark.Reads.Learnt (λ κs r e. r)

abbrev pub OneSequenceMarksLack : Type 0
OneSequenceMarksLack = One Bool sequence.Marks.lack.Kinds.ps sequence.Marks.lack.Kinds.r sequence.Marks.lack.Reads.Learnt (λ κs r e. r)

abbrev pub OneSequenceBadListShown : Type 0
OneSequenceBadListShown = One ReasonNumbers sequence.BadList.shown.Kinds.ps sequence.BadList.shown.Kinds.r sequence.BadList.shown.Reads.Learnt (λ κs r e. r)

abbrev pub OneSequenceCardShown : Type 0
OneSequenceCardShown = One ReasonNumbers sequence.card_shown.Kinds.ps sequence.card_shown.Kinds.r sequence.card_shown.Reads.Learnt (λ κs r e. r)

abbrev pub OneSequenceMarksIn : Type 0
OneSequenceMarksIn = One Marks sequence.marks_in.Kinds.ps sequence.marks_in.Kinds.r sequence.marks_in.Reads.Learnt (λ κs r e. r)

abbrev pub OneSequenceCardBytes : Type 0
OneSequenceCardBytes = One (List ℕ) sequence.card_bytes.Kinds.ps sequence.card_bytes.Kinds.r sequence.card_bytes.Reads.Learnt (λ κs r e. r)

abbrev pub OneSequenceKeptCard : Type 0
OneSequenceKeptCard = One ListCard sequence.kept_card.Kinds.ps sequence.kept_card.Kinds.r sequence.kept_card.Reads.Learnt (λ κs r e. r)

abbrev pub OneSequenceCardOf : Type 0
OneSequenceCardOf = One ListCard sequence.card_of.Kinds.ps sequence.card_of.Kinds.r sequence.card_of.Reads.Learnt (λ κs r e. r)

abbrev pub OneSequencePast : Type 0
OneSequencePast = One ℕ sequence.past.Kinds.ps sequence.past.Kinds.r sequence.past.Reads.Learnt (λ κs r e. r)

abbrev pub OneSequenceTargetGood : Type 0
OneSequenceTargetGood = One Bool sequence.target_good.Kinds.ps sequence.target_good.Kinds.r sequence.target_good.Reads.Learnt (λ κs r e. r)

-- ── runner
abbrev pub OneRunnerJudge : Type 0
OneRunnerJudge = One Act runner.judge.Kinds.ps runner.judge.Kinds.r runner.judge.Reads.Learnt (λ κs r e. r)

abbrev pub OneRunnerTestsList : Type 0
OneRunnerTestsList = One Bool runner.tests_list.Kinds.ps runner.tests_list.Kinds.r runner.tests_list.Reads.Learnt (λ κs r e. r)

abbrev pub OneRunnerRunnerStep : Type 0
OneRunnerRunnerStep = One Stepped runner.Runner.step.Kinds.ps runner.Runner.step.Kinds.r runner.Runner.step.Reads.Learnt (λ κs r e. r)

-- ── survey
abbrev pub OneSurveyCheck : Type 0
OneSurveyCheck = One Report survey.check.Kinds.ps survey.check.Kinds.r survey.check.Reads.Learnt (λ κs r e. r)

abbrev pub OneSurveyCheckOne : Type 0
OneSurveyCheckOne = One Walked survey.check_one.Kinds.ps survey.check_one.Kinds.r survey.check_one.Reads.Learnt (λ κs r e. r)

abbrev pub OneSurveyTakenAlone : Type 0
OneSurveyTakenAlone = One Alone survey.taken_alone.Kinds.ps survey.taken_alone.Kinds.r survey.taken_alone.Reads.Learnt (λ κs r e. r)

abbrev pub OneSurveyHasList : Type 0
OneSurveyHasList = One Bool survey.has_list.Kinds.ps survey.has_list.Kinds.r survey.has_list.Reads.Learnt (λ κs r e. r)

abbrev pub OneSurveyEmpty : Type 0
OneSurveyEmpty = One Chain survey.empty.Kinds.ps survey.empty.Kinds.r survey.empty.Reads.Learnt (λ κs r e. r)

abbrev pub OneSurveyUnlisted : Type 0
OneSurveyUnlisted = One Report survey.unlisted.Kinds.ps survey.unlisted.Kinds.r survey.unlisted.Reads.Learnt (λ κs r e. r)

abbrev pub OneSurveyChainReported : Type 0
OneSurveyChainReported = One Report survey.Chain.reported.Kinds.ps survey.Chain.reported.Kinds.r survey.Chain.reported.Reads.Learnt (λ κs r e. r)

abbrev pub OneSurveyTotal : Type 0
OneSurveyTotal = One ℕ survey.total.Kinds.ps survey.total.Kinds.r survey.total.Reads.Learnt (λ κs r e. r)

abbrev pub OneSurveyReasonShown : Type 0
OneSurveyReasonShown = One ReasonNumbers survey.Reason.shown.Kinds.ps survey.Reason.shown.Kinds.r survey.Reason.shown.Reads.Learnt (λ κs r e. r)

abbrev pub OneSurveyStill : Type 0
OneSurveyStill = One Standing survey.still.Kinds.ps survey.still.Kinds.r survey.still.Reads.Learnt (λ κs r e. r)

-- ── summary
abbrev pub OneSummaryLinesAt : Type 0
OneSummaryLinesAt = One ℕ summary.lines_at.Kinds.ps summary.lines_at.Kinds.r summary.lines_at.Reads.Learnt (λ κs r e. r)

abbrev pub OneSummaryMake : Type 0
OneSummaryMake = One (ℕ × List ℕ) summary.make.Kinds.ps summary.make.Kinds.r summary.make.Reads.Learnt (λ κs r (_, (_, (_, (kept, _)))). (r, kept.now))

abbrev pub OneSummaryUpdate : Type 0
OneSummaryUpdate = One (ℕ × List ℕ) summary.update.Kinds.ps summary.update.Kinds.r summary.update.Reads.Learnt (λ κs r (_, (_, (_, (kept, _)))). (r, kept.now))

abbrev pub OneSummaryCheck : Type 0
OneSummaryCheck = One Report summary.check.Kinds.ps summary.check.Kinds.r summary.check.Reads.Learnt (λ κs r e. r)

-- ── telecommand
abbrev pub OneTelecommandTelecommandOf : Type 0
OneTelecommandTelecommandOf = One Telecommand telecommand.telecommand_of.Kinds.ps telecommand.telecommand_of.Kinds.r telecommand.telecommand_of.Reads.Learnt (λ κs r e. r)

abbrev pub OneTelecommandRefusalCode : Type 0
OneTelecommandRefusalCode = One ℕ telecommand.Refusal.code.Kinds.ps telecommand.Refusal.code.Kinds.r telecommand.Refusal.code.Reads.Learnt (λ κs r e. r)

abbrev pub OneTelecommandTelecommandShapeFault : Type 0
OneTelecommandTelecommandShapeFault = One (Result ⊤ Refusal) telecommand.Telecommand.shape_fault.Kinds.ps telecommand.Telecommand.shape_fault.Kinds.r telecommand.Telecommand.shape_fault.Reads.Learnt (λ κs r e. r)

abbrev pub OneTelecommandPairAllowed : Type 0
OneTelecommandPairAllowed = One Bool telecommand.pair_allowed.Kinds.ps telecommand.pair_allowed.Kinds.r telecommand.pair_allowed.Reads.Learnt (λ κs r e. r)

abbrev pub OneTelecommandDumpRange : Type 0
OneTelecommandDumpRange = One Range telecommand.dump_range.Kinds.ps telecommand.dump_range.Kinds.r telecommand.dump_range.Reads.Learnt (λ κs r e. r)

abbrev pub OneTelecommandUplinkRange : Type 0
OneTelecommandUplinkRange = One Range telecommand.uplink_range.Kinds.ps telecommand.uplink_range.Kinds.r telecommand.uplink_range.Reads.Learnt (λ κs r e. r)

abbrev pub OneTelecommandDumped : Type 0
OneTelecommandDumped = One (List ℕ) telecommand.dumped.Kinds.ps telecommand.dumped.Kinds.r telecommand.dumped.Reads.Learnt (λ κs r e. r.now)

abbrev pub OneTelecommandUplink : Type 0
OneTelecommandUplink = One (List ℕ × List ℕ) telecommand.uplink.Kinds.ps telecommand.uplink.Kinds.r telecommand.uplink.Reads.Learnt (λ κs r (_, (seqs, (lists, _))). (seqs.now, lists.now))

-- ── status
abbrev pub OneStatusLedgerArrived : Type 0
OneStatusLedgerArrived = One Ledger status.Ledger.arrived.Kinds.ps status.Ledger.arrived.Kinds.r status.Ledger.arrived.Reads.Learnt (λ κs r e. r)

abbrev pub OneStatusLedgerFailed : Type 0
OneStatusLedgerFailed = One Ledger status.Ledger.failed.Kinds.ps status.Ledger.failed.Kinds.r status.Ledger.failed.Reads.Learnt (λ κs r e. r)

abbrev pub OneStatusLedgerCleared : Type 0
OneStatusLedgerCleared = One Ledger status.Ledger.cleared.Kinds.ps status.Ledger.cleared.Kinds.r status.Ledger.cleared.Reads.Learnt (λ κs r e. r)

abbrev pub OneStatusWatched : Type 0
OneStatusWatched = One Watch status.watched.Kinds.ps status.watched.Kinds.r status.watched.Reads.Learnt (λ κs r e. r)

abbrev pub OneStatusPutStatus : Type 0
OneStatusPutStatus = One (List ℕ) status.put_status.Kinds.ps status.put_status.Kinds.r status.put_status.Reads.Learnt (λ κs r (_, (_, (_, (_, (_, (out, _)))))). out.now)

-- ── unit
abbrev pub OneUnitUnitPowerOn : Type 0
OneUnitUnitPowerOn = One ControlUnit unit.Unit.power_on.Kinds.ps unit.Unit.power_on.Kinds.r unit.Unit.power_on.Reads.Learnt (λ κs r e. r)

abbrev pub OneUnitUnitOutOfRange : Type 0
OneUnitUnitOutOfRange = One Bool unit.Unit.out_of_range.Kinds.ps unit.Unit.out_of_range.Kinds.r unit.Unit.out_of_range.Reads.Learnt (λ κs r e. r)

abbrev pub OneUnitLentWrong : Type 0
OneUnitLentWrong = One Bool unit.lent_wrong.Kinds.ps unit.lent_wrong.Kinds.r unit.lent_wrong.Reads.Learnt (λ κs r e. r)

abbrev pub OneUnitUnitPacket : Type 0
OneUnitUnitPacket = One (Answer × List ℕ × List ℕ × List ℕ) unit.Unit.packet.Kinds.ps unit.Unit.packet.Kinds.r unit.Unit.packet.Reads.Learnt (λ κs r (_, (_, (seqs, (lists, (out, _))))). (r, seqs.now, lists.now, out.now))

abbrev pub OneUnitWindowCode : Type 0
OneUnitWindowCode = One ℕ unit.window_code.Kinds.ps unit.window_code.Kinds.r unit.window_code.Reads.Learnt (λ κs r e. r)

abbrev pub OneUnitWindow : Type 0
OneUnitWindow = One (List ℕ) unit.window.Kinds.ps unit.window.Kinds.r unit.window.Reads.Learnt (λ κs r e. r.now)

abbrev pub OneUnitUnitStep : Type 0
OneUnitUnitStep = One UnitStep unit.Unit.step.Kinds.ps unit.Unit.step.Kinds.r unit.Unit.step.Reads.Learnt (λ κs r e. r)

-- ── line
abbrev pub OneLinePut : Type 0
OneLinePut = One (ℕ × List ℕ) line.put.Kinds.ps line.put.Kinds.r line.put.Reads.Learnt (λ κs r e. (r, e.0.now))

abbrev pub OneLinePutWord : Type 0
OneLinePutWord = One (ℕ × List ℕ) line.put_word.Kinds.ps line.put_word.Kinds.r line.put_word.Reads.Learnt (λ κs r e. (r, e.0.now))

abbrev pub OneLinePutNumber : Type 0
OneLinePutNumber = One (ℕ × List ℕ) line.put_number.Kinds.ps line.put_number.Kinds.r line.put_number.Reads.Learnt (λ κs r e. (r, e.0.now))

abbrev pub OneLinePutBlankNumber : Type 0
OneLinePutBlankNumber = One (ℕ × List ℕ) line.put_blank_number.Kinds.ps line.put_blank_number.Kinds.r line.put_blank_number.Reads.Learnt (λ κs r e. (r, e.0.now))

abbrev pub OneLinePutNumbers : Type 0
OneLinePutNumbers = One (ℕ × List ℕ) line.put_numbers.Kinds.ps line.put_numbers.Kinds.r line.put_numbers.Reads.Learnt (λ κs r e. (r, e.0.now))

abbrev pub OneLinePutBits : Type 0
OneLinePutBits = One (ℕ × List ℕ) line.put_bits.Kinds.ps line.put_bits.Kinds.r line.put_bits.Reads.Learnt (λ κs r e. (r, e.0.now))

abbrev pub OneLinePutMarks : Type 0
OneLinePutMarks = One (ℕ × List ℕ) line.put_marks.Kinds.ps line.put_marks.Kinds.r line.put_marks.Reads.Learnt (λ κs r e. (r, e.0.now))

abbrev pub OneLinePutOctet : Type 0
OneLinePutOctet = One (ℕ × List ℕ) line.put_octet.Kinds.ps line.put_octet.Kinds.r line.put_octet.Reads.Learnt (λ κs r e. (r, e.0.now))

abbrev pub OneLinePutOctets : Type 0
OneLinePutOctets = One (ℕ × List ℕ) line.put_octets.Kinds.ps line.put_octets.Kinds.r line.put_octets.Reads.Learnt (λ κs r e. (r, e.0.now))

abbrev pub OneLinePutAnswer : Type 0
OneLinePutAnswer = One (ℕ × List ℕ) line.put_answer.Kinds.ps line.put_answer.Kinds.r line.put_answer.Reads.Learnt (λ κs r e. (r, e.0.now))

abbrev pub OneLinePutReason : Type 0
OneLinePutReason = One (ℕ × List ℕ) line.put_reason.Kinds.ps line.put_reason.Kinds.r line.put_reason.Reads.Learnt (λ κs r e. (r, e.0.now))

abbrev pub OneLinePutBlock : Type 0
OneLinePutBlock = One (ℕ × List ℕ) line.put_block.Kinds.ps line.put_block.Kinds.r line.put_block.Reads.Learnt (λ κs r e. (r, e.0.now))

abbrev pub OneLinePutEvent : Type 0
OneLinePutEvent = One (ℕ × List ℕ) line.put_event.Kinds.ps line.put_event.Kinds.r line.put_event.Reads.Learnt (λ κs r e. (r, e.0.now))

abbrev pub OneLinePutBad : Type 0
OneLinePutBad = One (ℕ × List ℕ) line.put_bad.Kinds.ps line.put_bad.Kinds.r line.put_bad.Reads.Learnt (λ κs r e. (r, e.0.now))

abbrev pub OneLineIsHex : Type 0
OneLineIsHex = One Bool line.is_hex.Kinds.ps line.is_hex.Kinds.r line.is_hex.Reads.Learnt (λ κs r e. r)

abbrev pub OneLineNumber : Type 0
OneLineNumber = One (Option ℕ) line.number.Kinds.ps line.number.Kinds.r line.number.Reads.Learnt (λ κs r e. r)

abbrev pub OneLineBegins : Type 0
OneLineBegins = One Bool line.begins.Kinds.ps line.begins.Kinds.r line.begins.Reads.Learnt (λ κs r e. r)

abbrev pub OneLineIsWord : Type 0
OneLineIsWord = One Bool line.is_word.Kinds.ps line.is_word.Kinds.r line.is_word.Reads.Learnt (λ κs r e. r)

abbrev pub OneLineKindNamed : Type 0
OneLineKindNamed = One ℕ line.kind_named.Kinds.ps line.kind_named.Kinds.r line.kind_named.Reads.Learnt (λ κs r e. r)

abbrev pub OneLineReadLine : Type 0
OneLineReadLine = One (Line × List ℕ) line.read_line.Kinds.ps line.read_line.Kinds.r line.read_line.Reads.Learnt (λ κs r (_, (bytes, _)). (r, bytes.now))

-- ── state
abbrev pub OneStateRunnerOf : Type 0
OneStateRunnerOf = One Runner state.runner_of.Kinds.ps state.runner_of.Kinds.r state.runner_of.Reads.Learnt (λ κs r e. r)

abbrev pub OneStateUnitOf : Type 0
OneStateUnitOf = One ControlUnit state.unit_of.Kinds.ps state.unit_of.Kinds.r state.unit_of.Reads.Learnt (λ κs r e. r)

abbrev pub OneStateSaveAnswer : Type 0
OneStateSaveAnswer = One (List ℕ) state.save_answer.Kinds.ps state.save_answer.Kinds.r state.save_answer.Reads.Learnt (λ κs r (_, (_, (bytes, _))). bytes.now)

abbrev pub OneStateSaveStep : Type 0
OneStateSaveStep = One (List ℕ) state.save_step.Kinds.ps state.save_step.Kinds.r state.save_step.Reads.Learnt (λ κs r (_, (_, (bytes, _))). bytes.now)

abbrev pub OneStateFlagsWrong : Type 0
OneStateFlagsWrong = One Bool state.flags_wrong.Kinds.ps state.flags_wrong.Kinds.r state.flags_wrong.Reads.Learnt (λ κs r e. r)

-- ── keel
abbrev pub OneKeelKeelPowerOn : Type 0
OneKeelKeelPowerOn = One (ℕ × List ℕ) keel.keel_power_on.Kinds.ps keel.keel_power_on.Kinds.r keel.keel_power_on.Reads.Learnt (λ κs r e. (r, e.0.now))

abbrev pub OneKeelKeelPacket : Type 0
OneKeelKeelPacket = One (ℕ × List ℕ × List ℕ × List ℕ × List ℕ) keel.keel_packet.Kinds.ps keel.keel_packet.Kinds.r keel.keel_packet.Reads.Learnt (λ κs r (_, (state, (seqs, (lists, (out, _))))). (r, state.now, seqs.now, lists.now, out.now))

abbrev pub OneKeelKeelStep : Type 0
OneKeelKeelStep = One (ℕ × List ℕ) keel.keel_step.Kinds.ps keel.keel_step.Kinds.r keel.keel_step.Reads.Learnt (λ κs r (_, (state, _)). (r, state.now))

abbrev pub OneKeelKeelCheck : Type 0
OneKeelKeelCheck = One (ℕ × List ℕ) keel.keel_check.Kinds.ps keel.keel_check.Kinds.r keel.keel_check.Reads.Learnt (λ κs r (_, (_, (_, (_, (report, _))))). (r, report.now))

abbrev pub OneKeelKeelCards : Type 0
OneKeelKeelCards = One (ℕ × List ℕ) keel.keel_cards.Kinds.ps keel.keel_cards.Kinds.r keel.keel_cards.Reads.Learnt (λ κs r (_, (_, (_, (kept, _)))). (r, kept.now))

abbrev pub OneKeelKeelCardsUpdate : Type 0
OneKeelKeelCardsUpdate = One (ℕ × List ℕ) keel.keel_cards_update.Kinds.ps keel.keel_cards_update.Kinds.r keel.keel_cards_update.Reads.Learnt (λ κs r (_, (_, (_, (kept, _)))). (r, kept.now))

abbrev pub OneKeelKeelCardsCheck : Type 0
OneKeelKeelCardsCheck = One (ℕ × List ℕ) keel.keel_cards_check.Kinds.ps keel.keel_cards_check.Kinds.r keel.keel_cards_check.Reads.Learnt (λ κs r (_, (_, (_, (report, _)))). (r, report.now))

-- ── console: a page, by the place of the next text and its bytes. Nothing is said of what it shows, by any printer, nor of arguments and input
abbrev pub OneConsolePageOver : Type 0
OneConsolePageOver = One (ℕ × List ℕ) console.Page.over.Kinds.ps console.Page.over.Kinds.r console.Page.over.Reads.Learnt (λ κs r e. (r.at, r.text.now))

abbrev pub OneConsolePageShow : Type 2
OneConsolePageShow = (T : RattleType) (laws : Laws T) (g : Ghosts T.Denot) (d : Dict) → One (ℕ × List ℕ) (console.Page.show.Kinds.ps T laws) (console.Page.show.Kinds.r T laws) (console.Page.show.Reads.Learnt T laws g d) (λ κs r e. (e.0.now.at, e.0.now.text.now))

abbrev pub OneConsolePageMakeRoom : Type 2
OneConsolePageMakeRoom = (T : RattleType) (laws : Laws T) (g : Ghosts T.Denot) (d : Dict) → One (ℕ × List ℕ) (console.Page.make_room.Kinds.ps T laws) (console.Page.make_room.Kinds.r T laws) (console.Page.make_room.Reads.Learnt T laws g d) (λ κs r e. (e.0.now.at, e.0.now.text.now))

abbrev pub OneConsolePagePut : Type 0
OneConsolePagePut = One (ℕ × List ℕ) console.Page.put.Kinds.ps console.Page.put.Kinds.r console.Page.put.Reads.Learnt (λ κs r e. (e.0.now.at, e.0.now.text.now))

abbrev pub OneConsolePagePutWord : Type 0
OneConsolePagePutWord = One (ℕ × List ℕ) console.Page.put_word.Kinds.ps console.Page.put_word.Kinds.r console.Page.put_word.Reads.Learnt (λ κs r e. (e.0.now.at, e.0.now.text.now))

abbrev pub OneConsolePagePutNumber : Type 0
OneConsolePagePutNumber = One (ℕ × List ℕ) console.Page.put_number.Kinds.ps console.Page.put_number.Kinds.r console.Page.put_number.Reads.Learnt (λ κs r e. (e.0.now.at, e.0.now.text.now))

abbrev pub OneConsolePagePutNumbers : Type 0
OneConsolePagePutNumbers = One (ℕ × List ℕ) console.Page.put_numbers.Kinds.ps console.Page.put_numbers.Kinds.r console.Page.put_numbers.Reads.Learnt (λ κs r e. (e.0.now.at, e.0.now.text.now))

abbrev pub OneConsolePagePutBits : Type 0
OneConsolePagePutBits = One (ℕ × List ℕ) console.Page.put_bits.Kinds.ps console.Page.put_bits.Kinds.r console.Page.put_bits.Reads.Learnt (λ κs r e. (e.0.now.at, e.0.now.text.now))

abbrev pub OneConsolePagePutOctets : Type 0
OneConsolePagePutOctets = One (ℕ × List ℕ) console.Page.put_octets.Kinds.ps console.Page.put_octets.Kinds.r console.Page.put_octets.Reads.Learnt (λ κs r e. (e.0.now.at, e.0.now.text.now))

abbrev pub OneConsolePagePutReason : Type 0
OneConsolePagePutReason = One (ℕ × List ℕ) console.Page.put_reason.Kinds.ps console.Page.put_reason.Kinds.r console.Page.put_reason.Reads.Learnt (λ κs r e. (e.0.now.at, e.0.now.text.now))

abbrev pub OneConsolePagePutList : Type 0
OneConsolePagePutList = One (ℕ × List ℕ) console.Page.put_list.Kinds.ps console.Page.put_list.Kinds.r console.Page.put_list.Reads.Learnt (λ κs r e. (e.0.now.at, e.0.now.text.now))

abbrev pub OneConsolePagePutAnswer : Type 0
OneConsolePagePutAnswer = One (ℕ × List ℕ) console.Page.put_answer.Kinds.ps console.Page.put_answer.Kinds.r console.Page.put_answer.Reads.Learnt (λ κs r e. (e.0.now.at, e.0.now.text.now))

abbrev pub OneConsolePagePutBlock : Type 0
OneConsolePagePutBlock = One (ℕ × List ℕ) console.Page.put_block.Kinds.ps console.Page.put_block.Kinds.r console.Page.put_block.Reads.Learnt (λ κs r e. (e.0.now.at, e.0.now.text.now))

abbrev pub OneConsolePagePutEvent : Type 0
OneConsolePagePutEvent = One (ℕ × List ℕ) console.Page.put_event.Kinds.ps console.Page.put_event.Kinds.r console.Page.put_event.Reads.Learnt (λ κs r e. (e.0.now.at, e.0.now.text.now))

abbrev pub OneConsolePagePutBad : Type 0
OneConsolePagePutBad = One (ℕ × List ℕ) console.Page.put_bad.Kinds.ps console.Page.put_bad.Kinds.r console.Page.put_bad.Reads.Learnt (λ κs r e. (e.0.now.at, e.0.now.text.now))
