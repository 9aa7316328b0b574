-- The demands, for the code. What the demands say of `ours` they say of every call: for each public function that a demand speaks of, whatever a
-- caller learns of a call from the contract (`Learnt`, as in OneAnswer) is that the function answers what `ours` names, and leaves in each slice
-- lent for writing what `ours` names. The arguments have the names of the function's parameters, in their order; `seqs'` is the slice `seqs` at exit.
use Rattle.std.specs.Prelude.{ℕ, ◌≡◌, List}
use contract.Lifetimes.{Lfts}
use denote.Triple.Clauses.{AtExit}
use borrow.Fn.Kinds.{ParamKind, ResultKind, Out, Dens, res_t, ended_of}
use Rattle.memory.specs.Memory.{format_of}
use Rattle.sequence.specs.Env.{env_of}
use Rattle.runner.proofs as runner
use Rattle.survey.proofs as survey
use Rattle.survey.specs.Report.{report_of}
use Rattle.summary.proofs as summary
use Rattle.telecommand.proofs as telecommand
use Rattle.unit.proofs as unit
use Rattle.unit.specs.State.{out_of_range}
use Rattle.telecommand.specs.Packet.{telecommand_of}
use Rattle.promises.specs.Library.{ours}
use Rattle.promises.specs.Sent.{Sent, answer_to, seqs_left, lists_left, out_left}

-- A function with parameters ps and a result of kind k is called with any arguments. What its contract allows of the result and of the parameters at
-- exit has the property.
abbrev pub Called : {n : ℕ} (ps : List (ParamKind n)) (k : ResultKind n) → Out n ps k
    → ((κs : Lfts n) → Dens κs ps → (res_t k κs).Denot → AtExit (ended_of n ps k) κs → Type 0) → Type 0
Called {n} ps k allows Has = (κs : Lfts n) (args : Dens κs ps) (result : (res_t k κs).Denot) (exit : AtExit (ended_of n ps k) κs) → allows κs args result exit → Has κs args result exit

-- `Unit::power_on`
abbrev pub PowerOnIs : Type 0
PowerOnIs = Called unit.Unit.power_on.Kinds.ps unit.Unit.power_on.Kinds.r unit.Unit.power_on.Reads.Learnt
    (λ κs args result exit. result ≡ ours.powers_on)

-- `Unit::packet`: its answer, and what it leaves in both tables and in the output.
abbrev pub PacketIs : Type 0
PacketIs = Called unit.Unit.packet.Kinds.ps unit.Unit.packet.Kinds.r unit.Unit.packet.Reads.Learnt
    (λ κs (self, (kind, (seqs, (lists, (out, (time, (pkt, _))))))) result (_, (_, (seqs', (lists', (out', _))))).
    let s : Sent (format_of kind) = record { unit = self; time = time; seqs = seqs.now; lists = lists.now; out = out.now; bytes = pkt.now } in
    (result ≡ answer_to ours s) × (seqs'.now ≡ seqs_left ours s) × (lists'.now ≡ lists_left ours s) × (out'.now ≡ out_left ours s))

-- `Unit::step`, and `Runner::step` in it
abbrev pub StepIs : Type 0
StepIs = Called unit.Unit.step.Kinds.ps unit.Unit.step.Kinds.r unit.Unit.step.Reads.Learnt
    (λ κs (self, (kind, (seqs, (lists, _)))) result exit. result ≡ ours.steps (format_of kind) self seqs.now lists.now)

abbrev pub RunIs : Type 0
RunIs = Called runner.Runner.step.Kinds.ps runner.Runner.step.Kinds.r runner.Runner.step.Reads.Learnt
    (λ κs (self, (format, (seqs, (lists, _)))) result exit. result ≡ ours.runs (env_of format lists.now) seqs.now self)

-- `check`: the report of what the check tells.
abbrev pub CheckIs : Type 0
CheckIs = Called survey.check.Kinds.ps survey.check.Kinds.r survey.check.Reads.Learnt
    (λ κs (kind, (seqs, (lists, (number, _)))) result exit. result ≡ report_of (ours.checks (format_of kind) seqs.now lists.now number))

-- `still`
abbrev pub StillIs : Type 0
StillIs = Called survey.still.Kinds.ps survey.still.Kinds.r survey.still.Reads.Learnt
    (λ κs (kind, (seqs, (lists, (seqs2, (lists2, (number, _)))))) result exit. result ≡ ours.still (format_of kind) seqs.now lists.now seqs2.now lists2.now number)

-- `make` and `update`, with what they leave in the summary, and `check` from cards
abbrev pub MakeIs : Type 0
MakeIs = Called summary.make.Kinds.ps summary.make.Kinds.r summary.make.Reads.Learnt
    (λ κs (kind, (seqs, (lists, (kept, _)))) result (_, (_, (_, (kept', _)))).
    (result ≡ ours.makes_code (format_of kind) seqs.now lists.now kept.now) × (kept'.now ≡ ours.makes (format_of kind) seqs.now lists.now kept.now))

abbrev pub UpdateIs : Type 0
UpdateIs = Called summary.update.Kinds.ps summary.update.Kinds.r summary.update.Reads.Learnt
    (λ κs (kind, (seqs, (lists, (kept, (address, (count, _)))))) result (_, (_, (_, (kept', _)))).
    (result ≡ ours.updates_code (format_of kind) seqs.now lists.now kept.now address count)
    × (kept'.now ≡ ours.updates (format_of kind) seqs.now lists.now kept.now address count))

abbrev pub CardsCheckIs : Type 0
CardsCheckIs = Called summary.check.Kinds.ps summary.check.Kinds.r summary.check.Reads.Learnt
    (λ κs (kind, (kept, (number, _))) result exit. result ≡ report_of (ours.checks_cards (format_of kind) kept.now number))

-- `window_code` and `window`
abbrev pub WindowCodeIs : Type 0
WindowCodeIs = Called unit.window_code.Kinds.ps unit.window_code.Kinds.r unit.window_code.Reads.Learnt
    (λ κs (kind, (seqs, (lists, (address, (len, _))))) result exit. result ≡ ours.window_code (format_of kind) seqs.now lists.now address len)

abbrev pub WindowIs : Type 0
WindowIs = Called unit.window.Kinds.ps unit.window.Kinds.r unit.window.Reads.Learnt
    (λ κs (kind, (seqs, (lists, (address, (len, _))))) result exit. result.now ≡ ours.window_part (format_of kind) seqs.now lists.now address len)

-- Two that demand 2 speaks of by their definitions: whether a state is out of range, and the command that BC1 names.
abbrev pub OutOfRangeIs : Type 0
OutOfRangeIs = Called unit.Unit.out_of_range.Kinds.ps unit.Unit.out_of_range.Kinds.r unit.Unit.out_of_range.Reads.Learnt
    (λ κs (self, (format, _)) result exit. result ≡ out_of_range format self)

abbrev pub TelecommandIs : Type 0
TelecommandIs = Called telecommand.telecommand_of.Kinds.ps telecommand.telecommand_of.Kinds.r telecommand.telecommand_of.Reads.Learnt
    (λ κs (number, _) result exit. result ≡ telecommand_of number)
