-- Wrong libraries, refuted: each demand is asked of a library over tables and packets that are written out, and what it says of them computes to
-- something false. Assumes nothing.
use Rattle.std.specs.Prelude.{Ok, Err}
use Prim.Native.Nat.{ℕ, ◌+◌, ◌-◌, ◌≤◌, ◌<◌}
use native.Mathlib.Omega.{arith}
use mathlib.Core.Path.{◌≡◌, refl, sym, ap, subst, ◌∙◌}
use mathlib.Core.Bool.{Bool, true, false, true≢false, false≢true}
use mathlib.Core.List.{List, [], ◌∷◌}
use mathlib.Core.Logic.{inl, inr}
use lib.Dec.{eqb}
use lib.IntN.{pos}
use lib.ListN.{length, get_or}
use borrow.Author.Tests.{eqb-true}
use Rattle.octets.specs.Bytes.{byte_at, triple_at, xor_on}
use Rattle.octets.proofs.Bools.{below_all}
use Rattle.memory.specs.declared.Format.{Format}
use Rattle.memory.specs.Memory.{flight, entry_of, fills, tables_wrong, range_of, range_at}
use Rattle.sequence.specs.Text.{fault, limit, length_good, xor_good, header_rows, header_of, size_of, decoded, none_there, command_at, size_at}
use Rattle.sequence.specs.Starts.{starts, starts_of, among, exposes_between, first_exposure, target_good}
use Rattle.sequence.specs.Raster.{raster_at, flags_good, mark_missing, some_strays}
use Rattle.sequence.specs.LineList.{checksum_of, marked, marks_of, list_card}
use Rattle.sequence.specs.Env.{env_of}
use Rattle.sequence.proofs.SampleTables.{seqs, lists, ends, calls, line_list, fields, raster, the_raster}
use Rattle.runner.specs.declared.Runner.{Runner}
use Rattle.runner.specs.declared.Stepped.{Stepped}
use Rattle.runner.specs.declared.Event.{Event}
use Rattle.runner.specs.Events.{Shown, shows}
use Rattle.runner.specs.Judge.{path_rows, raster_rows, run_rows, expose_rows, loop_rows, close_rows, judged, judge}
use Rattle.runner.specs.Step.{aborted, entered, begun, advances, exposed, looped, called, ended, act, step_in, step_of}
use Rattle.survey.specs.declared.Ending.TheVariants.{Finishes, Faults}
use Rattle.survey.specs.declared.Reason.TheVariants.{None}
use Rattle.survey.specs.Walk.{walked, walk, check_one}
use Rattle.survey.specs.Chain.{Told, told, onward, follow, chain_of, check_rows, check_of}
use Rattle.survey.specs.Report.{EndingShown, ending_as, ending_shown, reason_of, reason_shown}
use Rattle.survey.proofs.Listing.{among-case}
use Rattle.unit.specs.declared.Unit.{Unit as ControlUnit}
use Rattle.unit.specs.Step.{Outcome}
use Rattle.unit.specs.State.{power_on, runs_wrong, range_tests, out_of_range, moded, selected}
use Rattle.telecommand.specs.Packet.{telecommand_of}
use Rattle.unit.specs.Packet.{own_rows, lent_wrong, packet_rows, code_of}
use Rattle.unit.specs.Answer.{effect, obeyed_unit, refused_unit, unit_after, answer_of, seqs_after, lists_after}
use Rattle.unit.specs.Step.{step_rows, with_step, unit_step}
use Rattle.promises.specs.Library.{Library, ours}
use Rattle.promises.specs.Sent.{Sent}
use Rattle.promises.specs.Runs.{is_a, ShownAs, Showing, idle, enters}
use Rattle.promises.specs.Demand2.{Lent, InRange, InSequences, StepTakes}
use Rattle.promises.specs.EachStep.{EnterStep}
use Rattle.promises.specs.Demand3.{World, world, step, packet, after, outcomes, Reached, powered, acted, mode_of, selecting, starting, calling_back, exposed_positions, Works, FirstThen, GoesOn, EndsOrReturns, KeepsPassed, Demand3}
use Rattle.promises.specs.EachCheck.{Given}
use Rattle.promises.specs.Stays.{WithinLength, OfSequence, RestsOn, Untouched, StaysIf}
use Rattle.promises.specs.Refuted.{RefusingFails, WritingNothingFails, IdlingFails, UnitIdlingFails, FinishingAtFirstFails, UnitFinishingFails, FinishingAtCallFails, with_check, with_steps, PassingAllFails, FaultingAllFails, InventedStepsFail, InventedExposuresFail, IdleUnitFails, refuses_all, writes_nothing, always_idle, finishes_at_first, at_call, finishes_at_call, passes_all, faults_all, invents_steps, invents_exposures, mirror_each_exposure, repeat_at_last, faulty_raster_passed, drops_reasons, uplink_while_running, Refuted, MisreadRefuted, AllButLast, PremiseRefuted}
use Rattle.promises.proofs.Run.Events.{fault-so, passed-so}
use Rattle.promises.proofs.EveryFormat.{flight-fills}
use Rattle.promises.proofs.Packets.Actions.{steps, stepped-on}
use Rattle.promises.proofs.Packets.Needs.{obeyed-exactly}
use Rattle.promises.proofs.Decided.{check-decided}
use Rattle.promises.proofs.Stays.Since.{by-table}
use Rattle.promises.proofs.Samples.{bad_sum, calls_on}

-- ── what is written out
-- sequence 0 terminates at once; it calls itself
abbrev terminates : List ℕ
terminates = ends 0x92

abbrev calls_itself : List ℕ
calls_itself = calls 0x00 0x95

-- a raster from 100 on by 10: of two passes with two exposures each, once; of two passes with one exposure each, twice
abbrev sets : List ℕ
sets = raster 0x25 (fields 0x00 0x64 2 2 1 0 0) 2 0x33

abbrev repeats : List ℕ
repeats = raster 0x22 (fields 0x00 0x64 2 1 2 0 0) 1 0xC1

-- ── demand 2, packets: one to the unit at power-on, over zeros
abbrev sent : List ℕ → Sent flight
sent bytes = record { unit = power_on; time = 0; seqs = seqs []; lists = lists []; out = seqs []; bytes = bytes }

lent : (bytes : List ℕ) → Lent (sent bytes)
lent bytes = record { format = flight-fills; sequences = refl; line_lists = refl; output = omega arith }

in-range : InRange flight power_on
unfolding power_on
in-range =
    record {
      least = omega arith;
      most = omega arith;
      failed = omega arith;
      abort = omega arith;
      sequence = inr refl;
      selection = inr refl;
      place = omega arith;
      raster = inr refl;
      list = omega arith;
      mirror = omega arith;
      count = omega arith;
      runs = λ r. absurd (false≢true r);
    }

pub refusing-fails : RefusingFails
unfolding fills tables_wrong power_on runs_wrong range_tests out_of_range telecommand_of own_rows lent_wrong packet_rows
refusing-fails L x =
    let p : List ℕ = 0x01 ∷ [] in
    let some = x (sent p) in (
      λ f. let z = (f (sent p)).1 (refl, (refl, (refl, (refl, (refl, (refl, (refl, tt))))))) in omega arith,
      λ f. let z = (f (sent p)).1 (lent p, in-range, refl) in omega arith,
    )

pub writing-nothing-fails : WritingNothingFails
unfolding power_on telecommand_of
writing-nothing-fails L x f g =
    let p : List ℕ = 0xE7 ∷ 0x07 ∷ 0x00 ∷ 0x00 ∷ 0x01 ∷ 0xAA ∷ [] in
    let s = sent p in
    let here : InSequences (triple_at p 1) (byte_at p 4) = (omega arith, omega arith) in
    let obeyed = (f s).1 (lent p, in-range, (refl, omega arith, refl, (omega arith, omega arith, inl here))) in
    let (_, _, _, written, _) = g s (record { accepted = obeyed; command = refl }) in
    let z : ◌≡◌ {A = ℕ} 0 0xAA = ap (λ (t : List ℕ). byte_at t 0) (sym (x s).sequences) ∙ (written here).0.written 0 (omega arith) in
    omega arith

-- ── demand 2, each step: a runner in sequence 0
abbrev runner : ℕ → Bool → Runner
runner place entering =
    record { sequence = 0; place = place; running = true; entering = entering; raster = record { place = 255; count = 0; passes = 0; repeats = 0; run = 0; shift = pos 0 }; rounds = 1; mirror = 0 }

pub idling-fails : IdlingFails
unfolding header_rows length_good xor_good limit xor_on
idling-fails L x =
    let E = env_of flight (lists []) in
    let i = x E (seqs terminates) (runner 0 true) in (
      λ f. true≢false ((f E (seqs terminates) (runner 0 true)).0 i),
      λ f.
          let e = f E (seqs terminates) (runner 0 true) refl refl (refl, (refl, (refl, tt))) in
          let z : ◌≡◌ {A = ℕ} 0 1 = ap (λ (x : Shown). x.number) (sym (i 0) ∙ e.shows 0) in omega arith,
    )

pub finishing-at-first-fails : FinishingAtFirstFails
unfolding header_rows length_good xor_good limit xor_on
finishing-at-first-fails L x f =
    let E = env_of flight (lists []) in
    let e = f E (seqs terminates) (runner 0 true) refl refl (refl, (refl, (refl, tt))) in
    true≢false (sym (ap (λ (r : Runner). r.running) e.leaves) ∙ x E (seqs terminates) (runner 0 true) refl refl)

-- a unit in AUTO with that runner
abbrev unit : ControlUnit
unit =
    record {
      ledger = record { received = 0; failed = 0; code = 0; number = 0; log = record { bc1 = 0; bc2 = 0; bc3 = 0; size = 0 } };
      control = record { mode = 3; allowed = true; requests = 0; selection = 0 };
      watch = record { list = 0; exposures = 0; abort = 0 };
      runner = runner 0 true;
    }

-- it enters, and runs on
unit-enters : (L : Library) → StepTakes flight L → EnterStep L
    → Showing (L.steps flight unit (seqs terminates) (lists [])).outcome (enters 0) × ((L.steps flight unit (seqs terminates) (lists [])).unit.runner.running ≡ true)
unfolding fills tables_wrong header_rows length_good xor_good limit xor_on step_rows runs_wrong range_tests out_of_range
unit-enters L takes entering =
    let e = entering (env_of flight (lists [])) (seqs terminates) (runner 0 true) refl refl (refl, (refl, (refl, tt))) in
    let (sees, keeps, _) = takes unit (seqs terminates) (lists []) (refl, (refl, tt)) in
    (subst (λ (o : Outcome). Showing o (enters 0)) (sym sees) e.shows, ap (λ (r : Runner). r.running) (keeps ∙ e.leaves))

pub unit-idling-fails : UnitIdlingFails
unit-idling-fails L x takes entering = not-both (L.steps flight unit (seqs terminates) (lists [])).outcome (x unit (seqs terminates) (lists [])) (unit-enters L takes entering).0
  where
    not-both : (o : Outcome) → Showing o idle → Showing o (enters 0) → ⊥
    not-both (Err code) i e = i
    not-both (Ok v) i e = let z : ◌≡◌ {A = ℕ} 0 1 = ap (λ (x : Shown). x.number) (sym (i 0) ∙ e 0) in omega arith

pub unit-finishing-fails : UnitFinishingFails
unit-finishing-fails L x takes enters = true≢false (sym (unit-enters L takes enters).1 ∙ x unit (seqs terminates) (lists []) refl refl)

pub finishing-at-call-fails : FinishingAtCallFails
unfolding command_at size_of decoded none_there limit length_good size_at close_rows judged judge called act step_in step_of
finishing-at-call-fails L x f =
    let E = env_of flight (lists []) in
    let e = f E (seqs calls_itself) (runner 4 false) 0 (record { running = refl; entered = refl; command = refl; accepted = (refl, (refl, (refl, tt))) }) (omega arith) in
    true≢false (sym (ap (λ (r : Runner). r.running) e.leaves) ∙ x E (seqs calls_itself) (runner 4 false) 0 (λ count. refl))

-- ── demand 3: a unit in MANUAL over tables that begin with these bytes, and then with sequence 0 selected and started
module _ (L : Library) where
  abbrev sending : List ℕ → World flight → World flight
  sending bytes w = after L (packet (seqs []) 0 bytes) w

  abbrev manual : List ℕ → List ℕ → World flight
  manual sequence list = sending calling_back (sending (0x20 ∷ []) (world L.powers_on (seqs sequence) (lists list)))

  abbrev auto : List ℕ → List ℕ → World flight
  auto sequence list = sending starting (sending (selecting 0) (manual sequence list))

  -- what the check tells of it
  abbrev tells : List ℕ → List ℕ → Told
  tells sequence list = L.checks flight (manual sequence list).seqs (manual sequence list).lists 0

  in-manual : (sequence list : List ℕ) → length (seqs sequence) ≡ 16384 → length (lists list) ≡ 7872 → Reached L (manual sequence list)
  in-manual sequence list e e' = acted (packet (seqs []) 0 calling_back) (acted (packet (seqs []) 0 (0x20 ∷ [])) (powered (seqs sequence) (lists list) e e'))

  -- the demand, asked of what it passes
  kept : Demand3 flight L → (sequence list : List ℕ) → length (seqs sequence) ≡ 16384 → length (lists list) ≡ 7872 → mode_of (manual sequence list) ≡ 2
      → KeepsPassed L (tells sequence list) (auto sequence list)
  kept d sequence list e e' m =
      let (_, _, _, p, _) = d (manual sequence list) (in-manual sequence list e e') m 0 (omega arith) (seqs []) (seqs []) (omega arith) (omega arith) 0 0 in p

-- computed: our unit is in MANUAL over zeros and over the sequence that terminates, and this is what our check tells of the two
record Computed (sequence : List ℕ) (t : Told) : Type 0 where
  mode : mode_of (manual ours sequence []) ≡ 2
  tells-so : tells ours sequence [] ≡ t

computed : Computed [] (told (0 ∷ []) (Faults 0 (fault 2 0) None) 0 0) × Computed terminates (told (0 ∷ []) Finishes 2 0)
unfolding xor_on fills tables_wrong limit length_good xor_good header_rows header_of size_of decoded none_there command_at size_at close_rows judged judge walked walk check_one onward follow chain_of among check_rows check_of power_on runs_wrong range_tests out_of_range moded selected telecommand_of own_rows lent_wrong packet_rows code_of effect obeyed_unit unit_after answer_of seqs_after lists_after
computed = (record { mode = refl; tells-so = refl }, record { mode = refl; tells-so = refl })

-- a check that keeps the demand tells the same of them
module _ (f : Format → List ℕ → List ℕ → ℕ → Told) (d : Demand3 flight (with_check f)) where
  abbrev its : List ℕ → Told
  its sequence = f flight (manual ours sequence []).seqs (manual ours sequence []).lists 0

  at-zeros : its [] ≡ told (0 ∷ []) (Faults 0 (fault 2 0) None) 0 0
  at-zeros = check-decided flight-fills f d (manual ours [] []) (in-manual ours [] [] refl refl) computed.0.mode 0 (omega arith) ∙ computed.0.tells-so

  at-ends : its terminates ≡ tells ours terminates []
  at-ends = check-decided flight-fills f d (manual ours terminates []) (in-manual ours terminates [] refl refl) computed.1.mode 0 (omega arith)

pub passing-all-fails : PassingAllFails
passing-all-fails f x d = passed-so (Faults 0 (fault 2 0) None) (subst (λ (t : Told). EndsOrReturns t.ending) (at-zeros f d) (x (manual ours [] []).seqs (manual ours [] []).lists 0))

pub faulting-all-fails : FaultingAllFails
faulting-all-fails f x d =
    let (code, n, place, e) = x (manual ours terminates []).seqs (manual ours terminates []).lists 0 in
    let w : Finishes ≡ Faults n (fault code place) _ = ap (λ (t : Told). t.ending) (sym (at-ends f d ∙ computed.1.tells-so)) ∙ fault-so e in
    let z : ◌≡◌ {A = ℕ} 0 1 = cc in omega arith

-- of this chain ours tells that it ends
ends-well : EndsOrReturns (tells ours terminates []).ending
ends-well = subst (λ (t : Told). EndsOrReturns t.ending) (sym computed.1.tells-so) (inl refl)

pub invented-steps-fail : InventedStepsFail
invented-steps-fail f x d = x (manual ours terminates []).seqs (manual ours terminates []).lists 0 ends-well (ap (λ (t : Told). t.steps) (at-ends f d))

pub invented-exposures-fail : InventedExposuresFail
invented-exposures-fail f x d = x (manual ours terminates []).seqs (manual ours terminates []).lists 0 ends-well (ap (λ (t : Told). t.exposures) (at-ends f d))

pub idle-unit-fails : IdleUnitFails
idle-unit-fails f x d =
    let L = with_steps f in
    let s = auto L terminates [] in
    let os = outcomes L (steps 1) s in
    let r = kept L d terminates [] refl refl computed.1.mode ends-well (steps 1) (stepped-on L 1 s) in
    let works : FirstThen 2 Works (GoesOn flight s.seqs Finishes (0 ∷ [])) os =
    subst (λ (t : Told). FirstThen t.steps Works (GoesOn flight s.seqs t.ending t.names) os) computed.1.tells-so r.steps in
    works.0.1 (x s.unit s.seqs s.lists)

-- ── one of each
at_call_lem : (s : Runner) (r : Stepped) (n : ℕ) → ShownAs r.event (shows "CALL" 8 (n ∷ [])) → (at_call s r).runner.running ≡ false
at_call_lem s r n w = let e : is_a 8 r.event ≡ true = ap (λ (x : Shown). eqb x.number 8) (w 0) in rw e

pub refuted : Refuted
refuted =
    record {
      refuses-all = (refusing-fails refuses_all (λ s. omega arith)).0;
      writes-nothing = writing-nothing-fails writes_nothing (λ s. record { sequences = refl; line_lists = refl }) (obeyed-exactly flight);
      always-idle = (idling-fails always_idle (λ E seqs s count. refl)).1;
      finishes-at-first = finishing-at-first-fails finishes_at_first (λ E seqs s r e. rw r);
      finishes-at-call = finishing-at-call-fails finishes_at_call (λ E seqs s n e. at_call_lem s (ours.runs E seqs s) n e);
      passes-all = passing-all-fails passes_all.checks (λ seqs lists n. inl refl);
      faults-all = faulting-all-fails faults_all.checks (λ seqs lists n. (3, n, 4, refl));
      invents-steps = invented-steps-fail invents_steps.checks (λ seqs lists n y e. omega arith);
      invents-exposures = invented-exposures-fail invents_exposures.checks (λ seqs lists n y e. omega arith);
    }

-- ── misreadings: the exposure that is misplaced, and where the plan has it
pub misread-refuted : MisreadRefuted
unfolding xor_on fills tables_wrong range_of range_at limit length_good xor_good header_rows header_of size_of decoded none_there command_at size_at starts starts_of among exposes_between first_exposure target_good raster_at flags_good mark_missing some_strays checksum_of marked marks_of list_card path_rows raster_rows run_rows expose_rows loop_rows close_rows judged judge aborted entered begun advances exposed looped ended act step_in step_of walked walk check_one onward follow chain_of check_rows check_of power_on runs_wrong range_tests out_of_range moded selected telecommand_of own_rows lent_wrong packet_rows code_of effect obeyed_unit refused_unit unit_after answer_of seqs_after lists_after step_rows with_step unit_step
misread-refuted =
    record {
      mirror-each-exposure =
          λ d.
          let L = mirror_each_exposure in
          let r = kept L d sets (line_list 1) refl refl refl (inl refl) (steps 9) (stepped-on L 9 (auto L sets (line_list 1))) in
          let z : ◌≡◌ {A = ℕ} 110 100 = ap (λ (es : List Event). get_or (exposed_positions es) 1 0) (r.planned refl) in omega arith;
      repeat-at-last =
          λ d.
          let L = repeat_at_last in
          let r = kept L d repeats (line_list 1) refl refl refl (inl refl) (steps 12) (stepped-on L 12 (auto L repeats (line_list 1))) in
          let z : ◌≡◌ {A = ℕ} 110 100 = ap (λ (es : List Event). get_or (exposed_positions es) 2 0) (r.planned refl) in omega arith;
      faulty-raster-passed =
          λ d.
          let L = faulty_raster_passed in
          let r = kept L d sets [] refl refl refl (inl refl) (steps 2) (stepped-on L 2 (auto L sets [])) in
          false≢true r.never.1.0;
      reason-dropped =
          λ d.
          let same = check-decided flight-fills drops_reasons.checks d (manual ours sets []) (in-manual ours sets [] refl refl) refl 0 (omega arith) in
          let z : ◌≡◌ {A = ℕ} 0 1 = ap (λ (t : Told). (reason_shown (reason_of t.ending)).number) same in omega arith;
      uplink-while-running =
          λ d.
          let L = uplink_while_running in
          let p : List ℕ = 0xE7 ∷ 0x07 ∷ 0x00 ∷ 0x04 ∷ 0x01 ∷ 0x00 ∷ [] in
          let r =
          kept L d terminates [] refl refl refl (inl refl) (step ∷ packet (seqs []) 0 p ∷ step ∷ [])
          (λ z. z, (λ z. let e = ap (λ (b : List ℕ). byte_at b 0) z.0 in omega arith, (λ z. z, tt))) in
          false≢true r.never.1.0;
    }

-- ── the premise of "a pass stays a pass": tables of then and of now that differ in one byte
-- sequence 0 calls 1, which terminates, with this checksum
abbrev two : ℕ → List ℕ
two sum = calls_on 128 (ends sum)

abbrev checks : List ℕ → List ℕ → Told
checks sequence list = ours.checks flight (seqs sequence) (lists list) 0

-- computed: the sizes are right, then the check told that the chain ends, and now it finds this fault
record Touched (sequence list sequence' list' names : List ℕ) (steps exposures : ℕ) (now : EndingShown) : Type 0 where
  given : Given flight (seqs sequence) (lists list) 0
  given-now : Given flight (seqs sequence') (lists list') 0
  then-so : checks sequence list ≡ told names Finishes steps exposures
  now-so : ending_shown (checks sequence' list').ending ≡ now

sized : {sequence list : List ℕ} → length sequence ≡ 16384 → length list ≡ 7872 → Given flight sequence list 0
sized s l = record { format = flight-fills; sequences = s; line_lists = l; number = omega arith }

touched : Touched the_raster (line_list 1) the_raster bad_sum (0 ∷ []) 16 6 (ending_as 3 7 0 4) × Touched (two 0x92) [] (two 0x93) [] (0 ∷ 1 ∷ []) 4 0 (ending_as 3 2 1 0)
unfolding xor_on fills tables_wrong limit length_good xor_good header_rows header_of size_of decoded none_there command_at size_at starts starts_of among exposes_between first_exposure target_good raster_at flags_good mark_missing some_strays checksum_of marked marks_of list_card path_rows raster_rows run_rows expose_rows loop_rows close_rows judged judge walked walk check_one onward follow chain_of check_rows check_of
touched = (
  record { given = sized refl refl; given-now = sized refl refl; then-so = refl; now-so = refl },
  record { given = sized refl refl; given-now = sized refl refl; then-so = refl; now-so = refl },
)

-- what passed then is a fault now, though these addresses are untouched: so they are not enough
no-premise : (Rests : Format → List ℕ → List ℕ → List ℕ → ℕ → Type 0) (sequence list sequence' list' names : List ℕ) (steps exposures code n place : ℕ)
    → Touched sequence list sequence' list' names steps exposures (ending_as 3 code n place)
    → Untouched (Rests flight (seqs sequence) (lists list) names) (seqs sequence) (lists list) (seqs sequence') (lists list')
    → StaysIf EndsOrReturns Rests flight ours → ⊥
no-premise Rests sequence list sequence' list' names steps exposures code n place c u stays =
    let same =
    subst (λ (t : Told). EndsOrReturns t.ending → Untouched (Rests flight (seqs sequence) (lists list) t.names) (seqs sequence) (lists list) (seqs sequence') (lists list') → checks sequence' list' ≡ t)
    c.then-so (stays (seqs sequence) (lists list) (seqs sequence') (lists list') 0 c.given c.given-now) (inl refl) u in
    let z : ◌≡◌ {A = ℕ} 3 1 = ap (λ (e : EndingShown). e.number) (sym c.now-so ∙ ap (λ (t : Told). ending_shown t.ending) same) in omega arith

-- the bytes of sequence 0 that count are the first of the table, as many as its byte 0 says
of-first : (sequence list : List ℕ) (size : ℕ) → byte_at (entry_of flight (seqs sequence) 0) 0 ≡ size → (a : ℕ) → OfSequence WithinLength flight (seqs sequence) list (0 ∷ []) a
    → (0x070000 ≤ a) × (a < 0x070000 + size)
unfolding among
of-first sequence list size s a (n, i, l, c, e) =
    among-case n 0 [] l
    (λ z. let d : i < byte_at (entry_of flight (seqs sequence) 0) 0 = subst (λ (m : ℕ). i < byte_at (entry_of flight (seqs sequence) m) 0) (sym z) c in (omega arith, omega arith))
    (λ w. absurd (false≢true w))

pub premise-refuted : PremiseRefuted
premise-refuted =
    record {
      without-line-lists =
          no-premise (OfSequence WithinLength) the_raster (line_list 1) the_raster bad_sum (0 ∷ []) 16 6 7 0 4 touched.0
          (λ a r. let h = of-first the_raster (lists (line_list 1)) 0x22 refl a r in by-table (seqs the_raster) (lists (line_list 1)) (seqs the_raster) (lists bad_sum) a (λ _. refl) (λ l. absurd (omega arith)));
      without-last =
          no-premise AllButLast (two 0x92) [] (two 0x93) [] (0 ∷ 1 ∷ []) 4 0 2 1 0 touched.1
          (λ a r. by-table (seqs (two 0x92)) (lists []) (seqs (two 0x93)) (lists []) a (λ h. first-bytes a h r) (λ _. refl));
    }
  where
    -- of sequence 0 both have the same seven bytes
    first-bytes : (a : ℕ) → a < 0x074000 → RestsOn WithinLength flight (seqs (two 0x92)) (lists []) (0 ∷ []) a
        → byte_at (seqs (two 0x93)) (a - 0x070000) ≡ byte_at (seqs (two 0x92)) (a - 0x070000)
    first-bytes a h (inl r) =
        let (least, most) = of-first (two 0x92) (lists []) 7 refl a r in
        eqb-true _ _ (below_all (λ i. eqb (byte_at (seqs (two 0x93)) i) (byte_at (seqs (two 0x92)) i)) 7 (a - 0x070000) refl (omega arith))
    first-bytes a h (inr (n, k, i, _, _, _, e)) = absurd (omega arith)
