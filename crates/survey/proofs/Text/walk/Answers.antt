-- Each way out of a turn, and on to the next, is a law of the walk.
use Rattle.std.proofs.Common.{◌≡◌, ◌+◌, ◌-◌, ◌^◌, length}
use native.Mathlib.Omega.{arith}
use native.Mathlib.Nat.{le_trans}
use mathlib.Core.Path.{refl, ◌∙◌}
use Rattle.memory.proofs.Laws.{fair-of}
use Rattle.sequence.specs.Env.{cards_lent}
use Rattle.runner.specs.declared.Act.TheVariants.{Refused, Opens, Exposes, Loops, Waits, Calls, Ends}
use Rattle.runner.proofs.Tested.{tests-run}
use Rattle.survey.specs.Tested.{tested_past}
use Rattle.survey.proofs.Laws.{placed_at, placed-outside, Turn, going_start, going-none, going-outside, told, comes-whole, tells-tests, tested-end, tested-refused, going_on, going-fits, pause-most}
use Rattle.survey.proofs.Text.walk.Goals as goal
use Rattle.survey.proofs.Text.walk.Goals.{After-judge, in-Opens, in-Exposes, in-Loops, in-Waits}

-- what is known past the judgement
module _ (j : After-judge) where
  turn : Turn j.args.self.format (cards_lent j.args.self.lent j.args.self.lists.now) j.args.self.bytes.now (length j.args.self.bytes.now - j.loop.counter) j.loop.round j.in-Some.at j.judge.result
  turn =
      record {
        going = j.loop.invariant;
        octets = j.args.self.octets;
        some = omega (arith, j.loop-test.true);
        fair = fair-of j.args.self.format j.args.self.format_fills;
        here = placed_at j.args.self.format _ _ j.of.ensures _ j.in-Some.is;
        fits = j.judge.ensures.at_bound;
        judged = j.judge.ensures.value;
      }

pub loop-init : goal.loop-init
loop-init c =
    let all : length c.args.self.bytes.now - 0 ≡ length c.args.self.bytes.now = omega arith in
    rw all (going_start _ _ (le_trans c.args.self.short (fair-of c.args.self.format c.args.self.format_fills).size))

pub returns-in_default : goal.returns-in_default
returns-in_default c =
    let e = c.fails.ensures in
    let l = c.loop in
    let (w, b) = going-outside _ _ (length c.args.self.bytes.now - l.counter) l.round l.invariant (le_trans c.args.self.short (placed-outside c.args.self.format _ _ c.of.ensures c.in_default.is)) in
    record {
      found_value = e.0 ∙ w;
      tested_value = e.1 ∙ b;
    }

pub returns-in-Refused : goal.returns-in-Refused
unfolding tested_past
returns-in-Refused c =
    let t = turn (goal.at.returns-in-Refused c).After-judge in
    let e = c.refused.ensures in
    let is = c.in-Refused.is in
    record {
      found_value = e.0 ∙ comes-whole t (Refused _) is;
      tested_value = e.1 ∙ rw t.here.1 (tested-refused t (Refused _) is refl);
    }

pub opens-round-requires : goal.opens-round-requires
opens-round-requires c = let t = turn (goal.at.opens-round-requires c).After-judge in let is = c.in-Opens.is in let s = told t Opens is in
    (going-fits t _ 0 0 (omega arith) (omega arith) (omega arith), rw (c.list_at.ensures, t.here.1) (tests-run _ _ _ (tells-tests t Opens is)).1)

pub past-round-requires : goal.past-round-requires
past-round-requires c = let t = turn (goal.at.past-round-requires c).After-judge in let s = told t (Exposes _) c.in-Exposes.is in going-fits t _ 0 0 (omega arith) (omega arith) (omega arith)

pub loops-round-requires : goal.loops-round-requires
loops-round-requires c = let t = turn (goal.at.loops-round-requires c).After-judge in
    let s = told t (Loops _) c.in-Loops.is in
    going-fits t _ (2 ^ 37) (2 ^ 37) (omega arith) (omega arith) (omega arith)

pub past-round-requires-in-Waits : goal.past-round-requires-in-Waits
past-round-requires-in-Waits c = let t = turn (goal.at.past-round-requires-in-Waits c).After-judge in let s = told t Waits c.in-Waits.is in going-fits t _ _ 0 (omega arith) (rw c.pause.ensures (pause-most c.loop.round.held)) (omega arith)

pub returns-in-Calls : goal.returns-in-Calls
unfolding tested_past
returns-in-Calls c =
    let t = turn (goal.at.returns-in-Calls c).After-judge in
    let is = c.in-Calls.is in
    record {
      found_value = c.closes.ensures.0 ∙ comes-whole t (Calls _) is;
      tested_value = c.closes.ensures.1 ∙ tested-end t (Calls _) is refl (tells-tests t (Calls _) is);
    }

pub returns-in-Ends : goal.returns-in-Ends
unfolding tested_past
returns-in-Ends c =
    let t = turn (goal.at.returns-in-Ends c).After-judge in
    let is = c.in-Ends.is in
    record {
      found_value = c.closes-in-Ends.ensures.0 ∙ comes-whole t Ends is;
      tested_value = c.closes-in-Ends.ensures.1 ∙ tested-end t Ends is refl (tells-tests t Ends is);
    }

pub loop-preserved : goal.loop-preserved
loop-preserved c =
    let t = turn (goal.at.loop-preserved c).After-judge in
    let fewer : length c.args.self.bytes.now - (c.loop.counter + 1) ≡ length c.args.self.bytes.now - c.loop.counter - 1 = omega arith in
    rw fewer
    (elim c.match-judge.branch [
      | in-Opens w ↦ going_on t Opens w.in-Opens.is _ (w.round-is ∙ (rw w.list_at.ensures at w.opens-round.ensures)) tt refl
      | in-Exposes w ↦ going_on t (Exposes _) w.in-Exposes.is _ (w.round-is ∙ (rw w.one_more.ensures at w.past-round.ensures)) tt refl
      | in-Loops w ↦ going_on t (Loops _) w.in-Loops.is _ (w.round-is ∙ w.loops-round.ensures) tt refl
      | in-Waits w ↦ going_on t Waits w.in-Waits.is _ (w.round-is ∙ (rw w.pause.ensures at w.past-round-in-Waits.ensures)) tt refl
    ])

pub returns : goal.returns
returns c =
    let l = c.loop in
    let e = c.fails-2.ensures in
    let (w, b) = going-none _ _ (length c.args.self.bytes.now - l.counter) l.round l.invariant (omega (arith, c.loop-test.false)) in
    record {
      found_value = e.0 ∙ w;
      tested_value = e.1 ∙ b;
    }
