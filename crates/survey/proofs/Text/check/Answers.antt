-- A text that can't be entered, or all rounds of its walk; its totals are bounded as those of the findings are.
use Rattle.std.proofs.Common.{◌≡◌, ◌^◌, arith}
use Rattle.memory.proofs.Laws.{fair-of}
use Rattle.sequence.specs.Env.{Env, env_lent}
use Rattle.survey.specs.Walk.{check_one}
use Rattle.survey.specs.Report.{Walked, walked_of}
use Rattle.survey.specs.Held.{AtMost}
use Rattle.survey.proofs.Laws.{round-most, one-unfit, one-rounds, one-tested, one-most}
use Rattle.survey.proofs.Text.check.Goals as goal
use Rattle.survey.proofs.Text.check.Goals.{Start}

module _ (s : Start) where
  -- what the text is read in
  abbrev env : Env
  env = env_lent s.args.self.format s.args.self.lent s.args.self.lists.now

  bounded : (w : Walked) → w ≡ walked_of (check_one env s.args.self.bytes.now) → AtMost (2 ^ 54) w
  bounded w e = one-most env s.args.self.bytes.now w e s.args.self.octets (omega (arith, s.args.self.short, (fair-of s.args.self.format s.args.self.format_fills).size))

pub all_rounds-requires : goal.all_rounds-requires
all_rounds-requires c =
    let s = c.args.self in
    round-most (env (goal.at.all_rounds-requires c).Start) s.bytes.now (fair-of s.format s.format_fills) s.short s.octets _ c.walk-round.ensures.found_value

pub returns-in-Err : goal.returns-in-Err
returns-in-Err c =
    let start = (goal.at.returns-in-Err c).Start in
    let w = one-unfit (env start) c.args.self.bytes.now _ c.header_of.ensures _ c.in-Err.is in
    record { found_value = w.0; tested_value = w.1; found_bound = tt }

pub returns-in-Ok : goal.returns-in-Ok
returns-in-Ok c =
    let start = (goal.at.returns-in-Ok c).Start in
    let q = c.in-Ok.is in
    let w = one-rounds (env start) c.args.self.bytes.now _ c.header_of.ensures _ _ _ q c.walk-round.ensures.found_value c.all_rounds.ensures in
    record {
      found_value = w;
      tested_value = one-tested (env start) c.args.self.bytes.now _ c.header_of.ensures _ _ q c.walk-round.ensures.tested_value;
      found_bound = bounded start _ w;
    }
