-- Each way out of the two checks that call each other is a law of the chain.
use Rattle.std.proofs.Common.{ℕ, subst, arith}
use Rattle.memory.proofs.Laws.{fair-of, sizes}
use Rattle.sequence.specs.Env.{env_of}
use Rattle.survey.specs.Held.{LowCall}
use Rattle.survey.proofs.Chains.{room, Visit, close-stop, close-back, seq-fault, next_low, next-kept, next-fewer, seq-next}
use Rattle.survey.proofs.Tables.+check_closing_check_sequence.Goals as goal
use Rattle.survey.proofs.Tables.+check_closing_check_sequence.Goals.{check_sequence-After-check}

-- what is known past the check of a sequence's own text
visit : {t : ℕ} (c : check_sequence-After-check t) → Visit c.args.self.format c.args.self.lists.now c.args.self.seqs.now c.args.chain c.args.n c.check.result.found
visit c =
    let s = c.args.self in
    let t = c.text.ensures in
    record {
      fair = fair-of s.format (sizes s.format s.seqs.now s.lists.now s.right).0;
      most = c.check.ensures.found_bound;
      free = c.requires;
      found = rw (t.fields.0, t.fields.1, t.fields.2, t.entry) at c.check.ensures.found_value;
    }

pub check_closing-returns-else-not-chain-mark : goal.check_closing-returns-else-not-chain-mark
check_closing-returns-else-not-chain-mark t c =
    let a = c.args in
    let s = a.self in
    close-back (env_of s.format s.lists.now) s.seqs.now a.chain a.closing _ c.in-CallsOn.is (subst LowCall c.in-CallsOn.is c.requires.1) c.if-not-chain-mark.false

pub check_closing-returns-in-Terminates : goal.check_closing-returns-in-Terminates
check_closing-returns-in-Terminates t c =
    let s = c.args.self in
    close-stop (env_of s.format s.lists.now) s.seqs.now c.args.chain c.args.closing c.in-Terminates.is

pub check_sequence-bounds-chain-at : goal.check_sequence-bounds-chain-at
check_sequence-bounds-chain-at t c = room c.args.chain c.args.n c.requires

pub check_sequence-check_closing-requires : goal.check_sequence-check_closing-requires
check_sequence-check_closing-requires t c =
    let v = visit (goal.at.check_sequence-check_closing-requires t c).After-check in
    let e = c.in-Ok.is in
    (omega (arith, c.decreases, next-fewer v _ e), (next-kept v _ e, next_low v _ e))

pub check_sequence-returns-in-Err : goal.check_sequence-returns-in-Err
check_sequence-returns-in-Err t c = seq-fault (visit (goal.at.check_sequence-returns-in-Err t c).After-check) _ c.in-Err.is

pub check_sequence-returns-in-Ok : goal.check_sequence-returns-in-Ok
check_sequence-returns-in-Ok t c = seq-next (visit (goal.at.check_sequence-returns-in-Ok t c).After-check) _ c.in-Ok.is _ c.check_closing.ensures
