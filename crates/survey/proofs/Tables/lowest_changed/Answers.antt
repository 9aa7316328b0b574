-- The first change in the sequence table, or else in the line lists, or none.
use Rattle.std.proofs.Common.{◌≡◌, ℕ, ◌+◌, ◌*◌, List, length, mul_comm, sym, ap, ◌∙◌, arith}
use Rattle.memory.proofs.Laws.{sizes, fair-of}
use Rattle.survey.specs.declared.Tables.{Tables}
use Rattle.survey.specs.Still.{lists_over, changed_in, first_of}
use Rattle.survey.specs.Held.{found_below, RestOf}
use Rattle.survey.proofs.Changes.{in_seqs, lowest-sequence, lowest-list, lowest-none}
use Rattle.survey.proofs.Tables.lowest_changed.Goals as goal
use Rattle.survey.proofs.Tables.lowest_changed.Goals.{After-first_changed}

module _ (t : Tables) where
  -- the entries fill the sequence table
  entries-whole : (t.format.last + 1) * t.format.size ≡ 16384
  entries-whole =
      let (fits, _, _) = sizes t.format t.seqs.now t.lists.now t.right in
      mul_comm (t.format.last + 1) t.format.size ∙ (fair-of t.format fits).whole

  seqs-long : length t.seqs.now ≡ 16384
  seqs-long = (sizes t.format t.seqs.now t.lists.now t.right).1

  lists-long : length t.lists.now ≡ 7872
  lists-long = (sizes t.format t.seqs.now t.lists.now t.right).2

pub first_changed-requires : goal.first_changed-requires
first_changed-requires c =
    let s = c.args.self in
    let f = fair-of s.format (sizes s.format s.seqs.now s.lists.now s.right).0 in
    (omega (arith, f.room), omega (arith, f.last), seqs-long s ∙ sym (entries-whole s), seqs-long c.args.later ∙ sym (seqs-long s))

pub first_changed-requires-2 : goal.first_changed-requires-2
first_changed-requires-2 c = (omega arith, omega arith, lists-long c.args.self, lists-long c.args.later ∙ sym (lists-long c.args.self))

-- what is found in the first table, and in the second where nothing is
module _ (c : After-first_changed) (names : List ℕ) (r : RestOf c.args.self.format c.args.self.seqs.now names c.args.rest) where
  in_first : c.first_changed.result ≡ found_below 16384 (in_seqs c.args.self.format c.args.self.seqs.now c.args.self.lists.now c.args.later.seqs.now c.args.later.lists.now names)
  in_first =
      let s = c.args.self in
      c.first_changed.ensures.by_index names r.sequences
      ∙ ap (λ (k : ℕ). found_below k (first_of (changed_in s.format.size s.seqs.now c.args.later.seqs.now names) k 0)) (entries-whole s)

pub returns-in-Some : goal.returns-in-Some
returns-in-Some c =
    λ names r.
    let s = c.args.self in
    let later = c.args.later in
    lowest-sequence s.format s.seqs.now s.lists.now later.seqs.now later.lists.now names _ (sym c.in-Some.is ∙ in_first (goal.at.returns-in-Some c).After-first_changed names r)

pub returns-in_err-at : goal.returns-in_err-at
returns-in_err-at c =
    λ names r.
    let s = c.args.self in
    let later = c.args.later in
    c.from_residual.ensures
    ∙ lowest-none s.format s.seqs.now s.lists.now later.seqs.now later.lists.now names (sym c.in_default.is ∙ in_first (goal.at.returns-in_err-at c).After-first_changed names r)
    (sym c.in_err-at.was ∙ c.first_changed-2.ensures.by_index (lists_over s.format s.seqs.now names) r.lists)

pub returns : goal.returns
returns c =
    λ names r.
    let s = c.args.self in
    let later = c.args.later in
    lowest-list s.format s.seqs.now s.lists.now later.seqs.now later.lists.now names (sym c.in_default.is ∙ in_first (goal.at.returns c).After-first_changed names r) _
    (sym c.in_ok-at.was ∙ c.first_changed-2.ensures.by_index (lists_over s.format s.seqs.now names) r.lists)
