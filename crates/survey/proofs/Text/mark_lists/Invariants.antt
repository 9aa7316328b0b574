-- The invariant: the marks so far, and the line lists named from here on, are those wanted.
use Rattle.std.proofs.Common.{◌≡◌, ◌-◌, length}
use Rattle.survey.proofs.Rests.{Marking}
use Rattle.survey.proofs.Text.mark_lists.Given as goal

abbrev pub invariant-loop : goal.invariant-loop
invariant-loop l = (length l.marks ≡ 256) × Marking l.self.bytes.now l.initial.marks (length l.self.bytes.now - l.counter) l.place l.marks
