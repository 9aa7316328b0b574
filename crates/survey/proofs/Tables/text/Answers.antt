-- Tables of the right sizes have a format that fills them, and an entry is no longer than its size.
use Rattle.std.proofs.Common.{◌*◌}
use Rattle.memory.proofs.Laws.{entry-short, sizes}
use Rattle.survey.proofs.Totals.{part-octets}
use Rattle.survey.proofs.Tables.text.Goals as goal

pub invariant_of-result : goal.invariant_of-result
invariant_of-result c =
    let s = c.args.self in
    record {
      format_fills = (sizes s.format s.seqs.now s.lists.now s.right).0;
      short = rw c.entry.ensures (entry-short s.format s.seqs.now c.args.n);
      octets = rw c.entry.ensures (part-octets s.seqs.now (c.args.n * s.format.size) s.format.size s.octets);
    }
