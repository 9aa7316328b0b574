-- The checksum's word, and then its value.
use Rattle.line.proofs.WritingLaws.{laid_then}
use Rattle.line.proofs.put_reason.Goals as goal

pub returns-in-3 : goal.returns-in-3
returns-in-3 c = rw c.in-3.is (laid_then c.put_word-p.ensures c.put_octet.ensures)
