-- A byte of the entry, within its length, is another now, or none is.
use Rattle.std.proofs.Common.{arith}
use Rattle.octets.specs.Bytes.{byte_at}
use Rattle.survey.proofs.Changes.{entry_so}
use Rattle.survey.proofs.entry_changed.Goals as goal

pub returns : goal.returns
returns c = let a = c.args in entry_so a.was.now a.is.now a.at a.size (byte_at a.was.now a.at) _ _ (omega (arith, c.min.ensures)) c.differs.ensures
