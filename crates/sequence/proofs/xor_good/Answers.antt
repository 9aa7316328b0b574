-- The sum of as many bytes as the first says, at the last of them.
use Rattle.sequence.proofs.Sums.{entry-sum}
use Rattle.sequence.proofs.xor_good.Goals as goal

pub returns : goal.returns
returns c = cc (entry-sum c.args.text.now)
