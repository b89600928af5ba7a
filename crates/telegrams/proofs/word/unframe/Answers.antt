use Rattle.std.proofs.Common.{arith, rules}
use Rattle.telegrams.proofs.Frames.{framed_back}
use Rattle.telegrams.proofs.word.unframe.Goals as goal

pub returns-else-word-eq1 : goal.returns-else-word-eq1
returns-else-word-eq1 c = (search rules, search rules, framed_back c.args.word (omega arith) (omega arith))
