use Rattle.std.proofs.Common.{◌+◌, sym, arith}
use Rattle.control.specs.Cycles.{master_of}
use Rattle.control.proofs.Resting.{detect_at, detect_end}
use Rattle.control.proofs.control.ExecutionControl.detect_behind.Goals as goal

pub returns-then-get-lt31-clause-rest : goal.returns-then-get-lt31-clause-rest
returns-then-get-lt31-clause-rest c = λ q. detect_at (c.args.at.value + 1) c.low.result.value (master_of c.args.self.now q) (omega arith) (omega arith)

pub returns-clause-rest : goal.returns-clause-rest
returns-clause-rest c = λ q. sym (detect_end (c.args.at.value + 1) (master_of c.args.self.now q) (omega arith))
