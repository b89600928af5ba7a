use Rattle.std.proofs.Common.{◌∙◌, arith}
use Rattle.control.specs.Cycles.{master_of}
use Rattle.control.specs.Cycling.{cycle_conversation}
use Rattle.records.proofs.Written.{zero_inactive}
use Rattle.control.proofs.Resting.{detect_at, exchange_first}
use Rattle.control.proofs.control.ExecutionControl.first_turn.Goals as goal

pub returns-in-Detection-clause-rest : goal.returns-in-Detection-clause-rest
unfolding cycle_conversation
returns-in-Detection-clause-rest c = rw c.in-Detection.is (detect_at 0 c.low.result.value (master_of c.args.self.now c.args.queues.now) (omega arith) (omega arith))

pub returns-in-Normal-clause-rest : goal.returns-in-Normal-clause-rest
unfolding cycle_conversation
returns-in-Normal-clause-rest c =
    rw c.in-Normal.is (c.exchange_behind.ensures.rest ∙ exchange_first c.low-in-Normal.result.value (master_of c.args.self.now c.args.queues.now) (omega arith) (zero_inactive c.args.self.now.table.rows))
