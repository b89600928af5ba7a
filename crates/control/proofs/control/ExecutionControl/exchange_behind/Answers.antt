use Rattle.std.proofs.Common.{◌+◌, sym, ◌∙◌, arith}
use Rattle.control.specs.Cycles.{master_of}
use Rattle.control.proofs.Resting.{exchange_over, exchange_at}
use Rattle.control.proofs.control.ExecutionControl.exchange_behind.Goals as goal

pub returns-in-Some-clause-rest : goal.returns-in-Some-clause-rest
returns-in-Some-clause-rest c = (exchange_at (c.args.at.value + 1) (master_of c.args.self.now c.args.queues.now) c.in-Some.to.value _ (omega arith) (sym c.in-Some.ensures) c.output_data.ensures).0

pub returns-in-Some-clause-few : goal.returns-in-Some-clause-few
returns-in-Some-clause-few c = omega (arith, (exchange_at (c.args.at.value + 1) (master_of c.args.self.now c.args.queues.now) c.in-Some.to.value _ (omega arith) (sym c.in-Some.ensures) c.output_data.ensures).1)

pub returns-clause-rest : goal.returns-clause-rest
returns-clause-rest c = c.manage_next.ensures.rest ∙ sym (exchange_over (c.args.at.value + 1) (master_of c.args.self.now c.args.queues.now) (omega arith) (sym c.in_default.ensures))
