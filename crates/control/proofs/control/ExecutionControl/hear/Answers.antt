use Rattle.std.proofs.Common.{rules}
use Rattle.control.specs.Cycles.{master_of}
use Rattle.control.proofs.Turning.{not_over}
use Rattle.control.proofs.control.ExecutionControl.hear.Goals as goal

pub returns-in-Over : goal.returns-in-Over
returns-in-Over c =
    record {
      goes_on = search rules;
      phase = search rules;
      counted = not_over c.in-Over.is (master_of c.args.self.now c.args.queues.now);
      nearer = not_over c.in-Over.is (master_of c.args.self.now c.args.queues.now);
      waits = search rules;
      served = search rules;
      same_control = search rules;
      same_queues = search rules;
      same_cycle = search rules;
    }
