use Rattle.std.proofs.Common.{◌∙◌, sym, ap}
use Rattle.std.specs.Prelude.{option_map}
use Rattle.telegrams.specs.Requests.{sent}
use Rattle.control.specs.Cycles.{master_of}
use Rattle.control.proofs.Turning.{none_next}
use Rattle.control.proofs.Serving.{served_idle}
use Rattle.control.proofs.control.ExecutionControl.ask.Goals as goal

pub returns-in_default-clause-counted : goal.returns-in_default-clause-counted
returns-in_default-clause-counted g c = none_next c.args.cycle.now.turn c.in_default.is c.next.ensures (master_of c.args.self.now c.args.queues.now)

pub returns-in_default-clause-nearer : goal.returns-in_default-clause-nearer
returns-in_default-clause-nearer g c = none_next c.args.cycle.now.turn c.in_default.is c.next.ensures (master_of c.args.self.now c.args.queues.now)

pub returns-in_default-clause-served : goal.returns-in_default-clause-served
returns-in_default-clause-served g c = served_idle c.args.cycle.now.turn c.args.queues.now (λ d. sym (c.next.ensures d) ∙ ap (option_map sent) c.in_default.is)
