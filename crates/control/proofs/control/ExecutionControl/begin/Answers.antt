use Rattle.std.proofs.Common.{◌≡◌, rules}
use Rattle.control.specs.Cycling.{begun}
use Rattle.control.specs.Turns.{left}
use Rattle.control.proofs.AnyReplies.{cycle_asks}
use Rattle.control.proofs.Turning.{begun_on_line}
use Rattle.control.proofs.control.ExecutionControl.begin.Goals as goal

pub returns : goal.returns
returns c =
    let turn = c.first_turn-turn in
    let rest : left turn.result turn.new.self turn.new.queues ≡ begun c.args.powered c.args.self.now c.args.queues.now = search rules in
    record {
      phase = search rules;
      none = search rules;
      rest = rest;
      any_wire = cycle_asks c.args.self.now c.args.queues.now c.args.powered turn.ensures.rest;
      on_a_line = begun_on_line c.args.self.now c.args.queues.now c.args.powered (left turn.result turn.new.self turn.new.queues) rest;
      few = search rules;
      waits = search rules;
      served = search rules;
    }
