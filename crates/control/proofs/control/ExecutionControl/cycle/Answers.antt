use Rattle.std.proofs.Common.{refl}
use Rattle.control.proofs.Turning.{going_begins, going_on, going_ends}
use Rattle.control.proofs.control.ExecutionControl.cycle.Goals as goal

pub loop-self-init : goal.loop-self-init
loop-self-init g c =
    let begun = c.begin-cycle.ensures in
    going_begins g.L.Line.carried g.L.Line.power g.L.Line.stations c.args.self.now c.args.queues.now c.args.line.now c.is_powered.ensures begun.phase begun.none begun.rest begun.served begun.few

pub loop-self-preserved : goal.loop-self-preserved
loop-self-preserved g c =
    let asked = c.ask.ensures in
    let asks = c.detects.ensures c.loop-self-test.true in
    going_on g.L.Line.carried g.L.Line.power g.L.Line.stations c.args.self.now c.args.queues.now c.args.line.now c.loop-self.invariant asked.power asked.phase asked.served (asked.went_on asks) (asked.counted asks) (asked.nearer asks)

pub loop-self-2-preserved : goal.loop-self-2-preserved
loop-self-2-preserved g c =
    let asked = c.ask-in-loop-self-2.ensures in
    let asks = c.exchanges.ensures c.loop-self-2-test.true in
    going_on g.L.Line.carried g.L.Line.power g.L.Line.stations c.args.self.now c.args.queues.now c.args.line.now c.loop-self-2.invariant asked.power asked.phase asked.served (asked.went_on asks) (asked.counted asks) (asked.nearer asks)

pub loop-self-3-preserved : goal.loop-self-3-preserved
loop-self-3-preserved g c =
    let asked = c.ask-in-loop-self-3.ensures in
    let asks = c.loop-self-3-test.ensures.goes_on refl in
    going_on g.L.Line.carried g.L.Line.power g.L.Line.stations c.args.self.now c.args.queues.now c.args.line.now c.loop-self-3.invariant asked.power asked.phase asked.served (asked.went_on asks) (asked.counted asks) (asked.nearer asks)

pub returns : goal.returns
returns g c =
    let end = going_ends g.L.Line.carried g.L.Line.power g.L.Line.stations c.args.self.now c.args.queues.now c.args.line.now c.loop-self-3.invariant (c.loop-self-3-test.ensures.over refl) c.report.ensures.phase c.report.ensures.requests in
    record { cycled = end.0; sends = end.1; served = end.2; at_most = end.3 }
