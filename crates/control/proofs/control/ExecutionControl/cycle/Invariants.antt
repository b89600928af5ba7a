use Rattle.control.specs.Turns.{left_at}
use Rattle.control.proofs.Turning.{Going}
use Rattle.control.proofs.control.ExecutionControl.cycle.Given as goal

abbrev pub invariant-loop-self : goal.invariant-loop-self
invariant-loop-self g l = Going g.L.Line.carried g.L.Line.power g.L.Line.stations l.fn.self l.fn.queues l.fn.line l.self l.queues l.cycle l.line

abbrev pub decreases-loop-self : goal.decreases-loop-self
decreases-loop-self g l = left_at l.cycle.turn

abbrev pub invariant-loop-self-2 : goal.invariant-loop-self-2
invariant-loop-self-2 g l = Going g.L.Line.carried g.L.Line.power g.L.Line.stations l.fn.self l.fn.queues l.fn.line l.self l.queues l.cycle l.line

abbrev pub decreases-loop-self-2 : goal.decreases-loop-self-2
decreases-loop-self-2 g l = left_at l.cycle.turn

abbrev pub invariant-loop-self-3 : goal.invariant-loop-self-3
invariant-loop-self-3 g l = Going g.L.Line.carried g.L.Line.power g.L.Line.stations l.fn.self l.fn.queues l.fn.line l.self l.queues l.cycle l.line

abbrev pub decreases-loop-self-3 : goal.decreases-loop-self-3
decreases-loop-self-3 g l = left_at l.cycle.turn
