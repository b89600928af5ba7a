use Rattle.std.proofs.Common.{◌≡◌}
use Rattle.orders.specs.declared.pair.Queues.{Queues}
use Rattle.control.specs.Cycles.{master_of}
use Rattle.control.specs.Turns.{activate_rest}
use Rattle.control.proofs.control.ExecutionControl.activate_from.Given as goal

abbrev pub invariant-loop-a : goal.invariant-loop-a
invariant-loop-a l = (q : Queues) → activate_rest l.from (master_of l.self q) ≡ activate_rest l.a (master_of l.self q)
