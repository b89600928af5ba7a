use Rattle.control.specs.Turns.{left_at}
use Rattle.by_hand.proofs.run_cycle.Given as goal

abbrev pub decreases-loop-request : goal.decreases-loop-request
decreases-loop-request g l = left_at l.cycle.cycle.turn
