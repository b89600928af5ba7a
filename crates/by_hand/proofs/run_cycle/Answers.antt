use Rattle.control.proofs.Turning.{asks_next}
use Rattle.by_hand.proofs.run_cycle.Goals as goal

pub loop-request-smaller : goal.loop-request-smaller
loop-request-smaller g c = c.hear.ensures.hears.nearer (asks_next c.loop-request.cycle.cycle.turn c.in-Some.is c.next.ensures)
