use Rattle.std.proofs.Common.{refl, arith}
use Rattle.queues.proofs.Held.{held_rest}
use Rattle.queues.proofs.queue.Queue.remove.Goals as goal

pub returns : goal.returns
returns g c =
    let q = c.args.self.now in
    record {
      after = held_rest q c.len.result c.place-self.result (omega arith) c.len.ensures.is c.place-self.ensures.is;
      only_taken = record { slots = refl {a = q.slots.now}; lender = refl {a = q.slots.ghost_name} };
    }
