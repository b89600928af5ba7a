use Rattle.queues.proofs.Held.{held_at}
use Rattle.queues.proofs.queue.Queue.at.Goals as goal

pub returns : goal.returns
returns g c =
    held_at c.args.self.now c.args.k c.place.result c.index-slots-place.result c.requires c.place.ensures.is c.index-slots-place.is
