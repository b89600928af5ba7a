use Rattle.lists.proofs.Laws.{within_detected}
use Rattle.lists.proofs.pair.Lists.detect.Goals as goal

pub invariant_of-self : goal.invariant_of-self
invariant_of-self c =
    let old = c.args.self.now in
    record { ok = (rw c.with.ensures (within_detected old.lds old.las _ old.ok.0), old.ok.1) }
