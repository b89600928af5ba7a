use Rattle.lists.proofs.Laws.{within_forgotten, even_removed}
use Rattle.lists.proofs.pair.Lists.forget.Goals as goal

pub invariant_of-self : goal.invariant_of-self
invariant_of-self c =
    let old = c.args.self.now in
    record {
      ok = (
        rw (c.without.ensures, c.without-2.ensures) (within_forgotten old.lds old.las _ old.ok.0),
        rw c.without-2.ensures (even_removed old.las _ old.ok.1),
      );
    }
