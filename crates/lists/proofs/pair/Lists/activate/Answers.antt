use Rattle.std.proofs.Common.{arith}
use Rattle.lists.proofs.Laws.{within_activated, even_joined}
use Rattle.lists.proofs.pair.Lists.activate.Goals as goal

pub invariant_of-self : goal.invariant_of-self
invariant_of-self c =
    let old = c.args.self.now in
    let a = c.from-to.result.value in
    record {
      ok = (
        rw (c.with.ensures, c.with-2.ensures) (within_activated old.lds old.las a old.ok.0),
        rw c.with-2.ensures (even_joined old.las a (omega arith) old.ok.1),
      );
    }
