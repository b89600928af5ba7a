use Rattle.std.proofs.Common.{rules}
use Rattle.promise.proofs.Made.{made}
use Rattle.master.proofs.cycle.MasterWith+Queues.cycle.Goals as goal

pub returns-clause-made : goal.returns-clause-made
returns-clause-made g c = made _ _ _ _ (search rules) (search rules)
