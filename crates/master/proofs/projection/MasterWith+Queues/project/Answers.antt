use Rattle.std.proofs.Common.{rules}
use Rattle.promise.proofs.Made.{made}
use Rattle.master.proofs.projection.MasterWith+Queues.project.Goals as goal

pub returns-clause-called : goal.returns-clause-called
returns-clause-called c = made _ _ _ _ (search rules) (search rules)
