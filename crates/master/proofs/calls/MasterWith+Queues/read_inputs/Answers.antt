use Rattle.std.proofs.Common.{rules}
use Rattle.promise.proofs.Made.{made}
use Rattle.master.proofs.calls.MasterWith+Queues.read_inputs.Goals as goal

pub returns : goal.returns
returns c = record { called = made _ _ _ _ (search rules) (search rules) }
