use Rattle.std.proofs.Common.{refl, ap}
use Rattle.promise.specs.Outcomes.{lists}
use Rattle.promise.proofs.Made.{made}
use Rattle.master.proofs.Reading.{shown_so}
use Rattle.master.proofs.calls.MasterWith+Queues.read_lists.Goals as goal

pub returns : goal.returns
returns c = record { called = made _ _ _ _ (ap lists (shown_so c.args.self.now.control c.read_lists.result c.read_lists.ensures)) refl }
