use Rattle.std.proofs.Common.{rules}
use Rattle.control.specs.Cycles.{new_control}
use Rattle.control.proofs.control.ExecutionControl.new.Goals as goal

pub returns : goal.returns
unfolding new_control
returns c = search rules
