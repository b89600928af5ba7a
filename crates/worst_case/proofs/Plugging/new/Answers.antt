use Rattle.std.proofs.Common.{rules}
use Rattle.values.specs.Tables.{table}
use Rattle.worst_case.proofs.Plugging.new.Goals as goal

pub returns : goal.returns
unfolding table
returns c = search rules
