use Rattle.std.proofs.Common.{rules}
use Rattle.control.proofs.control.ExecutionControl.search_next.Goals as goal

pub returns-in-Seek-clause-rest : goal.returns-in-Seek-clause-rest
returns-in-Seek-clause-rest c = λ q. search rules

pub returns-in-Name-clause-rest : goal.returns-in-Name-clause-rest
returns-in-Name-clause-rest c = λ q. search rules

pub returns-in-Some-clause-rest : goal.returns-in-Some-clause-rest
returns-in-Some-clause-rest c = λ q. search rules
