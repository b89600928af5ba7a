use Rattle.std.proofs.Common.{◌∙◌, sym, arith}
use Rattle.control.specs.Cycles.{master_of}
use Rattle.control.proofs.Resting.{activate_none, activate_one, activate_end}
use Rattle.control.proofs.control.ExecutionControl.activate_from.Goals as goal

pub loop-a-preserved : goal.loop-a-preserved
loop-a-preserved c = λ q. c.loop-a.invariant q ∙ activate_none c.loop-a.a _ (master_of c.args.self.now q) (omega arith) (omega arith) c.in_default.ensures

pub returns-in-Some-clause-rest : goal.returns-in-Some-clause-rest
returns-in-Some-clause-rest c = λ q.
    activate_one c.loop-a.a _ (master_of c.args.self.now q) c.in-Some.to.value _ (omega arith) (omega arith) c.in-Some.ensures c.permanent_parameter.ensures ∙ sym (c.loop-a.invariant q)

pub returns-clause-rest : goal.returns-clause-rest
returns-clause-rest c = λ q. sym (c.loop-a.invariant q ∙ activate_end c.loop-a.a (master_of c.args.self.now q) (omega arith))
