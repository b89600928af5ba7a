use Rattle.std.proofs.Common.{refl, ap}
use Rattle.telegrams.specs.Requests.{heard}
use Rattle.records.proofs.Written.{rows_sized}
use Rattle.phases.specs.Conversations.{done}
use Rattle.control.specs.Cycles.{Master, control_of}
use Rattle.control.proofs.Resting.{step_taken}
use Rattle.control.proofs.Serving.{answered_so, served_by_reply, served_by_data}
use Rattle.control.proofs.control.ExecutionControl.turn_after.Goals as goal

pub returns-in-Name-clause-rest : goal.returns-in-Name-clause-rest
returns-in-Name-clause-rest c =
    rw (c.take_step-in-Name.ensures.turn, c.in-Name.is)
    (ap (λ (d : Master). done d) (step_taken (control_of c.args.self.now) (control_of c.take_step-in-Name.new.self) c.args.queues.now c.in-Name.at.value _ (heard c.args.reply) _ c.in-Name.at.ok (rows_sized c.args.self.now.table.rows) c.hear_called.ensures c.take_step-in-Name.ensures.step))

pub returns-in-Exchange-clause-served : goal.returns-in-Exchange-clause-served
returns-in-Exchange-clause-served c = rw c.in-Exchange.is (served_by_data _ _ refl c.exchange_behind.ensures.served)

pub returns-in-Manage-clause-served : goal.returns-in-Manage-clause-served
returns-in-Manage-clause-served c =
    let end = c.finish.ensures in
    let o = c.in-Manage.order in
    rw c.in-Manage.is
    (served_by_reply o _ c.search_next.ensures.late end.served (λ next. answered_so c.args.queues.now c.finish.new.self o _ next refl end.orders end.answers end.slots end.served))
