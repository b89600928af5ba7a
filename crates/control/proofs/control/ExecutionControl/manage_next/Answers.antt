use Rattle.std.proofs.Common.{ℕ, ◌∙◌, sym, refl, ap}
use Rattle.orders.specs.Orders.{ordered}
use Rattle.records.specs.Rows.{row_at}
use Rattle.records.specs.Records.{rows}
use Rattle.control.specs.Cycles.{control_of, master_of}
use Rattle.control.specs.Cycling.{searching}
use Rattle.control.proofs.Resting.{order_next, order_sent, order_idle, put_so}
use Rattle.control.proofs.Serving.{answered_so, served_at_once}
use Rattle.control.proofs.control.ExecutionControl.manage_next.Goals as goal

pub returns-then-is_active-clause-rest : goal.returns-then-is_active-clause-rest
returns-then-is_active-clause-rest c =
    let next = order_next (control_of c.args.self.now) c.args.queues.now c.in-Some.order c.in-Some.ensures in
    sym (order_sent (ordered c.in-Some.order) (master_of c.args.self.now c.args.queues.now) next.1 next.0 (ap (λ (a : ℕ). (row_at a (rows c.args.self.now.table.rows)).active) (sym c.address.ensures) ∙ sym c.if-is_active.ensures))

pub returns-clause-rest : goal.returns-clause-rest
returns-clause-rest c =
    let next = order_next (control_of c.args.self.now) c.args.queues.now c.in-Some.order c.in-Some.ensures in
    c.search_next-2.ensures.rest c.finish.new.self
    ∙ ap searching (put_so (control_of c.args.self.now) c.args.queues.now c.finish.new.self _ c.finish.ensures.orders c.finish.ensures.answers c.finish.ensures.served)
    ∙ sym (order_idle (ordered c.in-Some.order) (master_of c.args.self.now c.args.queues.now) next.1 next.0 (ap (λ (a : ℕ). (row_at a (rows c.args.self.now.table.rows)).active) (sym c.address.ensures) ∙ sym c.if-is_active.ensures))

pub returns-clause-served : goal.returns-clause-served
returns-clause-served c =
    let end = c.finish.ensures in
    served_at_once _ c.search_next-2.ensures.late
    (answered_so c.args.queues.now c.finish.new.self c.in-Some.order _ c.in-Some.ensures refl end.orders end.answers
    end.slots end.served)
