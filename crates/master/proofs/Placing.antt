-- Placing an order, as the rules' master tells it: orders and answers are counted alike.
use Rattle.std.proofs.Common.{◌≡◌, ℕ, List, map, length, sym, ap, ◌∙◌}
use Rattle.std.proofs.lemmas.List.{length-map}
use Rattle.values.specs.Refusals.{Outcome, gives, refuses_for}
use Rattle.telegrams.specs.Requests.{Sent}
use Rattle.queues.specs.Fifo.{held, room}
use Rattle.records.specs.Records.{rows}
use Rattle.orders.specs.Orders.{ordered, told}
use Rattle.orders.specs.declared.pair.Queues.{Queues}
use Rattle.control.specs.Cycles.{master_of}
use Rattle.control.specs.Placing.{place_outcome, Placed}
use Rattle.control.specs.declared.control.ExecutionControl.{ExecutionControl}
use Rattle.promise.specs.Successions.{placing_outcome, waiting_after}

pub counted_so : (m : ExecutionControl) (q : Queues) (o : Outcome Sent) → place_outcome m.phase (rows m.table.rows) (length (held q.orders)) (room q.orders) (length (held q.answers)) (room q.answers) o ≡ placing_outcome o (master_of m q)
counted_so m q o =
    ap (λ (n : ℕ). place_outcome m.phase (rows m.table.rows) n (room q.orders) (length (held q.answers)) (room q.answers) o) (sym (length-map (held q.orders) ordered))
    ∙ ap (λ (n : ℕ). place_outcome m.phase (rows m.table.rows) (length (map ordered (held q.orders))) (room q.orders) n (room q.answers) o) (sym (length-map (held q.answers) told))

pub placed_so : (o : Outcome Sent) (made made' : Outcome (Unit {0})) (before after : List Sent) → made ≡ made' → Placed o made before after → after ≡ waiting_after o made' before
placed_so (gives q) made made' before after e is = is ∙ ap (λ (m : Outcome (Unit {0})). waiting_after (gives q) m before) e
placed_so (refuses_for n c) made made' before after e is = is
