-- Management takes the oldest order, where one waits and the answer queue is not full. An order for an address that is not in LAS ends
-- with 8382, and nothing is sent. Any other is sent, and ends with what is heard. Where any nibble answers a parameter order, the ordered value
-- becomes PI.
-- A reader compares it with docs/CYCLE.md.
use Rattle.std.specs.Prelude.{Bool, cond, length, None, Option, nat_lt}
use Rattle.telegrams.specs.Requests.{Asking, Heard, nibble, silence, disturbed, data_exchange, write_parameter, read_io, read_id, resetting}
use Rattle.stations.specs.Stations.{Place}
use Rattle.queues.specs.Fifo.{held, room, oldest_of}
use Rattle.records.specs.Rows.{Row}
use Rattle.phases.specs.Activation.{with_pi}
use Rattle.phases.specs.Dialogues.{Dialogue, comes, asks, whether}
use Rattle.phases.specs.Visits.{Visit, visit_by, told_by}
use Rattle.orders.specs.Orders.{Ending, replied, inactive}
use Rattle.orders.specs.declared.order.Order.{Order}
use Rattle.orders.specs.declared.pair.Queues.{Queues}

-- the module took the request
abbrev pub taken : Asking → Row → Row
taken (data_exchange n) r = r
taken (write_parameter n) r = with_pi n r
taken read_io r = r
taken read_id r = r
taken resetting r = r

abbrev pub managed : Asking → Row → Heard → Row
managed q r (nibble n) = taken q r
managed q r silence = r
managed q r disturbed = r

-- what becomes of the row and of the order
pub record Ended : Type 0 where
  pub row : Row
  pub how : Ending

abbrev pub order_asking : Asking → Row → Dialogue Ended
order_asking q r = asks q (λ h. comes (record { row = managed q r h; how = replied h }))

abbrev pub manage_dialogue : Asking → Row → Dialogue Ended
manage_dialogue q r = whether r.active (order_asking q r) (comes (record { row = r; how = inactive }))

abbrev pub manage_visit : Bool → Asking → Row → Place → Visit
manage_visit power q r p = visit_by (λ e. e.row) power (manage_dialogue q r) p

abbrev pub manage_ending : Bool → Asking → Row → Place → Ending
manage_ending power q r p = told_by (λ e. e.how) power (manage_dialogue q r) p

-- the order that is taken: the oldest, where its answer has room
abbrev pub next_order : Queues → Option Order
next_order q = cond (nat_lt (length (held q.answers)) (room q.answers)) (oldest_of (held q.orders)) None
