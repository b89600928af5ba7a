-- Placing an order: when it is refused, and what the queue holds afterwards.
-- The refusals come in the order of the product's table: a bad address, a bad value, a wrong phase, an inactive address, no room.
-- A reader compares the order of the tests with docs/REFUSALS.md.
use Rattle.std.specs.Prelude.{◌≡◌, ℕ, Bool, true, false, cond, List, length, Result}
use Rattle.values.specs.declared.refusal.Refusal.{Refusal}
use Rattle.values.specs.Refusals.{Outcome, gives, refuses, refuses_for, outcome}
use Rattle.telegrams.specs.Requests.{Sent}
use Rattle.queues.specs.Fifo.{held, room, UnchangedIfRefused, OnlyPut}
use Rattle.records.specs.Rows.{Row, row_at}
use Rattle.records.specs.Records.{rows}
use Rattle.orders.specs.Queues.{waiting, room_outcome, orders_after}
use Rattle.orders.specs.declared.pair.Queues.{Queues}
use Rattle.control.specs.declared.control.ExecutionControl.{ExecutionControl}
use Rattle.control.specs.declared.control.Phase.{Phase}
use Rattle.control.specs.declared.control.Phase.TheVariants.{Offline, Detection, Activation, Normal}

abbrev pub is_normal : Phase → Bool
is_normal Offline = false
is_normal Detection = false
is_normal Activation = false
is_normal Normal = true

-- placing an order, or what making it came to: in which phase, with which rows, how many orders wait in how many places, and how many
-- answers are uncollected in how many places
abbrev pub place_outcome : Phase → List Row → ℕ → ℕ → ℕ → ℕ → Outcome Sent → Outcome (Unit {0})
place_outcome phase rs n order_room k answer_room (refuses_for e c) = refuses_for e c
place_outcome phase rs n order_room k answer_room (gives q) =
    cond (is_normal phase)
    (cond (row_at q.to rs).active
    (room_outcome n order_room k answer_room)
    (refuses 0x8382))
    (refuses 0x8384)

-- the orders that wait before and after a placing that came to o
abbrev pub Placed : Outcome Sent → Outcome (Unit {0}) → List Sent → List Sent → Type 0
Placed (refuses_for n c) o before after = after ≡ before
Placed (gives q) o before after = after ≡ orders_after o q before

-- a master placed what making an order came to: what it came to, and the queues before and afterwards
pub record PlacedBy (m : ExecutionControl) (q : Outcome Sent) (before : Queues) (r : Result (Unit {0}) Refusal) (after : Queues) : Type 0 where
  pub came_to :
      outcome (λ u. u) r
      ≡ place_outcome m.phase (rows m.table.rows) (length (held before.orders)) (room before.orders) (length (held before.answers)) (room before.answers) q
  pub waits : Placed q (outcome (λ u. u) r) (waiting before) (waiting after)
  pub refused : UnchangedIfRefused r before after
  pub orders : OnlyPut before.orders after.orders
  pub answers : after.answers ≡ before.answers
