-- The two queues between controller and master: what each call does with the orders that wait, the answers that are uncollected, and the
-- slices under them. An order is let in only where its answer will have room too: so an order that is carried out never loses its answer.
-- A reader compares `room_outcome` with docs/QUEUES.md; the rest is told by the queue's own list.
use Rattle.std.specs.Prelude.{ℕ, ◌+◌, cond, ◌&&◌, List, ◌∷◌, [], ◌++◌, map, nat_lt}
use Rattle.values.specs.Refusals.{Outcome, gives, refuses, refuses_for}
use Rattle.telegrams.specs.Requests.{Sent}
use Rattle.queues.specs.Fifo.{held, OnlyTaken, OnlyPut}
use Rattle.orders.specs.Orders.{ordered, Told, told}
use Rattle.orders.specs.declared.pair.Queues.{Queues}

-- the orders that wait, and the answers that are uncollected
abbrev pub waiting : Queues → List Sent
waiting q = map ordered (held q.orders)

abbrev pub uncollected : Queues → List Told
uncollected q = map told (held q.answers)

-- letting an order in: how many wait in how many places, and how many answers are uncollected in how many places
abbrev pub room_outcome : ℕ → ℕ → ℕ → ℕ → Outcome (Unit {0})
room_outcome n order_room k answer_room =
    cond (nat_lt n order_room && nat_lt (n + k) answer_room) (gives tt) (refuses 0x8311)

-- the orders that wait after a placing of q that came to this
abbrev pub orders_after : Outcome (Unit {0}) → Sent → List Sent → List Sent
orders_after (gives u) q waiting = waiting ++ q ∷ []
orders_after (refuses_for n c) q waiting = waiting

-- the master served the controller: it took orders, and put answers
pub record Served (q q' : Queues) : Type 0 where
  pub orders : OnlyTaken q.orders q'.orders
  pub answers : OnlyPut q.answers q'.answers
