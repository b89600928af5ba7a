-- What a cycle leaves of the two queues and of the slices under them. A normal cycle answers the
-- order that is next, where one is. A cycle that takes no order, whatever its phase, leaves both
-- queues and their slices as they were.
-- A cycle that is driven request by request changes the queues once, as it comes past management:
-- `ServedUpTo` says what has become of them at a turn, and `ServedBetween` from one turn to the
-- next. That together they come to `ServedIn` is proved (`served_on` and `served_over`).
-- A reader compares `ServedIn` with docs/CYCLE.md.
use Rattle.std.specs.Prelude.{◌≡◌, Bool, true, false, Some, None, Option, [], ◌∷◌, ◌++◌}
use Rattle.queues.specs.Fifo.{held, slots_after}
use Rattle.orders.specs.Management.{next_order}
use Rattle.orders.specs.Queues.{Served}
use Rattle.orders.specs.declared.order.Answer.{Answer}
use Rattle.orders.specs.declared.order.Order.{Order}
use Rattle.orders.specs.declared.pair.Queues.{Queues}
use Rattle.control.specs.declared.control.Phase.{Phase}
use Rattle.control.specs.declared.control.Phase.TheVariants.{Offline, Detection, Activation, Normal}
use Rattle.control.specs.declared.turn.Turn.{Turn}
use Rattle.control.specs.declared.turn.Turn.TheVariants.{Over, DetectIo, DetectId, Activate, Exchange, Manage, Seek, Name, Enter}

-- order o was the oldest and is taken, and an answer to it is put behind the others: no other place
-- of a slice is written
pub record Answered (o : Order) (q q' : Queues) : Type 0 where
  pub answer : Answer
  pub to : answer.order ≡ o
  pub taken : held q.orders ≡ o ∷ held q'.orders
  pub put : held q'.answers ≡ held q.answers ++ answer ∷ []
  pub written : q'.answers.slots.now ≡ slots_after q.answers answer
  pub served : Served q q'

-- a cycle ran in this phase, and this order was next as it began
abbrev pub ServedIn : Phase → Option Order → Queues → Queues → Type 0
ServedIn Offline next q q' = q' ≡ q
ServedIn Detection next q q' = q' ≡ q
ServedIn Activation next q q' = q' ≡ q
ServedIn Normal None q q' = q' ≡ q
ServedIn Normal (Some o) q q' = Answered o q q'

-- At a turn

-- an order may still end in this cycle
abbrev pub before_answer : Turn → Bool
before_answer Over = false
before_answer (DetectIo a) = false
before_answer (DetectId a n) = false
before_answer (Activate a n) = false
before_answer (Exchange a n) = true
before_answer (Manage o) = true
before_answer (Seek a) = false
before_answer (Name a n) = false
before_answer (Enter a n) = false

-- where an order is being carried out, that one is next
abbrev pub CarriesNext : Turn → Queues → Type 0
CarriesNext t q = (o : Order) → t ≡ Manage o → next_order q ≡ Some o

-- a cycle that runs in this phase stands at turn t: it found the queues as q, and now they are q'
pub record ServedUpTo (phase : Phase) (t : Turn) (q q' : Queues) : Type 0 where
  pub early : before_answer t ≡ true → (q' ≡ q) × (phase ≡ Normal)
  pub late : before_answer t ≡ false → ServedIn phase (next_order q) q q'
  pub carries : CarriesNext t q'

-- from one turn to the next the queues stay as they are, but where the cycle comes past management
pub record ServedBetween (t t' : Turn) (q q' : Queues) : Type 0 where
  pub served : Served q q'
  pub early : before_answer t' ≡ true → (q' ≡ q) × (before_answer t ≡ true)
  pub past :
      CarriesNext t q → before_answer t ≡ true → before_answer t' ≡ false
      → ServedIn Normal (next_order q) q q'
  pub late : before_answer t ≡ false → q' ≡ q
  pub carries : CarriesNext t' q'
