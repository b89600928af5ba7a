-- Orders and answers on the log itself: which orders were placed and accepted, and which came back with answers, as a succession and what its calls came
-- to show both. The orders whose answers were collected are the first ones accepted, in their order; the others are pending.
-- Who keeps a log of his calls sees all of this without looking into the queues. It is said of any master, new or not: what was pending
-- before comes first.
use Rattle.std.specs.Prelude.{◌≡◌, Bool, true, false, cond, List, [], ◌∷◌, ◌++◌, map, replicate, slice_set}
use Rattle.values.specs.Refusals.{Outcome, gives, refuses_for}
use Rattle.telegrams.specs.Requests.{Sent, nibble, write_parameter}
use Rattle.stations.specs.Stations.{vacant, occupied, powered_up, with_parameter}
use Rattle.lines.specs.Lines.{Meaning}
use Rattle.orders.specs.Orders.{replied}
use Rattle.control.specs.declared.control.Phase.TheVariants.{Offline, Detection, Activation, Normal}
use Rattle.control.specs.Cycles.{Master, new_master}
use Rattle.promise.specs.Successions.{parameter, order_from, placing, collecting, Turn, cycling, calling, turned}
use Rattle.promise.specs.Outcomes.{Came, done, ran, collected, comes_to}

-- what the turns of a succession come to, one after another
abbrev pub all_come_to : List Turn → Master → List Came
all_come_to [] c = []
all_come_to (t ∷ ts) c = comes_to t c ∷ all_come_to ts (turned t c)

-- The orders placed and accepted

abbrev pub was_done : Came → Bool
was_done done = true
was_done y = false

abbrev pub made_order : Outcome Sent → List Sent
made_order (gives o) = o ∷ []
made_order (refuses_for n k) = []

-- the order that this turn placed, where it came to this
abbrev pub placed_by : Turn → Came → List Sent
placed_by (calling (placing w)) y = cond (was_done y) (made_order (order_from w)) []
placed_by t y = []

abbrev pub orders_placed : List Turn → List Came → List Sent
orders_placed (t ∷ ts) (y ∷ ys) = placed_by t y ++ orders_placed ts ys
orders_placed ts ys = []

-- The orders whose answers were collected

abbrev pub order_told : Came → List Sent
order_told (collected x) = x.order ∷ []
order_told y = []

abbrev pub orders_collected : List Came → List Sent
orders_collected [] = []
orders_collected (y ∷ ys) = order_told y ++ orders_collected ys

-- The orders in between: those whose answers are uncollected, and then those that wait

abbrev pub pending : Master → List Sent
pending c = map (λ x. x.order) c.answers ++ c.orders

-- From master c the turns of a succession came to this and led to master c': what was pending and what was accepted since is what was collected and what
-- is pending now, all in one order
abbrev pub InOrder : Master → List Turn → List Came → Master → Type 0
InOrder c ts ys c' = pending c ++ orders_placed ts ys ≡ orders_collected ys ++ pending c'

-- An example, which the checker computes: one module stands at address 1, and once it is active a parameter is ordered for it, a cycle
-- carries the order out, and its answer is collected

abbrev one_module : Meaning
one_module = record { power = true; places = slice_set (replicate 32 vacant) 1 (occupied (with_parameter 15 (powered_up 1 1 9))) }

abbrev pub one_order : List Turn
one_order =
    cycling one_module
    ∷ cycling one_module
    ∷ cycling one_module
    ∷ calling (placing (parameter 1 5))
    ∷ cycling one_module
    ∷ calling collecting
    ∷ []

abbrev the_order : Sent
the_order = record { to = 1; asking = write_parameter 5 }

abbrev pub one_order_log : List Came
one_order_log =
    ran Offline 0
    ∷ ran Detection 33
    ∷ ran Activation 1
    ∷ done
    ∷ ran Normal 3
    ∷ collected (record { order = the_order; how = replied (nibble 5) })
    ∷ []

pub record OneOrder : Type 0 where
  pub log : all_come_to one_order (new_master 1 1) ≡ one_order_log
  pub accepted : orders_placed one_order one_order_log ≡ the_order ∷ []
  pub told : orders_collected one_order_log ≡ the_order ∷ []
