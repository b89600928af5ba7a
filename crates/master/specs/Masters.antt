-- A master of the program, seen as the rules see it, and what its calls say.
-- Nothing is decided here. What a call comes to and what it leaves is said for the rules' master (`comes_to` and `turned` of the crate `promise`), and so
-- is that the promise goes on to hold (`Made`): here it is only said of the program's values. A reader compares the calls with docs/RECORD.md, and a cycle
-- with docs/CYCLE.md.
use Rattle.std.specs.Prelude.{◌≡◌, List, Result}
use Rattle.values.specs.Tables.{table}
use Rattle.values.specs.Ranges.{Nibble}
use Rattle.values.specs.Refusals.{outcome}
use Rattle.values.specs.declared.refusal.Refusal.{Refusal}
use Rattle.telegrams.specs.Requests.{Sent}
use Rattle.lists.specs.Members.{has}
use Rattle.lines.specs.Lines.{Meaning}
use Rattle.queues.specs.Fifo.{OnlyTaken, OnlyPut}
use Rattle.orders.specs.Management.{next_order}
use Rattle.orders.specs.Orders.{told}
use Rattle.orders.specs.declared.order.Answer.{Answer}
use Rattle.orders.specs.declared.pair.Queues.{Queues}
use Rattle.control.specs.Cycles.{Master, control_of, master_of, running, cycle}
use Rattle.control.specs.Serving.{ServedIn}
use Rattle.control.specs.declared.control.Listing.{Listing}
use Rattle.control.specs.declared.cycle.Report.{Report}
use Rattle.promise.specs.Successions.{Call, placing, collecting, reading, writing, setting, editing, projecting_all, Turn, cycling, calling}
use Rattle.promise.specs.Outcomes.{Came, ran, collected, inputs, came_from, simply, Shown}
use Rattle.promise.specs.Calls.{Made}
use Rattle.master.specs.declared.master.MasterWith.{MasterWith}

-- A master of the program

abbrev pub state_of : MasterWith Queues → Master
state_of m = master_of m.control m.queues

-- What a call gave, as the rules say what it comes to

abbrev pub done_or : Result (Unit {0}) Refusal → Came
done_or r = simply (outcome {A = Unit {0}} {B = Unit {0}} (λ u. u) r)

abbrev pub told_or : Result Answer Refusal → Came
told_or r = came_from collected (outcome told r)

abbrev pub inputs_or : Result Nibble Refusal → Came
inputs_or r = came_from inputs (outcome (λ n. n.value) r)

abbrev pub shown : Listing → Shown
shown r =
    record {
      lds = table (has r.lds);
      las = table (has r.las);
      lps = table (has r.lps);
      config_ok = r.config_ok;
      address_zero = r.address_zero;
      configuration_active = r.configuration_active;
      normal_operation_active = r.normal_operation_active;
      power_fail = r.power_fail;
      offline = r.offline;
    }

-- What is said of a call, and of a cycle

-- call k met the first master, came to this, and left the second
abbrev pub Calls : Call → MasterWith Queues → Came → MasterWith Queues → Type 0
Calls k m y m' = Made (calling k) (state_of m) y (state_of m')

-- a cycle met this line and the first master, reported this, and left the second
abbrev pub Runs : Meaning → MasterWith Queues → Report → MasterWith Queues → Type 0
Runs line m r m' = Made (cycling line) (state_of m) (ran r.phase r.requests) (state_of m')

-- the line that a cycle leaves, and the requests that it sends

abbrev pub line_behind : Meaning → MasterWith Queues → Meaning
line_behind line m = (cycle (state_of m) line).line

abbrev pub sent_in : Meaning → MasterWith Queues → List Sent
sent_in line m = (cycle (state_of m) line).sent

-- What a turn of a succession leaves of the two queues and of the slices under them: a cycle answers the order that is next, where it takes one; placing
-- puts an order, collecting takes an answer, and no other call touches them

abbrev pub QueuesCalled : Call → Queues → Queues → Type 0
QueuesCalled (placing w) q q' = OnlyPut q.orders q'.orders × (q'.answers ≡ q.answers)
QueuesCalled collecting q q' = OnlyTaken q.answers q'.answers × (q'.orders ≡ q.orders)
QueuesCalled (reading r) q q' = q' ≡ q
QueuesCalled (writing w) q q' = q' ≡ q
QueuesCalled (setting s) q q' = q' ≡ q
QueuesCalled (editing e) q q' = q' ≡ q
QueuesCalled (projecting_all es) q q' = q' ≡ q

abbrev pub QueuesLeft : Turn → MasterWith Queues → MasterWith Queues → Type 0
QueuesLeft (cycling line) m m' = ServedIn (running (control_of m.control) line) (next_order m.queues) m.queues m'.queues
QueuesLeft (calling k) m m' = QueuesCalled k m.queues m'.queues

-- both queues still lie in the slices that were lent to them
pub record SameSlices (q q' : Queues) : Type 0 where
  pub orders : q'.orders.slots.ghost_name ≡ q.orders.slots.ghost_name
  pub answers : q'.answers.slots.ghost_name ≡ q.answers.slots.ghost_name
