-- Successions: what the controller may do with one master and its queues from new, call by call, and what has become of them afterwards.
-- A succession is a list of cycles, each with the line as it met it, and of other calls with any numbers. What a refused call leaves is what it found.
-- Nothing is decided here: each call does what the definition says that its contract cites.
use Rattle.std.specs.Prelude.{ℕ, Bool, List, [], ◌∷◌, length}
use Rattle.values.specs.Refusals.{Outcome, gives, refuses_for}
use Rattle.queues.specs.Fifo.{take_after}
use Rattle.telegrams.specs.Requests.{Sent, with_nibble, write_parameter}
use Rattle.records.specs.Rows.{Row, outputs_after}
use Rattle.records.specs.Modes.{mode_after}
use Rattle.records.specs.Edits.{Edit, edit_after, all_edited}
use Rattle.records.specs.declared.record.Mode.{Mode}
use Rattle.records.specs.declared.record.Mode.TheVariants.{Configuration}
use Rattle.orders.specs.Orders.{reset_ordered, Told}
use Rattle.orders.specs.Queues.{orders_after}
use Rattle.control.specs.Placing.{place_outcome}
use Rattle.lines.specs.Lines.{Meaning}
use Rattle.control.specs.Cycles.{Control, Master, with_rows, with_mode, with_control, cycle}

-- an order as the controller asks for it, with any numbers
pub data Placement : Type 0 where
  parameter : ℕ → ℕ → Placement
  reset : ℕ → Placement

abbrev pub order_from : Placement → Outcome Sent
order_from (parameter a n) = with_nibble write_parameter a n
order_from (reset a) = reset_ordered a

-- what is read of the master, what is written to it and what is set, each with any numbers

pub data Reading : Type 0 where
  of_inputs : ℕ → Reading
  of_lists : Reading

pub data Writing : Type 0 where
  of_outputs : ℕ → ℕ → Writing

pub data Setting : Type 0 where
  of_mode : Mode → Setting
  of_offline : Bool → Setting

-- the calls other than the cycle; all the edits of a projection, from its opening to its end, are one call
pub data Call : Type 0 where
  placing : Placement → Call
  collecting : Call
  reading : Reading → Call
  writing : Writing → Call
  setting : Setting → Call
  editing : Edit → Call
  projecting_all : List Edit → Call

pub data Turn : Type 0 where
  cycling : Meaning → Turn
  calling : Call → Turn

-- What a call makes of the master

abbrev pub placing_outcome : Outcome Sent → Master → Outcome (Unit {0})
placing_outcome q c =
    place_outcome c.control.phase c.control.rows (length c.orders) c.order_room (length c.answers) c.answer_room q

abbrev pub waiting_after : Outcome Sent → Outcome (Unit {0}) → List Sent → List Sent
waiting_after (gives q) o waiting = orders_after o q waiting
waiting_after (refuses_for n c) o waiting = waiting

abbrev pub with_queues : List Sent → List Told → Master → Master
with_queues os xs c = record c { orders = os; answers = xs }

abbrev pub with_offline : Bool → Control → Control
with_offline on m = record m { offline = on }

abbrev pub written : Writing → List Row → List Row
written (of_outputs a n) rs = outputs_after a n rs

abbrev pub set_by : Setting → Control → Control
set_by (of_mode mode) m = with_mode (mode_after mode m.mode m.rows) m
set_by (of_offline on) m = with_offline on m

abbrev pub called : Call → Master → Master
called (placing w) c = with_queues (waiting_after (order_from w) (placing_outcome (order_from w) c) c.orders) c.answers c
called collecting c = with_queues c.orders (take_after c.answers) c
called (reading r) c = c
called (writing w) c = with_control (with_rows (written w c.control.rows) c.control) c
called (setting s) c = with_control (set_by s c.control) c
called (editing e) c = with_control (with_rows (edit_after c.control.mode e c.control.rows) c.control) c
called (projecting_all es) c = with_control (with_rows (all_edited Configuration es c.control.rows) c.control) c

abbrev pub turned : Turn → Master → Master
turned (cycling line) c = (cycle c line).master
turned (calling k) c = called k c

-- the master after a succession
abbrev pub after : List Turn → Master → Master
after [] c = c
after (t ∷ ts) c = after ts (turned t c)

-- The cycles of a succession, each with the master and the line as it began

pub record Met : Type 0 where
  pub master : Master
  pub line : Meaning

abbrev pub cycles : Master → List Turn → List Met
cycles c [] = []
cycles c (cycling line ∷ ts) = record { master = c; line = line } ∷ cycles (cycle c line).master ts
cycles c (calling k ∷ ts) = cycles (called k c) ts
