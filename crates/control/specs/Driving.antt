-- A cycle that is driven request by request: what is said as it begins, and of each reply that is heard.
-- What is left of the cycle is a conversation, for every reply that may come (`rest_of`); what it comes to on a line is `cycle`. A reader compares both
-- records with "Request by request" in docs/CYCLE.md.
use Rattle.std.specs.Prelude.{length, ◌≡◌, ◌+◌, ◌≤◌, ◌<◌, Bool}
use Rattle.telegrams.specs.Requests.{Heard}
use Rattle.records.specs.Records.{rows}
use Rattle.phases.specs.Conversations.{when_heard, on_line}
use Rattle.lines.specs.Lines.{Meaning}
use Rattle.orders.specs.declared.pair.Queues.{Queues}
use Rattle.control.specs.declared.control.ExecutionControl.{ExecutionControl}
use Rattle.control.specs.declared.engine.Cycle.{Cycle}
use Rattle.control.specs.Cycles.{control_of, master_of, phase_with, cycle}
use Rattle.control.specs.Cycling.{course_of, begun}
use Rattle.control.specs.AnyReplies.{most_in, AsksOnAnyWire}
use Rattle.control.specs.Turns.{left, left_at, Asks, AsksNothing, heard_at}
use Rattle.control.specs.Serving.{ServedUpTo, ServedBetween}

-- cycle x began, with power up or not
pub record Begins (powered : Bool) (m : ExecutionControl) (q : Queues) (x : Cycle) (m' : ExecutionControl) (q' : Queues) : Type 0 where
  -- the phase is that of the rules, and nothing was heard yet
  pub phase : x.phase ≡ phase_with powered (control_of m)
  pub none : x.requests ≡ 0
  -- the whole conversation is ahead; on any wire it asks what is due, and ends
  pub rest : left x.turn m' q' ≡ begun powered m q
  pub any_wire : AsksOnAnyWire x.phase (rows m.table.rows) (left x.turn m' q')
  -- where the replies are those of a line, it comes to the cycle of which the promise is: whoever hears them to the end is where that leads
  pub on_a_line :
      (l : Meaning) → l.power ≡ powered → length l.places ≡ 32
      → on_line powered (left x.turn m' q') l.places ≡ course_of (cycle (master_of m q) l)
  pub few : left_at x.turn ≤ most_in x.phase
  -- where something is asked, nothing has changed yet, and the queues are served at most once
  pub waits : Asks x.turn → control_of m' ≡ control_of m
  pub served : ServedUpTo x.phase x.turn q q'

-- h was heard while cycle x was under way
pub record Hears (h : Heard) (m : ExecutionControl) (q : Queues) (x : Cycle) (m' : ExecutionControl) (q' : Queues) (x' : Cycle) : Type 0 where
  pub goes_on : left x'.turn m' q' ≡ when_heard h (left x.turn m q)
  pub phase : x'.phase ≡ x.phase
  -- one request more has had its reply, and fewer are left
  pub counted : Asks x.turn → x'.requests ≡ x.requests + 1
  pub nearer : Asks x.turn → left_at x'.turn < left_at x.turn
  -- while something more is asked, only the row of the address that was asked has changed
  pub waits : Asks x'.turn → control_of m' ≡ heard_at x.turn h (control_of m)
  pub served : ServedBetween x.turn x'.turn q q'
  -- where nothing was asked, nothing changes
  pub same_control : AsksNothing x.turn → m' ≡ m
  pub same_queues : AsksNothing x.turn → q' ≡ q
  pub same_cycle : AsksNothing x.turn → x' ≡ x
