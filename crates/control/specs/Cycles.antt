-- One cycle: from a master with its queues and the line as the cycle meets it, to both afterwards and the requests that were sent.
-- A cycle runs in one of four phases. Where the offline phase is requested or power is down it runs in the offline phase, whatever came
-- before. Every part of a cycle is made of visits: exchange, detection and activation visit each address, management and search visit only
-- one. What is asked of one address, and what each reply makes of it, is not said here but by the dialogues that the visits come of.
-- How the parts are put together Cycling.antt says for every reply that may come; that both come to the same on a line is proved
-- (`cycle_on_line`). A reader compares `run` and the parts that it names with docs/CYCLE.md.
use Rattle.std.specs.Prelude.{◌≡◌, ℕ, Bool, false, cond, not, ◌||◌, List, [], ◌∷◌, ◌++◌, length, ◌==◌, nat_lt}
use Rattle.values.specs.Tables.{table}
use Rattle.telegrams.specs.Requests.{Sent}
use Rattle.stations.specs.Stations.{Place}
use Rattle.lines.specs.Lines.{Meaning, at}
use Rattle.queues.specs.Fifo.{room}
use Rattle.records.specs.Rows.{Row, row_at, new_rows}
use Rattle.records.specs.Records.{rows}
use Rattle.records.specs.declared.record.Mode.{Mode}
use Rattle.records.specs.declared.record.Mode.TheVariants.{Configuration}
use Rattle.phases.specs.Visits.{Visit, left_alone, sent_below}
use Rattle.phases.specs.Exchange.{dropped, exchange_visit}
use Rattle.phases.specs.Detection.{detect_visit}
use Rattle.phases.specs.Activation.{activate_visit}
use Rattle.orders.specs.Orders.{Ending, Told}
use Rattle.orders.specs.Management.{manage_visit, manage_ending}
use Rattle.orders.specs.Queues.{waiting, uncollected}
use Rattle.orders.specs.declared.pair.Queues.{Queues}
use Rattle.search.specs.Steps.{Stage, seek, stage}
use Rattle.search.specs.Searches.{search_visit, taken_by, next_step}
use Rattle.control.specs.declared.control.ExecutionControl.{ExecutionControl}
use Rattle.control.specs.declared.control.Phase.{Phase}
use Rattle.control.specs.declared.control.Phase.TheVariants.{Offline, Detection, Activation, Normal}

-- What a cycle starts from

-- the execution control: mode, offline request, power fail, phase, search step, and a row for each address
pub record Control : Type 0 where
  pub mode : Mode
  pub offline : Bool
  pub power_fail : Bool
  pub phase : Phase
  pub step : Stage
  pub rows : List Row

-- a master with its two queues: the orders that wait, the answers that are uncollected, and how many of each there may be
pub record Master : Type 0 where
  pub control : Control
  pub orders : List Sent
  pub answers : List Told
  pub order_room : ℕ
  pub answer_room : ℕ

abbrev pub control_of : ExecutionControl → Control
control_of m =
    record {
      mode = m.table.mode;
      offline = m.offline;
      power_fail = m.power_fail;
      phase = m.phase;
      step = stage m.step;
      rows = rows m.table.rows;
    }

abbrev pub master_of : ExecutionControl → Queues → Master
master_of m q =
    record { control = control_of m; orders = waiting q; answers = uncollected q; order_room = room q.orders; answer_room = room q.answers }

unfoldable pub new_control : Control
new_control = record { mode = Configuration; offline = false; power_fail = false; phase = Offline; step = seek 0; rows = new_rows }

-- a new master, with empty queues
abbrev pub new_master : ℕ → ℕ → Master
new_master order_room answer_room =
    record { control = new_control; orders = []; answers = []; order_room = order_room; answer_room = answer_room }

-- A moment of a cycle: what has become of master and line so far, and what was sent
pub record Scene : Type 0 where
  pub master : Master
  pub line : Meaning
  pub sent : List Sent

abbrev pub beginning : Master → Meaning → Scene
beginning c line = record { master = c; line = line; sent = [] }

abbrev pub with_rows : List Row → Control → Control
with_rows rs m = record m { rows = rs }

abbrev pub with_mode : Mode → Control → Control
with_mode mode m = record m { mode = mode }

abbrev pub with_phase : Phase → Control → Control
with_phase p m = record m { phase = p }

abbrev pub with_step : Stage → Control → Control
with_step t m = record m { step = t }

abbrev pub with_control : Control → Master → Master
with_control m c = record c { control = m }

-- Visits

abbrev pub visit_made : (ℕ → Row → Place → Visit) → Scene → ℕ → Visit
visit_made visit s a = visit a (row_at a s.master.control.rows) (at s.line.places a)

-- each address is visited, lowest first
unfoldable pub everywhere : (ℕ → Row → Place → Visit) → Scene → Scene
everywhere visit s =
    record {
      master = with_control (with_rows (table (λ a. (visit_made visit s a).row)) s.master.control) s.master;
      line = record { power = s.line.power; places = table (λ a. (visit_made visit s a).place) };
      sent = s.sent ++ sent_below 32 (λ a. (visit_made visit s a).sent);
    }

-- only address b is visited
abbrev pub only : ℕ → (Row → Place → Visit) → ℕ → Row → Place → Visit
only b visit a r p = cond (a == b) (visit r p) (left_alone r p)

-- The parts of a normal cycle

abbrev pub exchange : Scene → Scene
exchange s = everywhere (λ a. exchange_visit s.line.power) s

-- how an order ends that is carried out at this moment
abbrev pub ending_at : Scene → Sent → Ending
ending_at s o = manage_ending s.line.power o.asking (row_at o.to s.master.control.rows) (at s.line.places o.to)

-- order o has ended so, and these wait behind it
abbrev pub answered : Sent → Ending → List Sent → Scene → Scene
answered o end rest s =
    record s { master = record s.master { orders = rest; answers = s.master.answers ++ record { order = o; how = end } ∷ [] } }

abbrev pub carry_out : Sent → List Sent → Scene → Scene
carry_out o rest s = answered o (ending_at s o) rest (everywhere (only o.to (manage_visit s.line.power o.asking)) s)

abbrev pub manage_by : List Sent → Scene → Scene
manage_by [] s = s
manage_by (o ∷ rest) s = cond (nat_lt (length s.master.answers) s.master.answer_room) (carry_out o rest s) s

unfoldable pub manage : Scene → Scene
manage s = manage_by s.master.orders s

abbrev pub stepping : Stage → Scene → Scene
stepping t s = record s { master = with_control (with_step t s.master.control) s.master }

-- the search is at step t, and takes address b
abbrev pub search_at : Stage → ℕ → Scene → Scene
search_at t b s =
    stepping (next_step s.master.control.mode s.line.power t b (row_at b s.master.control.rows) (at s.line.places b))
    (everywhere (only b (search_visit s.master.control.mode s.line.power t b)) s)

abbrev pub search_from : Stage → Scene → Scene
search_from t s = search_at t (taken_by s.master.control.rows t) s

unfoldable pub search_on : Scene → Scene
search_on s = search_from s.master.control.step s

-- The phases

abbrev pub phased : Phase → Scene → Scene
phased p s = record s { master = with_control (with_phase p s.master.control) s.master }

-- the offline phase is requested, or power is down
abbrev pub held_off : Control → Bool → Bool
held_off m power = m.offline || not power

-- the phase in which a cycle runs, with power up or not
abbrev pub phase_with : Bool → Control → Phase
phase_with power m = cond (held_off m power) Offline m.phase

-- nothing is sent; what was detected becomes as new, power fail is whether power is down, and without request and with power detection is next
abbrev pub kept_offline : Bool → Control → Control
kept_offline power m =
    record m {
      power_fail = not power;
      phase = cond (held_off m power) Offline Detection;
      step = seek 0;
      rows = table (λ a. dropped (row_at a m.rows));
    }

unfoldable pub stay_offline : Scene → Scene
stay_offline s =
    record s { master = with_control (kept_offline s.line.power s.master.control) s.master }

abbrev pub run : Phase → Scene → Scene
run Offline s = stay_offline s
run Detection s = phased Activation (everywhere (λ a. detect_visit s.line.power) s)
run Activation s = phased Normal (everywhere (activate_visit s.master.control.mode s.line.power) s)
run Normal s = search_on (manage (exchange s))

-- the phase in which a cycle on this line runs
abbrev pub running : Control → Meaning → Phase
running m line = phase_with line.power m

unfoldable pub cycle : Master → Meaning → Scene
cycle c line = run (running c.control line) (beginning c line)

-- What the program's master and line are is what the rules make of them, and so is the number of requests

pub record Became (s : Scene) (c : Master) (line : Meaning) (requests : ℕ) : Type 0 where
  pub master_is : c ≡ s.master
  pub line_is : line ≡ s.line
  pub counted : requests ≡ length s.sent

-- a cycle that met master c and the line, reported that phase and number, and left master and line so
pub record Cycled (c : Master) (line : Meaning) (phase : Phase) (requests : ℕ) (c' : Master) (line' : Meaning) : Type 0 where
  pub ran_in : phase ≡ running c.control line
  pub became : Became (cycle c line) c' line' requests
