-- What a call comes to by the rules, what it leaves of the line, and which requests it sends.
-- A call of the controller comes to a refusal or to what it gives; a cycle comes to its phase and to the number of requests that it sent. A reader
-- compares them with docs/RECORD.md and docs/CYCLE.md, whose definitions are only joined here.
use Rattle.std.specs.Prelude.{ℕ, Bool, List, [], length}
use Rattle.values.specs.Refusals.{Outcome, gives, refuses_for}
use Rattle.values.specs.Tables.{table}
use Rattle.telegrams.specs.Requests.{Sent}
use Rattle.queues.specs.Fifo.{take_outcome}
use Rattle.records.specs.Edits.{edit_outcome, accepted_edits}
use Rattle.records.specs.Modes.{in_configuration, mode_outcome}
use Rattle.records.specs.Rows.{row_at, outputs_outcome, inputs_outcome, config_ok}
use Rattle.records.specs.declared.record.Mode.TheVariants.{Configuration}
use Rattle.orders.specs.Orders.{Told}
use Rattle.lines.specs.Lines.{Meaning}
use Rattle.control.specs.Cycles.{Control, Master, running, cycle}
use Rattle.control.specs.Placing.{is_normal}
use Rattle.control.specs.declared.control.Phase.{Phase}
use Rattle.promise.specs.Successions.{order_from, Reading, of_inputs, of_lists, Writing, of_outputs, Setting, of_mode, of_offline, Call, placing, collecting, reading, writing, setting, editing, projecting_all, placing_outcome, Turn, cycling, calling}

-- what a reading of the lists shows: for each address whether it is in LDS, LAS and LPS, and the flags
pub record Shown : Type 0 where
  pub lds : List Bool
  pub las : List Bool
  pub lps : List Bool
  pub config_ok : Bool
  pub address_zero : Bool
  pub configuration_active : Bool
  pub normal_operation_active : Bool
  pub power_fail : Bool
  pub offline : Bool

abbrev pub lists_of : Control → Shown
lists_of m =
    record {
      lds = table (λ a. (row_at a m.rows).detected);
      las = table (λ a. (row_at a m.rows).active);
      lps = table (λ a. (row_at a m.rows).projected);
      config_ok = config_ok m.rows;
      address_zero = (row_at 0 m.rows).detected;
      configuration_active = in_configuration m.mode;
      normal_operation_active = is_normal m.phase;
      power_fail = m.power_fail;
      offline = m.offline;
    }

-- what a call came to: it was refused, with its number and cause, or it gave this
pub data Came : Type 0 where
  done : Came
  refused : ℕ → ℕ → Came
  ran : Phase → ℕ → Came
  collected : Told → Came
  inputs : ℕ → Came
  lists : Shown → Came
  projected : ℕ → Came

-- What the rules say

abbrev pub came_from : {A : Type 0} → (A → Came) → Outcome A → Came
came_from f (gives x) = f x
came_from f (refuses_for n k) = refused n k

abbrev pub simply : Outcome (Unit {0}) → Came
simply o = came_from (λ _. done) o

abbrev pub read_as : Reading → Control → Came
read_as (of_inputs a) m = came_from inputs (inputs_outcome a m.rows)
read_as of_lists m = lists (lists_of m)

abbrev pub writing_outcome : Writing → Outcome (Unit {0})
writing_outcome (of_outputs a n) = outputs_outcome a n

abbrev pub setting_outcome : Setting → Control → Outcome (Unit {0})
setting_outcome (of_mode mode) m = mode_outcome mode m.rows
setting_outcome (of_offline on) m = gives tt

abbrev pub call_comes_to : Call → Master → Came
call_comes_to (placing w) c = simply (placing_outcome (order_from w) c)
call_comes_to collecting c = came_from collected (take_outcome c.answers)
call_comes_to (reading r) c = read_as r c.control
call_comes_to (writing w) c = simply (writing_outcome w)
call_comes_to (setting s) c = simply (setting_outcome s c.control)
call_comes_to (editing e) c = simply (edit_outcome c.control.mode e)
call_comes_to (projecting_all es) c = projected (accepted_edits Configuration es)

abbrev pub comes_to : Turn → Master → Came
comes_to (cycling line) c = ran (running c.control line) (length (cycle c line).sent)
comes_to (calling k) c = call_comes_to k c

-- the line after a call that met it so: only a cycle changes it
abbrev pub line_left : Meaning → Turn → Master → Meaning
line_left line (cycling met) c = (cycle c met).line
line_left line (calling k) c = line

-- the requests that a call sends: only a cycle sends any
abbrev pub sent_by : Turn → Master → List Sent
sent_by (cycling met) c = (cycle c met).sent
sent_by (calling k) c = []
