-- A cycle as a conversation: from a master with its queues, and whether power is up, what is asked, and what has become of master and queues at the
-- end, for every reply that may come.
-- A reader compares `conversation_in` and the parts that it names with docs/CYCLE.md. What it comes to on a line is `cycle` in Cycles.antt.
use Rattle.std.specs.Prelude.{ℕ, Bool, cond, List, [], ◌∷◌, ◌++◌, length, nat_lt, slice_set}
use Rattle.telegrams.specs.Requests.{Sent}
use Rattle.records.specs.Rows.{Row, row_at}
use Rattle.phases.specs.Exchange.{exchange_dialogue}
use Rattle.phases.specs.Detection.{detect_dialogue}
use Rattle.phases.specs.Activation.{admissible, activate_dialogue}
use Rattle.phases.specs.Conversations.{Conversation, done, Course}
use Rattle.phases.specs.Dialogues.{Dialogue, dialogue_at, dialogues_from}
use Rattle.orders.specs.Orders.{Ending}
use Rattle.orders.specs.Management.{manage_dialogue}
use Rattle.search.specs.Steps.{Stage, step_after}
use Rattle.search.specs.Searches.{search_dialogue, taken_by}
use Rattle.orders.specs.declared.pair.Queues.{Queues}
use Rattle.control.specs.Cycles.{Master, Scene, with_rows, with_step, with_phase, with_control, kept_offline, control_of, master_of, phase_with}
use Rattle.control.specs.declared.control.ExecutionControl.{ExecutionControl}
use Rattle.control.specs.declared.control.Phase.{Phase}
use Rattle.control.specs.declared.control.Phase.TheVariants.{Offline, Detection, Activation, Normal}

-- What becomes of a master with its queues

abbrev pub with_master_rows : List Row → Master → Master
with_master_rows rs c = with_control (with_rows rs c.control) c

abbrev pub with_master_row : ℕ → Row → Master → Master
with_master_row a r c = with_master_rows (slice_set c.control.rows a r) c

abbrev pub row_in_master : ℕ → Master → Row
row_in_master a c = row_at a c.control.rows

abbrev pub to_step : Stage → Master → Master
to_step t c = with_control (with_step t c.control) c

abbrev pub to_phase : Phase → Master → Master
to_phase p c = with_control (with_phase p c.control) c

-- order o has ended so, and these wait behind it
abbrev pub put_answer : Sent → List Sent → Ending → Master → Master
put_answer o rest how c = record c { orders = rest; answers = c.answers ++ record { order = o; how = how } ∷ [] }

-- The parts of a cycle, each with what follows it

-- the n addresses from a upward, lowest first
abbrev pub with_each_of : ℕ → ℕ → (ℕ → Row → Dialogue Row) → Master → (Master → Conversation Master) → Conversation Master
with_each_of n a dialogue c f = dialogues_from dialogue n a c.control.rows (λ rs. f (with_master_rows rs c))

abbrev pub with_each : (ℕ → Row → Dialogue Row) → Master → (Master → Conversation Master) → Conversation Master
with_each dialogue c f = with_each_of 32 0 dialogue c f

-- these orders wait: the first is taken, where its answer has room
abbrev pub managing : List Sent → Master → (Master → Conversation Master) → Conversation Master
managing [] c f = f c
managing (o ∷ rest) c f =
    cond (nat_lt (length c.answers) c.answer_room)
    (dialogue_at o.to (manage_dialogue o.asking (row_in_master o.to c)) (λ e. f (put_answer o rest e.how (with_master_row o.to e.row c))))
    (f c)

-- the search is at step t, and takes address b
abbrev pub searching_at : Stage → ℕ → Master → Conversation Master
searching_at t b c =
    dialogue_at b (search_dialogue c.control.mode t b (row_in_master b c))
    (λ e. done (to_step (step_after t b e.deciding (admissible c.control.mode b e.row)) (with_master_row b e.row c)))

abbrev pub searching : Master → Conversation Master
searching c = searching_at c.control.step (taken_by c.control.rows c.control.step) c

-- The phases

abbrev pub conversation_in : Phase → Bool → Master → Conversation Master
conversation_in Offline power c = done (with_control (kept_offline power c.control) c)
conversation_in Detection power c = with_each (λ a. detect_dialogue) c (λ d. done (to_phase Activation d))
conversation_in Activation power c = with_each (activate_dialogue c.control.mode) c (λ d. done (to_phase Normal d))
conversation_in Normal power c = with_each (λ a. exchange_dialogue) c (λ d. managing d.orders d searching)

-- whether power is up is asked as the cycle begins
unfoldable pub cycle_conversation : Phase → Bool → Master → Conversation Master
cycle_conversation p power c = conversation_in p power c

-- a moment of a cycle on a line, as what its conversation came to
abbrev pub course_of : Scene → Course Master
course_of s = record { comes_to = s.master; places = s.line.places; sent = s.sent }

-- all that a cycle has before it as it begins, with power up or not
abbrev pub begun : Bool → ExecutionControl → Queues → Conversation Master
begun power m q = cycle_conversation (phase_with power (control_of m)) power (master_of m q)
