-- What is left of a cycle at each turn: a conversation, for every reply that may come. It speaks of the master as it is at that turn.
-- A reader compares each turn with the part of a cycle (Cycling.antt) that it stands in: what is asked there, what the reply makes of the row,
-- and the rest of that part.
use Rattle.std.specs.Prelude.{◌≡◌, ℕ, Bool, ◌&&◌, ◌+◌, ◌-◌, ◌*◌, cond, nat_lt, length, [], ◌∷◌, ◌++◌, drop, slice_set, Some, None, Option}
use Rattle.values.specs.Tables.{table}
use Rattle.telegrams.specs.Requests.{Sent, Heard, silence, nibble, write_parameter}
use Rattle.stations.specs.Stations.{Place}
use Rattle.records.specs.Rows.{Row, row_at}
use Rattle.phases.specs.Exchange.{exchanged, exchange_asking, exchange_dialogue}
use Rattle.phases.specs.Detection.{named, name_after, detect_dialogue}
use Rattle.phases.specs.Activation.{admissible, with_pi, entered, activate_dialogue}
use Rattle.phases.specs.Conversations.{Conversation, done, question, WentOn}
use Rattle.phases.specs.Dialogues.{Dialogue, comes, asks, dialogue_at}
use Rattle.orders.specs.Orders.{ordered, Ending}
use Rattle.orders.specs.Management.{managed, order_asking}
use Rattle.orders.specs.declared.pair.Queues.{Queues}
use Rattle.search.specs.Steps.{seek, name, step_after}
use Rattle.search.specs.Searches.{Stepped, sought, called, search_dialogue}
use Rattle.control.specs.Cycles.{Control, Master, with_rows, with_step, master_of}
use Rattle.control.specs.Cycling.{row_in_master, with_master_row, with_each_of, managing, searching, to_step, to_phase}
use Rattle.control.specs.declared.control.ExecutionControl.{ExecutionControl}
use Rattle.control.specs.declared.control.Phase.TheVariants.{Activation, Normal}
use Rattle.control.specs.declared.turn.Turn.{Turn}
use Rattle.control.specs.declared.turn.Turn.TheVariants.{Over, DetectIo, DetectId, Activate, Exchange, Manage, Seek, Name, Enter}

-- What is left of each part from an address on

abbrev pub with_each_from : (ℕ → Row → Dialogue Row) → ℕ → Master → (Master → Conversation Master) → Conversation Master
with_each_from dialogue a c f = with_each_of (32 - a) a dialogue c f

abbrev pub detect_rest : ℕ → Master → Conversation Master
detect_rest a c = with_each_from (λ b. detect_dialogue) a c (λ d. done (to_phase Activation d))

abbrev pub activate_rest : ℕ → Master → Conversation Master
activate_rest a c = with_each_from (activate_dialogue c.control.mode) a c (λ d. done (to_phase Normal d))

abbrev pub manage_rest : Master → Conversation Master
manage_rest c = managing c.orders c searching

abbrev pub exchange_rest : ℕ → Master → Conversation Master
exchange_rest a c = with_each_from (λ b. exchange_dialogue) a c manage_rest

-- At one address

-- n is sent as the parameter; whatever is replied, it is PI
abbrev pub entered_with : ℕ → Row → Heard → Row
entered_with n r h = with_pi n (entered r h)

abbrev pub enter_asking : ℕ → Row → Dialogue Row
enter_asking n r = asks (write_parameter n) (λ h. comes (entered_with n r h))

-- order o has ended so: it leaves the queue, and its answer is put where it has room
abbrev pub put_back : Sent → Ending → Master → Master
put_back o how c =
    record c {
      orders = drop 1 c.orders;
      answers = cond (nat_lt (length c.answers) c.answer_room) (c.answers ++ record { order = o; how = how } ∷ []) c.answers;
    }

abbrev pub manage_turn : Sent → Master → Conversation Master
manage_turn o c =
    dialogue_at o.to (order_asking o.asking (row_in_master o.to c)) (λ e. searching (put_back o e.how (with_master_row o.to e.row c)))

-- a step of the search was taken at address a
abbrev pub step_rest : ℕ → Master → Stepped → Conversation Master
step_rest a c e = done (to_step (step_after c.control.step a e.deciding (admissible c.control.mode a e.row)) (with_master_row a e.row c))

-- At each turn

abbrev pub rest_of : Turn → Master → Conversation Master
rest_of Over c = done c
rest_of (DetectIo a) c = dialogue_at a.value (detect_dialogue (row_in_master a.value c)) (λ r. detect_rest (a.value + 1) (with_master_row a.value r c))
rest_of (DetectId a n) c = dialogue_at a.value (name_after (row_in_master a.value c) (nibble n.value)) (λ r. detect_rest (a.value + 1) (with_master_row a.value r c))
rest_of (Activate a n) c = dialogue_at a.value (enter_asking n.value (row_in_master a.value c)) (λ r. activate_rest (a.value + 1) (with_master_row a.value r c))
rest_of (Exchange a n) c = dialogue_at a.value (exchange_asking n.value (row_in_master a.value c)) (λ r. exchange_rest (a.value + 1) (with_master_row a.value r c))
rest_of (Manage o) c = manage_turn (ordered o) c
rest_of (Seek a) c = dialogue_at a.value (search_dialogue c.control.mode (seek a.value) a.value (row_in_master a.value c)) (step_rest a.value c)
rest_of (Name a n) c = dialogue_at a.value (search_dialogue c.control.mode (name a.value n.value) a.value (row_in_master a.value c)) (step_rest a.value c)
rest_of (Enter a n) c =
    dialogue_at a.value (enter_asking n.value (row_in_master a.value c)) (λ r. step_rest a.value c (record { row = r; deciding = silence }))

-- what is left for a master with its queues
abbrev pub left : Turn → ExecutionControl → Queues → Conversation Master
left t m q = rest_of t (master_of m q)

-- at this turn something is asked, or nothing, whatever has become of the master
abbrev pub Asks : Turn → Type 0
Asks t = (c : Master) → question (rest_of t c) ≡ None → ⊥

abbrev pub AsksNothing : Turn → Type 0
AsksNothing t = (c : Master) → question (rest_of t c) ≡ None

abbrev pub NotOver : Turn → Type 0
NotOver t = t ≡ Over → ⊥

-- While something more is asked, a reply changes nothing of the execution control but the row of the address that was asked

abbrev pub with_row : ℕ → (Row → Row) → Control → Control
with_row a f m = with_rows (slice_set m.rows a (f (row_at a m.rows))) m

abbrev pub heard_at : Turn → Heard → Control → Control
heard_at Over h m = m
heard_at (DetectIo a) h m = m
heard_at (DetectId a n) h m = with_row a.value (λ r. named n.value r h) m
heard_at (Activate a n) h m = with_row a.value (λ r. entered_with n.value r h) m
heard_at (Exchange a n) h m = with_row a.value (λ r. exchanged r h) m
heard_at (Manage o) h m = with_row (ordered o).to (λ r. managed (ordered o).asking r h) m
heard_at (Seek a) h m = with_row a.value (λ r. sought r h) m
heard_at (Name a n) h m = with_row a.value (λ r. called n.value r h) m
heard_at (Enter a n) h m = with_row a.value (λ r. entered_with n.value r h) m

-- how many requests are left at most
abbrev pub left_at : Turn → ℕ
left_at Over = 0
left_at (DetectIo a) = 2 * (32 - a.value)
left_at (DetectId a n) = 2 * (31 - a.value) + 1
left_at (Activate a n) = 32 - a.value
left_at (Exchange a n) = 34 - a.value
left_at (Manage o) = 2
left_at (Seek a) = 1
left_at (Name a n) = 1
left_at (Enter a n) = 1

-- At an address, for the execution control as it is

abbrev pub admissible_at : ℕ → Control → Bool
admissible_at a m = admissible m.mode a (row_at a m.rows)

-- the address, where it is admissible, and where activation enters it
abbrev pub admitted : ℕ → Control → Option ℕ
admitted a m = cond (admissible_at a m) (Some a) None

abbrev pub activated : ℕ → Control → Option ℕ
activated a m = cond ((row_at a m.rows).detected && admissible_at a m) (Some a) None

-- the step of the search was taken there, and h was heard
abbrev pub step_taken : ℕ → Heard → Control → Control
step_taken a h m = with_step (step_after m.step a h (admissible_at a m)) m

-- A request of a cycle was carried by a line, and the reply was heard

abbrev pub WentOnLine :
    {L : Type 0} → (L → Sent → L → Type 0) → (L → Bool) → (L → ℕ → Place) → L → L
    → Conversation Master → Conversation Master → Type 0
WentOnLine carried power stations l l' rest rest' =
    WentOn carried (power l) l l' (table (stations l)) (table (stations l')) rest rest'
