-- What a cycle asks whatever is replied: on any wire at all, with any modules or none, and whatever disturbs them.
-- A cycle ends after at most as many requests as `most_in` gives for its phase. A normal cycle first sends one Data_Exchange to each address that is active as it
-- begins, lowest first, with the ODI that the address has then. At most two more requests follow, and neither is a Data_Exchange: so no address
-- is sent a second one, and an address that was not active is sent none.
-- It is said of a cycle in which no other call is made between two requests. Nothing is said of who replies, or whether a reply suits the
-- question: each address has its turn once, and a reply changes only the row of the address that was asked, so that the rows ahead are still as
-- the cycle found them.
use Rattle.std.specs.Prelude.{◌≡◌, ℕ, ◌≤◌, cond, List, [], ◌∷◌, ◌++◌, length}
use Rattle.std.specs.List.{AllByRecursion}
use Rattle.telegrams.specs.Requests.{Asking, Sent, Heard, data_exchange, write_parameter, read_io, read_id, resetting}
use Rattle.records.specs.Rows.{Row, row_at}
use Rattle.phases.specs.Conversations.{Conversation, questions}
use Rattle.phases.specs.Visits.{sent_below}
use Rattle.control.specs.Cycles.{Master}
use Rattle.control.specs.declared.control.Phase.{Phase}
use Rattle.control.specs.declared.control.Phase.TheVariants.{Offline, Detection, Activation, Normal}

-- a Data_Exchange to each address that is active in these rows, lowest first, with its ODI
abbrev pub exchanges_due : List Row → List Sent
exchanges_due rs = sent_below 32 (λ a. cond (row_at a rs).active (data_exchange (row_at a rs).odi ∷ []) [])

abbrev pub NoDataExchange : Asking → Type 0
NoDataExchange (data_exchange n) = ⊥
NoDataExchange (write_parameter n) = Unit {0}
NoDataExchange read_io = Unit {0}
NoDataExchange read_id = Unit {0}
NoDataExchange resetting = Unit {0}

-- these requests are first those that are due, and then at most two others
pub record OnceEachAsked (rs : List Row) (qs : List Sent) : Type 0 where
  pub others : List Sent
  pub due_first : qs ≡ exchanges_due rs ++ others
  pub few_others : length others ≤ 2
  pub none_others : AllByRecursion (λ q. NoDataExchange q.asking) others

-- how many requests a cycle has at most
abbrev pub most_in : Phase → ℕ
most_in Offline = 0
most_in Detection = 64
most_in Activation = 31
most_in Normal = 33

-- a cycle that runs in this phase, found these rows as it began, and has all of this conversation before it
pub record AsksOnAnyWire (phase : Phase) (rs : List Row) (rest : Conversation Master) : Type 0 where
  pub ends : (replies : ℕ → Heard) → length (questions replies rest) ≤ most_in phase
  pub once_each : phase ≡ Normal → (replies : ℕ → Heard) → OnceEachAsked rs (questions replies rest)
