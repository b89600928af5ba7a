-- Orders of the controller: what each sends, and what may become of it.
-- A reader compares them with docs/RECORD.md and the second table of docs/REFUSALS.md.
use Rattle.std.specs.Prelude.{ℕ, cond, Ok, Err, Result}
use Rattle.values.specs.Refusals.{Outcome, gives, refuses}
use Rattle.telegrams.specs.Requests.{Sent, Heard, nibble, silence, disturbed, write_parameter, resetting}
use Rattle.records.specs.Rows.{is_module_address}
use Rattle.orders.specs.declared.order.Answer.{Answer}
use Rattle.orders.specs.declared.order.Order.{Order}
use Rattle.orders.specs.declared.order.Order.TheVariants.{Parameter, Reset}
use Rattle.orders.specs.declared.order.Unanswered.{Unanswered}
use Rattle.orders.specs.declared.order.Unanswered.TheVariants.{NotActive, Silent, Disturbed}
use Rattle.values.specs.Ranges.{Nibble}

-- an order is the request that carries it out
abbrev pub ordered : Order → Sent
ordered (Parameter a n) = record { to = a.value; asking = write_parameter n.value }
ordered (Reset a) = record { to = a.value; asking = resetting }

-- a reset order from any number
abbrev pub reset_ordered : ℕ → Outcome Sent
reset_ordered a = cond (is_module_address a) (gives (record { to = a; asking = resetting })) (refuses 0x8381)

-- how an order ends: it was sent and this was heard, or its address was not active and nothing was sent
pub data Ending : Type 0 where
  replied : Heard → Ending
  inactive : Ending

abbrev pub unanswered : Unanswered → Ending
unanswered NotActive = inactive
unanswered Silent = replied silence
unanswered Disturbed = replied disturbed

abbrev pub ending : Result Nibble Unanswered → Ending
ending (Ok n) = replied (nibble n.value)
ending (Err why) = unanswered why

-- the number of an ending; 0 where a nibble came
abbrev pub ending_number : Ending → ℕ
ending_number (replied (nibble n)) = 0
ending_number (replied silence) = 0x8383
ending_number (replied disturbed) = 0x8383
ending_number inactive = 0x8382

-- an answer tells how an order ended
pub record Told : Type 0 where
  pub order : Sent
  pub how : Ending

abbrev pub told : Answer → Told
told x = record { order = ordered x.order; how = ending x.result }
