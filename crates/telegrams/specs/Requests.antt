-- Requests and replies by the numbers in them, which requests there are, and what the calls that make one return.
-- The five requests are those of EN 50295 that this master sends. Data_Exchange and Write_Parameter go to a module's address,
-- 1 to 31, and carry a nibble; the three commands go to any address, 0 to 31.
-- A reader compares the rows with the table of requests in docs/TELEGRAMS.md.
use Rattle.std.specs.Prelude.{ℕ, ◌<◌, cond, ◌&&◌, nat_lt}
use Rattle.values.specs.Refusals.{Outcome, gives, refuses}
use Rattle.telegrams.specs.declared.request.Request.{Request}
use Rattle.telegrams.specs.declared.request.Request.TheVariants.{DataExchange, WriteParameter, ReadIo, ReadId, Reset}
use Rattle.telegrams.specs.declared.request.Reply.{Reply}
use Rattle.telegrams.specs.declared.request.Reply.TheVariants.{Answer, Silence, Disturbed}

-- what a request asks for, without its address
pub data Asking : Type 0 where
  data_exchange : ℕ → Asking
  write_parameter : ℕ → Asking
  read_io : Asking
  read_id : Asking
  resetting : Asking

-- a request that is sent, by its numbers
pub record Sent : Type 0 where
  pub to : ℕ
  pub asking : Asking

-- what comes back
pub data Heard : Type 0 where
  nibble : ℕ → Heard
  silence : Heard
  disturbed : Heard

abbrev pub asked : Request → Asking
asked (DataExchange a n) = data_exchange n.value
asked (WriteParameter a n) = write_parameter n.value
asked (ReadIo a) = read_io
asked (ReadId a) = read_id
asked (Reset a) = resetting

abbrev pub target : Request → ℕ
target (DataExchange a n) = a.value
target (WriteParameter a n) = a.value
target (ReadIo a) = a.value
target (ReadId a) = a.value
target (Reset a) = a.value

abbrev pub sent : Request → Sent
sent q = record { to = target q; asking = asked q }

abbrev pub heard : Reply → Heard
heard (Answer n) = nibble n.value
heard Silence = silence
heard Disturbed = disturbed

-- the numbers that such a request may hold
abbrev pub Range : Asking → ℕ → Type 0
Range (data_exchange n) a = (0 < a) × (a < 32) × (n < 16)
Range (write_parameter n) a = (0 < a) × (a < 32) × (n < 16)
Range read_io a = a < 32
Range read_id a = a < 32
Range resetting a = a < 32

abbrev pub Lawful : Sent → Type 0
Lawful q = Range q.asking q.to

-- making a request with a nibble from any two numbers: a bad address is found first
abbrev pub with_nibble : (ℕ → Asking) → ℕ → ℕ → Outcome Sent
with_nibble asking a n =
    cond (nat_lt 0 a && nat_lt a 32) (cond (nat_lt n 16) (gives (record { to = a; asking = asking n })) (refuses 0x8310)) (refuses 0x8381)

-- making a command from any number
abbrev pub plain : Asking → ℕ → Outcome Sent
plain asking a = cond (nat_lt a 32) (gives (record { to = a; asking = asking })) (refuses 0x8381)
