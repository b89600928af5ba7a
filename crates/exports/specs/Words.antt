-- Telegrams as numbers: what the exported functions give for a request, a reply and a word. Which word is whose is said by the crate `telegrams`;
-- here is only how a request is packed into one number, and what stands for a refusal. A reader compares this with docs/COMPARE.md.
use Rattle.std.specs.Prelude.{◌≡◌, ℕ, ◌+◌, ◌*◌, ◌<◌, ◌≤◌, cond, ◌==◌}
use Rattle.values.specs.Refusals.{Outcome, gives, refuses_for}
use Rattle.telegrams.specs.Requests.{Asking, Sent, data_exchange, write_parameter, read_io, read_id, resetting, with_nibble, plain}
use Rattle.telegrams.specs.Words.{WordOf, OnlyWordOf, ReplyOf, OnlyReplyOf, request_cause, reply_cause}

-- kinds: 0 Data_Exchange, 1 Write_Parameter, 2 Read_IO, 3 Read_ID, any other Reset
abbrev pub request_of : ℕ → ℕ → ℕ → Outcome Sent
request_of kind a n =
    cond (kind == 0) (with_nibble data_exchange a n)
    (cond (kind == 1) (with_nibble write_parameter a n)
    (cond (kind == 2) (plain read_io a)
    (cond (kind == 3) (plain read_id a)
    (plain resetting a))))

-- the word of a request, or the number by which it is refused
abbrev pub Encoded : Outcome Sent → ℕ → Type 0
Encoded (gives q) w = OnlyWordOf q w
Encoded (refuses_for n c) w = w ≡ n

-- the word of a reply, or the number by which the nibble is refused
pub record ReplyEncoded (n w : ℕ) : Type 0 where
  pub fits : n < 16 → OnlyReplyOf n w
  pub refused : 16 ≤ n → w ≡ 0x8310

-- a request in one number: kind, address and nibble; a request without a nibble has 0 there

abbrev kind_of : Asking → ℕ
kind_of (data_exchange n) = 0
kind_of (write_parameter n) = 1
kind_of read_io = 2
kind_of read_id = 3
kind_of resetting = 4

abbrev value_of : Asking → ℕ
value_of (data_exchange n) = n
value_of (write_parameter n) = n
value_of read_io = 0
value_of read_id = 0
value_of resetting = 0

abbrev pub packed : Sent → ℕ
packed q = 65536 * kind_of q.asking + 256 * q.to + value_of q.asking

-- a word that is refused, with the cause
abbrev pub refused_word : ℕ → ℕ
refused_word cause = 65536 * 0x8314 + cause

-- word w is given as r: as the request, or the nibble, whose word it is, or as refused for its first cause where there is none

pub record RequestGiven (w r : ℕ) : Type 0 where
  pub request : (q : Sent) → WordOf q w → r ≡ packed q
  pub no_request : ((q : Sent) → WordOf q w → ⊥) → r ≡ refused_word (request_cause w)

pub record ReplyGiven (w r : ℕ) : Type 0 where
  pub reply : (n : ℕ) → ReplyOf n w → r ≡ n
  pub no_reply : ((n : ℕ) → ReplyOf n w → ⊥) → r ≡ refused_word (reply_cause w)
