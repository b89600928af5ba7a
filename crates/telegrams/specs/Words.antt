-- The words of EN 50295.
-- A request has 14 bits, highest first: the start bit ST, 0; the control bit CB; five address bits; five information bits I4 to I0;
-- the parity bit PB; the end bit EB, 1. A reply has 7: ST, four data bits, PB, EB. With PB the ones between ST
-- and EB are even in number. What stands between ST and PB is called the payload here.
-- A reader compares `framed`, `control` and `information` with this layout; the worked examples pin them. Decoding has no layout of its own:
-- by the law below a word is taken exactly where it is some request's word.
use Rattle.std.specs.Prelude.{◌≡◌, ℕ, ◌+◌, ◌*◌, ◌/◌, ◌%◌, ◌<◌, Bool, true, false, cond, not, ◌||◌, Ok, Err, Result, ◌==◌, count_ones, nat_le, nat_lt}
use Rattle.values.specs.Refusals.{numbered, caused, cause_number}
use Rattle.telegrams.specs.Requests.{Asking, Sent, Lawful, sent, data_exchange, write_parameter, read_io, read_id, resetting}
use Rattle.values.specs.Ranges.{Nibble}
use Rattle.values.specs.declared.refusal.Cause.{Cause}
use Rattle.values.specs.declared.refusal.Refusal.{Refusal}
use Rattle.telegrams.specs.declared.request.Request.{Request}

-- the word around a payload
abbrev pub framed : ℕ → ℕ
framed p = 4 * p + 2 * (count_ones p % 2) + 1

abbrev pub control : Asking → ℕ
control (data_exchange n) = 0
control (write_parameter n) = 0
control read_io = 1
control read_id = 1
control resetting = 1

abbrev pub information : Asking → ℕ
information (data_exchange n) = n
information (write_parameter n) = 16 + n
information read_io = 16
information read_id = 17
information resetting = 28

abbrev pub payload_of : Sent → ℕ
payload_of q = 1024 * control q.asking + 32 * q.to + information q.asking

abbrev pub request_word : Sent → ℕ
request_word q = framed (payload_of q)

abbrev pub reply_word : ℕ → ℕ
reply_word n = framed n

-- Causes of refusal, the first that applies; 0 where none does.

-- what is wrong with the frame of a word whose start bit counts `start`: too wide, start bit, end bit, parity
abbrev pub frame_cause : ℕ → ℕ → ℕ
frame_cause start w =
    cond (nat_le (2 * start) w) 1
    (cond (nat_le start w) 2
    (cond (w % 2 == 0) 3
    (cond (count_ones (w / 2) % 2 == 1) 4
    0)))

-- a payload is no request with control bit 0 and address 0, and with control bit 1 and any other information than 16, 17, 28
abbrev pub no_request : ℕ → Bool
no_request p =
    cond (nat_lt p 1024) (nat_lt p 32)
    (not (p % 32 == 16 || (p % 32 == 17 || p % 32 == 28)))

-- the first of two causes
abbrev pub or_else : ℕ → ℕ → ℕ
or_else first second = cond (first == 0) second first

abbrev pub request_cause : ℕ → ℕ
request_cause w = or_else (frame_cause 8192 w) (cond (no_request (w / 4)) 5 0)

abbrev pub reply_cause : ℕ → ℕ
reply_cause w = frame_cause 64 w

-- The law: a word is taken for a request exactly where it is that request's word, no two requests share a word, and any other word is
-- refused for the first cause that applies. The same holds of replies.

abbrev pub WordOf : Sent → ℕ → Type 0
WordOf q w = Lawful q × (request_word q ≡ w)

abbrev pub OnlyWordOf : Sent → ℕ → Type 0
OnlyWordOf q w = WordOf q w × ((p : Sent) → WordOf p w → p ≡ q)

abbrev pub RequestDecoded : ℕ → Result Request Refusal → Type 0
RequestDecoded w (Ok q) = (request_cause w ≡ 0) × OnlyWordOf (sent q) w
RequestDecoded w (Err e) = (numbered e ≡ 0x8314) × (0 < caused e) × (caused e ≡ request_cause w) × ((p : Sent) → WordOf p w → ⊥)

abbrev pub ReplyOf : ℕ → ℕ → Type 0
ReplyOf n w = (n < 16) × (reply_word n ≡ w)

abbrev pub OnlyReplyOf : ℕ → ℕ → Type 0
OnlyReplyOf n w = ReplyOf n w × ((m : ℕ) → ReplyOf m w → m ≡ n)

abbrev pub ReplyDecoded : ℕ → Result Nibble Refusal → Type 0
ReplyDecoded w (Ok n) = (reply_cause w ≡ 0) × OnlyReplyOf n.value w
ReplyDecoded w (Err e) = (numbered e ≡ 0x8314) × (0 < caused e) × (caused e ≡ reply_cause w) × ((m : ℕ) → ReplyOf m w → ⊥)

-- The steps of decoding: the frame, then the payload

abbrev pub PayloadTaken : ℕ → ℕ → Result ℕ Cause → Type 0
PayloadTaken start w (Ok p) = (frame_cause start w ≡ 0) × (w < start) × (framed p ≡ w)
PayloadTaken start w (Err c) = cause_number c ≡ frame_cause start w

abbrev pub RequestIn : ℕ → Result Request Refusal → Type 0
RequestIn p (Ok q) = (no_request p ≡ false) × (payload_of (sent q) ≡ p)
RequestIn p (Err e) = (no_request p ≡ true) × (numbered e ≡ 0x8314) × (caused e ≡ 5)
