-- A dialogue is what is said with one address: what is asked next, and for each reply how it goes on, until it has come to something. Every reply
-- may come.
-- The rules of a cycle are dialogues, one for each part (Exchange, Detection, Activation, Management, Searches); a cycle is a conversation
-- that is put together of them.
use Rattle.std.specs.Prelude.{ℕ, zero, suc, ◌+◌, Bool, cond, List, slice_set}
use Rattle.telegrams.specs.Requests.{Asking, Heard}
use Rattle.records.specs.Rows.{Row, row_at}
use Rattle.phases.specs.Conversations.{Conversation, ask}

pub data Dialogue (A : Type 0) : Type 0 where
  comes : A → Dialogue A
  asks : Asking → (Heard → Dialogue A) → Dialogue A
  -- the first where this holds, else the second
  whether : Bool → Dialogue A → Dialogue A → Dialogue A

-- the same, with what is made of what it comes to
abbrev pub seen_by : {A B : Type 0} → (A → B) → Dialogue A → Dialogue B
seen_by f (comes x) = comes (f x)
seen_by f (asks q k) = asks q (λ h. seen_by f (k h))
seen_by f (whether b c d) = whether b (seen_by f c) (seen_by f d)

-- said with address a, and then the conversation goes on
abbrev pub dialogue_at : {A B : Type 0} → ℕ → Dialogue A → (A → Conversation B) → Conversation B
dialogue_at a (comes x) f = f x
dialogue_at a (asks q k) f = ask (record { to = a; asking = q }) (λ h. dialogue_at a (k h) f)
dialogue_at a (whether b c d) f = cond b (dialogue_at a c f) (dialogue_at a d f)

-- with each of the n addresses from i upward, lowest first: what it comes to is the row there
unfoldable pub dialogues_from : {B : Type 0} → (ℕ → Row → Dialogue Row) → ℕ → ℕ → List Row → (List Row → Conversation B) → Conversation B
dialogues_from dialogue zero i rs f = f rs
dialogues_from dialogue (suc n) i rs f = dialogue_at i (dialogue i (row_at i rs)) (λ r. dialogues_from dialogue n (i + 1) (slice_set rs i r) f)
