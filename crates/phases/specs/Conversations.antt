-- A conversation: what the master asks next, and for each reply how it goes on, until it has come to something. Every reply may come: nothing
-- is said here of what a line is or does.
-- What a conversation comes to on a line whose replies follow the rules of docs/LINES.md is `on_line`; what it asks where any replies come is
-- `questions`.
use Rattle.std.specs.Prelude.{◌≡◌, ℕ, suc, Bool, List, [], ◌∷◌, Some, None, Option}
use Rattle.telegrams.specs.Requests.{Sent, Heard}
use Rattle.stations.specs.Stations.{Place}
use Rattle.lines.specs.Lines.{line_after, line_reply}

pub data Conversation (A : Type 0) : Type 0 where
  done : A → Conversation A
  ask : Sent → (Heard → Conversation A) → Conversation A

-- the request that is next, and what is left of the conversation when this has been heard; a reply to no question changes nothing

abbrev pub question : {A : Type 0} → Conversation A → Option Sent
question (done x) = None
question (ask q k) = Some q

abbrev pub when_heard : {A : Type 0} → Heard → Conversation A → Conversation A
when_heard h (done x) = done x
when_heard h (ask q k) = k h

-- what is asked where these replies come, one after another
abbrev pub questions : {A : Type 0} → (ℕ → Heard) → Conversation A → List Sent
questions replies (done x) = []
questions replies (ask q k) = q ∷ questions (λ i. replies (suc i)) (k (replies 0))

-- What it comes to on a line with these stations, and what it sends

pub record Course (A : Type 0) : Type 0 where
  pub comes_to : A
  pub places : List Place
  pub sent : List Sent

abbrev pub after_asking : {A : Type 0} → Sent → Course A → Course A
after_asking q c = record c { sent = q ∷ c.sent }

abbrev pub on_line : {A : Type 0} → Bool → Conversation A → List Place → Course A
on_line power (done x) ps = record { comes_to = x; places = ps; sent = [] }
on_line power (ask q k) ps = after_asking q (on_line power (k (line_reply power q ps)) (line_after power q ps))

-- one request of it was carried by a line with this power and these stations, and the reply was heard
pub record WentOn {L A : Type 0} (carried : L → Sent → L → Type 0) (power : Bool) (l l' : L) (ps ps' : List Place) (rest rest' : Conversation A) : Type 0 where
  pub asked : Sent
  pub is_next : Some asked ≡ question rest
  pub sent : carried l asked l'
  pub heard : rest' ≡ when_heard (line_reply power asked ps) rest
  pub places : ps' ≡ line_after power asked ps
