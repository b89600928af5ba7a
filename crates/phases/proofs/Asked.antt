-- What a conversation asks where any replies come: with one address, and with each address in turn.
use Rattle.std.proofs.Common.{◌≡◌, ℕ, zero, suc, ◌+◌, ◌≤◌, true, false, cond, List, [], ◌∷◌, ◌++◌, length, set, sym, refl, ap, ◌∙◌, add-one, arith}
use Rattle.std.proofs.lemmas.List.{append_assoc, length-append, get_or-set_other}
use Rattle.telegrams.specs.Requests.{Asking, Sent, Heard}
use Rattle.records.specs.Rows.{Row, new_row, row_at}
use Rattle.phases.specs.Conversations.{Conversation, questions}
use Rattle.phases.specs.Dialogues.{Dialogue, comes, asks, whether, dialogue_at, dialogues_from}
use Rattle.phases.specs.Visits.{addressed, sent_below}

-- a dialogue where these replies come: what it asks, what it comes to, and the replies that are left
pub record Said (A : Type 0) : Type 0 where
  pub asking : List Asking
  pub came_to : A
  pub unheard : ℕ → Heard

abbrev said_behind : {A : Type 0} → Asking → Said A → Said A
said_behind q t = record t { asking = q ∷ t.asking }

abbrev pub said : {A : Type 0} → (ℕ → Heard) → Dialogue A → Said A
said replies (comes x) = record { asking = []; came_to = x; unheard = replies }
said replies (asks q k) = said_behind q (said (λ i. replies (suc i)) (k (replies 0)))
said replies (whether b c d) = cond b (said replies c) (said replies d)

-- the conversation goes on behind the dialogue
pub asked_at : {A B : Type 0} (a : ℕ) (f : A → Conversation B) (replies : ℕ → Heard) (d : Dialogue A) → questions replies (dialogue_at a d f) ≡ addressed a (said replies d).asking ++ questions (said replies d).unheard (f (said replies d).came_to)
asked_at a f replies (comes x) = refl
asked_at a f replies (asks q k) = ap (λ (qs : List Sent). record { to = a; asking = q } ∷ qs) (asked_at a f (λ i. replies (suc i)) (k (replies 0)))
asked_at a f replies (whether true c d) = asked_at a f replies c
asked_at a f replies (whether false c d) = asked_at a f replies d

-- With each address in turn

-- each is asked what its dialogue asks with the row at the start, where some replies come, and then the conversation goes on
pub record EachAsked {B : Type 0} (dialogue : ℕ → Row → Dialogue Row) (f : List Row → Conversation B) (rs : List Row) (qs : List Sent) : Type 0 where
  pub asking : ℕ → List Asking
  pub says : (a : ℕ) → (replies : ℕ → Heard) × (asking a ≡ (said replies (dialogue a (row_at a rs))).asking)
  pub last : List Row
  pub unheard : ℕ → Heard
  pub asked : qs ≡ sent_below 32 asking ++ questions unheard (f last)

module _ {B : Type 0} (dialogue : ℕ → Row → Dialogue Row) (f : List Row → Conversation B) (rs : List Row) (replies : ℕ → Heard) where
  -- the replies that are left for the addresses from a on
  left_for : ℕ → ℕ → Heard
  left_for zero = replies
  left_for (suc a) = (said (left_for a) (dialogue a (row_at a rs))).unheard

  abbrev made : ℕ → Said Row
  made a = said (left_for a) (dialogue a (row_at a rs))

  -- what was asked of the addresses below i, and then goes on so
  abbrev so_far : ℕ → Conversation B → List Sent
  so_far i c = sent_below i (λ a. (made a).asking) ++ questions (left_for i) c

  further : (i : ℕ) (g : Row → Conversation B) → so_far i (dialogue_at i (dialogue i (row_at i rs)) g) ≡ so_far (i + 1) (g (made i).came_to)
  unfolding sent_below left_for
  further i g =
      ap (λ (qs : List Sent). sent_below i (λ a. (made a).asking) ++ qs) (asked_at i g (left_for i) (dialogue i (row_at i rs)))
      ∙ sym (append_assoc (sent_below i (λ a. (made a).asking)) (addressed i (made i).asking) _)
      ∙ ap (λ (m : ℕ). so_far m (g (made i).came_to)) (sym (add-one i))

  -- the rows from i on are still those at the start
  from_here : (n i : ℕ) (rs' : List Row) → i + n ≡ 32 → ((a : ℕ) → i ≤ a → row_at a rs' ≡ row_at a rs) → (last : List Row) × (so_far i (dialogues_from dialogue n i rs' f) ≡ so_far 32 (f last))
  unfolding dialogues_from
  from_here zero i rs' sized same = (rs', ap (λ (m : ℕ). so_far m (f rs')) (omega (arith, sized)))
  from_here (suc n) i rs' sized same =
      let onward : Row → Conversation B = λ r. dialogues_from dialogue n (i + 1) (set rs' i r) f in
      let r : Row = (made i).came_to in
      let rest = from_here n (i + 1) (set rs' i r) (omega (arith, sized)) (λ a h. get_or-set_other rs' i a r new_row (omega arith) ∙ same a (omega arith)) in
      (rest.0, ap (λ (x : Row). so_far i (dialogue_at i (dialogue i x) onward)) (same i (omega arith)) ∙ further i onward ∙ rest.1)

  pub asked_each : EachAsked dialogue f rs (questions replies (dialogues_from dialogue 32 0 rs f))
  unfolding sent_below left_for
  asked_each =
      let it = from_here 32 0 rs refl (λ a h. refl) in
      record { asking = λ a. (made a).asking; says = λ a. (left_for a, refl); last = it.0; unheard = left_for 32; asked = it.1 }

-- How many requests are sent to the addresses below a number

length-addressed : (a : ℕ) (qs : List Asking) → length (addressed a qs) ≡ length qs
length-addressed a [] = refl
length-addressed a (q ∷ qs) = ap suc (length-addressed a qs)

pub length_below : (f : ℕ → List Asking) (most : ℕ → ℕ) → ((a : ℕ) → length (f a) + most a ≤ most (suc a)) → (n : ℕ) → length (sent_below n f) ≤ most n
unfolding sent_below
length_below f most each zero = omega arith
length_below f most each (suc n) = omega (arith, length-append (sent_below n f) (addressed n (f n)), length-addressed n (f n), each n, length_below f most each n)
