-- Orders: each is answered in its turn, in time, and answers are collected in the order in which the orders were accepted.
-- An order is known by its number: how many were accepted before it. The answers that cycles put are numbered too, and FirstCome says that
-- the answers put are those of the first orders accepted: so answer number n is that of order number n.
-- docs/PROMISE.md sets the records beside the words.
use Rattle.std.specs.Prelude.{◌≡◌, ℕ, ◌+◌, ◌<◌, ◌≤◌, Bool, true, cond, List, [], ◌∷◌, ◌++◌, map, length, drop}
use Rattle.std.specs.List.{AllByRecursion}
use Rattle.values.specs.Refusals.{Outcome, gives, refuses_for, accepts}
use Rattle.telegrams.specs.Requests.{Sent}
use Rattle.orders.specs.Orders.{Told}
use Rattle.control.specs.Placing.{is_normal}
use Rattle.lines.specs.Lines.{Meaning}
use Rattle.control.specs.Cycles.{Master, beginning, exchange, ending_at, running, cycle}
use Rattle.promise.specs.Successions.{Placement, order_from, Call, placing, collecting, reading, writing, setting, editing, projecting_all, Turn, cycling, calling, placing_outcome, called, after, Met}
use Rattle.promise.specs.Waiting.{done}

-- What a succession has accepted, answered and collected, in order

abbrev pub order_in : Outcome Sent → Outcome (Unit {0}) → List Sent
order_in (gives q) (gives u) = q ∷ []
order_in (gives q) (refuses_for n c) = []
order_in (refuses_for n c) o = []

abbrev pub accepted_by_call : Call → Master → List Sent
accepted_by_call (placing w) c = order_in (order_from w) (placing_outcome (order_from w) c)
accepted_by_call collecting c = []
accepted_by_call (reading r) c = []
accepted_by_call (writing w) c = []
accepted_by_call (setting s) c = []
accepted_by_call (editing e) c = []
accepted_by_call (projecting_all es) c = []

abbrev pub accepted_by : Master → List Turn → List Sent
accepted_by c [] = []
accepted_by c (cycling line ∷ ts) = accepted_by (cycle c line).master ts
accepted_by c (calling k ∷ ts) = accepted_by_call k c ++ accepted_by (called k c) ts

-- the answers that a cycle puts behind the uncollected ones
abbrev pub put_by : Master → Meaning → List Told
put_by c line = drop (length c.answers) (cycle c line).master.answers

abbrev pub answered_by : Master → List Turn → List Told
answered_by c [] = []
answered_by c (cycling line ∷ ts) = put_by c line ++ answered_by (cycle c line).master ts
answered_by c (calling k ∷ ts) = answered_by (called k c) ts

abbrev pub first_of : List Told → List Told
first_of [] = []
first_of (x ∷ xs) = x ∷ []

abbrev pub collected_by_call : Call → Master → List Told
collected_by_call (placing w) c = []
collected_by_call collecting c = first_of c.answers
collected_by_call (reading r) c = []
collected_by_call (writing w) c = []
collected_by_call (setting s) c = []
collected_by_call (editing e) c = []
collected_by_call (projecting_all es) c = []

abbrev pub collected_by : Master → List Turn → List Told
collected_by c [] = []
collected_by c (cycling line ∷ ts) = collected_by (cycle c line).master ts
collected_by c (calling k ∷ ts) = collected_by_call k c ++ collected_by (called k c) ts

-- The n-th answer put is that of the n-th order accepted, and the n-th answer collected is the n-th answer put
pub record FirstCome (c : Master) (p : List Turn) : Type 0 where
  pub answered_in_order : accepted_by c p ≡ map (λ x. x.order) (answered_by c p) ++ (after p c).orders
  pub collected_in_order : answered_by c p ≡ collected_by c p ++ (after p c).answers

-- The cycles of a succession, each with how many normal cycles and how many answers came before it

pub record Numbered : Type 0 where
  pub met : Met
  pub normal_before : ℕ
  pub answers_before : ℕ

abbrev pub is_normal_cycle : Met → Bool
is_normal_cycle d = is_normal (running d.master.control d.line)

abbrev pub numbered_cycles : ℕ → ℕ → Master → List Turn → List Numbered
numbered_cycles i n c [] = []
numbered_cycles i n c (cycling line ∷ ts) =
    record { met = record { master = c; line = line }; normal_before = i; answers_before = n }
    ∷ numbered_cycles (i + cond (is_normal (running c.control line)) 1 0) (n + length (put_by c line)) (cycle c line).master ts
numbered_cycles i n c (calling k ∷ ts) = numbered_cycles i n (called k c) ts

-- the cycle puts answer number n, which is that of order number n
pub record PutsNumber (n : ℕ) (d : Numbered) : Type 0 where
  pub not_before : d.answers_before ≤ n
  pub not_after : n < d.answers_before + length (put_by d.met.master d.met.line)

-- the cycle takes order o, the oldest that waits, and puts its answer with the ending that management gives it
pub record AnswersIt (o : Sent) (d : Met) : Type 0 where
  pub rest : List Sent
  pub waited : d.master.orders ≡ o ∷ rest
  pub waits : (done d).master.orders ≡ rest
  pub put : (done d).master.answers ≡ d.master.answers ++ record { order = o; how = ending_at (exchange (beginning d.master d.line)) o } ∷ []

-- Order o, with number n, was accepted behind k others: the normal cycle with k normal ones before it answers it, and no other cycle does
pub record InTurn (k n : ℕ) (o : Sent) (d : Numbered) : Type 0 where
  pub in_time : is_normal_cycle d.met ≡ true → d.normal_before ≡ k → AnswersIt o d.met × PutsNumber n d
  pub in_no_other : PutsNumber n d → (is_normal_cycle d.met ≡ true) × (d.normal_before ≡ k)

-- what is said of an order that is placed after p with numbers w, and accepted, in every cycle of the q that follows
abbrev pub AnsweredInTurn : Master → List Turn → Placement → List Turn → Type 0
AnsweredInTurn new p w q =
    (o : Sent) → order_from w ≡ gives o → accepts (placing_outcome (order_from w) (after p new)) ≡ true →
    AllByRecursion (InTurn (length (after p new).orders) (length (accepted_by new p)) o)
    (numbered_cycles 0 (length (answered_by new p)) (called (placing w) (after p new)) q)
