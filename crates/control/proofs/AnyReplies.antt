-- What a cycle asks where any replies come.
use Rattle.std.proofs.Common.{◌≡◌, refl, ℕ, zero, suc, ◌+◌, ◌-◌, ◌*◌, ◌≤◌, Bool, false, cond, ◌&&◌, List, [], ◌∷◌, ◌++◌, map, length, sym, ap, ◌∙◌, subst, arith}
use Rattle.std.specs.Prelude.{nat_lt}
use Rattle.std.specs.List.{AllByRecursion}
use Rattle.std.proofs.lemmas.List.{append-nil, length-append}
use Rattle.std.proofs.lemmas.Bool.{cond_both, cond-true, cond-false, and_right}
use Rattle.telegrams.specs.Requests.{Asking, Sent, Heard, nibble, silence, disturbed, data_exchange}
use Rattle.records.specs.Rows.{Row, row_at}
use Rattle.records.specs.declared.record.Mode.{Mode}
use Rattle.records.specs.Records.{rows}
use Rattle.records.proofs.Written.{zero_inactive}
use Rattle.phases.specs.Conversations.{Conversation, done, questions}
use Rattle.phases.specs.Dialogues.{Dialogue, comes, whether, dialogue_at}
use Rattle.phases.specs.Visits.{addressed, sent_below}
use Rattle.phases.specs.Exchange.{exchange_dialogue}
use Rattle.phases.specs.Detection.{name_after, detect_dialogue}
use Rattle.phases.specs.Activation.{admissible, enter_dialogue, activate_dialogue}
use Rattle.orders.specs.Orders.{ordered}
use Rattle.orders.specs.Management.{Ended, manage_dialogue}
use Rattle.orders.specs.declared.order.Order.{Order}
use Rattle.orders.specs.declared.order.Order.TheVariants.{Parameter, Reset}
use Rattle.orders.specs.declared.pair.Queues.{Queues}
use Rattle.queues.specs.Fifo.{held}
use Rattle.search.specs.Steps.{Stage, seek, name, enter, step_after}
use Rattle.search.specs.Searches.{Stepped, search_dialogue, taken_by}
use Rattle.control.specs.Cycles.{Master, master_of}
use Rattle.control.specs.Cycling.{with_master_rows, with_master_row, to_step, to_phase, put_answer, with_each, managing, searching, conversation_in, cycle_conversation, row_in_master}
use Rattle.control.specs.AnyReplies.{exchanges_due, NoDataExchange, OnceEachAsked, most_in, AsksOnAnyWire}
use Rattle.control.specs.declared.control.ExecutionControl.{ExecutionControl}
use Rattle.control.specs.declared.control.Phase.{Phase}
use Rattle.control.specs.declared.control.Phase.TheVariants.{Offline, Detection, Activation, Normal}
use Rattle.phases.proofs.Asked.{Said, said, asked_at, asked_each, length_below}

-- Requests other than Data_Exchange

abbrev OneOther : List Asking → Type 0
OneOther [] = Unit {0}
OneOther (q ∷ []) = NoDataExchange q
OneOther (q ∷ r ∷ qs) = ⊥

abbrev AllOthers : List Sent → Type 0
AllOthers qs = AllByRecursion (λ q. NoDataExchange q.asking) qs

record Others (n : ℕ) (qs : List Sent) : Type 0 where
  few : length qs ≤ n
  none : AllOthers qs

one_more : (n a : ℕ) (qs : List Asking) (rest : List Sent) → OneOther qs → Others n rest → Others (suc n) (addressed a qs ++ rest)
one_more n a [] rest one o = record { few = omega (arith, o.few); none = o.none }
one_more n a (q ∷ []) rest one o = record { few = omega (arith, o.few); none = (one, o.none) }
one_more n a (q ∷ r ∷ qs) rest one o = absurd one

-- whatever is replied
abbrev AsksOthers : ℕ → Conversation Master → Type 0
AsksOthers n c = (replies : ℕ → Heard) → Others n (questions replies c)

-- with address a, and then the conversation goes on with what has become of the master
others_at : {A : Type 0} (n a : ℕ) (d : Dialogue A) (left : A → Master) (f : Master → Conversation Master) → ((replies : ℕ → Heard) → OneOther (said replies d).asking) → ((c : Master) → AsksOthers n (f c)) → AsksOthers (suc n) (dialogue_at a d (λ x. f (left x)))
others_at n a d left f one after replies =
    subst (Others (suc n)) (sym (asked_at a (λ x. f (left x)) replies d))
    (one_more n a (said replies d).asking _ (one replies) (after (left (said replies d).came_to) (said replies d).unheard))

-- The search and management

step_asks : (mode : Mode) (t : Stage) (b : ℕ) (r : Row) (replies : ℕ → Heard) → OneOther (said replies (search_dialogue mode t b r)).asking
step_asks mode (seek a) b r replies = tt
step_asks mode (name a c) b r replies = tt
step_asks mode (enter a) b r replies = cond_both (admissible mode b r) _ _ (λ (t : Said Stepped). OneOther t.asking) (λ _. tt) (λ _. tt)

no_more : (n : ℕ) → Others n []
no_more n = record { few = omega arith; none = tt }

search_asks : (n : ℕ) (c : Master) → AsksOthers (suc n) (searching c)
search_asks n c =
    let t = c.control.step in
    let b = taken_by c.control.rows t in
    others_at n b (search_dialogue c.control.mode t b (row_in_master b c))
    (λ (e : Stepped). to_step (step_after t b e.deciding (admissible c.control.mode b e.row)) (with_master_row b e.row c))
    (λ d. done d) (step_asks c.control.mode t b (row_in_master b c)) (λ d replies. no_more n)

order_asks : (q : Asking) (r : Row) → NoDataExchange q → (replies : ℕ → Heard) → OneOther (said replies (manage_dialogue q r)).asking
order_asks q r other replies = cond_both r.active _ _ (λ (t : Said Ended). OneOther t.asking) (λ _. other) (λ _. tt)

manage_asks : (os : List Sent) (c : Master) → AllOthers os → AsksOthers 2 (managing os c searching)
manage_asks [] c others = search_asks 1 c
manage_asks (o ∷ rest) c others =
    cond_both (nat_lt (length c.answers) c.answer_room) _ _ (AsksOthers 2)
    (λ _. others_at 1 o.to (manage_dialogue o.asking (row_in_master o.to c)) (λ (e : Ended). put_answer o rest e.how (with_master_row o.to e.row c)) searching (order_asks o.asking (row_in_master o.to c) others.0) (search_asks 0))
    (λ _. search_asks 1 c)

-- Data exchange

exchange_asks : (r : Row) (replies : ℕ → Heard) → (said replies (exchange_dialogue r)).asking ≡ cond r.active (data_exchange r.odi ∷ []) []
exchange_asks r replies = cond_both r.active _ _ (λ (t : Said Row). t.asking ≡ cond r.active (data_exchange r.odi ∷ []) []) (λ on. sym (cond-true _ _ _ on)) (λ off. sym (cond-false _ _ _ off))

-- address 0 is not asked
due_few : (rs : List Row) → (row_at 0 rs).active ≡ false → length (exchanges_due rs) ≤ 31
due_few rs idle = length_below due (λ n. n - 1) each 32
  where
    due : ℕ → List Asking
    due a = cond (row_at a rs).active (data_exchange (row_at a rs).odi ∷ []) []

    each : (a : ℕ) → length (due a) + (a - 1) ≤ suc a - 1
    each zero = omega (arith, ap length (cond-false _ (data_exchange (row_at 0 rs).odi ∷ []) [] idle))
    each (suc a) = cond_both (row_at (suc a) rs).active _ _ (λ (qs : List Asking). length qs + (suc a - 1) ≤ suc (suc a) - 1) (λ _. omega arith) (λ _. omega arith)

normal_asks : (c : Master) → AllOthers c.orders → (replies : ℕ → Heard) → OnceEachAsked c.control.rows (questions replies (with_each (λ a. exchange_dialogue) c (λ d. managing d.orders d searching)))
normal_asks c orders replies =
    let rs = c.control.rows in
    let it = asked_each (λ a. exchange_dialogue) (λ xs. managing c.orders (with_master_rows xs c) searching) rs replies in
    let later = manage_asks c.orders (with_master_rows it.last c) orders it.unheard in
    let due : sent_below 32 it.asking ≡ exchanges_due rs = (λ i. sent_below 32 (λ a. ((it.says a).1 ∙ exchange_asks (row_at a rs) (it.says a).0) i)) in
    record {
      others = questions it.unheard (managing c.orders (with_master_rows it.last c) searching);
      due_first = it.asked ∙ ap (λ (qs : List Sent). qs ++ questions it.unheard (managing c.orders (with_master_rows it.last c) searching)) due;
      few_others = later.few;
      none_others = later.none;
    }

normal_few : (rs : List Row) (qs : List Sent) → (row_at 0 rs).active ≡ false → OnceEachAsked rs qs → length qs ≤ 33
normal_few rs qs idle once = omega (arith, ap length once.due_first, length-append (exchanges_due rs) once.others, due_few rs idle, once.few_others)

-- Detection and activation

-- most n is how many requests go to the addresses below n at most; nothing follows them
each_ends :
    (dialogue : ℕ → Row → Dialogue Row) (p : Phase) (most : ℕ → ℕ) → ((a : ℕ) (r : Row) (replies : ℕ → Heard) → length (said replies (dialogue a r)).asking + most a ≤ most (suc a))
    → (c : Master) (replies : ℕ → Heard) → length (questions replies (with_each dialogue c (λ d. done (to_phase p d)))) ≤ most 32
each_ends dialogue p most few c replies =
    let it = asked_each dialogue (λ rs. done (to_phase p (with_master_rows rs c))) c.control.rows replies in
    let all = length_below it.asking most (λ a. omega (arith, few a (row_at a c.control.rows) (it.says a).0, ap length (it.says a).1)) 32 in
    omega (arith, ap length (it.asked ∙ append-nil (sent_below 32 it.asking)), all)

name_few : (r : Row) (h : Heard) (replies : ℕ → Heard) → length (said replies (name_after r h)).asking ≤ 1
name_few r (nibble n) replies = omega arith
name_few r silence replies = omega arith
name_few r disturbed replies = omega arith

-- address 0 is never admissible
activate_few : (mode : Mode) (a : ℕ) (r : Row) (replies : ℕ → Heard) → length (said replies (activate_dialogue mode a r)).asking + (a - 1) ≤ suc a - 1
activate_few mode zero r replies =
    let never : (r.detected && admissible mode 0 r) ≡ false = and_right r.detected (admissible mode 0 r) refl in
    let silent : length (said replies (activate_dialogue mode 0 r)).asking ≡ 0 = ap (λ (b : Bool). length (said replies (whether b (enter_dialogue r) (comes r))).asking) never in
    omega (arith, silent)
activate_few mode (suc a) r replies =
    cond_both (r.detected && admissible mode (suc a) r) _ _ (λ (t : Said Row). length t.asking + (suc a - 1) ≤ suc (suc a) - 1) (λ _. omega arith) (λ _. omega arith)

-- Every phase

module _ (c : Master) (idle : (row_in_master 0 c).active ≡ false) (orders : AllOthers c.orders) (powered : Bool) where
  ends_in : (p : Phase) (replies : ℕ → Heard) → length (questions replies (conversation_in p powered c)) ≤ most_in p
  ends_in Offline replies = omega arith
  ends_in Detection replies = each_ends (λ a. detect_dialogue) Activation (λ n. 2 * n) (λ a r rs. omega (arith, name_few r (rs 0) (λ i. rs (suc i)))) c replies
  ends_in Activation replies = each_ends (activate_dialogue c.control.mode) Normal (λ n. n - 1) (activate_few c.control.mode) c replies
  ends_in Normal replies = normal_few c.control.rows _ idle (normal_asks c orders replies)

  phase_asks : (p : Phase) → AsksOnAnyWire p c.control.rows (conversation_in p powered c)
  phase_asks p =
      record {
        ends = ends_in p;
        once_each = λ normal. subst (λ (k : Phase). (replies : ℕ → Heard) → OnceEachAsked c.control.rows (questions replies (conversation_in k powered c))) (sym normal) (normal_asks c orders);
      }

orders_other : (os : List Order) → AllOthers (map ordered os)
orders_other [] = tt
orders_other (Parameter a n ∷ os) = (tt, orders_other os)
orders_other (Reset a ∷ os) = (tt, orders_other os)

-- a cycle as a master with its queues begins it
pub cycle_asks : (m : ExecutionControl) (q : Queues) (powered : Bool) {p : Phase} {rest : Conversation Master} → rest ≡ cycle_conversation p powered (master_of m q) → AsksOnAnyWire p (rows m.table.rows) rest
unfolding cycle_conversation
cycle_asks m q powered {p} is =
    subst (AsksOnAnyWire p (rows m.table.rows)) (sym is) (phase_asks (master_of m q) (zero_inactive m.table.rows) (orders_other (held q.orders)) powered p)
