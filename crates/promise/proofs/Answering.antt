-- Orders are answered in the order in which they came, and answers are collected in the order in which they were put. An order that waits
-- behind k others is answered in the normal cycle behind k others, and in no other.
use Rattle.std.proofs.Common.{◌≡◌, ℕ, ◌+◌, ◌<◌, Bool, true, false, cond, List, [], ◌∷◌, ◌++◌, map, length, sym, refl, ap, ◌∙◌, subst, arith}
use mathlib.Core.List.{tail-eq_of_cons-eq}
use Rattle.std.proofs.lemmas.List.{append-nil, append_assoc, map-append, length-append, length-map}
use Rattle.std.specs.List.{AllByRecursion}
use Rattle.std.proofs.lemmas.Bool.{both_ways, false≢true}
use Rattle.values.specs.Refusals.{Outcome, gives, refuses_for, accepts}
use Rattle.telegrams.specs.Requests.{Sent}
use Rattle.orders.specs.Orders.{Told}
use Rattle.control.specs.Placing.{is_normal}
use Rattle.lines.specs.Lines.{Meaning}
use Rattle.control.specs.Cycles.{Master, new_master, beginning, exchange, running, cycle}
use Rattle.promise.specs.Successions.{Placement, order_from, Call, placing, Turn, cycling, calling, placing_outcome, called, after}
use Rattle.promise.specs.Answering.{order_in, accepted_by_call, accepted_by, put_by, answered_by, collected_by_call, collected_by, FirstCome, Numbered, is_normal_cycle, numbered_cycles, AnswersIt, InTurn, AnsweredInTurn}
use Rattle.promise.proofs.Queues.{Room, Puts, answer_to, cycle_puts, idle_puts, normal_puts, call_serves, room_cycle, room_call, room_after}

abbrev orders_of : List Told → List Sent
orders_of xs = map (λ x. x.order) xs

-- First in, first out

-- the orders that wait and then those accepted are those answered and then those that wait afterwards
answered_all : (p : List Turn) (c : Master) → c.orders ++ accepted_by c p ≡ orders_of (answered_by c p) ++ (after p c).orders
answered_all [] c = append-nil c.orders
answered_all (cycling line ∷ p) c =
    let c' = (cycle c line).master in
    ap (λ (os : List Sent). os ++ accepted_by c' p) (cycle_puts c line).orders_are
    ∙ append_assoc (orders_of (put_by c line)) c'.orders (accepted_by c' p)
    ∙ ap (λ (os : List Sent). orders_of (put_by c line) ++ os) (answered_all p c')
    ∙ sym (append_assoc (orders_of (put_by c line)) (orders_of (answered_by c' p)) (after p c').orders)
    ∙ ap (λ (os : List Sent). os ++ (after p c').orders) (sym (map-append (λ x. x.order) (put_by c line) (answered_by c' p)))
answered_all (calling k ∷ p) c =
    sym (append_assoc c.orders (accepted_by_call k c) (accepted_by (called k c) p))
    ∙ ap (λ (os : List Sent). os ++ accepted_by (called k c) p) (sym (call_serves k c).orders_are)
    ∙ answered_all p (called k c)

-- the same of the answers that are uncollected
collected_all : (p : List Turn) (c : Master) → c.answers ++ answered_by c p ≡ collected_by c p ++ (after p c).answers
collected_all [] c = append-nil c.answers
collected_all (cycling line ∷ p) c =
    let c' = (cycle c line).master in
    sym (append_assoc c.answers (put_by c line) (answered_by c' p))
    ∙ ap (λ (xs : List Told). xs ++ answered_by c' p) (sym (cycle_puts c line).answers_are)
    ∙ collected_all p c'
collected_all (calling k ∷ p) c =
    let c' = called k c in
    ap (λ (xs : List Told). xs ++ answered_by c' p) (call_serves k c).answers_are
    ∙ append_assoc (collected_by_call k c) c'.answers (answered_by c' p)
    ∙ ap (λ (xs : List Told). collected_by_call k c ++ xs) (collected_all p c')
    ∙ sym (append_assoc (collected_by_call k c) (collected_by c' p) (after p c').answers)

pub first_in_first_out : (order_room answer_room : ℕ) (p : List Turn) → FirstCome (new_master order_room answer_room) p
first_in_first_out order_room answer_room p =
    let new = new_master order_room answer_room in
    record { answered_in_order = answered_all p new; collected_in_order = collected_all p new }

-- In turn

module _ (k n : ℕ) (o : Sent) where
  abbrev Turns : ℕ → ℕ → Master → List Turn → Type 0
  Turns i m c q = AllByRecursion (InTurn k n o) (numbered_cycles i m c q)

  -- after its answer was put, no cycle answers the order
  past : (q : List Turn) (i m : ℕ) (c : Master) → k < i → n < m → Turns i m c q
  past [] i m c later put = tt
  past (calling x ∷ q) i m c later put = past q i m (called x c) later put
  past (cycling line ∷ q) i m c later put = (
    record { in_time = λ normal e. absurd (omega arith); in_no_other = λ z. absurd (omega (arith, z.not_before)) },
    past q (i + cond (is_normal (running c.control line)) 1 0) (m + length (put_by c line)) (cycle c line).master (omega arith) (omega arith),
  )

  -- the order waits behind these in c, where i normal cycles came since it was accepted and m answers were put
  record Waiting (i m : ℕ) (c : Master) (os : List Sent) : Type 0 where
    rest : List Sent
    queue : c.orders ≡ os ++ o ∷ rest
    room : Room c
    number : m + length os ≡ n
    turn : i + length os ≡ k

  waiting_call : (x : Call) (i m : ℕ) (c : Master) (os : List Sent) → Waiting i m c os → Waiting i m (called x c) os
  waiting_call x i m c os w =
      record {
        rest = w.rest ++ accepted_by_call x c;
        queue = (call_serves x c).orders_are ∙ ap (λ (l : List Sent). l ++ accepted_by_call x c) w.queue ∙ append_assoc os (o ∷ w.rest) (accepted_by_call x c);
        room = room_call x c w.room;
        number = w.number;
        turn = w.turn;
      }

  module _ (c : Master) (line : Meaning) (i m : ℕ) (q : List Turn) where
    abbrev next : Master
    next = (cycle c line).master

    abbrev now : Numbered
    now = record { met = record { master = c; line = line }; normal_before = i; answers_before = m }

    abbrev one_more : ℕ
    one_more = i + cond (is_normal_cycle now.met) 1 0

    abbrev put_more : ℕ
    put_more = m + length (put_by c line)

    -- a normal cycle takes the oldest order
    took : (v : Sent) (tail : List Sent) → is_normal_cycle now.met ≡ true → c.orders ≡ v ∷ tail → Room c → AnswersIt v now.met
    took v tail normal waits room =
        let put : put_by c line ≡ answer_to (exchange (beginning c line)) v ∷ [] = normal_puts c line v tail normal waits room in
        let z = subst (Puts c next) put (cycle_puts c line) in
        let both : v ∷ tail ≡ v ∷ next.orders = sym waits ∙ z.orders_are in
        record { rest = tail; waited = waits; waits = sym (tail-eq_of_cons-eq both); put = z.answers_are }

    one_put : (v : Sent) (tail : List Sent) → is_normal_cycle now.met ≡ true → c.orders ≡ v ∷ tail → Room c → length (put_by c line) ≡ 1
    one_put v tail normal waits room = ap length (normal_puts c line v tail normal waits room)

    one_on : (t : Bool) → is_normal_cycle now.met ≡ t → one_more ≡ i + cond t 1 0
    one_on t e = ap (λ (u : Bool). i + cond u 1 0) e

    in_turn_cycle : (t : Bool) (os : List Sent) → is_normal_cycle now.met ≡ t → Waiting i m c os → ((os' : List Sent) → Waiting one_more put_more next os' → Turns one_more put_more next q) → InTurn k n o now × Turns one_more put_more next q
    unfolding took
    in_turn_cycle false os idle w go =
        let none = idle_puts c line idle in
        let few : length (put_by c line) ≡ 0 = ap length none in
        let same : one_more ≡ i + 0 = one_on false idle in
        let z = subst (Puts c next) none (cycle_puts c line) in (
          record { in_time = λ normal e. absurd (both_ways (is_normal_cycle now.met) idle normal); in_no_other = λ x. absurd (omega (arith, few, x.not_before, x.not_after)) },
          go os
              (record {
                rest = w.rest;
                queue = sym z.orders_are ∙ w.queue;
                room = room_cycle c line w.room;
                number = omega (arith, few, w.number);
                turn = omega (arith, same, w.turn);
              }),
        )
    in_turn_cycle true [] normal w go =
        let one = one_put o w.rest normal w.queue w.room in
        let same : one_more ≡ i + 1 = one_on true normal in (
          record {
            in_time = λ _ e. (took o w.rest normal w.queue w.room, record { not_before = omega (arith, w.number); not_after = omega (arith, one, w.number) });
            in_no_other = λ x. (normal, omega (arith, w.turn));
          },
          past q one_more put_more next (omega (arith, same, w.turn)) (omega (arith, one, w.number)),
        )
    in_turn_cycle true (v ∷ os) normal w go =
        let tail = os ++ o ∷ w.rest in
        let one = one_put v tail normal w.queue w.room in
        let same : one_more ≡ i + 1 = one_on true normal in (
          record { in_time = λ _ e. absurd (omega (arith, w.turn)); in_no_other = λ x. absurd (omega (arith, one, w.number, x.not_after)) },
          go os
              (record {
                rest = w.rest;
                queue = (took v tail normal w.queue w.room).waits;
                room = room_cycle c line w.room;
                number = omega (arith, one, w.number);
                turn = omega (arith, same, w.turn);
              }),
        )

  in_turn : (q : List Turn) (i m : ℕ) (c : Master) (os : List Sent) → Waiting i m c os → Turns i m c q
  in_turn [] i m c os w = tt
  in_turn (calling x ∷ q) i m c os w = in_turn q i m (called x c) os (waiting_call x i m c os w)
  in_turn (cycling line ∷ q) i m c os w =
      in_turn_cycle c line i m q (is_normal (running c.control line)) os refl w
      (in_turn q (i + cond (is_normal (running c.control line)) 1 0) (m + length (put_by c line)) (cycle c line).master)

-- an accepted order joins those that wait
joins : (w : Placement) (o : Sent) (c : Master) → order_from w ≡ gives o → accepts (placing_outcome (order_from w) c) ≡ true → (called (placing w) c).orders ≡ c.orders ++ o ∷ []
joins w o c makes accepted = (call_serves (placing w) c).orders_are ∙ ap (λ (l : List Sent). c.orders ++ l) (by (order_from w) (placing_outcome (order_from w) c) makes accepted)
  where
    by : (x : Outcome Sent) (y : Outcome (Unit {0})) → x ≡ gives o → accepts y ≡ true → order_in x y ≡ o ∷ []
    by x (gives u) e a = ap (λ (z : Outcome Sent). order_in z (gives u)) e
    by x (refuses_for n m) e a = absurd (false≢true a)

pub answered_in_turn : (order_room answer_room : ℕ) (p q : List Turn) (w : Placement) → AnsweredInTurn (new_master order_room answer_room) p w q
answered_in_turn order_room answer_room p q w o makes accepted =
    let new = new_master order_room answer_room in
    let c = after p new in
    let answered = answered_by new p in
    let counted : length (accepted_by new p) ≡ length (orders_of answered) + length c.orders =
    ap length (answered_all p new) ∙ length-append (orders_of answered) c.orders in
    in_turn (length c.orders) (length (accepted_by new p)) o q 0 (length answered) (called (placing w) c) c.orders
    (record {
      rest = [];
      queue = joins w o c makes accepted;
      room = room_call (placing w) c (room_after p new (omega arith));
      number = omega (arith, counted, length-map answered (λ x. x.order));
      turn = omega arith;
    })
