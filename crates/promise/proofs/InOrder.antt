-- On the log orders are collected in the order in which they were accepted: turn by turn, and so over a succession.
use Rattle.std.proofs.Common.{◌≡◌, ℕ, cond, List, [], ◌∷◌, ◌++◌, map, sym, refl, ap, ◌∙◌}
use Rattle.std.proofs.lemmas.List.{append-nil, append_assoc, map-append}
use Rattle.values.specs.Refusals.{Outcome, gives, refuses_for}
use Rattle.values.specs.Tables.{table}
use Rattle.telegrams.specs.Requests.{Sent}
use Rattle.queues.specs.Fifo.{take_outcome}
use Rattle.records.specs.Rows.{inputs_outcome}
use Rattle.orders.specs.Orders.{Told}
use Rattle.phases.specs.Visits.{sent_below}
use Rattle.search.specs.Steps.{pick_within}
use Rattle.control.specs.Cycles.{Control, Master, new_control, everywhere, manage, search_on, stay_offline, cycle}
use Rattle.promise.specs.Successions.{order_from, Reading, of_inputs, of_lists, Call, placing, collecting, reading, writing, setting, editing, projecting_all, Turn, cycling, calling, placing_outcome, turned, after}
use Rattle.promise.specs.Outcomes.{inputs, collected, came_from, simply, read_as, call_comes_to, comes_to, writing_outcome, setting_outcome}
use Rattle.promise.specs.Answering.{order_in, accepted_by_call, put_by, first_of, collected_by_call}
use Rattle.promise.specs.InOrder.{all_come_to, was_done, made_order, placed_by, orders_placed, order_told, orders_collected, pending, InOrder, OneOrder}
use Rattle.promise.proofs.Queues.{cycle_puts, call_serves}

abbrev orders_of : List Told → List Sent
orders_of xs = map (λ x. x.order) xs

-- What the log shows of a call

placed_by_placing : (q : Outcome Sent) (o : Outcome (Unit {0})) → cond (was_done (simply o)) (made_order q) [] ≡ order_in q o
placed_by_placing (gives q) (gives u) = refl
placed_by_placing (gives q) (refuses_for n k) = refl
placed_by_placing (refuses_for n k) (gives u) = refl
placed_by_placing (refuses_for n k) (refuses_for m j) = refl

shows_placed : (k : Call) (c : Master) → placed_by (calling k) (call_comes_to k c) ≡ accepted_by_call k c
shows_placed (placing w) c = placed_by_placing (order_from w) (placing_outcome (order_from w) c)
shows_placed collecting c = refl
shows_placed (reading r) c = refl
shows_placed (writing w) c = refl
shows_placed (setting s) c = refl
shows_placed (editing e) c = refl
shows_placed (projecting_all es) c = refl

tells_none : (o : Outcome (Unit {0})) → order_told (simply o) ≡ []
tells_none (gives u) = refl
tells_none (refuses_for n k) = refl

tells_inputs : (o : Outcome ℕ) → order_told (came_from inputs o) ≡ []
tells_inputs (gives n) = refl
tells_inputs (refuses_for n k) = refl

-- no reading collects an answer
reading_tells_none : (r : Reading) (m : Control) → order_told (read_as r m) ≡ []
reading_tells_none (of_inputs a) m = tells_inputs (inputs_outcome a m.rows)
reading_tells_none of_lists m = refl

tells_oldest : (xs : List Told) → order_told (came_from collected (take_outcome xs)) ≡ orders_of (first_of xs)
tells_oldest [] = refl
tells_oldest (x ∷ xs) = refl

shows_collected : (k : Call) (c : Master) → order_told (call_comes_to k c) ≡ orders_of (collected_by_call k c)
shows_collected (placing w) c = tells_none (placing_outcome (order_from w) c)
shows_collected collecting c = tells_oldest c.answers
shows_collected (reading r) c = reading_tells_none r c.control
shows_collected (writing w) c = tells_none (writing_outcome w)
shows_collected (setting s) c = tells_none (setting_outcome s c.control)
shows_collected (editing e) c = tells_none _
shows_collected (projecting_all es) c = refl

-- Turn by turn

turn_in_order : (t : Turn) (c : Master) → pending c ++ placed_by t (comes_to t c) ≡ order_told (comes_to t c) ++ pending (turned t c)
turn_in_order (cycling line) c =
    let z = cycle_puts c line in
    let c' = (cycle c line).master in
    append-nil (pending c)
    ∙ ap (λ (os : List Sent). orders_of c.answers ++ os) z.orders_are
    ∙ sym (append_assoc (orders_of c.answers) (orders_of (put_by c line)) c'.orders)
    ∙ ap (λ (os : List Sent). os ++ c'.orders) (sym (map-append (λ x. x.order) c.answers (put_by c line)))
    ∙ ap (λ (xs : List Told). orders_of xs ++ c'.orders) (sym z.answers_are)
turn_in_order (calling k) c =
    let z = call_serves k c in
    let c' = turned (calling k) c in
    let gone = collected_by_call k c in
    ap (λ (os : List Sent). pending c ++ os) (shows_placed k c)
    ∙ append_assoc (orders_of c.answers) c.orders (accepted_by_call k c)
    ∙ ap (λ (os : List Sent). orders_of c.answers ++ os) (sym z.orders_are)
    ∙ ap (λ (xs : List Told). orders_of xs ++ c'.orders) z.answers_are
    ∙ ap (λ (os : List Sent). os ++ c'.orders) (map-append (λ x. x.order) gone c'.answers)
    ∙ append_assoc (orders_of gone) (orders_of c'.answers) c'.orders
    ∙ ap (λ (os : List Sent). os ++ pending c') (sym (shows_collected k c))

pub in_order : (c : Master) (ts : List Turn) → InOrder c ts (all_come_to ts c) (after ts c)
in_order c [] = append-nil (pending c)
in_order c (t ∷ ts) =
    let c' = turned t c in
    let y = comes_to t c in
    let ys = all_come_to ts c' in
    sym (append_assoc (pending c) (placed_by t y) (orders_placed ts ys))
    ∙ ap (λ (os : List Sent). os ++ orders_placed ts ys) (turn_in_order t c)
    ∙ append_assoc (order_told y) (pending c') (orders_placed ts ys)
    ∙ ap (λ (os : List Sent). order_told y ++ os) (in_order c' ts)
    ∙ sym (append_assoc (order_told y) (orders_collected ys) (pending (after ts c')))

-- The example

pub one_order : OneOrder
unfolding table sent_below pick_within new_control everywhere manage search_on stay_offline cycle
one_order = record { log = refl; accepted = refl; told = refl }
