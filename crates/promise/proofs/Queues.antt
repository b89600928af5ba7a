-- What a turn does with the two queues: a cycle moves at most one order to the answers, any other call adds at most one order behind
-- and takes at most one answer in front. So there is always room for the answers of the orders that wait.
use Rattle.std.proofs.Common.{◌≡◌, ℕ, ◌+◌, ◌<◌, ◌≤◌, Bool, true, false, cond, ◌&&◌, ltb, List, [], ◌∷◌, ◌++◌, map, length, drop, sym, refl, ap, ◌∙◌, subst, arith}
use Rattle.std.proofs.lemmas.List.{append-nil, length-append, length-map}
use Rattle.std.proofs.lemmas.Bool.{lt-ltb, ltb-true, and_parts, cond-true, cond-false}
use Rattle.values.specs.Refusals.{Outcome, gives, refuses, refuses_for}
use Rattle.telegrams.specs.Requests.{Sent}
use Rattle.queues.specs.Fifo.{take_after}
use Rattle.records.specs.Rows.{row_at}
use Rattle.orders.specs.Orders.{Told}
use Rattle.control.specs.Placing.{is_normal}
use Rattle.control.specs.declared.control.Phase.{Phase}
use Rattle.control.specs.declared.control.Phase.TheVariants.{Offline, Detection, Activation, Normal}
use Rattle.lines.specs.Lines.{Meaning}
use Rattle.control.specs.Cycles.{Control, Master, Scene, with_control, beginning, everywhere, exchange, ending_at, carry_out, manage_by, manage, search_on, stay_offline, run, running, cycle}
use Rattle.promise.specs.Successions.{order_from, Call, placing, collecting, reading, writing, setting, editing, projecting_all, Turn, cycling, calling, placing_outcome, waiting_after, with_queues, called, after}
use Rattle.promise.specs.Answering.{order_in, accepted_by_call, put_by, first_of, collected_by_call}

-- there is room for the answer of every order that waits
abbrev pub Room : Master → Type 0
Room c = length c.orders + length c.answers ≤ c.answer_room

-- Cycles

-- these answers were put, and nothing else became of the queues
pub record Puts (c c' : Master) (put : List Told) : Type 0 where
  pub orders_are : c.orders ≡ map (λ x. x.order) put ++ c'.orders
  pub answers_are : c'.answers ≡ c.answers ++ put
  pub room_is : c'.answer_room ≡ c.answer_room

abbrev pub answer_to : Scene → Sent → Told
answer_to s o = record { order = o; how = ending_at s o }

-- what management puts where these orders wait
abbrev pub putting : List Sent → Scene → List Told
putting [] s = []
putting (o ∷ rest) s = cond (ltb (length s.master.answers) s.master.answer_room) (answer_to s o ∷ []) []

puts_none : (c : Master) (m : Control) → Puts c (with_control m c) []
puts_none c m = record { orders_are = refl; answers_are = sym (append-nil c.answers); room_is = refl }

puts_manage : (os : List Sent) (s : Scene) → s.master.orders ≡ os → Puts s.master (manage_by os s).master (putting os s)
unfolding everywhere
puts_manage [] s e = puts_none s.master s.master.control
puts_manage (o ∷ rest) s e =
    elim (ltb (length s.master.answers) s.master.answer_room) as
    (λ t. Puts s.master (cond t (carry_out o rest s) s).master (cond t (answer_to s o ∷ []) []))
    [ true ↦ record { orders_are = e; answers_are = refl; room_is = refl } | false ↦ puts_none s.master s.master.control ]

puts_run : (p : Phase) (c : Master) (line : Meaning) → Puts c (run p (beginning c line)).master (cond (is_normal p) (putting c.orders (exchange (beginning c line))) [])
unfolding stay_offline everywhere manage search_on
puts_run Offline c line = puts_none c (run Offline (beginning c line)).master.control
puts_run Detection c line = puts_none c (run Detection (beginning c line)).master.control
puts_run Activation c line = puts_none c (run Activation (beginning c line)).master.control
puts_run Normal c line =
    let z = puts_manage c.orders (exchange (beginning c line)) refl in
    record { orders_are = z.orders_are; answers_are = z.answers_are; room_is = z.room_is }

drop-before : {X : Type 0} (xs ys : List X) → drop (length xs) (xs ++ ys) ≡ ys
drop-before [] ys = refl
drop-before (x ∷ xs) ys = drop-before xs ys

module _ (c : Master) (line : Meaning) where
  abbrev put_in : List Told
  put_in = cond (is_normal (running c.control line)) (putting c.orders (exchange (beginning c line))) []

  puts_cycle : Puts c (cycle c line).master put_in
  unfolding cycle
  puts_cycle = puts_run (running c.control line) c line

  put_by_is : put_by c line ≡ put_in
  put_by_is = ap (drop (length c.answers)) puts_cycle.answers_are ∙ drop-before c.answers put_in

  pub cycle_puts : Puts c (cycle c line).master (put_by c line)
  cycle_puts = subst (Puts c (cycle c line).master) (sym put_by_is) puts_cycle

  -- no answer is put in another phase, and that of the oldest order in the normal phase
  pub idle_puts : is_normal (running c.control line) ≡ false → put_by c line ≡ []
  idle_puts idle = put_by_is ∙ cond-false _ _ _ idle

  pub normal_puts : (o : Sent) (rest : List Sent) → is_normal (running c.control line) ≡ true → c.orders ≡ o ∷ rest → Room c → put_by c line ≡ answer_to (exchange (beginning c line)) o ∷ []
  unfolding everywhere
  normal_puts o rest normal waits room =
      put_by_is
      ∙ cond-true _ _ _ normal
      ∙ ap (λ (os : List Sent). putting os (exchange (beginning c line))) waits
      ∙ cond-true _ _ _ (lt-ltb (length c.answers) c.answer_room (omega (arith, ap length waits)))

-- Other calls

-- these orders were added and these answers taken, and nothing else became of the queues
pub record Serves (c c' : Master) (accepted : List Sent) (collected : List Told) : Type 0 where
  pub orders_are : c'.orders ≡ c.orders ++ accepted
  pub answers_are : c.answers ≡ collected ++ c'.answers
  pub room_is : c'.answer_room ≡ c.answer_room
  pub fits : Room c → length c.orders + length accepted + length c.answers ≤ c.answer_room

serves_none : (c : Master) (m : Control) → Serves c (with_control m c) [] []
serves_none c m = record { orders_are = sym (append-nil c.orders); answers_are = refl; room_is = refl; fits = λ h. omega arith }

serves_collecting : (c : Master) (xs : List Told) → c.answers ≡ xs → Serves c (with_queues c.orders (take_after xs) c) [] (first_of xs)
serves_collecting c [] e = record { orders_are = sym (append-nil c.orders); answers_are = e; room_is = refl; fits = λ h. omega arith }
serves_collecting c (x ∷ xs) e = record { orders_are = sym (append-nil c.orders); answers_are = e; room_is = refl; fits = λ h. omega arith }

abbrev ServesPlacing : Master → Outcome Sent → Outcome (Unit {0}) → Type 0
ServesPlacing c w o = Serves c (with_queues (waiting_after w o c.orders) c.answers c) (order_in w o) []

serves_refused : (c : Master) (w : Outcome Sent) (n m : ℕ) → ServesPlacing c w (refuses_for n m)
serves_refused c (gives q) n m = serves_none c c.control
serves_refused c (refuses_for k j) n m = serves_none c c.control

serves_placed : (c : Master) (q : Sent) → length c.orders + length c.answers < c.answer_room → ServesPlacing c (gives q) (gives tt)
serves_placed c q free = record { orders_are = refl; answers_are = refl; room_is = refl; fits = λ h. omega arith }

serves_placing : (c : Master) (w : Outcome Sent) → ServesPlacing c w (placing_outcome w c)
serves_placing c (refuses_for n m) = serves_none c c.control
serves_placing c (gives q) = by (is_normal c.control.phase) (row_at q.to c.control.rows).active _ refl
  where
    by : (normal active free : Bool) → (ltb (length c.orders) c.order_room && ltb (length c.orders + length c.answers) c.answer_room) ≡ free →
        ServesPlacing c (gives q) (cond normal (cond active (cond free (gives tt) (refuses 0x8311)) (refuses 0x8382)) (refuses 0x8384))
    by false active free e = serves_refused c (gives q) 0x8384 0
    by true false free e = serves_refused c (gives q) 0x8382 0
    by true true false e = serves_refused c (gives q) 0x8311 0
    by true true true e = serves_placed c q (ltb-true _ _ (and_parts _ _ e).1)

pub call_serves : (k : Call) (c : Master) → Serves c (called k c) (accepted_by_call k c) (collected_by_call k c)
call_serves (placing w) c = serves_placing c (order_from w)
call_serves collecting c = serves_collecting c c.answers refl
call_serves (reading r) c = serves_none c c.control
call_serves (writing w) c = serves_none c (called (writing w) c).control
call_serves (setting s) c = serves_none c (called (setting s) c).control
call_serves (editing e) c = serves_none c (called (editing e) c).control
call_serves (projecting_all es) c = serves_none c (called (projecting_all es) c).control

-- Room

pub room_cycle : (c : Master) (line : Meaning) → Room c → Room (cycle c line).master
room_cycle c line h =
    let z = cycle_puts c line in
    let put = put_by c line in
    let before = ap length z.orders_are ∙ length-append (map (λ x. x.order) put) (cycle c line).master.orders in
    let later = ap length z.answers_are ∙ length-append c.answers put in
    omega (arith, length-map put (λ x. x.order), z.room_is)

pub room_call : (k : Call) (c : Master) → Room c → Room (called k c)
room_call k c h =
    let z = call_serves k c in
    let later = ap length z.orders_are ∙ length-append c.orders (accepted_by_call k c) in
    let before = ap length z.answers_are ∙ length-append (collected_by_call k c) (called k c).answers in
    omega (arith, z.fits h, z.room_is)

pub room_after : (p : List Turn) (c : Master) → Room c → Room (after p c)
room_after [] c h = h
room_after (cycling line ∷ p) c h = room_after p (cycle c line).master (room_cycle c line h)
room_after (calling k ∷ p) c h = room_after p (called k c) (room_call k c h)
