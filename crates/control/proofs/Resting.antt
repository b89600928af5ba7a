-- What is left of a part of a cycle: its next address, or its end.
use Rattle.std.proofs.Common.{◌≡◌, ℕ, zero, suc, ◌+◌, ◌-◌, ◌<◌, ◌≤◌, Bool, true, false, cond, ◌&&◌, List, [], ◌∷◌, ◌++◌, map, length, drop, Some, None, Option, set, sym, refl, ap, ◌∙◌, arith}
use Rattle.std.specs.Prelude.{nat_lt}
use Rattle.std.proofs.lemmas.List.{set-get_or, get_or-set_same, length-map, map-append}
use Rattle.std.proofs.lemmas.Option.{none-some}
use Rattle.std.proofs.lemmas.Bool.{cond-true, cond-false}
use Rattle.telegrams.specs.Requests.{Sent, Heard, nibble, silence, disturbed, write_parameter}
use Rattle.records.specs.Rows.{Row, new_row, row_at}
use Rattle.records.specs.declared.record.Mode.{Mode}
use Rattle.records.specs.Ahead.{active_within, first_active}
use Rattle.phases.specs.Exchange.{exchange_asking, exchange_dialogue}
use Rattle.phases.specs.Detection.{detect_dialogue}
use Rattle.phases.specs.Activation.{admissible, entered, enter_dialogue, activate_dialogue}
use Rattle.phases.specs.Conversations.{Conversation, done}
use Rattle.phases.specs.Dialogues.{Dialogue, comes, asks, whether, dialogue_at, dialogues_from}
use Rattle.queues.specs.Fifo.{held, room, take_after, put_after, oldest_of}
use Rattle.orders.specs.Orders.{ordered, ending, inactive, told as told_of}
use Rattle.orders.specs.Management.{Ended, manage_dialogue, next_order}
use Rattle.orders.specs.Queues.{waiting, uncollected, Served}
use Rattle.orders.specs.declared.order.Order.{Order}
use Rattle.orders.specs.declared.order.Answer.{Answer}
use Rattle.orders.specs.declared.pair.Queues.{Queues}
use Rattle.search.specs.Steps.{step_after}
use Rattle.control.specs.Cycles.{Control, Master, with_step, with_rows}
use Rattle.control.specs.Cycling.{row_in_master, with_master_rows, with_master_row, to_step, to_phase, managing, searching}
use Rattle.control.specs.declared.control.Phase.TheVariants.{Activation, Normal}
use Rattle.control.proofs.Serving.{oldest_is}
use Rattle.control.specs.Turns.{with_each_from, detect_rest, activate_rest, manage_rest, exchange_rest, entered_with, enter_asking, put_back, manage_turn}

abbrev pub master_with : Control → Queues → Master
master_with m q = record { control = m; orders = waiting q; answers = uncollected q; order_room = room q.orders; answer_room = room q.answers }

module _ (dialogue : ℕ → Row → Dialogue Row) (f : Master → Conversation Master) where
  pub dialogues_next : (a : ℕ) (c : Master) → a < 32 → with_each_from dialogue a c f ≡ dialogue_at a (dialogue a (row_in_master a c)) (λ r. with_each_from dialogue (a + 1) (with_master_row a r c) f)
  unfolding dialogues_from
  dialogues_next a c inside =
      let more : 32 - a ≡ suc (31 - a) = omega (arith, inside) in
      let rest : 31 - a ≡ 32 - (a + 1) = omega (arith, inside) in
      ap (λ (n : ℕ). dialogues_from dialogue n a c.control.rows (λ rs. f (with_master_rows rs c))) more
      ∙ ap (λ (n : ℕ). dialogue_at a (dialogue a (row_in_master a c)) (λ r. dialogues_from dialogue n (a + 1) (set c.control.rows a r) (λ rs. f (with_master_rows rs c)))) rest

  pub dialogues_end : (a : ℕ) (c : Master) → a ≡ 32 → with_each_from dialogue a c f ≡ f c
  unfolding dialogues_from
  dialogues_end a c end =
      let none : 32 - a ≡ 0 = omega (arith, end) in
      ap (λ (n : ℕ). dialogues_from dialogue n a c.control.rows (λ rs. f (with_master_rows rs c))) none

-- Where an address is asked only if it passes a test
module _ (test : ℕ → Row → Bool) (asking : ℕ → Row → Dialogue Row) (f : Master → Conversation Master) where
  abbrev tested : ℕ → Row → Dialogue Row
  tested a r = whether (test a r) (asking a r) (comes r)

  pub skipped : (a : ℕ) (c : Master) → a < 32 → test a (row_in_master a c) ≡ false → with_each_from tested a c f ≡ with_each_from tested (a + 1) c f
  skipped a c inside off =
      dialogues_next tested f a c inside
      ∙ cond-false _ _ _ off
      ∙ ap (λ (rs : List Row). with_each_from tested (a + 1) (with_master_rows rs c) f) (set-get_or c.control.rows a new_row)

  pub taken_next : (a : ℕ) (c : Master) → a < 32 → test a (row_in_master a c) ≡ true → with_each_from tested a c f ≡ dialogue_at a (asking a (row_in_master a c)) (λ r. with_each_from tested (a + 1) (with_master_row a r c) f)
  taken_next a c inside on = dialogues_next tested f a c inside ∙ cond-true _ _ _ on

-- Data exchange

-- address b is asked, with n as its outputs
abbrev pub exchange_turn : ℕ → ℕ → Master → Conversation Master
exchange_turn n b c = dialogue_at b (exchange_asking n (row_in_master b c)) (λ r. exchange_rest (b + 1) (with_master_row b r c))

-- address b is asked, with its ODI
abbrev exchange_now : ℕ → Master → Conversation Master
exchange_now b c = exchange_turn (row_in_master b c).odi b c

abbrev active_there : ℕ → Row → Bool
active_there a r = r.active

abbrev asking_odi : ℕ → Row → Dialogue Row
asking_odi a r = exchange_asking r.odi r

value_of : Option ℕ → ℕ
value_of None = 0
value_of (Some k) = k

exchange_ends : (n a : ℕ) (c : Master) → a + n ≡ 32 → active_within n a c.control.rows ≡ None → exchange_rest a c ≡ manage_rest c
unfolding active_within
exchange_ends zero a c sized none = dialogues_end (λ b. exchange_dialogue) manage_rest a c (omega (arith, sized))
exchange_ends (suc n) a c sized none = by_activity (row_in_master a c).active refl none (exchange_ends n (a + 1) c (omega (arith, sized)))
  where
    by_activity : (b : Bool) → (row_in_master a c).active ≡ b → cond b (Some a) (active_within n (a + 1) c.control.rows) ≡ None → (active_within n (a + 1) c.control.rows ≡ None → exchange_rest (a + 1) c ≡ manage_rest c) → exchange_rest a c ≡ manage_rest c
    by_activity true is e rest = absurd (none-some a (sym e))
    by_activity false is e rest = skipped active_there asking_odi manage_rest a c (omega (arith, sized)) is ∙ rest e

exchange_comes : (n a : ℕ) (c : Master) (b : ℕ) → a + n ≡ 32 → active_within n a c.control.rows ≡ Some b → (exchange_rest a c ≡ exchange_now b c) × (a ≤ b)
unfolding active_within value_of
exchange_comes zero a c b sized some = absurd (none-some b some)
exchange_comes (suc n) a c b sized some = by_activity (row_in_master a c).active refl some (exchange_comes n (a + 1) c b (omega (arith, sized)))
  where
    by_activity : (t : Bool) → (row_in_master a c).active ≡ t → cond t (Some a) (active_within n (a + 1) c.control.rows) ≡ Some b → (active_within n (a + 1) c.control.rows ≡ Some b → (exchange_rest (a + 1) c ≡ exchange_now b c) × (a + 1 ≤ b)) → (exchange_rest a c ≡ exchange_now b c) × (a ≤ b)
    by_activity true is e rest =
        let same : a ≡ b = ap value_of e in
        (taken_next active_there asking_odi manage_rest a c (omega (arith, sized)) is ∙ ap (λ (k : ℕ). exchange_now k c) same, omega (arith, same))
    by_activity false is e rest =
        let later = rest e in
        (skipped active_there asking_odi manage_rest a c (omega (arith, sized)) is ∙ later.0, omega (arith, later.1))

-- nothing is exchanged with address 0
pub exchange_first : (a : ℕ) (c : Master) → a ≡ 0 → (row_in_master 0 c).active ≡ false → exchange_rest (a + 1) c ≡ exchange_rest 0 c
exchange_first a c none idle = ap (λ (k : ℕ). exchange_rest (k + 1) c) none ∙ sym (skipped active_there asking_odi manage_rest 0 c (omega arith) idle)

pub exchange_over : (a : ℕ) (c : Master) → a ≤ 32 → first_active a c.control.rows ≡ None → exchange_rest a c ≡ manage_rest c
exchange_over a c inside none = exchange_ends (32 - a) a c (omega (arith, inside)) none

pub exchange_at : (a : ℕ) (c : Master) (b n : ℕ) → a ≤ 32 → first_active a c.control.rows ≡ Some b → n ≡ (row_in_master b c).odi → (exchange_turn n b c ≡ exchange_rest a c) × (a ≤ b)
exchange_at a c b n inside some odi =
    let here = exchange_comes (32 - a) a c b (omega (arith, inside)) some in
    (ap (λ (k : ℕ). exchange_turn k b c) odi ∙ sym here.0, here.1)

-- Detection

abbrev pub detect_turn : ℕ → Master → Conversation Master
detect_turn a c = dialogue_at a (detect_dialogue (row_in_master a c)) (λ r. detect_rest (a + 1) (with_master_row a r c))

pub detect_at : (a b : ℕ) (c : Master) → b ≡ a → a < 32 → detect_turn b c ≡ detect_rest a c
detect_at a b c same inside = ap (λ (k : ℕ). detect_turn k c) same ∙ sym (dialogues_next (λ k. detect_dialogue) (λ d. done (to_phase Activation d)) a c inside)

pub detect_end : (a : ℕ) (c : Master) → a ≡ 32 → detect_rest a c ≡ done (to_phase Activation c)
detect_end a c e = dialogues_end (λ k. detect_dialogue) (λ d. done (to_phase Activation d)) a c e

-- Activation

-- PI is PP where PP is sent
entered_same : (r : Row) (h : Heard) → entered_with r.pp r h ≡ entered r h
entered_same r (nibble k) = refl
entered_same r silence = refl
entered_same r disturbed = refl

pub enter_same : (n : ℕ) (r : Row) → n ≡ r.pp → enter_asking n r ≡ enter_dialogue r
enter_same n r pp = ap (λ (k : ℕ). enter_asking k r) pp ∙ (λ i. asks (write_parameter r.pp) (λ h. comes (entered_same r h i)))

abbrev pub activate_turn : ℕ → ℕ → Master → Conversation Master
activate_turn n a c = dialogue_at a (enter_asking n (row_in_master a c)) (λ r. activate_rest (a + 1) (with_master_row a r c))

abbrev entered_at : Mode → ℕ → Row → Bool
entered_at mode a r = r.detected && admissible mode a r

activate_skip : (a : ℕ) (c : Master) → a < 32 → ((row_in_master a c).detected && admissible c.control.mode a (row_in_master a c)) ≡ false → activate_rest a c ≡ activate_rest (a + 1) c
activate_skip a c inside off = skipped (entered_at c.control.mode) (λ b. enter_dialogue) (λ d. done (to_phase Normal d)) a c inside off

activate_at : (a n : ℕ) (c : Master) → a < 32 → ((row_in_master a c).detected && admissible c.control.mode a (row_in_master a c)) ≡ true → n ≡ (row_in_master a c).pp → activate_turn n a c ≡ activate_rest a c
activate_at a n c inside it pp =
    ap (λ (d : Dialogue Row). dialogue_at a d (λ r. activate_rest (a + 1) (with_master_row a r c))) (enter_same n (row_in_master a c) pp)
    ∙ sym (taken_next (entered_at c.control.mode) (λ b. enter_dialogue) (λ d. done (to_phase Normal d)) a c inside it)

pub activate_end : (a : ℕ) (c : Master) → a ≡ 32 → activate_rest a c ≡ done (to_phase Normal c)
activate_end a c e = dialogues_end (activate_dialogue c.control.mode) (λ d. done (to_phase Normal d)) a c e

-- Management

pub take_mapped : (os : List Order) → map ordered (take_after os) ≡ drop 1 (map ordered os)
take_mapped [] = refl
take_mapped (o ∷ os) = refl

put_mapped : (n : ℕ) (xs : List Answer) (x : Answer) → map told_of (put_after n xs x) ≡ cond (nat_lt (length (map told_of xs)) n) (map told_of xs ++ told_of x ∷ []) (map told_of xs)
put_mapped n xs x = by_room (nat_lt (length xs) n) ∙ ap (λ (k : ℕ). cond (nat_lt k n) (map told_of xs ++ told_of x ∷ []) (map told_of xs)) (sym (length-map xs told_of))
  where
    by_room : (b : Bool) → map told_of (cond b (xs ++ x ∷ []) xs) ≡ cond b (map told_of xs ++ told_of x ∷ []) (map told_of xs)
    by_room true = map-append told_of xs (x ∷ [])
    by_room false = refl

-- the queues after an order has ended
pub put_so : (m : Control) (q q' : Queues) (x : Answer) → held q'.orders ≡ take_after (held q.orders) → held q'.answers ≡ put_after (room q.answers) (held q.answers) x → Served q q' → master_with m q' ≡ put_back (ordered x.order) (ending x.result) (master_with m q)
put_so m q q' x took put served =
    let orders : map ordered (held q'.orders) ≡ drop 1 (map ordered (held q.orders)) = ap (map ordered) took ∙ take_mapped (held q.orders) in
    let answers : map told_of (held q'.answers) ≡ cond (nat_lt (length (map told_of (held q.answers))) (room q.answers)) (map told_of (held q.answers) ++ told_of x ∷ []) (map told_of (held q.answers)) = ap (map told_of) put ∙ put_mapped (room q.answers) (held q.answers) x in
    let order_room : room q'.orders ≡ room q.orders = ap length served.orders.slots in
    let answer_room : room q'.answers ≡ room q.answers = served.answers.room in
    cc

-- the order that is next

pub next_is : (b : Bool) (os : List Order) (o : Order) → Some o ≡ cond b (oldest_of os) None → (b ≡ true) × (map ordered os ≡ ordered o ∷ drop 1 (map ordered os))
next_is b os o e =
    let is = oldest_is b os o e in
    (is.0, ap (map ordered) is.1 ∙ ap (λ (ws : List Sent). ordered o ∷ ws) (take_mapped os))

-- an order whose address is active is sent, and any other ends at once
module _ (o : Sent) (c : Master) (waits : c.orders ≡ o ∷ drop 1 c.orders) (has_room : nat_lt (length c.answers) c.answer_room ≡ true) where
  abbrev answering : List Sent → Bool → Ended → Master
  answering os b e =
      record (with_master_row o.to e.row c) { orders = os; answers = cond b (c.answers ++ record { order = o; how = e.how } ∷ []) c.answers }

  abbrev asking_so : Dialogue Ended → Conversation Master
  asking_so h = dialogue_at o.to h (λ e. searching (put_back o e.how (with_master_row o.to e.row c)))

  taken_up : manage_rest c ≡ asking_so (manage_dialogue o.asking (row_in_master o.to c))
  taken_up =
      ap (λ (os : List Sent). managing os c searching) waits
      ∙ cond-true _ _ _ has_room
      ∙ ap (λ (b : Bool). dialogue_at o.to (manage_dialogue o.asking (row_in_master o.to c)) (λ e. searching (answering (drop 1 c.orders) b e))) (sym has_room)

  pub order_sent : (row_in_master o.to c).active ≡ true → manage_rest c ≡ manage_turn o c
  order_sent on = taken_up ∙ cond-true _ _ _ on

  pub order_idle : (row_in_master o.to c).active ≡ false → manage_rest c ≡ searching (put_back o inactive c)
  order_idle off =
      taken_up ∙ cond-false _ _ _ off
      ∙ ap (λ (rs : List Row). searching (put_back o inactive (with_master_rows rs c))) (set-get_or c.control.rows o.to new_row)

pub order_next :
    (m : Control) (q : Queues) (o : Order) → Some o ≡ next_order q
    → (nat_lt (length (master_with m q).answers) (master_with m q).answer_room ≡ true) × ((master_with m q).orders ≡ ordered o ∷ drop 1 (master_with m q).orders)
order_next m q o e =
    let is = next_is (nat_lt (length (held q.answers)) (room q.answers)) (held q.orders) o e in
    (ap (λ (k : ℕ). nat_lt k (room q.answers)) (length-map (held q.answers) told_of) ∙ is.0, is.1)

-- the loop of activation
abbrev pub enters_at : ℕ → Master → Bool
enters_at a c = (row_in_master a c).detected && admissible c.control.mode a (row_in_master a c)

by_entering : (b : Bool) (a : ℕ) → None ≡ cond b (Some a) None → b ≡ false
by_entering true a e = absurd (none-some a e)
by_entering false a e = refl

by_entered : (b : Bool) (a to : ℕ) → Some to ≡ cond b (Some a) None → (b ≡ true) × (to ≡ a)
unfolding value_of
by_entered true a to e = (refl, ap value_of e)
by_entered false a to e = absurd (none-some to (sym e))

pub activate_none : (a b : ℕ) (c : Master) → b ≡ a → a < 32 → None ≡ cond (enters_at b c) (Some b) None → activate_rest a c ≡ activate_rest (a + 1) c
activate_none a b c same inside none = activate_skip a c inside (ap (λ (k : ℕ). enters_at k c) (sym same) ∙ by_entering (enters_at b c) b none)

pub activate_one : (a b : ℕ) (c : Master) (to n : ℕ) → b ≡ a → a < 32 → Some to ≡ cond (enters_at b c) (Some b) None → n ≡ (row_in_master to c).pp → activate_turn n to c ≡ activate_rest a c
activate_one a b c to n same inside some pp =
    let it = by_entered (enters_at b c) b to some in
    let here : to ≡ a = it.1 ∙ same in
    ap (λ (k : ℕ). activate_turn n k c) here ∙ activate_at a n c inside (ap (λ (k : ℕ). enters_at k c) (sym same) ∙ it.0) (pp ∙ ap (λ (k : ℕ). (row_in_master k c).pp) here)

-- a step of the search was taken at address a, where the row became r
pub step_taken :
    (m m' : Control) (q : Queues) (a : ℕ) (r : Row) (h : Heard) (rs' : List Row) → a < 32 → length m.rows ≡ 32 → rs' ≡ set m.rows a r
    → m' ≡ with_step (step_after m.step a h (admissible m.mode a (row_at a rs'))) (with_rows rs' m)
    → master_with m' q ≡ to_step (step_after m.step a h (admissible m.mode a r)) (with_master_row a r (master_with m q))
step_taken m m' q a r h rs' inside rows_32 written step =
    ap (λ (k : Control). master_with k q) step
    ∙ ap (λ (rs : List Row). master_with (with_step (step_after m.step a h (admissible m.mode a (row_at a rs))) (with_rows rs m)) q) written
    ∙ ap (λ (x : Row). master_with (with_step (step_after m.step a h (admissible m.mode a x)) (with_rows (set m.rows a r) m)) q) (get_or-set_same m.rows a r new_row (omega (arith, inside, rows_32)))
