-- What has become of the queues at each turn of a cycle.
use Rattle.std.proofs.Common.{◌≡◌, Bool, true, false, cond, List, [], ◌∷◌, length, Some, None, Option, sym, refl, ap, ◌∙◌, subst}
use Rattle.std.specs.Prelude.{nat_lt}
use Rattle.std.proofs.lemmas.Option.{none-some}
use Rattle.std.proofs.lemmas.Bool.{cond-true, true≢false}
use Rattle.queues.specs.Fifo.{held, room, take_after, put_after, oldest_of, slots_after}
use Rattle.orders.specs.Management.{next_order}
use Rattle.orders.specs.Queues.{Served}
use Rattle.orders.specs.declared.order.Answer.{Answer}
use Rattle.orders.specs.declared.order.Order.{Order}
use Rattle.orders.specs.declared.pair.Queues.{Queues}
use Rattle.control.specs.Cycles.{new_master}
use Rattle.control.specs.Serving.{Answered, ServedIn, before_answer, CarriesNext, ServedUpTo, ServedBetween}
use Rattle.control.specs.Turns.{AsksNothing}
use Rattle.control.specs.declared.control.Phase.{Phase}
use Rattle.control.specs.declared.control.Phase.TheVariants.{Offline, Detection, Activation, Normal}
use Rattle.control.specs.declared.turn.Turn.{Turn}
use Rattle.control.specs.declared.turn.Turn.TheVariants.{Over, DetectIo, DetectId, Activate, Exchange, Manage, Seek, Name, Enter}

-- a queue that stays was served
stays : {q q' : Queues} → q' ≡ q → Served q q'
stays {q} {q'} same =
    subst (λ (x : Queues). Served q x) (sym same)
    (record {
      orders = record { slots = refl; lender = refl };
      answers = record { slots = (refl, refl); room = refl; lender = refl };
    })

-- whatever the phase, a cycle at most takes orders and puts answers
pub served_of :
    (phase : Phase) (next : Option Order) {q q' : Queues} → ServedIn phase next q q' → Served q q'
served_of Offline next same = stays same
served_of Detection next same = stays same
served_of Activation next same = stays same
served_of Normal None same = stays same
served_of Normal (Some o) answered = answered.served

-- An order ends

order_or : Order → Option Order → Order
order_or o None = o
order_or o (Some p) = p

same_order : {o p : Order} → Some o ≡ Some p → p ≡ o
unfolding order_or
same_order {o} {p} e = sym (ap (order_or o) e)

pub oldest_is :
    (b : Bool) (os : List Order) (o : Order) → Some o ≡ cond b (oldest_of os) None
    → (b ≡ true) × (os ≡ o ∷ take_after os)
oldest_is true [] o e = absurd (none-some o (sym e))
oldest_is true (p ∷ os) o e = (refl, ap (λ (k : Order). k ∷ os) (same_order e))
oldest_is false os o e = absurd (none-some o (sym e))

-- this answer was put to the order that was next
pub answered_so :
    (q q' : Queues) (o : Order) (x : Answer) → Some o ≡ next_order q → x.order ≡ o
    → held q'.orders ≡ take_after (held q.orders)
    → held q'.answers ≡ put_after (room q.answers) (held q.answers) x
    → q'.answers.slots.now ≡ slots_after q.answers x → Served q q'
    → ServedIn Normal (next_order q) q q'
answered_so q q' o x next to took put written served =
    let is = oldest_is (nat_lt (length (held q.answers)) (room q.answers)) (held q.orders) o next in
    let answered : Answered o q q' =
    record {
      answer = x;
      to = to;
      taken = is.1 ∙ ap (λ (os : List Order). o ∷ os) (sym took);
      put = put ∙ cond-true _ _ _ is.0;
      written = written;
      served = served;
    } in
    subst (λ (n : Option Order). ServedIn Normal n q q') next answered

-- Turn by turn

-- behind management no order is being carried out
pub carries_none : (t : Turn) (q : Queues) → before_answer t ≡ false → CarriesNext t q
carries_none t q behind o is = absurd (true≢false (ap before_answer (sym is) ∙ behind))

-- where nothing more is asked, the cycle has come past management
asks_not : (t : Turn) → AsksNothing t → before_answer t ≡ false
asks_not Over nothing = refl
asks_not (DetectIo a) nothing = refl
asks_not (DetectId a n) nothing = refl
asks_not (Activate a n) nothing = refl
asks_not (Exchange a n) nothing = absurd (none-some _ (sym (nothing (new_master 0 0))))
asks_not (Manage o) nothing = absurd (none-some _ (sym (nothing (new_master 0 0))))
asks_not (Seek a) nothing = refl
asks_not (Name a n) nothing = refl
asks_not (Enter a n) nothing = refl

-- an order for an address that is not active ends before the cycle asks the search's request
pub served_at_once :
    (t : Turn) {q q' : Queues} → before_answer t ≡ false → ServedIn Normal (next_order q) q q'
    → ServedUpTo Normal t q q'
served_at_once t {q} {q'} behind served =
    record {
      early = λ e. absurd (true≢false (sym e ∙ behind));
      late = λ _. served;
      carries = carries_none t q' behind;
    }

-- the reply to an order was heard
pub served_by_reply :
    (o : Order) (t : Turn) {q q' : Queues} → before_answer t ≡ false → Served q q'
    → (Some o ≡ next_order q → ServedIn Normal (next_order q) q q')
    → ServedBetween (Manage o) t q q'
served_by_reply o t {q} {q'} behind served answered =
    record {
      served = served;
      early = λ e. absurd (true≢false (sym e ∙ behind));
      past = λ carries before e. answered (sym (carries o refl));
      late = λ e. absurd (true≢false e);
      carries = carries_none t q' behind;
    }

-- a reply of data exchange was heard
pub served_by_data :
    (t t' : Turn) {q q' : Queues} → before_answer t ≡ true → ServedUpTo Normal t' q q'
    → ServedBetween t t' q q'
served_by_data t t' {q} {q'} before so_far =
    record {
      served = by_turn (before_answer t') refl;
      early = λ e. ((so_far.early e).0, before);
      past = λ _ _ e. so_far.late e;
      late = λ e. absurd (true≢false (sym before ∙ e));
      carries = so_far.carries;
    }
  where
    by_turn : (b : Bool) → before_answer t' ≡ b → Served q q'
    by_turn true e = stays (so_far.early e).0
    by_turn false e = served_of Normal (next_order q) (so_far.late e)

-- nothing was asked
pub served_idle : (t : Turn) (q : Queues) → AsksNothing t → ServedBetween t t q q
served_idle t q nothing =
    let behind = asks_not t nothing in
    record {
      served = stays refl;
      early = λ e. (refl, e);
      past = λ carries before e. absurd (true≢false (sym before ∙ e));
      late = λ _. refl;
      carries = carries_none t q behind;
    }

-- A cycle, from its beginning to its end: what `begin` ensures holds on after each reply, and comes to
-- what a whole cycle leaves
pub served_on :
    (phase : Phase) (t t' : Turn) {q q' q'' : Queues} → ServedUpTo phase t q q'
    → ServedBetween t t' q' q'' → ServedUpTo phase t' q q''
served_on phase t t' {q} {q'} {q''} so_far now =
    record {
      early = λ e. let before = now.early e in let at = so_far.early before.1 in (before.0 ∙ at.0, at.1);
      late = λ e. by_turn (before_answer t) refl e;
      carries = now.carries;
    }
  where
    by_turn :
        (b : Bool) → before_answer t ≡ b → before_answer t' ≡ false
        → ServedIn phase (next_order q) q q''
    by_turn true before e =
        let at = so_far.early before in
        let past : ServedIn Normal (next_order q') q' q'' = now.past so_far.carries before e in
        subst (λ (p : Phase). ServedIn p (next_order q) q q'') (sym at.1)
        (subst (λ (x : Queues). ServedIn Normal (next_order x) x q'') at.0 past)
    by_turn false behind e =
        subst (λ (x : Queues). ServedIn phase (next_order q) q x) (sym (now.late behind))
        (so_far.late behind)

pub served_over :
    (phase : Phase) (t : Turn) {q q' : Queues} → AsksNothing t → ServedUpTo phase t q q'
    → ServedIn phase (next_order q) q q'
served_over phase t nothing so_far = so_far.late (asks_not t nothing)
