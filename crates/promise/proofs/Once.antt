-- A normal cycle exchanges once with each address that is active at its start and with no other, and sends at most 33 requests: at most 31
-- in data exchange, at most one in management and at most one in the search. It reports how many.
use Rattle.std.proofs.Common.{◌≡◌, ℕ, zero, suc, ◌+◌, ◌<◌, ◌≤◌, Bool, true, false, cond, eqb, ltb, List, [], ◌∷◌, ◌++◌, length, sym, refl, ap, ◌∙◌, subst, ⊎_elim, arith}
use lib.ListN.{get_or-eq_default}
use Rattle.std.proofs.lemmas.List.{append-nil, length-append}
use Rattle.std.proofs.lemmas.Bool.{cases_eq, cases_lt, cond-true, cond-false, cond_both, eq-eqb, ne_eqb}
use Rattle.telegrams.specs.Requests.{Asking, Sent, data_exchange, write_parameter, read_io, read_id, resetting}
use Rattle.stations.specs.Stations.{Place}
use Rattle.lines.specs.Lines.{Meaning, at}
use Rattle.records.specs.Rows.{Row, new_row, row_at}
use Rattle.records.specs.declared.record.Mode.{Mode}
use Rattle.phases.specs.Visits.{Visit, left_alone, addressed, sent_below}
use Rattle.phases.specs.Exchange.{exchange_visit}
use Rattle.phases.specs.Activation.{admissible, enter_visit}
use Rattle.orders.specs.Management.{manage_visit}
use Rattle.search.specs.Steps.{Stage, seek, name, enter}
use Rattle.search.specs.Searches.{search_visit, taken_by}
use Rattle.control.specs.declared.control.Phase.TheVariants.{Normal}
use Rattle.control.specs.Cycles.{Master, Scene, new_master, beginning, everywhere, only, visit_made, exchange, carry_out, manage_by, manage, search_on, run, running, cycle}
use Rattle.promise.specs.Successions.{Turn, after}
use Rattle.promise.specs.Outcomes.{ran}
use Rattle.promise.specs.Waiting.{sent_to, exchanges}
use Rattle.promise.specs.Once.{OnceEach}
use Rattle.promise.proofs.Moments.{Orderable, Orderly}
use Rattle.promise.proofs.Sending.{sent-to-append, sent_to_past, sent_to_below, exchanges-append}
use Rattle.promise.proofs.Standing.{Standing, stands}

-- How many requests are sent to the addresses below a number

length-addressed : (a : ℕ) (qs : List Asking) → length (addressed a qs) ≡ length qs
length-addressed a [] = refl
length-addressed a (q ∷ qs) = ap suc (length-addressed a qs)

module _ (f : ℕ → List Asking) where
  length_below : (n : ℕ) → length (sent_below (suc n) f) ≡ length (sent_below n f) + length (f n)
  unfolding sent_below
  length_below n = length-append (sent_below n f) (addressed n (f n)) ∙ ap (λ k. length (sent_below n f) + k) (length-addressed n (f n))

  -- at most one to each address, and none to 0
  below_but_zero : ((a : ℕ) → length (f a) ≤ 1) → length (f 0) ≡ 0 → (n : ℕ) → length (sent_below (suc n) f) ≤ n
  unfolding sent_below
  below_but_zero each none zero = omega (arith, length_below 0, none)
  below_but_zero each none (suc n) = omega (arith, length_below (suc n), each (suc n), below_but_zero each none n)

  module _ (b : ℕ) (elsewhere : (a : ℕ) → (a ≡ b → ⊥) → length (f a) ≡ 0) where
    below_none : (n : ℕ) → n ≤ b → length (sent_below n f) ≡ 0
    unfolding sent_below
    below_none zero h = refl
    below_none (suc n) h = omega (arith, length_below n, below_none n (omega arith), elsewhere n (omega arith))

    -- at most one to b, and none to any other address
    below_one : length (f b) ≤ 1 → (n : ℕ) → length (sent_below n f) ≤ 1
    unfolding sent_below
    below_one here zero = omega arith
    below_one here (suc n) = ⊎_elim same (other (below_one here n)) (cases_eq n b)
      where
        same : n ≡ b → length (sent_below (suc n) f) ≤ 1
        same e = omega (arith, length_below n, below_none n (omega arith), ap (λ (k : ℕ). length (f k)) e, here)

        other : length (sent_below n f) ≤ 1 → (n ≡ b → ⊥) → length (sent_below (suc n) f) ≤ 1
        other fewer ne = omega (arith, length_below n, elsewhere n ne, fewer)

-- The Data_Exchanges among them

abbrev exchanged_with : ℕ → List Sent → List ℕ
exchanged_with b qs = exchanges (sent_to b qs)

exchanged_below : (f : ℕ → List Asking) (b : ℕ) (xs : List ℕ) → (b < 32 → exchanges (f b) ≡ xs) → (32 ≤ b → [] ≡ xs) → exchanged_with b (sent_below 32 f) ≡ xs
exchanged_below f b xs inside beyond =
    ⊎_elim (λ h. ap exchanges (sent_to_below f b 32 h) ∙ inside h) (λ h. ap exchanges (sent_to_past f b 32 h) ∙ beyond h) (cases_lt b 32)

-- Management and search send at most one request, and no Data_Exchange

record Quiet (visit : Row → Place → Visit) : Type 0 where
  silent : (r : Row) (p : Place) → exchanges (visit r p).sent ≡ []
  short : (r : Row) (p : Place) → length (visit r p).sent ≤ 1

quiet_order : (q : Asking) → Orderable q → exchanges (q ∷ []) ≡ []
quiet_order (data_exchange n) fit = absurd fit
quiet_order (write_parameter n) fit = refl
quiet_order read_io fit = absurd fit
quiet_order read_id fit = absurd fit
quiet_order resetting fit = refl

quiet_manage : (power : Bool) (q : Asking) → Orderable q → Quiet (manage_visit power q)
quiet_manage power q fit =
    record {
      silent = λ r p. cond_both r.active _ (left_alone r p) (λ (v : Visit). exchanges v.sent ≡ []) (λ _. quiet_order q fit) (λ _. refl);
      short = λ r p. cond_both r.active _ (left_alone r p) (λ (v : Visit). length v.sent ≤ 1) (λ _. omega arith) (λ _. omega arith);
    }

quiet_search : (mode : Mode) (power : Bool) (t : Stage) (b : ℕ) → Quiet (search_visit mode power t b)
quiet_search mode power (seek a) b = record { silent = λ r p. refl; short = λ r p. omega arith }
quiet_search mode power (name a c) b = record { silent = λ r p. refl; short = λ r p. omega arith }
quiet_search mode power (enter a) b =
    record {
      silent = λ r p. cond_both (admissible mode b r) (enter_visit power r p) (left_alone r p) (λ (v : Visit). exchanges v.sent ≡ []) (λ _. refl) (λ _. refl);
      short = λ r p. cond_both (admissible mode b r) (enter_visit power r p) (left_alone r p) (λ (v : Visit). length v.sent ≤ 1) (λ _. omega arith) (λ _. omega arith);
    }

-- between two moments at most one request was sent, and no Data_Exchange
record Little (s t : Scene) : Type 0 where
  few : length t.sent ≤ length s.sent + 1
  none : (b : ℕ) → exchanged_with b t.sent ≡ exchanged_with b s.sent

little_same : (s : Scene) → Little s s
little_same s = record { few = omega arith; none = λ b. refl }

module _ (c : ℕ) (visit : Row → Place → Visit) (s : Scene) (quiet : Quiet visit) where
  abbrev asked_at : ℕ → List Asking
  asked_at a = (visit_made (only c visit) s a).sent

  silent_at : (a : ℕ) → exchanges (asked_at a) ≡ []
  silent_at a =
      cond_both (eqb a c) (visit (row_at a s.master.control.rows) (at s.line.places a)) (left_alone (row_at a s.master.control.rows) (at s.line.places a))
      (λ (v : Visit). exchanges v.sent ≡ []) (λ _. quiet.silent _ _) (λ _. refl)

  one_asked : length (sent_below 32 asked_at) ≤ 1
  one_asked =
      below_one asked_at c (λ a ne. ap (λ (v : Visit). length v.sent) (cond-false _ _ _ (ne_eqb a c ne)))
      (subst (λ (v : Visit). length v.sent ≤ 1) (sym (cond-true _ _ _ (eq-eqb c c refl))) (quiet.short _ _)) 32

  little_only : Little s (everywhere (only c visit) s)
  unfolding everywhere
  little_only =
      record {
        few = omega (arith, length-append s.sent (sent_below 32 asked_at), one_asked);
        none = λ b.
            ap exchanges (sent-to-append b s.sent (sent_below 32 asked_at))
            ∙ exchanges-append (sent_to b s.sent) (sent_to b (sent_below 32 asked_at))
            ∙ ap (λ (l : List ℕ). exchanged_with b s.sent ++ l) (exchanged_below asked_at b [] (λ h. silent_at b) (λ h. refl))
            ∙ append-nil (exchanged_with b s.sent);
      }

little_manage : (s : Scene) → Orderly s.master.orders → Little s (manage s)
unfolding manage
little_manage s fit = by s.master.orders fit
  where
    by : (os : List Sent) → Orderly os → Little s (manage_by os s)
    by [] q = little_same s
    by (o ∷ rest) q =
        let z = little_only o.to (manage_visit s.line.power o.asking) s (quiet_manage s.line.power o.asking q.0) in
        elim (ltb (length s.master.answers) s.master.answer_room) as (λ t. Little s (cond t (carry_out o rest s) s))
        [ true ↦ record { few = z.few; none = z.none } | false ↦ little_same s ]

little_search : (s : Scene) → Little s (search_on s)
unfolding search_on
little_search s =
    let m = s.master.control in
    let b = taken_by m.rows m.step in
    let z = little_only b (search_visit m.mode s.line.power m.step b) s (quiet_search m.mode s.line.power m.step b) in
    record { few = z.few; none = z.none }

-- Data exchange

cond_under : {A B : Type 0} (t : Bool) (x y : A) (f : A → B) → f (cond t x y) ≡ cond t (f x) (f y)
cond_under true x y f = refl
cond_under false x y f = refl

module _ (c : Master) (line : Meaning) (stands : Standing c) where
  abbrev row : ℕ → Row
  row a = row_at a c.control.rows

  abbrev exchanged_at : ℕ → List Asking
  exchanged_at a = (visit_made (λ k. exchange_visit line.power) (beginning c line) a).sent

  exchange_sends : (a : ℕ) → exchanged_at a ≡ cond (row a).active (data_exchange (row a).odi ∷ []) []
  exchange_sends a = cond_under (row a).active _ _ (λ (v : Visit). v.sent)

  exchange_at_most : length (exchange (beginning c line)).sent ≤ 31
  unfolding everywhere
  exchange_at_most = below_but_zero exchanged_at each (ap length (exchange_sends 0 ∙ cond-false _ _ _ stands.zero_idle)) 31
    where
      each : (a : ℕ) → length (exchanged_at a) ≤ 1
      each a =
          subst (λ (l : List Asking). length l ≤ 1) (sym (exchange_sends a))
          (cond_both (row a).active (data_exchange (row a).odi ∷ []) [] (λ (l : List Asking). length l ≤ 1) (λ _. omega arith) (λ _. omega arith))

  -- no row stands beyond 31, so none is active there
  beyond_idle : (b : ℕ) → 32 ≤ b → row b ≡ new_row
  beyond_idle b h = get_or-eq_default c.control.rows new_row (omega (arith, stands.sized))

  exchange_once : (b : ℕ) → exchanged_with b (exchange (beginning c line)).sent ≡ cond (row b).active ((row b).odi ∷ []) []
  unfolding everywhere
  exchange_once b =
      exchanged_below exchanged_at b _ (λ h. ap exchanges (exchange_sends b) ∙ cond_under (row b).active _ _ exchanges)
      (λ h. sym (ap (λ (r : Row). cond r.active (r.odi ∷ []) []) (beyond_idle b h)))

once_normal : (c : Master) (line : Meaning) → Standing c → running c.control line ≡ Normal → OnceEach c line
unfolding cycle everywhere
once_normal c line stands normal =
    let exchanged = exchange (beginning c line) in
    let m = little_manage exchanged stands.orderly in
    let z = little_search (manage exchanged) in
    let is : cycle c line ≡ search_on (manage exchanged) = ap (λ p. run p (beginning c line)) normal in
    record {
      exactly = λ b. ap (λ (s : Scene). exchanged_with b s.sent) is ∙ z.none b ∙ m.none b ∙ exchange_once c line stands b;
      at_most =
          subst (λ (s : Scene). length s.sent ≤ 33) (sym is) (omega (arith, m.few, z.few, exchange_at_most c line stands));
      reported = ap (λ p. ran p (length (cycle c line).sent)) normal;
    }

pub exchanges_once : (order_room answer_room : ℕ) (p : List Turn) (line : Meaning) → running (after p (new_master order_room answer_room)).control line ≡ Normal → OnceEach (after p (new_master order_room answer_room)) line
exchanges_once order_room answer_room p line normal = once_normal (after p (new_master order_room answer_room)) line (stands order_room answer_room p) normal
