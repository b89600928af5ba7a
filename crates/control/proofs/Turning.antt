-- The loop that has a cycle with a line, turn by turn, comes to what a cycle is.
use Rattle.std.proofs.Common.{◌≡◌, ℕ, ◌+◌, ◌<◌, ◌≤◌, Bool, List, [], ◌∷◌, Some, None, Option, map, length, sym, refl, ap, ◌∙◌, subst, arith}
use Rattle.telegrams.specs.Requests.{Sent, sent}
use Rattle.telegrams.specs.declared.request.Request.{Request}
use Rattle.std.specs.Prelude.{option_map}
use Rattle.lines.specs.Lines.{Meaning}
use Rattle.stations.specs.Stations.{Place}
use Rattle.records.proofs.Written.{rows_sized}
use Rattle.orders.specs.Orders.{ordered}
use Rattle.orders.specs.declared.order.Order.{Order}
use Rattle.orders.specs.declared.order.Order.TheVariants.{Parameter, Reset}
use Rattle.orders.specs.declared.pair.Queues.{Queues}
use Rattle.queues.specs.Fifo.{held}
use Rattle.orders.specs.Management.{next_order}
use Rattle.values.specs.Tables.{table}
use Rattle.values.proofs.Tables.{length-table}
use Rattle.lines.specs.Sending.{Sends}
use Rattle.phases.specs.Conversations.{Conversation, done, ask, question, Course, on_line, WentOn}
use Rattle.phases.proofs.Underway.{Underway, begins, heard_on, over}
use Rattle.std.proofs.lemmas.Option.{none-some}
use Rattle.control.specs.AnyReplies.{most_in}
use Rattle.control.specs.Turns.{rest_of, left, left_at, Asks, AsksNothing}
use Rattle.control.specs.Serving.{ServedIn, ServedUpTo, ServedBetween}
use Rattle.control.specs.declared.engine.Cycle.{Cycle}
use Rattle.control.specs.declared.turn.Turn.{Turn}
use Rattle.control.specs.declared.turn.Turn.TheVariants.{Over, DetectIo, DetectId, Activate, Exchange, Manage, Seek, Name, Enter}
use Rattle.search.proofs.Picking.{taken_inside}
use Rattle.control.specs.Cycles.{Master, control_of, master_of, phase_with, beginning, everywhere, exchange, manage, stay_offline, search_on, run, cycle, running, Cycled}
use Rattle.control.specs.Cycling.{course_of, begun}
use Rattle.control.specs.declared.control.ExecutionControl.{ExecutionControl}
use Rattle.control.specs.declared.control.Phase.{Phase}
use Rattle.control.specs.declared.control.Phase.TheVariants.{Offline, Detection, Activation, Normal}
use Rattle.control.proofs.Serving.{served_on, served_over}
use Rattle.control.proofs.Parts.{FirstInside, managed_stays}
use Rattle.control.proofs.Whole.{cycle_on_line}

pub order_inside : (o : Order) → (ordered o).to < 32
order_inside (Parameter a n) = a.ok.1
order_inside (Reset a) = a.ok.1

waiting_inside : (os : List Order) → FirstInside (map ordered os)
waiting_inside [] = tt
waiting_inside (o ∷ os) = order_inside o

run_power : (c : Master) (l : Meaning) (p : Phase) → length c.control.rows ≡ 32 → length l.places ≡ 32 → (run p (beginning c l)).line.power ≡ l.power
unfolding everywhere stay_offline manage search_on
run_power c l Offline rows_32 places_32 = refl
run_power c l Detection rows_32 places_32 = refl
run_power c l Activation rows_32 places_32 = refl
run_power c l Normal rows_32 places_32 = (managed_stays c.orders (exchange (beginning c l)) (length-table _, length-table _)).power

cycle_power : (c : Master) (l : Meaning) → length c.control.rows ≡ 32 → length l.places ≡ 32 → (cycle c l).line.power ≡ l.power
unfolding cycle
cycle_power c l rows_32 places_32 = run_power c l (running c.control l) rows_32 places_32

value_or : Master → Conversation Master → Master
value_or d (done x) = x
value_or d (ask q k) = d

-- at no other turn than the last there is nothing to ask
over_turn : (t : Turn) (c : Master) → question (rest_of t c) ≡ None → rest_of t c ≡ done c
over_turn Over c none = refl
over_turn (DetectIo a) c none = absurd (none-some _ (sym none))
over_turn (DetectId a n) c none = absurd (none-some _ (sym none))
over_turn (Activate a n) c none = absurd (none-some _ (sym none))
over_turn (Exchange a n) c none = absurd (none-some _ (sym none))
over_turn (Manage o) c none = absurd (none-some _ (sym none))
over_turn (Seek a) c none = absurd (none-some _ (sym none))
over_turn (Name a n) c none = absurd (none-some _ (sym none))
over_turn (Enter a n) c none = absurd (none-some _ (sym none))

pub came_done : (t : Turn) (c x : Master) → question (rest_of t c) ≡ None → rest_of t c ≡ done x → c ≡ x
unfolding value_or
came_done t c x none is = ap (value_or c) (sym (over_turn t c none) ∙ is)

-- at a turn at which a request is next, something is asked
pub asks_next : (t : Turn) {next : Option Request} {request : Request} → next ≡ Some request → ((d : Master) → option_map sent next ≡ question (rest_of t d)) → Asks t
asks_next t some is d none = none-some _ (sym none ∙ sym (is d) ∙ ap (option_map sent) some)

-- where none is next, nothing is
pub none_next : {X : Type 0} (t : Turn) {next : Option Request} → next ≡ None → ((d : Master) → option_map sent next ≡ question (rest_of t d)) → Master → Asks t → X
none_next t none is d asks = absurd (asks d (sym (is d) ∙ ap (option_map sent) none))

-- where the cycle is over, nothing is asked
pub not_over : {X : Type 0} {t : Turn} → t ≡ Over → Master → Asks t → X
not_over over d asks = absurd (asks d (ap (λ (u : Turn). question (rest_of u d)) over))

-- what a cycle has before it as it begins comes on a line to the cycle that the rules say
pub begun_on_line :
    (m : ExecutionControl) (q : Queues) (powered : Bool) (rest : Conversation Master) → rest ≡ begun powered m q
    → (l : Meaning) → l.power ≡ powered → length l.places ≡ 32 → on_line powered rest l.places ≡ course_of (cycle (master_of m q) l)
begun_on_line m q powered rest is l lit sized =
    ap (λ (r : Conversation Master). on_line powered r l.places) is
    ∙ ap (λ (b : Bool). on_line b (begun b m q) l.places) (sym lit)
    ∙ cycle_on_line (master_of m q) l (waiting_inside (held q.orders)) (λ rs. taken_inside rs m.step) (rows_sized m.table.rows) sized

-- A cycle on a line, from its beginning to its end: master, queues and line were so as it began
module _ {L : Type 0} (carried : L → Sent → L → Type 0) (power : L → Bool) (stations : L → ℕ → Place) (m : ExecutionControl) (q : Queues) (x : L) where
  abbrev c : Master
  c = master_of m q

  abbrev line : L → Meaning
  line y = record { power = power y; places = table (stations y) }

  abbrev whole : Course Master
  whole = course_of (cycle c (line x))

  -- what they are now, and the cycle under way
  pub record Going (m' : ExecutionControl) (q' : Queues) (k : Cycle) (y : L) : Type 0 where
    pub powered : power y ≡ power x
    pub phase : k.phase ≡ running c.control (line x)
    pub served : ServedUpTo k.phase k.turn q q'
    pub few : k.requests + left_at k.turn ≤ most_in k.phase
    pub course : Underway carried (power x) whole x y (left k.turn m' q') (table (stations y)) k.requests

  pub going_begins :
      {m' : ExecutionControl} {q' : Queues} {k : Cycle} {powered : Bool}
      → powered ≡ power x → k.phase ≡ phase_with powered (control_of m) → k.requests ≡ 0 → left k.turn m' q' ≡ begun powered m q
      → ServedUpTo k.phase k.turn q q' → left_at k.turn ≤ most_in k.phase → Going m' q' k x
  going_begins {m'} {q'} {k} {powered} lit in_phase none rest served few =
      let phase : k.phase ≡ running c.control (line x) = in_phase ∙ ap (λ (b : Bool). phase_with b (control_of m)) lit in
      let is : on_line (power x) (left k.turn m' q') (table (stations x)) ≡ whole =
      begun_on_line m q (power x) (left k.turn m' q') (rest ∙ ap (λ (b : Bool). begun b m q) lit) (line x) refl (length-table _) in
      record {
        powered = refl;
        phase = phase;
        served = served;
        few = omega (arith, none, few);
        course = begins carried (power x) x whole (left k.turn m' q') (table (stations x)) (sym is) none;
      }

  pub going_on :
      {m' m'' : ExecutionControl} {q' q'' : Queues} {k k' : Cycle} {y z : L}
      → Going m' q' k y → power z ≡ power y → k'.phase ≡ k.phase → ServedBetween k.turn k'.turn q' q''
      → WentOn carried (power y) y z (table (stations y)) (table (stations z)) (left k.turn m' q') (left k'.turn m'' q'') → k'.requests ≡ k.requests + 1
      → left_at k'.turn < left_at k.turn → Going m'' q'' k' z
  going_on {m'} {m''} {q'} {q''} {k} {k'} {y} {z} going up phase served on more nearer =
      record {
        powered = up ∙ going.powered;
        phase = phase ∙ going.phase;
        served = subst (λ (p : Phase). ServedUpTo p k'.turn q q'') (sym phase) (served_on k.phase k.turn k'.turn going.served served);
        few = subst (λ (p : Phase). k'.requests + left_at k'.turn ≤ most_in p) (sym phase) (omega (arith, going.few, more, nearer));
        course = heard_on carried (power x) x whole y z (left k.turn m' q') (left k'.turn m'' q'') (table (stations y)) (table (stations z)) going.course going.powered on more;
      }

  pub going_ends :
      {m' : ExecutionControl} {q' : Queues} {k : Cycle} {y : L} {p : Phase} {n : ℕ} → Going m' q' k y → AsksNothing k.turn → p ≡ k.phase → n ≡ k.requests
      → Cycled c (line x) p n (master_of m' q') (line y) × Sends carried x (cycle c (line x)).sent y × ServedIn p (next_order q) q q' × (n ≤ most_in p)
  going_ends {m'} {q'} {k} {y} {p} {n} going nothing phase count =
      let end = over carried (power x) x whole y (left k.turn m' q') (table (stations y)) k.requests going.course (nothing (master_of m' q')) in
      let lit : power y ≡ (cycle c (line x)).line.power = going.powered ∙ sym (cycle_power c (line x) (rows_sized m.table.rows) (length-table _)) in (
        record {
          ran_in = phase ∙ going.phase;
          became =
              record {
                master_is = came_done k.turn (master_of m' q') whole.comes_to (nothing (master_of m' q')) end.0;
                line_is =
                    ap (λ (b : Bool). record { power = b; places = table (stations y) }) lit
                    ∙ ap (λ (ps : List Place). record { power = (cycle c (line x)).line.power; places = ps }) end.1;
                counted = count ∙ end.2;
              };
        },
        end.3,
        subst (λ (r : Phase). ServedIn r (next_order q) q q') (sym phase) (served_over k.phase k.turn nothing going.served),
        subst (λ (r : Phase). n ≤ most_in r) (sym phase) (omega (arith, going.few, count)),
      )
