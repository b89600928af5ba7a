-- On a line, each part of a cycle as a conversation comes to what that part does with the stations.
use Rattle.std.proofs.Common.{◌≡◌, ℕ, ◌<◌, Bool, true, false, cond, List, [], ◌∷◌, ◌++◌, length, set, refl, ap, ◌∙◌, arith}
use Rattle.std.proofs.lemmas.List.{append-nil}
use Rattle.std.specs.Prelude.{nat_lt}
use Rattle.telegrams.specs.Requests.{Sent, Heard}
use Rattle.stations.specs.Stations.{Place}
use Rattle.values.proofs.Tables.{length-table}
use Rattle.lines.specs.Lines.{at}
use Rattle.records.specs.Rows.{Row}
use Rattle.records.specs.declared.record.Mode.{Mode}
use Rattle.phases.specs.Visits.{Visit, visit_by, visit, told_by, addressed}
use Rattle.phases.specs.Activation.{admissible}
use Rattle.phases.specs.Conversations.{Conversation, done, Course, on_line}
use Rattle.phases.specs.Dialogues.{Dialogue, dialogue_at}
use Rattle.phases.proofs.Walks.{behind, behind_both, part_told, row_told, visits, comes_to, all_visited}
use Rattle.orders.specs.Orders.{Ending}
use Rattle.orders.specs.Management.{Ended, manage_dialogue, manage_visit}
use Rattle.search.specs.Steps.{Stage, seek, name, enter, step_after}
use Rattle.search.specs.Searches.{Stepped, search_dialogue, search_visit, taken_by, deciding, next_step}
use Rattle.control.specs.Cycles.{Master, Scene, everywhere, ending_at, answered, carry_out, manage_by, stepping, search_on}
use Rattle.control.specs.Cycling.{course_of, with_master_rows, with_master_row, row_in_master, with_each, put_answer, managing, to_step, searching}
use Rattle.control.proofs.Visiting.{visited_there, one_visited}

-- what was sent so far, and what the conversation goes on to
abbrev pub goes_on : (Master → Conversation Master) → Scene → Course Master
goes_on f s = behind s.sent (on_line s.line.power (f s.master) s.line.places)

abbrev Sized : Scene → Type 0
Sized s = (length s.master.control.rows ≡ 32) × (length s.line.places ≡ 32)

-- With each address: data exchange, detection and activation

pub each_on_line :
    (dialogue : ℕ → Row → Dialogue Row) (f : Master → Conversation Master) (s : Scene) → Sized s
    → goes_on (λ c. with_each dialogue c f) s ≡ goes_on f (everywhere (λ a r p. visit s.line.power (dialogue a r) p) s)
unfolding everywhere
each_on_line dialogue f s sized =
    ap (behind s.sent) (all_visited s.line.power dialogue (λ rs. f (with_master_rows rs s.master)) s.master.control.rows s.line.places sized.0 sized.1) ∙ behind_both s.sent _ _

-- With one address

module _ {A : Type 0} (row : A → Row) (c : Dialogue A) (b : ℕ) (s : Scene) (f : A → Conversation Master) where
  abbrev place : Place
  place = at s.line.places b

  abbrev there : Visit
  there = visit_by row s.line.power c place

  one_on_line :
      b < 32 → Sized s
      → behind s.sent (on_line s.line.power (dialogue_at b c f) s.line.places)
      ≡ behind (s.sent ++ addressed b there.sent) (on_line s.line.power (f (comes_to s.line.power c place)) (set s.line.places b there.place))
  one_on_line inside sized = ap (behind s.sent) (visits row s.line.power b f c s.line.places (omega (arith, inside, sized.1))) ∙ behind_both s.sent _ _

-- Management

abbrev pub FirstInside : List Sent → Type 0
FirstInside [] = Unit {0}
FirstInside (o ∷ rest) = o.to < 32

module _ (f : Master → Conversation Master) (o : Sent) (rest : List Sent) (s : Scene) (inside : o.to < 32) (sized : Sized s) where
  abbrev carrying : Scene
  carrying = visited_there s (manage_visit s.line.power o.asking) o.to

  abbrev left_by : Row → Ending → Master
  left_by r how = put_answer o rest how (with_master_row o.to r s.master)

  carried_on : behind s.sent (on_line s.line.power (dialogue_at o.to (manage_dialogue o.asking (row_in_master o.to s.master)) (λ e. f (left_by e.row e.how))) s.line.places) ≡ goes_on f (carry_out o rest s)
  carried_on =
      let d : Dialogue Ended = manage_dialogue o.asking (row_in_master o.to s.master) in
      let p : Place = at s.line.places o.to in
      let e : Ended = comes_to s.line.power d p in
      one_on_line (λ (e : Ended). e.row) d o.to s (λ e. f (left_by e.row e.how)) inside sized
      ∙ ap (λ (r : Row). behind carrying.sent (on_line s.line.power (f (left_by r e.how)) carrying.line.places)) (row_told (λ (e : Ended). e.row) s.line.power d p)
      ∙ ap (λ (how : Ending). behind carrying.sent (on_line s.line.power (f (left_by (manage_visit s.line.power o.asking (row_in_master o.to s.master) p).row how)) carrying.line.places)) (part_told (λ (e : Ended). e.how) s.line.power d p)
      ∙ ap (λ (t : Scene). goes_on f (answered o (ending_at s o) rest t)) (one_visited s (manage_visit s.line.power o.asking) o.to inside sized.0 sized.1)

pub managed_on_line : (f : Master → Conversation Master) (os : List Sent) (s : Scene) → FirstInside os → Sized s → goes_on (λ c. managing os c f) s ≡ goes_on f (manage_by os s)
managed_on_line f [] s inside sized = refl
managed_on_line f (o ∷ rest) s inside sized = by_room (nat_lt (length s.master.answers) s.master.answer_room) _ (carried_on f o rest s inside sized)
  where
    by_room : (b : Bool) (t : Conversation Master) → behind s.sent (on_line s.line.power t s.line.places) ≡ goes_on f (carry_out o rest s) → behind s.sent (on_line s.line.power (cond b t (f s.master)) s.line.places) ≡ goes_on f (cond b (carry_out o rest s) s)
    by_room true t e = e
    by_room false t e = refl

-- what management leaves as it is
pub record Stays (s s' : Scene) : Type 0 where
  pub step : s'.master.control.step ≡ s.master.control.step
  pub power : s'.line.power ≡ s.line.power
  pub sized : Sized s'

pub managed_stays : (os : List Sent) (s : Scene) → Sized s → Stays s (manage_by os s)
unfolding everywhere
managed_stays [] s sized = record { step = refl; power = refl; sized = sized }
managed_stays (o ∷ rest) s sized =
    by_room (nat_lt (length s.master.answers) s.master.answer_room) (record { step = refl; power = refl; sized = (length-table _, length-table _) })
  where
    by_room : (b : Bool) → Stays s (carry_out o rest s) → Stays s (cond b (carry_out o rest s) s)
    by_room true stays = stays
    by_room false stays = record { step = refl; power = refl; sized = sized }

-- The search

-- what is heard decides the next step; in entering that is nothing
decides : (mode : Mode) (power : Bool) (t : Stage) (b : ℕ) (r : Row) (p : Place) → told_by (λ (e : Stepped). e.deciding) power (search_dialogue mode t b r) p ≡ deciding power t p
decides mode power (seek a) b r p = refl
decides mode power (name a c) b r p = refl
decides mode power (enter a) b r p = either (admissible mode b r)
  where
    either : (x : Bool) {h : Heard} → cond x h h ≡ h
    either true = refl
    either false = refl

pub searched_on_line : (s : Scene) → taken_by s.master.control.rows s.master.control.step < 32 → Sized s → goes_on searching s ≡ course_of (search_on s)
unfolding search_on
searched_on_line s inside sized =
    one_on_line (λ (e : Stepped). e.row) d b s (λ e. searched e.row e.deciding) inside sized
    ∙ ap (λ (r : Row). left_so (stepped r e.deciding)) (row_told (λ (e : Stepped). e.row) power d p)
    ∙ ap (λ (h : Heard). left_so (stepped v.row h)) (part_told (λ (e : Stepped). e.deciding) power d p ∙ decides mode power t b (row_in_master b s.master) p)
    ∙ ap (λ (qs : List Sent). record (course_of there_on) { sent = qs }) (append-nil there_on.sent)
    ∙ ap (λ (u : Scene). course_of (stepping (next_step mode power t b (row_in_master b s.master) p) u)) (one_visited s (search_visit mode power t b) b inside sized.0 sized.1)
  where
    t : Stage
    t = s.master.control.step

    b : ℕ
    b = taken_by s.master.control.rows t

    mode : Mode
    mode = s.master.control.mode

    power : Bool
    power = s.line.power

    p : Place
    p = at s.line.places b

    d : Dialogue Stepped
    d = search_dialogue mode t b (row_in_master b s.master)

    e : Stepped
    e = comes_to power d p

    v : Visit
    v = search_visit mode power t b (row_in_master b s.master) p

    stepped : Row → Heard → Master
    stepped r h = to_step (step_after t b h (admissible mode b r)) (with_master_row b r s.master)

    searched : Row → Heard → Conversation Master
    searched r h = done (stepped r h)

    left_so : Master → Course Master
    left_so c = record { comes_to = c; places = set s.line.places b v.place; sent = (s.sent ++ addressed b v.sent) ++ [] }

    there_on : Scene
    there_on = stepping (next_step mode power t b (row_in_master b s.master) p) (visited_there s (search_visit mode power t b) b)
