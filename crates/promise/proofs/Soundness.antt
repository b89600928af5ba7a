-- What holds of every master that was new once, and is needed of it: its search is sound at b, address 0 is inactive, and the orders that
-- wait are a parameter's or a reset.
use Rattle.std.proofs.Common.{◌≡◌, ℕ, ◌<◌, Bool, true, false, cond, ◌&&◌, ltb, List, [], ◌∷◌, ◌++◌, length, sym, refl, ap, ◌∙◌, subst, ⊎_elim, arith}
use Rattle.std.proofs.ByRecursion.{All-push}
use Rattle.std.proofs.lemmas.Bool.{cases_eq, cond_both}
use Rattle.values.specs.Refusals.{Outcome, gives, refuses, refuses_for}
use Rattle.values.proofs.Tables.{at_table}
use Rattle.telegrams.specs.Requests.{Asking, Sent, Heard, write_parameter, resetting, nibble, silence, disturbed}
use Rattle.stations.specs.Stations.{Place}
use Rattle.lines.specs.Lines.{Meaning, at}
use Rattle.records.specs.Rows.{Row, row_at, new_row, is_module_address}
use Rattle.records.specs.declared.record.Mode.{Mode}
use Rattle.phases.specs.Visits.{Visit, left_alone}
use Rattle.phases.specs.Exchange.{dropped, exchange_visit}
use Rattle.phases.specs.Detection.{detect_visit}
use Rattle.phases.specs.Activation.{admissible, enter_visit, activate_visit}
use Rattle.orders.specs.Management.{manage_visit}
use Rattle.search.specs.Steps.{Stage, seek, name, enter, pick, step_after}
use Rattle.search.specs.Searches.{search_visit, taken_by, deciding, next_step}
use Rattle.control.specs.declared.control.Phase.{Phase}
use Rattle.control.specs.declared.control.Phase.TheVariants.{Offline, Detection, Activation, Normal}
use Rattle.control.specs.Cycles.{Master, Scene, new_control, new_master, beginning, everywhere, exchange, carry_out, manage_by, manage, search_on}
use Rattle.control.specs.Cycles.{phased, held_off, stay_offline, run, cycle}
use Rattle.promise.specs.Successions.{Placement, parameter, reset, order_from, Call, Turn, cycling, calling, waiting_after, placing_outcome, called, turned, after}
use Rattle.promise.specs.Successions.{placing, collecting, reading, writing, setting, editing, projecting_all}
use Rattle.promise.proofs.Sees.{Moment, Sees, visiting, entering, first_moment, sees_beginning, sees_everywhere, sees_phased}
use Rattle.promise.proofs.Far.{Picked, picks, near_any, next_lt}
use Rattle.promise.proofs.Visits.{Milder, milder_exchange, milder_order, milder_seek, milder_name, milder_detect, few_entering, few_search, admissible_not_zero}
use Rattle.promise.proofs.Moments.{Orderable, Orderly, sees_exchange, Managed, idle, ordered, managed, taken, sees_search_here, sees_search_other}
use Rattle.promise.proofs.Within.{View, view, view_of, sees_view, limit, Fine, Starting, Sound}
use Rattle.promise.proofs.Keeps.{keeps_call}

-- Before the search: exchange and management

-- the same moment with another row and station, and with this sent there
abbrev pub showing : Row → Place → List Asking → Moment → Moment
showing r p qs m = record m { row = r; place = p; sent = qs }

pub record Shows (b : ℕ) (s : Scene) (m : Moment) : Type 0 where
  pub row : Row
  pub place : Place
  pub sent : List Asking
  pub see : Sees b s (showing row place sent m)
  pub mild : Milder m.row row

pub orders_kept : (v : ℕ → Row → Place → Visit) (s : Scene) → (everywhere v s).master.orders ≡ s.master.orders
unfolding everywhere
orders_kept v s = refl

module _ (b : ℕ) (h : b < 32) (s : Scene) (m : Moment) (see : Sees b s m) where
  shows_managed : (s' : Scene) (w : Visit) → Milder m.row w.row → Managed b s' (visiting w m) → Shows b s' m
  shows_managed s' w mild (idle z) = record { row = w.row; place = w.place; sent = m.sent ++ w.sent; see = z; mild = mild }
  shows_managed s' w mild (ordered q fit z) =
      let made = manage_visit m.power q w.row w.place in
      let more = milder_order m.power q w.row w.place in
      record {
        row = made.row;
        place = made.place;
        sent = (m.sent ++ w.sent) ++ made.sent;
        see = z;
        mild = (λ e. more.0 (mild.0 e), λ e. more.1 (mild.1 e));
      }

  pub before_search : Orderly s.master.orders → Shows b (manage (exchange s)) m
  before_search fit =
      let made = exchange_visit m.power m.row m.place in
      shows_managed (manage (exchange s)) made (milder_exchange m.power m.row m.place)
      (managed b h (exchange s) (visiting made m) (sees_exchange b h s m see made refl)
      (subst Orderly (sym (orders_kept (λ a. exchange_visit s.line.power) s)) fit))

-- The search

pub fine_milder : (b : ℕ) (on on' : Bool) (step : Stage) → (on ≡ false → on' ≡ false) → Fine b on step → Fine b on' step
fine_milder b on on' (seek a) f fine = fine
fine_milder b on on' (name c k) f fine = (fine.0, λ e. f (fine.1 e))
fine_milder b on on' (enter c) f fine = (fine.0, fine.1, λ e. f (fine.2 e))

pub picked : (rs : List Row) (a : ℕ) → a < 32 → (row_at 0 rs).active ≡ false → Picked (λ k. Unit {0}) rs (pick rs a)
picked rs a h off = picks (λ k. Unit {0}) rs 0 (omega arith) off (λ k l ne u. tt) 32 a h (near_any 0 a (omega arith) h) tt

-- the address that a fine step takes is in range, and inactive where it is b
pub taken_lt : (b : ℕ) (on : Bool) (rs : List Row) (step : Stage) → (row_at 0 rs).active ≡ false → Fine b on step → taken_by rs step < 32
taken_lt b on rs (seek a) off fine = (picked rs a fine off).in_range
taken_lt b on rs (name c k) off fine = fine.0
taken_lt b on rs (enter c) off fine = fine.0

pub taken_off : (b : ℕ) (r : Row) (rs : List Row) (step : Stage) → (row_at 0 rs).active ≡ false → Fine b r.active step → row_at b rs ≡ r →
    b ≡ taken_by rs step → r.active ≡ false
taken_off b r rs (seek a) off fine is e =
    ap (λ (q : Row). q.active) (sym is) ∙ ap (λ k. (row_at k rs).active) e ∙ (picked rs a fine off).inactive
taken_off b r rs (name c k) off fine is e = fine.1 (sym e)
taken_off b r rs (enter c) off fine is e = fine.2 (sym e)

-- the step after any at address c is fine
fine_after : (b c : ℕ) (on : Bool) (step : Stage) (y : Heard) (fit : Bool) → c < 32 → (c ≡ b → on ≡ false) → (fit ≡ true → c ≡ 0 → ⊥) →
    Fine b on (step_after step c y fit)
fine_after b c on (seek a) (nibble k) fit h off some = (h, off)
fine_after b c on (seek a) silence fit h off some = next_lt c h
fine_after b c on (seek a) disturbed fit h off some = next_lt c h
fine_after b c on (name a k) (nibble d) true h off some = let ne = some refl in (h, omega arith, off)
fine_after b c on (name a k) (nibble d) false h off some = next_lt c h
fine_after b c on (name a k) silence fit h off some = next_lt c h
fine_after b c on (name a k) disturbed fit h off some = next_lt c h
fine_after b c on (enter a) y fit h off some = next_lt c h

module _ (mode : Mode) (power : Bool) (r : Row) (p : Place) where
  fine_next : (b c : ℕ) (on : Bool) (step : Stage) → c < 32 → (c ≡ b → on ≡ false) → Fine b on (next_step mode power step c r p)
  fine_next b c on step h off =
      let row = (search_visit mode power step c r p).row in
      fine_after b c on step (deciding power step p) (admissible mode c row) h off (admissible_not_zero mode c row)

  fine_here : (b : ℕ) (step : Stage) → b < 32 → r.active ≡ false → Fine b (search_visit mode power step b r p).row.active (next_step mode power step b r p)
  fine_here b (seek a) h off =
      fine_next b b (search_visit mode power (seek a) b r p).row.active (seek a) h (λ _. (milder_seek mode power a b r p).0 off)
  fine_here b (name a k) h off =
      fine_next b b (search_visit mode power (name a k) b r p).row.active (name a k) h (λ _. (milder_name mode power a k b r p).0 off)
  fine_here b (enter a) h off = next_lt b h

  -- address 0 is never entered
  zero_here : (step : Stage) → r.active ≡ false → (search_visit mode power step 0 r p).row.active ≡ false
  zero_here (seek a) off = (milder_seek mode power a 0 r p).0 off
  zero_here (name a k) off = (milder_name mode power a k 0 r p).0 off
  zero_here (enter a) off = off

-- what is sound at a moment, from what is seen
sound_seen : {b : ℕ} {s : Scene} {m : Moment} → Sees b s m → m.row.misses < limit → Fine b m.row.active m.step →
    Starting m.phase m.step m.row.active → Sound b (view b s.master.control)
sound_seen {b} {s} {m} see few fine starting =
    subst (Sound b) (sym (sees_view see)) (record { few = few; fine = fine; starting = starting })

any_start : (p : Phase) (step : Stage) (on : Bool) → p ≡ Normal → Starting p step on
any_start p step on e = subst (λ (p : Phase). Starting p step on) (sym e) tt

module _ (s : Scene) (off : (row_at 0 s.master.control.rows).active ≡ false) where
  pub search_sound : (b : ℕ) → b < 32 → (m : Moment) → Sees b s m → m.phase ≡ Normal → m.row.misses < limit → Fine b m.row.active m.step →
      Sound b (view b (search_on s).master.control)
  search_sound b h m see normal few fine = ⊎_elim here elsewhere (cases_eq b (taken s m))
    where
      here : b ≡ taken s m → Sound b (view b (search_on s).master.control)
      here e =
          sound_seen (sees_search_here b h s m see e) (few_search m.mode m.power m.step b m.row m.place few)
          (fine_here m.mode m.power m.row m.place b m.step h
          (taken_off b m.row s.master.control.rows m.step off fine see.row_is e))
          (any_start m.phase _ _ normal)

      elsewhere : (b ≡ taken s m → ⊥) → Sound b (view b (search_on s).master.control)
      elsewhere ne =
          let there = row_at (taken s m) s.master.control.rows in
          let station = at s.line.places (taken s m) in
          sound_seen (sees_search_other b h s m see ne) few
          (fine_next s.master.control.mode s.line.power there station b (taken s m) m.row.active m.step
          (taken_lt b m.row.active s.master.control.rows m.step off fine)
          (λ e. absurd (ne (sym e))))
          (any_start m.phase _ _ normal)

  pub search_zero : (m : Moment) → Sees 0 s m → (row_at 0 (search_on s).master.control.rows).active ≡ false
  search_zero m see = ⊎_elim here elsewhere (cases_eq 0 (taken s m))
    where
      idle_row : m.row.active ≡ false
      idle_row = ap (λ (r : Row). r.active) (sym see.row_is) ∙ off

      here : 0 ≡ taken s m → (row_at 0 (search_on s).master.control.rows).active ≡ false
      here e =
          ap (λ (r : Row). r.active) (sees_search_here 0 (omega arith) s m see e).row_is
          ∙ zero_here m.mode m.power m.row m.place m.step idle_row

      elsewhere : (0 ≡ taken s m → ⊥) → (row_at 0 (search_on s).master.control.rows).active ≡ false
      elsewhere ne = ap (λ (r : Row). r.active) (sees_search_other 0 (omega arith) s m see ne).row_is ∙ idle_row

-- A master whose address b is sound, whose address 0 is inactive, and whose orders are orderly

abbrev pub Kept : ℕ → Master → Type 0
Kept b c = Sound b (view b c.control) × ((row_at 0 c.control.rows).active ≡ false) × Orderly c.orders

-- Through a cycle

orderly_manage : (s : Scene) → Orderly s.master.orders → Orderly (manage s).master.orders
unfolding manage everywhere
orderly_manage s fit = go s.master.orders fit
  where
    go : (os : List Sent) → Orderly os → Orderly (manage_by os s).master.orders
    go [] all = fit
    go (o ∷ rest) all =
        cond_both (ltb (length s.master.answers) s.master.answer_room) (carry_out o rest s) s (λ (t : Scene). Orderly t.master.orders)
        (λ _. all.1) (λ _. fit)

orders_searched : (s : Scene) → (search_on s).master.orders ≡ s.master.orders
unfolding search_on everywhere
orders_searched s = refl

module _ (b : ℕ) (h : b < 32) (c : Master) (line : Meaning) (kept : Kept b c) where
  abbrev row : ℕ → Row
  row a = row_at a c.control.rows

  abbrev place : ℕ → Place
  place a = at line.places a

  -- each address is visited, and the next phase entered
  kept_phase : (v : ℕ → Row → Place → Visit) (p : Phase) → (v b (row b) (place b)).row.misses < limit →
      Fine b (v b (row b) (place b)).row.active c.control.step → Starting p c.control.step (v b (row b) (place b)).row.active →
      (v 0 (row 0) (place 0)).row.active ≡ false → Kept b (phased p (everywhere v (beginning c line))).master
  kept_phase v p few fine starting off = (
    sound_seen (seen b h) few fine starting,
    ap (λ (r : Row). r.active) (seen 0 (omega arith)).row_is ∙ off,
    subst Orderly (sym (orders_kept v (beginning c line))) kept.2,
  )
    where
      seen : (a : ℕ) (ha : a < 32) → Sees a (phased p (everywhere v (beginning c line))) (entering p (visiting (v a (row a) (place a)) (first_moment a c line)))
      seen a ha =
          sees_phased a (everywhere v (beginning c line)) (visiting (v a (row a) (place a)) (first_moment a c line))
          (sees_everywhere a (beginning c line) (first_moment a c line) (sees_beginning a c line) v ha) p

  kept_detection : c.control.phase ≡ Detection → Kept b (run Detection (beginning c line)).master
  kept_detection e =
      let start = subst (λ (p : Phase). Starting p c.control.step (row b).active) e kept.0.starting in
      let mild = milder_detect line.power (row b) (place b) in
      kept_phase (λ a. detect_visit line.power) Activation (mild.1 kept.0.few)
      (fine_milder b (row b).active (detect_visit line.power (row b) (place b)).row.active c.control.step mild.0 kept.0.fine)
      (start.0, mild.0 start.1)
      ((milder_detect line.power (row 0) (place 0)).0 kept.1)

  kept_activation : c.control.phase ≡ Activation → Kept b (run Activation (beginning c line)).master
  kept_activation e =
      let visit : ℕ → Row → Place → Visit = activate_visit c.control.mode line.power in
      let start = subst (λ (p : Phase). Starting p c.control.step (row b).active) e kept.0.starting in
      kept_phase visit Normal
      (few_entering ((row b).detected && admissible c.control.mode b (row b)) line.power (row b) (place b) kept.0.few)
      (subst (Fine b (visit b (row b) (place b)).row.active) (sym start.0) in_range) tt zero_left
    where
      in_range : 0 < 32
      in_range = omega arith

      -- address 0 is not admissible
      zero_left : (activate_visit c.control.mode line.power 0 (row 0) (place 0)).row.active ≡ false
      zero_left =
          elim (row 0).detected as (λ t. (cond (t && false) (enter_visit line.power (row 0) (place 0)) (left_alone (row 0) (place 0))).row.active ≡ false)
          [ true ↦ kept.1 | false ↦ kept.1 ]

  kept_normal : c.control.phase ≡ Normal → Kept b (run Normal (beginning c line)).master
  kept_normal e = (
    search_sound before zero_off b h (showing here.row here.place here.sent (first_moment b c line)) here.see e (here.mild.1 kept.0.few)
        (fine_milder b (row b).active here.row.active c.control.step here.mild.0 kept.0.fine),
    search_zero before zero_off (showing zeroth.row zeroth.place zeroth.sent (first_moment 0 c line)) zeroth.see,
    subst Orderly (sym (orders_searched before))
        (orderly_manage (exchange (beginning c line)) (subst Orderly (sym (orders_kept (λ a. exchange_visit line.power) (beginning c line))) kept.2)),
  )
    where
      before : Scene
      before = manage (exchange (beginning c line))

      here : Shows b before (first_moment b c line)
      here = before_search b h (beginning c line) (first_moment b c line) (sees_beginning b c line) kept.2

      zeroth : Shows 0 before (first_moment 0 c line)
      zeroth = before_search 0 (omega arith) (beginning c line) (first_moment 0 c line) (sees_beginning 0 c line) kept.2

      zero_off : (row_at 0 before.master.control.rows).active ≡ false
      zero_off = ap (λ (r : Row). r.active) zeroth.see.row_is ∙ zeroth.mild.0 kept.1

  kept_offline : Kept b (stay_offline (beginning c line)).master
  unfolding stay_offline
  kept_offline = (
    subst (λ (r : Row). Sound b (view_of (cond (held_off c.control line.power) Offline Detection) (seek 0) r)) (sym (cleared b h))
        (go (held_off c.control line.power)),
    ap (λ (r : Row). r.active) (cleared 0 (omega arith)),
    kept.2,
  )
    where
      cleared : (a : ℕ) → a < 32 → row_at a (stay_offline (beginning c line)).master.control.rows ≡ dropped (row a)
      cleared a ha = at_table (λ k. dropped (row k)) a new_row ha

      go : (t : Bool) → Sound b (view_of (cond t Offline Detection) (seek 0) (dropped (row b)))
      go true = record { few = omega arith; fine = omega arith; starting = tt }
      go false = record { few = omega arith; fine = omega arith; starting = (refl, refl) }

  kept_run : (p : Phase) → c.control.phase ≡ p → Kept b (run p (beginning c line)).master
  kept_run Offline e = kept_offline
  kept_run Detection e = kept_detection e
  kept_run Activation e = kept_activation e
  kept_run Normal e = kept_normal e

  pub kept_cycle : Kept b (cycle c line).master
  unfolding cycle
  kept_cycle =
      elim (held_off c.control line.power) as (λ t. Kept b (run (cond t Offline c.control.phase) (beginning c line)).master)
      [ true ↦ kept_offline | false ↦ kept_run c.control.phase refl ]

-- Through the other calls, and from new

-- an order is a parameter's or a reset, where it is made at all
abbrev Placeable : Outcome Sent → Type 0
Placeable (gives q) = Orderable q.asking
Placeable (refuses_for n c) = Unit {0}

placeable : (w : Placement) → Placeable (order_from w)
placeable (parameter a n) =
    cond_both (ltb 0 a && ltb a 32) (cond (ltb n 16) (gives (record { to = a; asking = write_parameter n })) (refuses 0x8310)) (refuses 0x8381) Placeable
    (λ _. cond_both (ltb n 16) (gives (record { to = a; asking = write_parameter n })) (refuses 0x8310) Placeable (λ _. tt) (λ _. tt))
    (λ _. tt)
placeable (reset a) =
    cond_both (is_module_address a) (gives (record { to = a; asking = resetting })) (refuses 0x8381) Placeable (λ _. tt) (λ _. tt)

orderly_placed : (q : Outcome Sent) (o : Outcome (Unit {0})) (os : List Sent) → Placeable q → Orderly os → Orderly (waiting_after q o os)
orderly_placed (gives q) (gives u) os fit all = All-push (λ (s : Sent). Orderable s.asking) os q all fit
orderly_placed (gives q) (refuses_for n c) os fit all = all
orderly_placed (refuses_for n c) o os fit all = all

orderly_call : (k : Call) (c : Master) → Orderly c.orders → Orderly (called k c).orders
orderly_call (placing w) c all = orderly_placed (order_from w) (placing_outcome (order_from w) c) c.orders (placeable w) all
orderly_call collecting c all = all
orderly_call (reading r) c all = all
orderly_call (writing w) c all = all
orderly_call (setting s) c all = all
orderly_call (editing e) c all = all
orderly_call (projecting_all es) c all = all

pub kept_call : (b : ℕ) → b < 32 → (k : Call) (c : Master) → Kept b c → Kept b (called k c)
kept_call b h k c kept = (
  subst (Sound b) (sym (keeps_call b h k c)) kept.0,
  ap (λ (v : View). v.on) (keeps_call 0 (omega arith) k c) ∙ kept.1,
  orderly_call k c kept.2,
)

pub kept_turn : (b : ℕ) → b < 32 → (t : Turn) (c : Master) → Kept b c → Kept b (turned t c)
kept_turn b h (cycling line) c kept = kept_cycle b h c line kept
kept_turn b h (calling k) c kept = kept_call b h k c kept

pub kept_after : (b : ℕ) → b < 32 → (ts : List Turn) (c : Master) → Kept b c → Kept b (after ts c)
kept_after b h [] c kept = kept
kept_after b h (t ∷ ts) c kept = kept_after b h ts (turned t c) (kept_turn b h t c kept)

pub kept_new : (b : ℕ) → b < 32 → (order_room answer_room : ℕ) → Kept b (new_master order_room answer_room)
unfolding new_control
kept_new b h order_room answer_room = (
  subst (λ (r : Row). Sound b (view_of Offline (seek 0) r)) (sym (at_table (λ a. new_row) b new_row h))
      (record { few = omega arith; fine = omega arith; starting = tt }),
  ap (λ (r : Row). r.active) (at_table (λ a. new_row) 0 new_row (omega arith)),
  tt,
)
