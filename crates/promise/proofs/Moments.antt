-- What management and the search show of an address: a visit there, or nothing.
use Rattle.std.proofs.Common.{◌≡◌, ℕ, ◌<◌, true, false, cond, ltb, List, [], ◌∷◌, length, ap, ◌∙◌, subst, ⊎_elim}
use Rattle.std.specs.List.{AllByRecursion}
use Rattle.std.proofs.lemmas.Bool.{cases_eq}
use Rattle.telegrams.specs.Requests.{Asking, Sent, data_exchange, write_parameter, read_io, read_id, resetting}
use Rattle.stations.specs.Stations.{Place}
use Rattle.lines.specs.Lines.{at}
use Rattle.records.specs.Rows.{Row, row_at}
use Rattle.phases.specs.Visits.{Visit}
use Rattle.phases.specs.Exchange.{exchange_visit}
use Rattle.orders.specs.Orders.{Ending}
use Rattle.orders.specs.Management.{manage_visit}
use Rattle.search.specs.Steps.{Stage}
use Rattle.search.specs.Searches.{search_visit, taken_by, next_step}
use Rattle.control.specs.Cycles.{Scene, everywhere, only, exchange, ending_at, answered, carry_out, manage_by, manage, search_from, search_on}
use Rattle.promise.proofs.Sees.{Moment, Sees, visiting, stepped, sees_visit, sees_left, sees_stepping}
use Rattle.promise.proofs.Visits.{only_same, only_other}

-- what the controller can order: a parameter or a reset
abbrev pub Orderable : Asking → Type 0
Orderable (data_exchange n) = ⊥
Orderable (write_parameter n) = Unit {0}
Orderable read_io = ⊥
Orderable read_id = ⊥
Orderable resetting = Unit {0}

abbrev pub Orderly : List Sent → Type 0
Orderly os = AllByRecursion (λ (o : Sent). Orderable o.asking) os

-- One address alone is visited
module _ (b : ℕ) (h : b < 32) (s : Scene) (m : Moment) (see : Sees b s m) where
  pub sees_exchange : (w : Visit) → exchange_visit m.power m.row m.place ≡ w → Sees b (exchange s) (visiting w m)
  sees_exchange w e =
      sees_visit b s m see (λ a. exchange_visit s.line.power) h w (ap (λ p. exchange_visit p m.row m.place) see.power_is ∙ e)

  pub sees_elsewhere : (a : ℕ) (v : Row → Place → Visit) → (b ≡ a → ⊥) → Sees b (everywhere (only a v) s) m
  sees_elsewhere a v ne = sees_left b s m see (only a v) h (only_other a b v m.row m.place ne)

  pub sees_here : (a : ℕ) (v : Row → Place → Visit) (w : Visit) → b ≡ a → v m.row m.place ≡ w → Sees b (everywhere (only a v) s) (visiting w m)
  sees_here a v w to e =
      subst (λ (k : ℕ). Sees b (everywhere (only k v) s) (visiting w m)) to
      (sees_visit b s m see (only b v) h w (only_same b v m.row m.place ∙ e))

-- Management

pub sees_answered : (b : ℕ) (s : Scene) (m : Moment) (o : Sent) (end : Ending) (rest : List Sent) → Sees b s m → Sees b (answered o end rest s) m
sees_answered b s m o end rest see =
    record {
      power_is = see.power_is;
      offline_is = see.offline_is;
      mode_is = see.mode_is;
      phase_is = see.phase_is;
      step_is = see.step_is;
      row_is = see.row_is;
      place_is = see.place_is;
      sent_is = see.sent_is;
    }

-- management left b alone, or carried out an order there
pub data Managed (b : ℕ) (s : Scene) (m : Moment) : Type 0 where
  idle : Sees b s m → Managed b s m
  ordered : (q : Asking) → Orderable q → Sees b s (visiting (manage_visit m.power q m.row m.place) m) → Managed b s m

module _ (b : ℕ) (h : b < 32) (s : Scene) (m : Moment) (see : Sees b s m) where
  carried : (o : Sent) (rest : List Sent) → Orderable o.asking → Managed b (carry_out o rest s) m
  carried o rest fit = ⊎_elim here elsewhere (cases_eq b o.to)
    where
      visit : Row → Place → Visit
      visit = manage_visit s.line.power o.asking

      after : Scene
      after = everywhere (only o.to visit) s

      here : b ≡ o.to → Managed b (answered o (ending_at s o) rest after) m
      here to =
          let made = manage_visit m.power o.asking m.row m.place in
          let same = ap (λ p. manage_visit p o.asking m.row m.place) see.power_is in
          ordered o.asking fit (sees_answered b after (visiting made m) o (ending_at s o) rest (sees_here b h s m see o.to visit made to same))

      elsewhere : (b ≡ o.to → ⊥) → Managed b (answered o (ending_at s o) rest after) m
      elsewhere ne = idle (sees_answered b after m o (ending_at s o) rest (sees_elsewhere b h s m see o.to visit ne))

  managed_by : (os : List Sent) → Orderly os → Managed b (manage_by os s) m
  managed_by [] fit = idle see
  managed_by (o ∷ rest) fit =
      elim (ltb (length s.master.answers) s.master.answer_room) as (λ t. Managed b (cond t (carry_out o rest s) s) m)
      [ true ↦ carried o rest fit.0 | false ↦ idle see ]

  pub managed : Orderly s.master.orders → Managed b (manage s) m
  unfolding manage
  managed fit = managed_by s.master.orders fit

-- The search

-- the address that the search takes at this moment
abbrev pub taken : Scene → Moment → ℕ
taken s m = taken_by s.master.control.rows m.step

-- the step that follows
abbrev pub next_after : Scene → Moment → Stage
next_after s m =
    next_step s.master.control.mode s.line.power m.step (taken s m) (row_at (taken s m) s.master.control.rows) (at s.line.places (taken s m))

searches : (b : ℕ) (s : Scene) (m : Moment) → Sees b s m → search_on s ≡ search_from m.step s
unfolding search_on
searches b s m see = ap (λ (t : Stage). search_from t s) see.step_is

module _ (b : ℕ) (h : b < 32) (s : Scene) (m : Moment) (see : Sees b s m) where
  abbrev visit : Row → Place → Visit
  visit = search_visit s.master.control.mode s.line.power m.step (taken s m)

  pub sees_search_other : (b ≡ taken s m → ⊥) → Sees b (search_on s) (stepped (next_after s m) m)
  sees_search_other ne =
      rw (searches b s m see)
      (sees_stepping b (everywhere (only (taken s m) visit) s) m (sees_elsewhere b h s m see (taken s m) visit ne) (next_after s m))

  pub sees_search_here : b ≡ taken s m →
      Sees b (search_on s)
      (stepped (next_step m.mode m.power m.step b m.row m.place)
      (visiting (search_visit m.mode m.power m.step b m.row m.place) m))
  sees_search_here to =
      let made = search_visit m.mode m.power m.step b m.row m.place in
      let power = see.power_is in
      let mode = see.mode_is in
      let row = see.row_is in
      let place = see.place_is in
      let same : visit m.row m.place ≡ made = cc in
      let next : next_after s m ≡ next_step m.mode m.power m.step b m.row m.place = cc in
      rw (searches b s m see)
      (subst (λ (t : Stage). Sees b (search_from m.step s) (stepped t (visiting made m))) next
      (sees_stepping b (everywhere (only (taken s m) visit) s) (visiting made m) (sees_here b h s m see (taken s m) visit made to same) (next_after s m)))
