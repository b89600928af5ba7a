-- Management at an undisturbed module that is sent no reset: it may set a parameter, and no exchange is sent.
use Rattle.std.proofs.Common.{◌≡◌, ℕ, ◌+◌, ◌<◌, true, false, List, [], ◌∷◌, ◌++◌, sym, refl, ap, ◌∙◌, subst, ⊎_elim, arith}
use Rattle.std.proofs.lemmas.List.{append-nil}
use Rattle.std.proofs.lemmas.Bool.{cases_Bool}
use Rattle.telegrams.specs.Requests.{Asking, data_exchange, write_parameter, read_io, read_id, resetting}
use Rattle.stations.specs.Stations.{State, Place, occupied, with_parameter}
use Rattle.records.specs.Rows.{Row}
use Rattle.records.specs.declared.record.Mode.{Mode}
use Rattle.phases.specs.Visits.{Visit, sent_below}
use Rattle.phases.specs.Activation.{with_pi}
use Rattle.orders.specs.Management.{manage_visit}
use Rattle.search.specs.Steps.{Stage}
use Rattle.search.specs.Searches.{search_visit, taken_by}
use Rattle.control.specs.declared.control.Phase.TheVariants.{Normal}
use Rattle.control.specs.Cycles.{Scene, everywhere, visit_made, only, manage, search_on}
use Rattle.promise.specs.Waiting.{sent_to, exchanges, resets, codes_of}
use Rattle.promise.proofs.Sending.{sent-to-append, resets_append, exchanges-append}
use Rattle.promise.proofs.Sees.{Moment, Sees, visiting}
use Rattle.promise.proofs.Visits.{order_calm, manage_off, manage_sent}
use Rattle.promise.proofs.Moments.{Orderable, Orderly, Managed, idle, ordered, managed}

-- What a whole cycle does not send, its first parts do not send
abbrev pub NoReset : ℕ → Scene → Type 0
NoReset b s = resets (sent_to b s.sent) ≡ 0

no_reset_everywhere : (b : ℕ) (v : ℕ → Row → Place → Visit) (s : Scene) → NoReset b (everywhere v s) → NoReset b s
unfolding everywhere
no_reset_everywhere b v s none =
    let more = sent_below 32 (λ a. (visit_made v s a).sent) in
    let both : resets (sent_to b s.sent) + resets (sent_to b more) ≡ 0 =
    sym (resets_append (sent_to b s.sent) (sent_to b more)) ∙ ap resets (sym (sent-to-append b s.sent more)) ∙ none in
    omega arith

pub no_reset_search : (b : ℕ) (s : Scene) → NoReset b (search_on s) → NoReset b s
unfolding search_on
no_reset_search b s none =
    let t = s.master.control.step in
    let c = taken_by s.master.control.rows t in
    no_reset_everywhere b (only c (search_visit s.master.control.mode s.line.power t c)) s none

-- a normal cycle with power and no offline request, which has sent qs to the module x at this address so far
abbrev pub ready : Mode → Stage → Row → State → List Asking → Moment
ready mode step r x qs =
    record {
      power = true;
      offline = false;
      mode = mode;
      phase = Normal;
      step = step;
      row = r;
      place = occupied x;
      sent = qs;
    }

-- what management may make of the row and the module
pub record Tended (r t : Row) (x y : State) : Type 0 where
  pub active_is : t.active ≡ r.active
  pub misses_is : t.misses ≡ r.misses
  pub cdi_is : t.cdi ≡ r.cdi
  pub projected_is : t.projected ≡ r.projected
  pub pcd_is : t.pcd ≡ r.pcd
  pub idi_is : t.idi ≡ r.idi
  pub codes_are : codes_of y ≡ codes_of x
  pub calm_is : y.disturbance ≡ x.disturbance
  pub outputs_are : y.outputs ≡ x.outputs
  pub still_enabled : x.enabled ≡ true → y.enabled ≡ true

pub record Attended (b : ℕ) (s : Scene) (mode : Mode) (step : Stage) (r : Row) (x : State) (qs : List Asking) : Type 0 where
  pub row : Row
  pub state : State
  pub sent : List Asking
  pub see : Sees b s (ready mode step row state sent)
  pub tended : Tended r row x state
  pub no_more : exchanges sent ≡ exchanges qs

untended : (r : Row) (x : State) → Tended r r x x
untended r x =
    record {
      active_is = refl;
      misses_is = refl;
      cdi_is = refl;
      projected_is = refl;
      pcd_is = refl;
      idi_is = refl;
      codes_are = refl;
      calm_is = refl;
      outputs_are = refl;
      still_enabled = λ e. e;
    }

with_parameter_tended : (n : ℕ) (r : Row) (x : State) → Tended r (with_pi n r) x (with_parameter n x)
with_parameter_tended n r x =
    record {
      active_is = refl;
      misses_is = refl;
      cdi_is = refl;
      projected_is = refl;
      pcd_is = refl;
      idi_is = refl;
      codes_are = refl;
      calm_is = refl;
      outputs_are = refl;
      still_enabled = λ _. refl;
    }

module _
    (b : ℕ) (hb : b < 32) (s : Scene) (mode : Mode) (step : Stage) (r : Row) (x : State) (qs : List Asking)
    (see : Sees b s (ready mode step r x qs)) (calm : x.disturbance ≡ 0) (fit : Orderly s.master.orders) (none : NoReset b (manage s))
  where
    abbrev Visited : Visit → Type 0
    Visited w = Sees b (manage s) (visiting w (ready mode step r x qs))

    set-up : (q : Asking) → Orderable q → r.active ≡ true → Visited (manage_visit true q r (occupied x)) → Attended b (manage s) mode step r x qs
    set-up (data_exchange n) ok on z = absurd ok
    set-up (write_parameter n) ok on z =
        record {
          row = with_pi n r;
          state = with_parameter n x;
          sent = qs ++ write_parameter n ∷ [];
          see = subst Visited (order_calm x calm n r on) z;
          tended = with_parameter_tended n r x;
          no_more = exchanges-append qs (write_parameter n ∷ []) ∙ append-nil (exchanges qs);
        }
    set-up read_io ok on z = absurd ok
    set-up read_id ok on z = absurd ok
    set-up resetting ok on z =
        let one_more : resets qs + 1 ≡ 0 =
        sym (resets_append qs (resetting ∷ []))
        ∙ ap (λ l. resets (qs ++ l)) (sym (manage_sent true resetting r (occupied x) on))
        ∙ ap resets (sym z.sent_is)
        ∙ none in
        absurd (omega arith)

    refused : (q : Asking) → r.active ≡ false → Visited (manage_visit true q r (occupied x)) → Attended b (manage s) mode step r x qs
    refused q off z =
        record {
          row = r;
          state = x;
          sent = qs ++ [];
          see = subst Visited (manage_off true q r (occupied x) off) z;
          tended = untended r x;
          no_more = ap exchanges (append-nil qs);
        }

    attended_by : Managed b (manage s) (ready mode step r x qs) → Attended b (manage s) mode step r x qs
    attended_by (idle z) = record { row = r; state = x; sent = qs; see = z; tended = untended r x; no_more = refl }
    attended_by (ordered q ok z) = ⊎_elim (λ on. set-up q ok on z) (λ off. refused q off z) (cases_Bool r.active)

    pub attended : Attended b (manage s) mode step r x qs
    attended = attended_by (managed b hb s (ready mode step r x qs) see fit)
