-- A normal cycle at an address with an admitted module: a served module is exchanged and stays served, and of one that waits one cycle
-- less is left.
use Rattle.std.proofs.Common.{◌≡◌, ℕ, suc, ◌+◌, ◌<◌, ◌≤◌, Bool, true, false, List, [], ◌∷◌, sym, refl, ap, ◌∙◌, subst, subst₂, ⊎_elim, arith}
use Rattle.std.proofs.lemmas.Bool.{cases_Bool}
use Rattle.telegrams.specs.Requests.{Asking, nibble, data_exchange}
use Rattle.stations.specs.Stations.{State, occupied, port_bits, with_outputs, reply}
use Rattle.records.specs.Rows.{Pair, Row, row_at}
use Rattle.records.specs.declared.record.Mode.{Mode}
use Rattle.phases.specs.Visits.{left_alone}
use Rattle.phases.specs.Exchange.{with_data, dropped, missed, exchange_visit}
use Rattle.search.specs.Steps.{Stage}
use Rattle.control.specs.declared.control.Phase.TheVariants.{Normal}
use Rattle.control.specs.Cycles.{Scene, exchange, manage, search_on}
use Rattle.promise.specs.Waiting.{exchanges, codes_of, ProjectedSo}
use Rattle.promise.proofs.Sees.{Sees, stepped}
use Rattle.promise.proofs.Visits.{exchange_served, exchange_heard, exchange_missed, exchange_off, by_misses, so_like}
use Rattle.promise.proofs.Moments.{Orderly, sees_exchange, next_after}
use Rattle.promise.proofs.Far.{round}
use Rattle.promise.proofs.Within.{view_of, limit, Fine, Ahead, Waits, serving, missing, seeking, ahead_fresh}
use Rattle.promise.proofs.Soundness.{orders_kept}
use Rattle.promise.proofs.Tending.{ready, NoReset, no_reset_search, Attended, attended}
use Rattle.promise.proofs.Searching.{search_passes, Ends, searching}

-- a normal cycle begins, and meets an admitted module
pub record Meeting (b : ℕ) (s : Scene) (mode : Mode) (step : Stage) (r : Row) (x : State) : Type 0 where
  pub see : Sees b s (ready mode step r x [])
  pub calm : x.disturbance ≡ 0
  pub small : x.io < 15
  pub so : ProjectedSo mode r x
  pub orderly : Orderly s.master.orders
  pub zero_off : (row_at 0 (manage (exchange s)).master.control.rows).active ≡ false
  pub none : NoReset b (search_on (manage (exchange s)))
  pub few : r.misses < limit
  pub fine : Fine b r.active step

-- its end, where the module was exchanged
pub record Served (b : ℕ) (s : Scene) (mode : Mode) (r : Row) (x : State) : Type 0 where
  pub step : Stage
  pub row : Row
  pub state : State
  pub sent : List Asking
  pub see : Sees b s (ready mode step row state sent)
  pub calm : state.disturbance ≡ 0
  pub same : codes_of state ≡ codes_of x
  pub active : row.active ≡ true
  pub enabled : state.enabled ≡ true
  pub took : state.outputs ≡ r.odi
  pub heard : reply true (occupied x) (data_exchange r.odi) ≡ nibble row.idi
  pub once : exchanges sent ≡ r.odi ∷ []

module _ (b : ℕ) (one : 1 ≤ b) (hb : b < 32) (s : Scene) (mode : Mode) (step : Stage) (r : Row) (x : State) (met : Meeting b s mode step r x) where
  abbrev middle : Scene
  middle = manage (exchange s)

  -- what the exchange came to, and then management
  tended : (t : Row) (y : State) (qs : List Asking) → Sees b (exchange s) (ready mode step t y qs) → y.disturbance ≡ 0 → Attended b middle mode step t y qs
  tended t y qs see calm =
      attended b hb (exchange s) mode step t y qs see calm
      (subst Orderly (sym (orders_kept (λ a. exchange_visit s.line.power) s)) met.orderly)
      (no_reset_search b middle met.none)

  -- and then a search that passes the module by, where it was active and still is
  passing : {t : Row} {y : State} {qs : List Asking} → (m : Attended b middle mode step t y qs) → r.active ≡ true → t.active ≡ true →
      Sees b (search_on middle) (stepped (next_after middle (ready mode step m.row m.state m.sent)) (ready mode step m.row m.state m.sent))
  passing m was active =
      search_passes b hb middle (ready mode step m.row m.state m.sent) met.zero_off m.see (m.tended.active_is ∙ active)
      (subst (λ (on : Bool). Fine b on step) (was ∙ sym (m.tended.active_is ∙ active)) met.fine)

  pub served : r.active ≡ true → x.enabled ≡ true → Served b (search_on middle) mode r x
  served active enabled = finish (tended t y qs see met.calm)
    where
      t : Row
      t = with_data (port_bits r.odi x) 0 r

      y : State
      y = with_outputs r.odi x

      qs : List Asking
      qs = data_exchange r.odi ∷ []

      see : Sees b (exchange s) (ready mode step t y qs)
      see =
          sees_exchange b hb s (ready mode step r x []) met.see (record { row = t; place = occupied y; sent = qs })
          (exchange_served x met.calm r active enabled met.small)

      finish : Attended b middle mode step t y qs → Served b (search_on middle) mode r x
      finish m =
          record {
            step = next_after middle (ready mode step m.row m.state m.sent);
            row = m.row;
            state = m.state;
            sent = m.sent;
            see = passing m active active;
            calm = m.tended.calm_is ∙ met.calm;
            same = m.tended.codes_are;
            active = m.tended.active_is ∙ active;
            enabled = m.tended.still_enabled enabled;
            took = m.tended.outputs_are;
            heard = exchange_heard x met.calm r.odi enabled met.small ∙ ap nibble (sym m.tended.idi_is);
            once = m.no_more;
          }

  module _ (n : ℕ) where
    abbrev End : Type 0
    End = Ends b n (search_on middle) mode (codes_of x)

    from_served : Served b (search_on middle) mode r x → End
    from_served z =
        record {
          step = z.step;
          row = z.row;
          state = z.state;
          sent = z.sent;
          see = z.see;
          calm = z.calm;
          same = z.same;
          waits = serving z.active z.enabled;
        }

    -- the exchange leaves the address inactive
    inactive : (t : Row) (qs : List Asking) →
        Sees b (exchange s) (ready mode step t x qs) → t.active ≡ false → t.projected ≡ r.projected → t.pcd ≡ r.pcd →
        Ahead b (suc n) (codes_of x) t.cdi step → End
    inactive t qs see off projected_is pcd_is ahead = finish (tended t x qs see met.calm)
      where
        finish : Attended b middle mode step t x qs → End
        finish m =
            let kept = m.tended in
            subst (λ (c : Pair). Ends b n (search_on middle) mode c) kept.codes_are
            (searching b one hb middle mode m.row m.state m.sent (kept.calm_is ∙ met.calm)
            (subst (λ (c : Pair). c.io < 15) (sym kept.codes_are) met.small)
            (so_like mode r m.row x m.state (kept.projected_is ∙ projected_is) (kept.pcd_is ∙ pcd_is) kept.codes_are met.so)
            (kept.active_is ∙ off) n m.see
            (subst₂ (λ (c f : Pair). Ahead b (suc n) c f step) (sym kept.codes_are) (sym kept.cdi_is) ahead))

    -- the exchange is missed: once more, or the module is dropped
    unanswered : r.active ≡ true → x.enabled ≡ false → round + limit ≤ suc n + r.misses + 1 → End
    unanswered active disabled many =
        by_misses (λ (t : Row). Sees b (exchange s) (ready mode step t x qs) → End) r once_more no_more
        (sees_exchange b hb s (ready mode step r x []) met.see (record { row = missed r; place = occupied x; sent = qs }) (exchange_missed x met.calm r active disabled))
      where
        qs : List Asking
        qs = data_exchange r.odi ∷ []

        once_more : r.misses + 1 < limit → Sees b (exchange s) (ready mode step (with_data r.idi (r.misses + 1) r) x qs) → End
        once_more fewer see = finish (tended (with_data r.idi (r.misses + 1) r) x qs see met.calm)
          where
            finish : Attended b middle mode step (with_data r.idi (r.misses + 1) r) x qs → End
            finish m =
                let misses_are : m.row.misses ≡ r.misses + 1 = m.tended.misses_is in
                record {
                  step = next_after middle (ready mode step m.row m.state m.sent);
                  row = m.row;
                  state = m.state;
                  sent = m.sent;
                  see = passing m active active;
                  calm = m.tended.calm_is ∙ met.calm;
                  same = m.tended.codes_are;
                  waits = missing (m.tended.active_is ∙ active) (omega arith);
                }

        no_more : limit ≤ r.misses + 1 → Sees b (exchange s) (ready mode step (dropped r) x qs) → End
        no_more third see =
            let few = met.few in
            inactive (dropped r) qs see refl refl refl
            (ahead_fresh b one hb (suc n) (codes_of x) (dropped r).cdi step (omega arith) (subst (λ (on : Bool). Fine b on step) active met.fine))

    pub normal_step : Waits b (suc n) (view_of Normal step r) (codes_of x) x.enabled → End
    normal_step (serving active enabled) = from_served (served active enabled)
    normal_step (missing active many) =
        ⊎_elim (λ enabled. from_served (served active enabled)) (λ disabled. unanswered active disabled many) (cases_Bool x.enabled)
    normal_step (seeking off ahead) =
        inactive r []
        (sees_exchange b hb s (ready mode step r x []) met.see (left_alone r (occupied x)) (exchange_off true r (occupied x) off)) off refl refl ahead
