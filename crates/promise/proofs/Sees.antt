-- What a moment of a cycle shows of one address, and how visiting each address changes that.
use Rattle.std.proofs.Common.{◌≡◌, ℕ, ◌<◌, Bool, List, [], ◌++◌, refl, ap, ◌∙◌, subst, ap₂}
use Rattle.std.proofs.lemmas.List.{append-nil}
use Rattle.values.proofs.Tables.{at_table}
use Rattle.telegrams.specs.Requests.{Asking}
use Rattle.stations.specs.Stations.{Place, vacant}
use Rattle.lines.specs.Lines.{Meaning, at}
use Rattle.records.specs.Rows.{Row, row_at, new_row}
use Rattle.records.specs.declared.record.Mode.{Mode}
use Rattle.phases.specs.Visits.{Visit, left_alone, sent_below}
use Rattle.search.specs.Steps.{Stage}
use Rattle.control.specs.declared.control.Phase.{Phase}
use Rattle.control.specs.Cycles.{Master, Scene, beginning, everywhere, visit_made, stepping, phased}
use Rattle.promise.specs.Waiting.{sent_to}
use Rattle.promise.proofs.Sending.{sent-to-append, sent_to_below}

-- What can be seen of an address, with what was sent there in the cycle so far
pub record Moment : Type 0 where
  pub power : Bool
  pub offline : Bool
  pub mode : Mode
  pub phase : Phase
  pub step : Stage
  pub row : Row
  pub place : Place
  pub sent : List Asking

pub record Sees (b : ℕ) (s : Scene) (m : Moment) : Type 0 where
  pub power_is : s.line.power ≡ m.power
  pub offline_is : s.master.control.offline ≡ m.offline
  pub mode_is : s.master.control.mode ≡ m.mode
  pub phase_is : s.master.control.phase ≡ m.phase
  pub step_is : s.master.control.step ≡ m.step
  pub row_is : row_at b s.master.control.rows ≡ m.row
  pub place_is : at s.line.places b ≡ m.place
  pub sent_is : sent_to b s.sent ≡ m.sent

-- The moments that follow

-- the visit was made
abbrev pub visiting : Visit → Moment → Moment
visiting v m = record m { row = v.row; place = v.place; sent = m.sent ++ v.sent }

abbrev pub stepped : Stage → Moment → Moment
stepped t m = record m { step = t }

abbrev pub entering : Phase → Moment → Moment
entering p m = record m { phase = p }

-- The start of a cycle

abbrev pub first_moment : ℕ → Master → Meaning → Moment
first_moment b c line =
    record {
      power = line.power;
      offline = c.control.offline;
      mode = c.control.mode;
      phase = c.control.phase;
      step = c.control.step;
      row = row_at b c.control.rows;
      place = at line.places b;
      sent = [];
    }

pub sees_beginning : (b : ℕ) (c : Master) (line : Meaning) → Sees b (beginning c line) (first_moment b c line)
unfolding sent_to
sees_beginning b c line =
    record { power_is = refl; offline_is = refl; mode_is = refl; phase_is = refl; step_is = refl; row_is = refl; place_is = refl; sent_is = refl }

module _ (b : ℕ) (s : Scene) (m : Moment) (see : Sees b s m) where
  pub sees_stepping : (t : Stage) → Sees b (stepping t s) (stepped t m)
  sees_stepping t =
      record {
        power_is = see.power_is;
        offline_is = see.offline_is;
        mode_is = see.mode_is;
        phase_is = see.phase_is;
        step_is = refl;
        row_is = see.row_is;
        place_is = see.place_is;
        sent_is = see.sent_is;
      }

  pub sees_phased : (p : Phase) → Sees b (phased p s) (entering p m)
  sees_phased p =
      record {
        power_is = see.power_is;
        offline_is = see.offline_is;
        mode_is = see.mode_is;
        phase_is = refl;
        step_is = see.step_is;
        row_is = see.row_is;
        place_is = see.place_is;
        sent_is = see.sent_is;
      }

  module _ (v : ℕ → Row → Place → Visit) (h : b < 32) where
    pub sees_everywhere : Sees b (everywhere v s) (visiting (v b m.row m.place) m)
    unfolding everywhere
    sees_everywhere =
        let made : visit_made v s b ≡ v b m.row m.place = ap₂ (v b) see.row_is see.place_is in
        record {
          power_is = see.power_is;
          offline_is = see.offline_is;
          mode_is = see.mode_is;
          phase_is = see.phase_is;
          step_is = see.step_is;
          row_is = at_table (λ a. (visit_made v s a).row) b new_row h ∙ ap (λ (w : Visit). w.row) made;
          place_is = at_table (λ a. (visit_made v s a).place) b vacant h ∙ ap (λ (w : Visit). w.place) made;
          sent_is =
              sent-to-append b s.sent (sent_below 32 (λ a. (visit_made v s a).sent))
              ∙ ap₂ (λ x y. x ++ y) see.sent_is (sent_to_below (λ a. (visit_made v s a).sent) b 32 h ∙ ap (λ (w : Visit). w.sent) made);
        }

    -- the same, with the visit there under a name of its own
    pub sees_visit : (w : Visit) → v b m.row m.place ≡ w → Sees b (everywhere v s) (visiting w m)
    sees_visit w e = subst (λ (y : Visit). Sees b (everywhere v s) (visiting y m)) e sees_everywhere

    -- the address was left alone
    pub sees_left : v b m.row m.place ≡ left_alone m.row m.place → Sees b (everywhere v s) m
    sees_left e =
        let alone = sees_visit (left_alone m.row m.place) e in
        record {
          power_is = alone.power_is;
          offline_is = alone.offline_is;
          mode_is = alone.mode_is;
          phase_is = alone.phase_is;
          step_is = alone.step_is;
          row_is = alone.row_is;
          place_is = alone.place_is;
          sent_is = alone.sent_is ∙ append-nil m.sent;
        }
