-- The waiting bound: the other phases, then all cycles of a succession.
use Rattle.std.proofs.Common.{◌≡◌, ℕ, zero, suc, ◌<◌, ◌≤◌, Bool, true, false, cond, not, ◌&&◌, ◌||◌, ◌⊎◌, List, [], ◌∷◌, drop, sym, refl, ap, ◌∙◌, subst, ap₂, subst₂, inl, inr, arith}
use Rattle.std.specs.List.{AllByRecursion}
use Rattle.std.proofs.ByRecursion.{All-drop}
use Rattle.std.proofs.lemmas.Bool.{and_from, false≢true}
use Rattle.telegrams.specs.Requests.{nibble, data_exchange, read_io, read_id, write_parameter}
use Rattle.stations.specs.Stations.{State, Place, occupied, powered_up, reply, with_parameter}
use Rattle.lines.specs.Lines.{Meaning, at}
use Rattle.records.specs.Rows.{Pair, Row, row_at}
use Rattle.phases.specs.Visits.{Visit, left_alone}
use Rattle.phases.specs.Detection.{found, detect_visit}
use Rattle.phases.specs.Activation.{admissible, joining, enter_visit, activate_visit}
use Rattle.search.specs.Steps.{seek}
use Rattle.control.specs.declared.control.Phase.{Phase}
use Rattle.control.specs.declared.control.Phase.TheVariants.{Offline, Detection, Activation, Normal}
use Rattle.control.specs.Cycles.{Master, Scene, new_master, beginning, everywhere, phased, held_off, stay_offline, run, cycle}
use Rattle.promise.specs.Successions.{Turn, cycling, calling, called, after, Met, cycles}
use Rattle.promise.specs.Waiting.{done, sent_to, exchanges, resets, codes_of, with_inputs, Admitted, Stays, Unaltered, LeftInPlace, Exchanged, WaitingBound}
use Rattle.promise.proofs.Sees.{Moment, Sees, visiting, entering, sees_beginning, sees_phased, sees_visit, first_moment}
use Rattle.promise.proofs.Visits.{detect_calm, enter_calm, admissible_known}
use Rattle.promise.proofs.Far.{round, far_any}
use Rattle.promise.proofs.Within.{View, view, view_of, sees_view, Ahead, seeks, Waits, serving, seeking, WithinIn, Within, within_start, served_now}
use Rattle.promise.proofs.Keeps.{keeps_call}
use Rattle.promise.proofs.Soundness.{before_search, Kept, kept_cycle, kept_call, kept_after, kept_new}
use Rattle.promise.proofs.Searching.{Ends}
use Rattle.promise.proofs.Serving.{Meeting, Served, served, normal_step}

-- How a cycle leaves the module, with n cycles to go
record Left (b n : ℕ) (s : Scene) : Type 0 where
  state : State
  there : at s.line.places b ≡ occupied state
  within : Within b n (view b s.master.control) (codes_of state) state.enabled

left_seen : (b n : ℕ) (s : Scene) (m : Moment) (x : State) → Sees b s m → m.place ≡ occupied x →
    Within b n (view_of m.phase m.step m.row) (codes_of x) x.enabled → Left b n s
left_seen b n s m x see holds within =
    record {
      state = x;
      there = see.place_is ∙ holds;
      within = subst (λ (v : View). Within b n v (codes_of x) x.enabled) (sym (sees_view see)) within;
    }

-- A cycle that meets the admitted module x
module _
    (b : ℕ) (one : 1 ≤ b) (hb : b < 32) (c : Master) (line : Meaning) (x : State) (kept : Kept b c)
    (adm : Admitted b (record { master = c; line = line }) x)
  where
    abbrev r : Row
    r = row_at b c.control.rows

    abbrev start : Scene
    start = beginning c line

    not_held : held_off c.control line.power ≡ false
    not_held = ap₂ (λ w p. w || not p) adm.not_offline adm.powered

    runs : (p : Phase) → c.control.phase ≡ p → cycle c line ≡ run p start
    unfolding cycle
    runs p e = ap₂ (λ t q. run (cond t Offline q) start) not_held e

    -- what the cycle meets in phase p
    abbrev meets : Phase → Moment
    meets p =
        record {
          power = true;
          offline = false;
          mode = c.control.mode;
          phase = p;
          step = c.control.step;
          row = r;
          place = occupied x;
          sent = [];
        }

    seen : (p : Phase) → c.control.phase ≡ p → Sees b start (meets p)
    seen p e =
        record {
          power_is = adm.powered;
          offline_is = adm.not_offline;
          mode_is = refl;
          phase_is = e;
          step_is = refl;
          row_is = refl;
          place_is = adm.there;
          sent_is = (sees_beginning b c line).sent_is;
        }

    -- each address is visited, and the next phase entered
    left_phase : (n : ℕ) (v : ℕ → Row → Place → Visit) (p q : Phase) (w : Visit) (y : State) → c.control.phase ≡ p →
        v b r (occupied x) ≡ w → w.place ≡ occupied y →
        Within b n (view_of q c.control.step w.row) (codes_of y) y.enabled → Left b n (phased q (everywhere v start))
    left_phase n v p q w y e made holds within =
        left_seen b n (phased q (everywhere v start)) (entering q (visiting w (meets p))) y
        (sees_phased b (everywhere v start) (visiting w (meets p)) (sees_visit b start (meets p) (seen p e) v hb w made) q) holds within

    meeting : c.control.phase ≡ Normal → Meeting b start c.control.mode c.control.step r x
    meeting e =
        let zeroth = before_search 0 (omega arith) start (first_moment 0 c line) (sees_beginning 0 c line) kept.2 in
        record {
          see = seen Normal e;
          calm = adm.undisturbed;
          small = adm.exchangeable;
          so = adm.as_projected;
          orderly = kept.2;
          zero_off = ap (λ (t : Row). t.active) zeroth.see.row_is ∙ zeroth.mild.0 kept.1;
          none = ap (λ (s : Scene). resets (sent_to b s.sent)) (sym (runs Normal e)) ∙ adm.never_reset;
          few = kept.0.few;
          fine = kept.0.fine;
        }

    -- One cycle less is left
    module _ (n : ℕ) where
      left_offline : 3 ≤ suc n → Left b n (stay_offline start)
      unfolding stay_offline
      left_offline l =
          record {
            state = x;
            there = adm.there;
            within =
                subst (λ (t : Bool). WithinIn (cond t Offline Detection) b n (view b (stay_offline start).master.control) (codes_of x) x.enabled)
                (sym not_held) (omega arith);
          }

      left_detection : c.control.phase ≡ Detection → 2 ≤ suc n → Left b n (run Detection start)
      left_detection e l =
          left_phase n (λ a. detect_visit line.power) Detection Activation
          (record { row = found (codes_of x) r; place = occupied x; sent = read_io ∷ read_id ∷ [] }) x e
          (ap (λ p. detect_visit p r (occupied x)) adm.powered ∙ detect_calm x adm.undisturbed r) refl
          (inl (refl, refl, omega arith))

      abbrev activation : ℕ → Row → Place → Visit
      activation = activate_visit c.control.mode line.power

      activated : (t : Bool) → (t ≡ true) ⊎ ((round ≤ n) × (r.active ≡ false) × (c.control.step ≡ seek 0)) → c.control.phase ≡ Activation →
          activation b r (occupied x) ≡ cond t (enter_visit true r (occupied x)) (left_alone r (occupied x)) → Left b n (run Activation start)
      activated true way e made =
          left_phase n activation Activation Normal
          (record { row = joining r; place = occupied (with_parameter r.pp x); sent = write_parameter r.pp ∷ [] }) (with_parameter r.pp x) e
          (made ∙ enter_calm x adm.undisturbed r) refl (serving refl refl)
      activated false (inl f) e made = absurd (false≢true f)
      activated false (inr w) e made =
          left_phase n activation Activation Normal (left_alone r (occupied x)) x e made refl
          (seeking w.1 (subst (Ahead b n (codes_of x) r.cdi) (sym w.2) (seeks (omega arith) (far_any b 0 n one hb (omega arith) w.0))))

      left_activation : c.control.phase ≡ Activation → WithinIn Activation b (suc n) (view b c.control) (codes_of x) x.enabled → Left b n (run Activation start)
      left_activation e within = activated (r.detected && fit) (way within) e made
        where
          fit : Bool
          fit = admissible c.control.mode b r

          made : activation b r (occupied x) ≡ cond (r.detected && fit) (enter_visit true r (occupied x)) (left_alone r (occupied x))
          made = ap (λ p. cond (r.detected && fit) (enter_visit p r (occupied x)) (left_alone r (occupied x))) adm.powered

          way : WithinIn Activation b (suc n) (view b c.control) (codes_of x) x.enabled →
              ((r.detected && fit) ≡ true) ⊎ ((round ≤ n) × (r.active ≡ false) × (c.control.step ≡ seek 0))
          way (inl w) = inl (and_from r.detected fit w.0 (admissible_known c.control.mode b r x one adm.exchangeable w.1 adm.as_projected))
          way (inr w) = inr (omega arith, w.1, w.2)

      left_normal : c.control.phase ≡ Normal → Waits b (suc n) (view_of Normal c.control.step r) (codes_of x) x.enabled → Left b n (run Normal start)
      left_normal e waits = finish (normal_step b one hb start c.control.mode c.control.step r x (meeting e) n waits)
        where
          finish : Ends b n (run Normal start) c.control.mode (codes_of x) → Left b n (run Normal start)
          finish z =
              record {
                state = z.state;
                there = z.see.place_is;
                within =
                    subst₂ (λ (v : View) (k : Pair). Within b n v k z.state.enabled) (sym (sees_view z.see)) (sym z.same) z.waits;
              }

      left_run : (p : Phase) → c.control.phase ≡ p → WithinIn p b (suc n) (view b c.control) (codes_of x) x.enabled → Left b n (run p start)
      left_run Offline e within = left_offline within
      left_run Detection e within = left_detection e within
      left_run Activation e within = left_activation e within
      left_run Normal e within =
          left_normal e (subst (λ (p : Phase). Waits b (suc n) (view_of p c.control.step r) (codes_of x) x.enabled) e within)

      left_cycle : Within b (suc n) (view b c.control) (codes_of x) x.enabled → Left b n (cycle c line)
      left_cycle within = subst (Left b n) (sym (runs c.control.phase refl)) (left_run c.control.phase refl within)

    -- With none left, the module is exchanged, and none is left afterwards
    abbrev Exchanging : Type 0
    Exchanging = Exchanged b (record { master = c; line = line }) × Left b 0 (cycle c line)

    exchanged_by : c.control.phase ≡ Normal → Served b (run Normal start) c.control.mode r x → Exchanging
    exchanged_by e z = (
      record {
        normal = ap₂ (λ t q. cond t Offline q) not_held e;
        once = ap (λ (s : Scene). exchanges (sent_to b s.sent)) is_run ∙ ap exchanges z.see.sent_is ∙ z.once;
        before = x;
        afterwards = z.state;
        was = adm.there;
        is = ap (λ (s : Scene). at s.line.places b) is_run ∙ z.see.place_is;
        took = z.took;
        replied =
            ap₂ (λ (p : Bool) (q : Place). reply p q (data_exchange r.odi)) adm.powered adm.there
            ∙ z.heard
            ∙ ap (λ (t : Row). nibble t.idi) (sym (ap (λ (s : Scene). row_at b s.master.control.rows) is_run ∙ z.see.row_is));
      },
      subst (Left b 0) (sym is_run) (left_seen b 0 (run Normal start) _ z.state z.see refl (serving z.active z.enabled)),
    )
      where
        is_run : cycle c line ≡ run Normal start
        is_run = runs Normal e

    exchanged_in : (p : Phase) → c.control.phase ≡ p → WithinIn p b 0 (view b c.control) (codes_of x) x.enabled → Exchanging
    exchanged_in Offline e within = absurd (omega arith)
    exchanged_in Detection e within = absurd (omega arith)
    exchanged_in Activation e (inl within) = absurd (omega arith)
    exchanged_in Activation e (inr within) = absurd (omega arith)
    exchanged_in Normal e within =
        let now = served_now b one hb kept.0 within in
        exchanged_by e (served b one hb start c.control.mode c.control.step r x (meeting e) now.0 now.1)

    exchanged_cycle : Within b 0 (view b c.control) (codes_of x) x.enabled → Exchanging
    exchanged_cycle within = exchanged_in c.control.phase refl within

-- The first cycle of a list meets the module as x was left, but for its inputs
abbrev Meets : ℕ → State → List Met → Type 0
Meets b x [] = Unit {0}
Meets b x (d ∷ ds) = (n : ℕ) × (at d.line.places b ≡ occupied (with_inputs n x))

met_module : (b : ℕ) (d : Met) (x y : State) (n : ℕ) → Admitted b d y → at d.line.places b ≡ occupied (with_inputs n x) → Admitted b d (with_inputs n x)
met_module b d x y n adm e = subst (Admitted b d) (injective y (with_inputs n x) (sym adm.there ∙ e)) adm
  where
    injective : (u v : State) → occupied u ≡ occupied v → u ≡ v
    injective u v p = cc

meets_left : (b : ℕ) (d : Met) (ds : List Met) (x : State) → at (done d).line.places b ≡ occupied x → Unaltered b d ds → Meets b x ds
meets_left b d [] x e left = tt
meets_left b d (f ∷ ds) x e left = left x e

-- All cycles of a succession, with n left
module _ (b : ℕ) (one : 1 ≤ b) (hb : b < 32) where
  bounded : (q : List Turn) (n : ℕ) (c : Master) (x : State) → Kept b c → Within b n (view b c.control) (codes_of x) x.enabled →
      AllByRecursion (Stays b) (cycles c q) → Meets b x (cycles c q) → LeftInPlace b (cycles c q) → AllByRecursion (Exchanged b) (drop n (cycles c q))
  bounded [] n c x kept within stays meets left = All-drop (Exchanged b) n [] tt
  bounded (cycling line ∷ ts) zero c x kept within stays meets left =
      let d : Met = record { master = c; line = line } in
      let adm = met_module b d x stays.0.0 meets.0 stays.0.1 meets.1 in
      let z = exchanged_cycle b one hb c line (with_inputs meets.0 x) kept adm within in
      let on = meets_left b d (cycles (cycle c line).master ts) z.1.state z.1.there left.0 in
      (z.0, bounded ts zero (cycle c line).master z.1.state (kept_cycle b hb c line kept) z.1.within stays.1 on left.1)
  bounded (cycling line ∷ ts) (suc n) c x kept within stays meets left =
      let d : Met = record { master = c; line = line } in
      let adm = met_module b d x stays.0.0 meets.0 stays.0.1 meets.1 in
      let z = left_cycle b one hb c line (with_inputs meets.0 x) kept adm n within in
      let on = meets_left b d (cycles (cycle c line).master ts) z.state z.there left.0 in
      bounded ts n (cycle c line).master z.state (kept_cycle b hb c line kept) z.within stays.1 on left.1
  bounded (calling k ∷ ts) n c x kept within stays meets left =
      bounded ts n (called k c) x (kept_call b hb k c kept)
      (subst (λ (v : View). Within b n v (codes_of x) x.enabled) (sym (keeps_call b hb k c)) within) stays meets left

  -- the module that the first cycle meets, or any where there is none
  first_module : (ds : List Met) → AllByRecursion (Stays b) ds → (x : State) × Meets b x ds
  first_module [] stays = (powered_up 0 0 0, tt)
  first_module (d ∷ ds) stays = (stays.0.0, (stays.0.0.inputs, stays.0.1.there))

pub waiting_bound : (order_room answer_room : ℕ) (p q : List Turn) → WaitingBound (after p (new_master order_room answer_room)) q
waiting_bound order_room answer_room p q b one hb stays =
    let c = after p (new_master order_room answer_room) in
    let kept = kept_after b hb p (new_master order_room answer_room) (kept_new b hb order_room answer_room) in
    let x = first_module b one hb (cycles c q) stays.admitted in
    bounded b one hb q 97 c x.0 kept
    (within_start b one hb c.control.phase (view b c.control) (codes_of x.0) x.0.enabled refl kept.0)
    stays.admitted x.1 stays.left
