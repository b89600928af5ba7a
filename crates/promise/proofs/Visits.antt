-- What each visit does: at an undisturbed module with power, and anywhere, as far as LAS and the misses go.
use Rattle.std.proofs.Common.{◌≡◌, ℕ, ◌+◌, ◌<◌, ◌≤◌, Bool, true, false, cond, eqb, ltb, [], ◌∷◌, sym, refl, ap, ◌∙◌, subst, arith}
use Rattle.std.proofs.lemmas.Bool.Decides.{nat_tests}
use Rattle.std.proofs.lemmas.Bool.{false≢true, ltb-true, ltb-false, cond_both, cond-true, cond-false, eq-eqb, ne_eqb}
use Rattle.telegrams.specs.Requests.{Asking, Heard, nibble, silence, disturbed}
use Rattle.telegrams.specs.Requests.{data_exchange, write_parameter, read_io, read_id, resetting}
use Rattle.stations.specs.Stations.{State, Place, occupied, port_bits, with_outputs, with_parameter, answer, after, reply}
use Rattle.records.specs.Rows.{Row}
use Rattle.records.specs.declared.record.Mode.{Mode}
use Rattle.records.specs.declared.record.Mode.TheVariants.{Configuration, Protected}
use Rattle.phases.specs.Visits.{Visit, left_alone}
use Rattle.phases.specs.Exchange.{with_data, dropped, missed, exchanged, exchange_visit}
use Rattle.phases.specs.Detection.{found, named, detect_further, detect_visit}
use Rattle.phases.specs.Activation.{admissible, with_pi, joining, entered, enter_visit}
use Rattle.orders.specs.Management.{managed, manage_visit}
use Rattle.search.specs.Steps.{Stage, seek, name, enter}
use Rattle.search.specs.Searches.{sought, called, search_visit}
use Rattle.control.specs.Cycles.{only}
use Rattle.promise.specs.Waiting.{ProjectedSo, codes_of}

-- How an undisturbed module with power takes each visit
module _ (x : State) (calm : x.disturbance ≡ 0) where
  pub reply_calm : (q : Asking) → reply true (occupied x) q ≡ answer x q
  reply_calm q = rw calm

  pub detect_calm : (r : Row) →
      detect_visit true r (occupied x) ≡ record { row = found (codes_of x) r; place = occupied x; sent = read_io ∷ read_id ∷ [] }
  detect_calm r = rw calm

  pub enter_calm : (r : Row) →
      enter_visit true r (occupied x) ≡ record { row = joining r; place = occupied (with_parameter r.pp x); sent = write_parameter r.pp ∷ [] }
  enter_calm r = rw calm

  pub seek_calm : (mode : Mode) (a b : ℕ) (r : Row) →
      search_visit mode true (seek a) b r (occupied x) ≡ record { row = r; place = occupied x; sent = read_io ∷ [] }
  seek_calm mode a b r = rw calm

  pub name_calm : (mode : Mode) (a c b : ℕ) (r : Row) →
      search_visit mode true (name a c) b r (occupied x) ≡ record { row = found (record { io = c; id = x.id }) r; place = occupied x; sent = read_id ∷ [] }
  name_calm mode a c b r = rw calm

  pub order_calm : (n : ℕ) (r : Row) → r.active ≡ true →
      manage_visit true (write_parameter n) r (occupied x) ≡ record { row = with_pi n r; place = occupied (with_parameter n x); sent = write_parameter n ∷ [] }
  order_calm n r on = rw (on, calm)

  pub exchange_served : (r : Row) → r.active ≡ true → x.enabled ≡ true → x.io < 15 →
      exchange_visit true r (occupied x)
      ≡ record { row = with_data (port_bits r.odi x) 0 r; place = occupied (with_outputs r.odi x); sent = data_exchange r.odi ∷ [] }
  exchange_served r on enabled small = rw (on, calm, enabled, ne_eqb x.io 15 (omega arith))

  pub exchange_heard : (n : ℕ) → x.enabled ≡ true → x.io < 15 → reply true (occupied x) (data_exchange n) ≡ nibble (port_bits n x)
  exchange_heard n enabled small = rw (calm, enabled, ne_eqb x.io 15 (omega arith)) refl

  pub exchange_missed : (r : Row) → r.active ≡ true → x.enabled ≡ false →
      exchange_visit true r (occupied x) ≡ record { row = missed r; place = occupied x; sent = data_exchange r.odi ∷ [] }
  exchange_missed r on disabled = rw (on, calm, disabled)

-- Where the master does not visit

pub exchange_off : (power : Bool) (r : Row) (p : Place) → r.active ≡ false → exchange_visit power r p ≡ left_alone r p
exchange_off power r p off = rw off

pub manage_off : (power : Bool) (q : Asking) (r : Row) (p : Place) → r.active ≡ false → manage_visit power q r p ≡ left_alone r p
manage_off power q r p off = rw off

pub manage_sent : (power : Bool) (q : Asking) (r : Row) (p : Place) → r.active ≡ true → (manage_visit power q r p).sent ≡ q ∷ []
manage_sent power q r p on = rw on

pub only_same : (b : ℕ) (v : Row → Place → Visit) (r : Row) (p : Place) → only b v b r p ≡ v r p
only_same b v r p = cond-true (eqb b b) (v r p) (left_alone r p) (eq-eqb b b refl)

pub only_other : (a b : ℕ) (v : Row → Place → Visit) (r : Row) (p : Place) → (b ≡ a → ⊥) → only a v b r p ≡ left_alone r p
only_other a b v r p ne = cond-false (eqb b a) (v r p) (left_alone r p) (ne_eqb b a ne)

-- The third miss in succession drops an address
pub by_misses : (P : Row → Type 0) (r : Row) →
    (r.misses + 1 < 3 → P (with_data r.idi (r.misses + 1) r)) → (3 ≤ r.misses + 1 → P (dropped r)) → P (missed r)
by_misses P r fewer third =
    cond_both (ltb r.misses 2) (with_data r.idi (r.misses + 1) r) (dropped r) P
    (λ e. fewer (omega (arith, ltb-true r.misses 2 e))) (λ e. third (omega (arith, ltb-false r.misses 2 e)))

-- No visit but entering puts an address into LAS, and none leaves it with three misses
abbrev pub Milder : Row → Row → Type 0
Milder r t = (r.active ≡ false → t.active ≡ false) × (r.misses < 3 → t.misses < 3)

milder_same : (r : Row) → Milder r r
milder_same r = (λ e. e, λ e. e)

milder_missed : (r : Row) → Milder r (missed r)
milder_missed r = by_misses (Milder r) r (λ fewer. (λ e. e, λ _. fewer)) (λ _. (λ _. refl, λ _. omega arith))

pub milder_exchange : (power : Bool) (r : Row) (p : Place) → Milder r (exchange_visit power r p).row
milder_exchange power r p = go r.active (reply power p (data_exchange r.odi))
  where
    go : (on : Bool) (y : Heard) →
        Milder r (cond on (record { row = exchanged r y; place = after power p (data_exchange r.odi); sent = data_exchange r.odi ∷ [] }) (left_alone r p)).row
    go true (nibble n) = (λ e. e, λ _. omega arith)
    go true silence = milder_missed r
    go true disturbed = milder_missed r
    go false y = milder_same r

pub milder_order : (power : Bool) (q : Asking) (r : Row) (p : Place) → Milder r (manage_visit power q r p).row
milder_order power q r p =
    cond_both r.active (record { row = managed q r (reply power p q); place = after power p q; sent = q ∷ [] }) (left_alone r p) (λ (v : Visit). Milder r v.row)
    (λ _. go q (reply power p q)) (λ _. milder_same r)
  where
    go : (q : Asking) (y : Heard) → Milder r (managed q r y)
    go (data_exchange n) (nibble k) = milder_same r
    go (write_parameter n) (nibble k) = milder_same r
    go read_io (nibble k) = milder_same r
    go read_id (nibble k) = milder_same r
    go resetting (nibble k) = milder_same r
    go q silence = milder_same r
    go q disturbed = milder_same r

pub milder_seek : (mode : Mode) (power : Bool) (a b : ℕ) (r : Row) (p : Place) → Milder r (search_visit mode power (seek a) b r p).row
milder_seek mode power a b r p =
    elim (reply power p read_io) as (λ y. Milder r (sought r y)) [ nibble c ↦ milder_same r | silence ↦ (λ _. refl, λ e. e) | disturbed ↦ (λ _. refl, λ e. e) ]

pub milder_name : (mode : Mode) (power : Bool) (a c b : ℕ) (r : Row) (p : Place) → Milder r (search_visit mode power (name a c) b r p).row
milder_name mode power a c b r p =
    elim (reply power p read_id) as (λ y. Milder r (called c r y)) [ nibble d ↦ milder_same r | silence ↦ (λ _. refl, λ e. e) | disturbed ↦ (λ _. refl, λ e. e) ]

pub milder_detect : (power : Bool) (r : Row) (p : Place) → Milder r (detect_visit power r p).row
milder_detect power r p =
    elim (reply power p read_io) as (λ y. Milder r (detect_further power r (after power p read_io) y).row) [
      | nibble c ↦
          elim (reply power (after power p read_io) read_id) as (λ y. Milder r (named c r y))
          [ nibble d ↦ milder_same r | silence ↦ milder_same r | disturbed ↦ milder_same r ]
      | silence ↦ milder_same r
      | disturbed ↦ milder_same r
    ]

few_enter : (power : Bool) (r : Row) (p : Place) → r.misses < 3 → (enter_visit power r p).row.misses < 3
few_enter power r p few =
    elim (reply power p (write_parameter r.pp)) as (λ y. (entered r y).misses < 3) [ nibble n ↦ omega arith | silence ↦ few | disturbed ↦ few ]

-- an address is entered or left alone: in activation, and in the search
pub few_entering : (t : Bool) (power : Bool) (r : Row) (p : Place) → r.misses < 3 → (cond t (enter_visit power r p) (left_alone r p)).row.misses < 3
few_entering true power r p few = few_enter power r p few
few_entering false power r p few = few

pub few_search : (mode : Mode) (power : Bool) (t : Stage) (b : ℕ) (r : Row) (p : Place) → r.misses < 3 → (search_visit mode power t b r p).row.misses < 3
few_search mode power (seek a) b r p few = (milder_seek mode power a b r p).1 few
few_search mode power (name a c) b r p few = (milder_name mode power a c b r p).1 few
few_search mode power (enter a) b r p few = few_entering (admissible mode b r) power r p few

-- Which addresses are admissible

pub admissible_not_zero : (mode : Mode) (a : ℕ) (r : Row) → admissible mode a r ≡ true → a ≡ 0 → ⊥
admissible_not_zero mode a r h e = let f : admissible mode 0 r ≡ true = subst (λ z. admissible mode z r ≡ true) e h in false≢true f

-- a module that is admitted, once its codes are known
pub admissible_known : (mode : Mode) (b : ℕ) (r : Row) (x : State) → 1 ≤ b → x.io < 15 → r.cdi ≡ codes_of x → ProjectedSo mode r x →
    admissible mode b r ≡ true
admissible_known Configuration b r x one small known so =
    let io_is : r.cdi.io ≡ x.io = ap (λ c. c.io) known in
    grind (arith, nat_tests)
admissible_known Protected b r x one small known so =
    let io_is : r.cdi.io ≡ x.io = ap (λ c. c.io) known in
    let id_is : r.cdi.id ≡ x.id = ap (λ c. c.id) known in
    let io_so : r.pcd.io ≡ x.io = ap (λ c. c.io) so.1 in
    let id_so : r.pcd.id ≡ x.id = ap (λ c. c.id) so.1 in
    grind (arith, nat_tests)

pub so_like : (mode : Mode) (r t : Row) (x y : State) → t.projected ≡ r.projected → t.pcd ≡ r.pcd → codes_of y ≡ codes_of x →
    ProjectedSo mode r x → ProjectedSo mode t y
so_like Configuration r t x y p q e so = tt
so_like Protected r t x y p q e so = (p ∙ so.0, q ∙ so.1 ∙ sym e)
