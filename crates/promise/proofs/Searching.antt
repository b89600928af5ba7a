-- The search at an address with an admitted module: an active one is passed by, and to an inactive one the search comes nearer.
use Rattle.std.proofs.Common.{◌≡◌, ℕ, suc, ◌+◌, ◌<◌, ◌≤◌, Bool, true, false, cond, ◌⊎◌, List, [], ◌∷◌, ◌++◌, sym, refl, ap, ◌∙◌, subst, subst₂, inl, inr, ⊎_elim, arith}
use Rattle.std.proofs.lemmas.Bool.{cases_eq, both_ways, false≢true}
use Rattle.telegrams.specs.Requests.{Asking, Heard, nibble, silence, disturbed, write_parameter, read_io, read_id}
use Rattle.stations.specs.Stations.{State, occupied, with_parameter}
use Rattle.lines.specs.Lines.{at}
use Rattle.records.specs.Rows.{Pair, Row, row_at}
use Rattle.records.specs.declared.record.Mode.{Mode}
use Rattle.phases.specs.Visits.{Visit, left_alone}
use Rattle.phases.specs.Detection.{found}
use Rattle.phases.specs.Activation.{admissible, joining, enter_visit}
use Rattle.search.specs.Steps.{Stage, seek, name, enter, following, pick, step_after}
use Rattle.search.specs.Searches.{search_visit}
use Rattle.control.specs.declared.control.Phase.TheVariants.{Normal}
use Rattle.control.specs.Cycles.{Scene, search_on}
use Rattle.promise.specs.Waiting.{codes_of, ProjectedSo}
use Rattle.promise.proofs.Sees.{Moment, Sees, visiting, stepped}
use Rattle.promise.proofs.Visits.{reply_calm, enter_calm, seek_calm, name_calm, admissible_known, admissible_not_zero, so_like}
use Rattle.promise.proofs.Moments.{next_after, sees_search_other, sees_search_here}
use Rattle.promise.proofs.Far.{round, Far, Picked, picks, near_any, next_lt, far_any, far_more, far_skip, far_two, far_three, far_three_left}
use Rattle.promise.proofs.Within.{view_of, Fine, Ahead, seeks, names, names_known, names_unknown, enters, enters_known, enters_unknown, Waits, serving, seeking}
use Rattle.promise.proofs.Soundness.{taken_off}
use Rattle.promise.proofs.Tending.{ready}

-- An active address is passed by

pub search_passes : (b : ℕ) → b < 32 → (s : Scene) (m : Moment) → (row_at 0 s.master.control.rows).active ≡ false → Sees b s m →
    m.row.active ≡ true → Fine b m.row.active m.step →
    Sees b (search_on s) (stepped (next_after s m) m)
search_passes b hb s m zero_off see on fine =
    sees_search_other b hb s m see
    (λ to. both_ways m.row.active (taken_off b m.row s.master.control.rows m.step zero_off fine see.row_is to) on)

-- How the search goes on from another address c

module _ (b : ℕ) (one : 1 ≤ b) (hb : b < 32) (n : ℕ) (codes cdi : Pair) (c : ℕ) (hc : c < 32) (ne : c ≡ b → ⊥) where
  goes_on : Far b c (n + 2) → Ahead b n codes cdi (seek (following c))
  goes_on far = seeks (next_lt c hc) (far_two n one hb hc ne far)

  sought_elsewhere : (a : ℕ) (y : Heard) (t : Bool) → Far b c (suc n) → Ahead b n codes cdi (step_after (seek a) c y t)
  sought_elsewhere a (nibble k) t far = names hc ne (far_more (n + 1) far (omega arith))
  sought_elsewhere a silence t far = goes_on (far_more (n + 2) far (omega arith))
  sought_elsewhere a disturbed t far = goes_on (far_more (n + 2) far (omega arith))

  named_elsewhere : (a k : ℕ) (y : Heard) (t : Bool) → (t ≡ true → c ≡ 0 → ⊥) → Far b c (suc n + 1) → Ahead b n codes cdi (step_after (name a k) c y t)
  named_elsewhere a k (nibble d) true not_zero far =
      let nz : c ≡ 0 → ⊥ = not_zero refl in
      enters hc (omega arith) ne (far_more (n + 2) far (omega arith))
  named_elsewhere a k (nibble d) false not_zero far = goes_on (far_more (n + 2) far (omega arith))
  named_elsewhere a k silence t not_zero far = goes_on (far_more (n + 2) far (omega arith))
  named_elsewhere a k disturbed t not_zero far = goes_on (far_more (n + 2) far (omega arith))

-- A cycle's end with n cycles left, as the module's address shows it
pub record Ends (b n : ℕ) (s : Scene) (mode : Mode) (codes : Pair) : Type 0 where
  pub step : Stage
  pub row : Row
  pub state : State
  pub sent : List Asking
  pub see : Sees b s (ready mode step row state sent)
  pub calm : state.disturbance ≡ 0
  pub same : codes_of state ≡ codes
  pub waits : Waits b n (view_of Normal step row) codes state.enabled

-- Where b is inactive, one cycle less is left
module _
    (b : ℕ) (one : 1 ≤ b) (hb : b < 32) (s : Scene) (mode : Mode) (r : Row) (x : State) (qs : List Asking)
    (calm : x.disturbance ≡ 0) (small : x.io < 15) (so : ProjectedSo mode r x) (off : r.active ≡ false) (n : ℕ)
  where
    abbrev Result : Type 0
    Result = Ends b n (search_on s) mode (codes_of x)

    -- the module is as it was, and its address still inactive
    seeking_on : (step : Stage) (t : Row) (sent : List Asking) →
        Sees b (search_on s) (ready mode step t x sent) → t.active ≡ false → Ahead b n (codes_of x) t.cdi step → Result
    seeking_on step t sent see idle ahead =
        record { step = step; row = t; state = x; sent = sent; see = see; calm = calm; same = refl; waits = seeking idle ahead }

    -- Naming

    abbrev known_by : ℕ → Row
    known_by k = found (record { io = k; id = x.id }) r

    abbrev after_naming : Bool → Stage
    after_naming t = cond t (enter b) (seek (following b))

    named : (c k : ℕ) → b ≡ c → Sees b s (ready mode (name c k) r x qs) →
        Sees b (search_on s) (ready mode (after_naming (admissible mode b (known_by k))) (known_by k) x (qs ++ read_id ∷ []))
    named c k to see =
        let m = ready mode (name c k) r x qs in
        subst₂ (λ (w : Visit) (y : Heard). Sees b (search_on s) (stepped (step_after (name c k) b y (admissible mode b w.row)) (visiting w m)))
        (name_calm x calm mode c k b r) (reply_calm x calm read_id) (sees_search_here b hb s m see to)

    naming : (k : ℕ) (t : Bool) → Sees b (search_on s) (ready mode (after_naming t) (known_by k) x (qs ++ read_id ∷ [])) →
        round + 2 ≤ suc n → Result
    naming k true see l = seeking_on (enter b) (known_by k) (qs ++ read_id ∷ []) see off (enters_unknown refl (omega arith))
    naming k false see l =
        seeking_on (seek (following b)) (known_by k) (qs ++ read_id ∷ []) see off
        (seeks (next_lt b hb) (far_any b (following b) n one hb (next_lt b hb) (omega arith)))

    naming_known : (c k : ℕ) → b ≡ c → k ≡ x.io → Sees b s (ready mode (name c k) r x qs) → 2 ≤ suc n → Result
    naming_known c k to known see l =
        let codes : (known_by k).cdi ≡ codes_of x = ap (λ (z : ℕ). record { io = z; id = x.id }) known in
        let fit : admissible mode b (known_by k) ≡ true =
        admissible_known mode b (known_by k) x one small codes (so_like mode r (known_by k) x x refl refl refl so) in
        seeking_on (enter b) (known_by k) (qs ++ read_id ∷ [])
        (subst (λ (t : Bool). Sees b (search_on s) (ready mode (after_naming t) (known_by k) x (qs ++ read_id ∷ []))) fit (named c k to see)) off
        (enters_known refl codes (omega arith))

    -- Entering

    abbrev enter_or_not : Bool → Visit
    enter_or_not t = cond t (enter_visit true r (occupied x)) (left_alone r (occupied x))

    entered : (c : ℕ) → b ≡ c → Sees b s (ready mode (enter c) r x qs) →
        Sees b (search_on s) (stepped (seek (following b)) (visiting (enter_or_not (admissible mode b r)) (ready mode (enter c) r x qs)))
    entered c to see = sees_search_here b hb s (ready mode (enter c) r x qs) see to

    entering : (c : ℕ) (t : Bool) →
        Sees b (search_on s) (stepped (seek (following b)) (visiting (enter_or_not t) (ready mode (enter c) r x qs))) →
        (t ≡ true) ⊎ (round ≤ n) → Result
    entering c true see way =
        record {
          step = seek (following b);
          row = joining r;
          state = with_parameter r.pp x;
          sent = qs ++ write_parameter r.pp ∷ [];
          see =
              subst (λ (w : Visit). Sees b (search_on s) (stepped (seek (following b)) (visiting w (ready mode (enter c) r x qs)))) (enter_calm x calm r) see;
          calm = calm;
          same = refl;
          waits = serving refl refl;
        }
    entering c false see (inl e) = absurd (false≢true e)
    entering c false see (inr many) =
        seeking_on (seek (following b)) r (qs ++ []) see off (seeks (next_lt b hb) (far_any b (following b) n one hb (next_lt b hb) many))

    -- Seeking

    seeking_from : (a : ℕ) → Sees b s (ready mode (seek a) r x qs) →
        Picked (λ k. Far b k (suc n)) s.master.control.rows (pick s.master.control.rows a) → Result
    seeking_from a see found = ⊎_elim here elsewhere (cases_eq b c)
      where
        c : ℕ
        c = pick s.master.control.rows a

        here : b ≡ c → Result
        here to =
            let left = far_three_left found.in_range one found.kept in
            let m = ready mode (seek a) r x qs in
            seeking_on (name b x.io) r (qs ++ read_io ∷ [])
            (subst₂ (λ (w : Visit) (y : Heard). Sees b (search_on s) (stepped (step_after (seek a) b y (admissible mode b w.row)) (visiting w m)))
            (seek_calm x calm mode a b r) (reply_calm x calm read_io) (sees_search_here b hb s m see to)) off
            (names_known refl refl (omega arith))

        elsewhere : (b ≡ c → ⊥) → Result
        elsewhere ne =
            let m = ready mode (seek a) r x qs in
            seeking_on (next_after s m) r qs (sees_search_other b hb s m see ne) off
            (sought_elsewhere b one hb n (codes_of x) r.cdi c found.in_range (λ e. ne (sym e)) a _ _ found.kept)

    pub searching : {step : Stage} → Sees b s (ready mode step r x qs) → Ahead b (suc n) (codes_of x) r.cdi step → Result
    searching see (seeks {a} h far) =
        seeking_from a see
        (picks (λ k. Far b k (suc n)) s.master.control.rows b hb (ap (λ (t : Row). t.active) see.row_is ∙ off)
        (λ k l ne f. far_skip hb l ne f) 32 a h (near_any b a hb h) far)
    searching see (names {c} {k} h ne far) =
        let m = ready mode (name c k) r x qs in
        let there = row_at c s.master.control.rows in
        let made = search_visit s.master.control.mode s.line.power (name c k) c there (at s.line.places c) in
        seeking_on (next_after s m) r qs (sees_search_other b hb s m see (λ e. ne (sym e))) off
        (named_elsewhere b one hb n (codes_of x) r.cdi c h ne c k _ _ (admissible_not_zero s.master.control.mode c made.row) far)
    searching see (names_known {c} {k} e known l) = naming_known c k (sym e) known see l
    searching see (names_unknown {c} {k} e l) = naming k (admissible mode b (known_by k)) (named c k (sym e) see) l
    searching see (enters {c} h o ne far) =
        let m = ready mode (enter c) r x qs in
        seeking_on (seek (following c)) r qs (sees_search_other b hb s m see (λ e. ne (sym e))) off
        (seeks (next_lt c h) (far_three n hb h o ne (far_more (n + 3) far (omega arith))))
    searching see (enters_known {c} e known l) =
        entering c (admissible mode b r) (entered c (sym e) see) (inl (admissible_known mode b r x one small known so))
    searching see (enters_unknown {c} e l) = entering c (admissible mode b r) (entered c (sym e) see) (inr (omega arith))
