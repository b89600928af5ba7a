-- A visit to one address, written as a visit to each address that leaves all the others alone.
use Rattle.std.proofs.Common.{◌≡◌, ℕ, zero, suc, ◌<◌, ◌≤◌, eqb, List, [], ◌++◌, length, get_or, set, sym, refl, ap, ◌∙◌, ⊎_elim, arith}
use Rattle.std.proofs.lemmas.List.{append-nil, length-set, get_or-set_same, get_or-set_other}
use Rattle.std.proofs.lemmas.Bool.{cases_eq, eq-eqb, ne_eqb, cond-true, cond-false}
use Rattle.values.specs.Tables.{table}
use Rattle.values.proofs.Tables.{is_table}
use Rattle.telegrams.specs.Requests.{Asking, Sent}
use Rattle.stations.specs.Stations.{Place, vacant}
use Rattle.lines.specs.Lines.{at}
use Rattle.records.specs.Rows.{Row, new_row, row_at}
use Rattle.phases.specs.Visits.{Visit, left_alone, addressed, sent_below}
use Rattle.control.specs.Cycles.{Scene, visit_made, everywhere, only}
use Rattle.control.specs.Cycling.{with_master_rows}

-- what is sent to one address is all that is sent
module _ (f : ℕ → List Asking) (b : ℕ) (none : (a : ℕ) → (a ≡ b → ⊥) → f a ≡ []) where
  before_it : (n : ℕ) → n ≤ b → sent_below n f ≡ []
  unfolding sent_below
  before_it zero h = refl
  before_it (suc n) h = ap (λ (qs : List Sent). qs ++ addressed n (f n)) (before_it n (omega arith)) ∙ ap (addressed n) (none n (omega arith))

  sent_there : (n : ℕ) → b < n → sent_below n f ≡ addressed b (f b)
  unfolding sent_below
  sent_there zero h = absurd (omega arith)
  sent_there (suc n) h = ⊎_elim last (earlier (sent_there n)) (cases_eq n b)
    where
      last : n ≡ b → sent_below n f ++ addressed n (f n) ≡ addressed b (f b)
      last e = ap (λ (qs : List Sent). qs ++ addressed n (f n)) (before_it n (omega arith)) ∙ ap (λ (k : ℕ). addressed k (f k)) e

      earlier : (b < n → sent_below n f ≡ addressed b (f b)) → (n ≡ b → ⊥) → sent_below n f ++ addressed n (f n) ≡ addressed b (f b)
      earlier rest ne =
          ap (λ (qs : List Asking). sent_below n f ++ addressed n qs) (none n ne)
          ∙ append-nil (sent_below n f)
          ∙ rest (omega arith)

-- a write to one place is a table that differs there only
written_table : {X : Type 0} (xs : List X) (b : ℕ) (x d : X) (f : ℕ → X) → b < 32 → length xs ≡ 32 → f b ≡ x → ((k : ℕ) → (k ≡ b → ⊥) → f k ≡ get_or xs k d) → set xs b x ≡ table f
written_table {X} xs b x d f inside sized here elsewhere =
    is_table f (set xs b x) d (length-set xs b x ∙ sized) (λ k h. ⊎_elim (same k) (other k) (cases_eq k b))
  where
    same : (k : ℕ) → k ≡ b → get_or (set xs b x) k d ≡ f k
    same k e = ap (λ (n : ℕ). get_or (set xs b x) n d) e ∙ get_or-set_same xs b x d (omega arith) ∙ sym here ∙ ap f (sym e)

    other : (k : ℕ) → (k ≡ b → ⊥) → get_or (set xs b x) k d ≡ f k
    other k ne = get_or-set_other xs b k x d ne ∙ sym (elsewhere k ne)

module _ (s : Scene) (visit : Row → Place → Visit) (b : ℕ) where
  abbrev rs : List Row
  rs = s.master.control.rows

  abbrev ps : List Place
  ps = s.line.places

  abbrev there : Visit
  there = visit (row_at b rs) (at ps b)

  abbrev made : ℕ → Visit
  made a = visit_made (only b visit) s a

  here : made b ≡ there
  here = cond-true (eqb b b) there (left_alone (row_at b rs) (at ps b)) (eq-eqb b b refl)

  alone : (k : ℕ) → (k ≡ b → ⊥) → made k ≡ left_alone (row_at k rs) (at ps k)
  alone k ne = cond-false (eqb k b) (visit (row_at k rs) (at ps k)) (left_alone (row_at k rs) (at ps k)) (ne_eqb k b ne)

  -- address b alone was visited
  abbrev pub visited_there : Scene
  visited_there =
      record {
        master = with_master_rows (set rs b there.row) s.master;
        line = record s.line { places = set ps b there.place };
        sent = s.sent ++ addressed b there.sent;
      }

  pub one_visited : b < 32 → length rs ≡ 32 → length ps ≡ 32 → visited_there ≡ everywhere (only b visit) s
  unfolding everywhere
  one_visited inside rows_32 places_32 =
      let rows : set rs b there.row ≡ table (λ a. (made a).row) =
      written_table rs b there.row new_row (λ a. (made a).row) inside rows_32 (ap (λ (w : Visit). w.row) here) (λ k ne. ap (λ (w : Visit). w.row) (alone k ne)) in
      let places : set ps b there.place ≡ table (λ a. (made a).place) =
      written_table ps b there.place vacant (λ a. (made a).place) inside places_32 (ap (λ (w : Visit). w.place) here) (λ k ne. ap (λ (w : Visit). w.place) (alone k ne)) in
      let sent : addressed b there.sent ≡ sent_below 32 (λ a. (made a).sent) =
      sym (sent_there (λ a. (made a).sent) b (λ k ne. ap (λ (w : Visit). w.sent) (alone k ne)) 32 inside ∙ ap (λ (w : Visit). addressed b w.sent) here) in
      ap (λ (xs : List Row). record visited_there { master = with_master_rows xs s.master }) rows
      ∙ ap (λ (os : List Place). record (everywhere (only b visit) s) { line = record s.line { places = os }; sent = s.sent ++ addressed b there.sent }) places
      ∙ ap (λ (qs : List Sent). record (everywhere (only b visit) s) { sent = s.sent ++ qs }) sent
