-- What a conversation comes to on a line: of a dialogue it is the visit there, and of a dialogue with each address in turn a table of visits.
use Rattle.std.proofs.Common.{◌≡◌, ℕ, zero, suc, ◌+◌, ◌<◌, Bool, true, false, List, ◌++◌, length, set, sym, refl, ap, ◌∙◌, subst, add-one, arith}
use Rattle.std.proofs.lemmas.List.{append_assoc, length-set, get_or-set_same, set-get_or, set-set}
use Rattle.telegrams.specs.Requests.{Sent, Heard}
use Rattle.stations.specs.Stations.{Place, vacant, after, reply}
use Rattle.lines.specs.Lines.{at}
use Rattle.records.specs.Rows.{Row, new_row, row_at}
use Rattle.phases.specs.Conversations.{Conversation, Course, after_asking, on_line}
use Rattle.phases.specs.Dialogues.{Dialogue, comes, asks, whether, dialogue_at, dialogues_from}
use Rattle.phases.specs.Visits.{Visit, visit_by, visit, told_by, addressed, sent_below}
use Rattle.values.specs.Tables.{table}
use Rattle.values.proofs.Tables.{length-table}
use Rattle.values.proofs.Filling.{FilledBelow, fill_starts, still_old, fill_goes_on, fill_ends}

-- these were sent before
abbrev pub behind : {A : Type 0} → List Sent → Course A → Course A
behind qs c = record c { sent = qs ++ c.sent }

pub behind_both : {A : Type 0} (qs rs : List Sent) (c : Course A) → behind qs (behind rs c) ≡ behind (qs ++ rs) c
behind_both qs rs c = ap (λ (ss : List Sent). record c { sent = ss }) (sym (append_assoc qs rs c.sent))

-- What a dialogue comes to, in parts

abbrev pub comes_to : {A : Type 0} → Bool → Dialogue A → Place → A
comes_to power c p = told_by (λ x. x) power c p

pub part_told : {A B : Type 0} (part : A → B) (power : Bool) (c : Dialogue A) (p : Place) → part (comes_to power c p) ≡ told_by part power c p
part_told part power (comes x) p = refl
part_told part power (asks q k) p = part_told part power (k (reply power p q)) (after power p q)
part_told part power (whether true c d) p = part_told part power c p
part_told part power (whether false c d) p = part_told part power d p

pub row_told : {A : Type 0} (row : A → Row) (power : Bool) (c : Dialogue A) (p : Place) → row (comes_to power c p) ≡ (visit_by row power c p).row
row_told row power (comes x) p = refl
row_told row power (asks q k) p = row_told row power (k (reply power p q)) (after power p q)
row_told row power (whether true c d) p = row_told row power c p
row_told row power (whether false c d) p = row_told row power d p

module _ {A B : Type 0} (row : A → Row) (power : Bool) (a : ℕ) (f : A → Conversation B) where
  -- the conversation goes on behind the visit that this one makes
  abbrev Visits : Dialogue A → List Place → Type 0
  Visits c ps =
      on_line power (dialogue_at a c f) ps
      ≡ behind (addressed a (visit_by row power c (at ps a)).sent) (on_line power (f (comes_to power c (at ps a))) (set ps a (visit_by row power c (at ps a)).place))

  pub visits : (c : Dialogue A) (ps : List Place) → a < length ps → Visits c ps
  visits (comes x) ps inside = ap (λ (os : List Place). on_line power (f x) os) (sym (set-get_or ps a vacant))
  visits (whether true c d) ps inside = visits c ps inside
  visits (whether false c d) ps inside = visits d ps inside
  visits (asks q k) ps inside =
      let h : Heard = reply power (at ps a) q in
      let p : Place = after power (at ps a) q in
      let rest = visits (k h) (set ps a p) (subst (λ (n : ℕ). a < n) (sym (length-set ps a p)) inside) in
      let here : at (set ps a p) a ≡ p = get_or-set_same ps a p vacant inside in
      ap (after_asking (record { to = a; asking = q }))
      (rest
      ∙ ap (λ (o : Place). behind (addressed a (visit_by row power (k h) o).sent) (on_line power (f (comes_to power (k h) o)) (set (set ps a p) a (visit_by row power (k h) o).place))) here
      ∙ ap (λ (os : List Place). behind (addressed a (visit_by row power (k h) p).sent) (on_line power (f (comes_to power (k h) p)) os)) (set-set ps a p _))

-- With each address from the first to the last

module _ {B : Type 0} (power : Bool) (dialogue : ℕ → Row → Dialogue Row) (f : List Row → Conversation B) (rs : List Row) (ps : List Place) where
  abbrev made : ℕ → Visit
  made k = visit power (dialogue k (row_at k rs)) (at ps k)

  abbrev sends_to : ℕ → List Sent
  sends_to i = sent_below i (λ k. (made k).sent)

  abbrev all_made : Course B
  all_made = behind (sends_to 32) (on_line power (f (table (λ k. (made k).row))) (table (λ k. (made k).place)))

  sends_next : (i : ℕ) → sends_to (i + 1) ≡ sends_to i ++ addressed i (made i).sent
  unfolding sent_below
  sends_next i = ap sends_to (add-one i)

  from_here :
      (n i : ℕ) (rs' : List Row) (ps' : List Place) → i + n ≡ 32
      → FilledBelow (λ k. (made k).row) rs new_row i rs'
      → FilledBelow (λ k. (made k).place) ps vacant i ps'
      → behind (sends_to i) (on_line power (dialogues_from dialogue n i rs' f) ps') ≡ all_made
  unfolding dialogues_from
  from_here zero i rs' ps' sized rows places =
      let e : i ≡ 32 = omega (arith, sized) in
      ap (λ (m : ℕ). behind (sends_to m) (on_line power (f rs') ps')) e
      ∙ ap (λ (xs : List Row). behind (sends_to 32) (on_line power (f xs) ps')) (fill_ends _ _ _ i rs' e rows)
      ∙ ap (λ (xs : List Place). behind (sends_to 32) (on_line power (f (table (λ k. (made k).row))) xs)) (fill_ends _ _ _ i ps' e places)
  from_here (suc n) i rs' ps' sized rows places =
      let row : row_at i rs' ≡ row_at i rs = still_old _ _ _ _ _ (omega (arith, sized)) rows in
      let place : at ps' i ≡ at ps i = still_old _ _ _ _ _ (omega (arith, sized)) places in
      let c : Dialogue Row = dialogue i (row_at i rs') in
      let same : visit power c (at ps' i) ≡ made i =
      ap (λ (r : Row). visit power (dialogue i r) (at ps' i)) row ∙ ap (λ (p : Place). visit power (dialogue i (row_at i rs)) p) place in
      let count : length ps' ≡ 32 = ap length places.filled ∙ length-table _ in
      let further : Row → List Place → Course B = λ r os. on_line power (dialogues_from dialogue n (i + 1) (set rs' i r) f) os in
      ap (behind (sends_to i)) (visits (λ r. r) power i (λ r. dialogues_from dialogue n (i + 1) (set rs' i r) f) c ps' (omega (arith, sized, count)))
      ∙ ap (λ (r : Row). behind (sends_to i) (behind (addressed i (visit power c (at ps' i)).sent) (further r (set ps' i (visit power c (at ps' i)).place)))) (row_told (λ r. r) power c (at ps' i))
      ∙ ap (λ (v : Visit). behind (sends_to i) (behind (addressed i v.sent) (further v.row (set ps' i v.place)))) same
      ∙ behind_both (sends_to i) (addressed i (made i).sent) _
      ∙ ap (λ (qs : List Sent). behind qs (further (made i).row (set ps' i (made i).place))) (sym (sends_next i))
      ∙ from_here n (i + 1) (set rs' i (made i).row) (set ps' i (made i).place) (omega (arith, sized))
      (fill_goes_on _ _ _ i rs' _ (omega (arith, sized)) rows refl)
      (fill_goes_on _ _ _ i ps' _ (omega (arith, sized)) places refl)

  pub all_visited : length rs ≡ 32 → length ps ≡ 32 → on_line power (dialogues_from dialogue 32 0 rs f) ps ≡ all_made
  unfolding sent_below
  all_visited rows_32 places_32 = from_here 32 0 rs ps refl (fill_starts _ rs new_row rows_32) (fill_starts _ ps vacant places_32)
