-- A visit: what a dialogue comes to at a station, whose replies follow the rules of docs/LINES.md. From the row and the
-- station it makes the row and the station afterwards, and what was sent.
use Rattle.std.specs.Prelude.{ℕ, zero, suc, Bool, cond, List, [], ◌∷◌, ◌++◌}
use Rattle.telegrams.specs.Requests.{Asking, Sent}
use Rattle.stations.specs.Stations.{Place, after, reply}
use Rattle.records.specs.Rows.{Row}
use Rattle.phases.specs.Dialogues.{Dialogue, comes, asks, whether}

pub record Visit : Type 0 where
  pub row : Row
  pub place : Place
  pub sent : List Asking

abbrev pub left_alone : Row → Place → Visit
left_alone r p = record { row = r; place = p; sent = [] }

abbrev pub behind_asking : Asking → Visit → Visit
behind_asking q v = record v { sent = q ∷ v.sent }

-- the visit that a dialogue makes; the row is told by what it comes to
abbrev pub visit_by : {A : Type 0} → (A → Row) → Bool → Dialogue A → Place → Visit
visit_by row power (comes x) p = left_alone (row x) p
visit_by row power (asks q k) p = behind_asking q (visit_by row power (k (reply power p q)) (after power p q))
visit_by row power (whether b c d) p = cond b (visit_by row power c p) (visit_by row power d p)

abbrev pub visit : Bool → Dialogue Row → Place → Visit
visit power c p = visit_by (λ r. r) power c p

-- what it comes to besides
abbrev pub told_by : {A B : Type 0} → (A → B) → Bool → Dialogue A → Place → B
told_by part power (comes x) p = part x
told_by part power (asks q k) p = told_by part power (k (reply power p q)) (after power p q)
told_by part power (whether b c d) p = cond b (told_by part power c p) (told_by part power d p)

-- All addresses are visited, lowest first

abbrev pub addressed : ℕ → List Asking → List Sent
addressed a [] = []
addressed a (q ∷ qs) = record { to = a; asking = q } ∷ addressed a qs

-- what is sent to the addresses below n
unfoldable pub sent_below : ℕ → (ℕ → List Asking) → List Sent
sent_below zero f = []
sent_below (suc n) f = sent_below n f ++ addressed n (f n)
