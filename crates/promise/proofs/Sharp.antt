-- A module that waits as long as any can. The search has named its address with another module's I/O code when it is plugged in, so that
-- cycle 1 finds mixed codes, and cycle 2 does not enter it, the mode being protected then. The search comes back after all other addresses.
use Rattle.std.proofs.Common.{◌≡◌, ℕ, zero, suc, ◌+◌, ◌-◌, ◌<◌, ◌≤◌, Bool, true, false, not, ◌&&◌, eqb, ltb, List, [], ◌∷◌, ◌++◌, length, take, replicate, refl, ap, ◌∙◌, subst, arith}
use Rattle.std.specs.List.{AllByRecursion, range_with_len}
use Rattle.std.proofs.lemmas.Bool.{cond-false, cond_both, and_parts, not-true, eqb-true, ltb-true, false≢true}
use Rattle.std.proofs.lemmas.List.FromFn.{get_or-range_with_len}
use Rattle.values.specs.Tables.{table}
use Rattle.std.specs.List.{list_all}
use Rattle.values.proofs.Tests.{list_all-at_place}
use Rattle.telegrams.specs.Requests.{Asking, Sent}
use Rattle.stations.specs.Stations.{State, Place, vacant, occupied}
use Rattle.lines.specs.Lines.{Meaning, at}
use Rattle.records.specs.Rows.{Pair, Row, row_at, same_codes}
use Rattle.records.specs.Edits.{projecting}
use Rattle.records.specs.declared.record.Mode.{Mode}
use Rattle.records.specs.declared.record.Mode.TheVariants.{Configuration, Protected}
use Rattle.phases.specs.Visits.{Visit, left_alone, sent_below}
use Rattle.phases.specs.Activation.{admissible, enter_visit}
use Rattle.phases.specs.Exchange.{exchange_visit}
use Rattle.search.specs.Steps.{Stage, seek, name, enter, pick_within}
use Rattle.search.specs.Searches.{search_visit, taken_by}
use Rattle.control.specs.Placing.{is_normal}
use Rattle.control.specs.declared.control.Phase.{Phase}
use Rattle.control.specs.declared.control.Phase.TheVariants.{Offline, Detection, Activation, Normal}
use Rattle.control.specs.Cycles.{Master, Scene, new_control, new_master, beginning, visit_made, only, exchange, run, running, everywhere, manage_by, manage, search_on, stay_offline, cycle}
use Rattle.promise.specs.Successions.{Turn, cycling, calling, setting, of_mode, editing, called, after, Met, cycles}
use Rattle.promise.specs.Waiting.{sent_to, exchanges, resets, codes_of, ProjectedSo, Stays, StaysPlugged, Unaltered, LeftInPlace, row_met, done}
use Rattle.promise.proofs.Bound.{waiting_bound}
use Rattle.promise.proofs.Sending.{sent-to-append, sent_to_below}
use Rattle.promise.specs.Longest.{all_vacant, former_alone, all_new, with_power}
use Rattle.promise.specs.Sharp.{lawful, is_protected, lines_met, MeetsAsLeft, Untouched, PassesBy, WaitsLongest, LeastBound}

-- A line that is left as it is: each cycle meets what the one before it left

staying : ℕ → Master → Meaning → List Turn
staying zero c line = []
staying (suc n) c line = cycling line ∷ staying n (cycle c line).master (cycle c line).line

abbrev met : Master → Meaning → Met
met c line = record { master = c; line = line }

length-staying : (n : ℕ) (c : Master) (line : Meaning) → length (cycles c (staying n c line)) ≡ n
unfolding staying
length-staying zero c line = refl
length-staying (suc n) c line = ap suc (length-staying n (cycle c line).master (cycle c line).line)

unaltered_staying : (b n : ℕ) (d : Met) (c : Master) → Unaltered b d (cycles c (staying n c (done d).line))
unfolding staying
unaltered_staying b zero d c = tt
unaltered_staying b (suc n) d c = λ x there. (x.inputs, there)

left_staying : (b n : ℕ) (c : Master) (line : Meaning) → LeftInPlace b (cycles c (staying n c line))
unfolding staying
left_staying b zero c line = tt
left_staying b (suc n) c line = (unaltered_staying b n (met c line) (cycle c line).master, left_staying b n (cycle c line).master (cycle c line).line)

untouched_first : (n : ℕ) (d : Met) (c : Master) → MeetsAsLeft d (cycles c (staying n c (done d).line))
unfolding staying
untouched_first zero d c = tt
untouched_first (suc n) d c = refl

untouched_staying : (n : ℕ) (c : Master) (line : Meaning) → Untouched (cycles c (staying n c line))
unfolding staying
untouched_staying zero c line = tt
untouched_staying (suc n) c line = (untouched_first n (met c line) (cycle c line).master, untouched_staying n (cycle c line).master (cycle c line).line)

-- What a normal cycle sends to b where no order waits

abbrev searching : Scene → ℕ → Row → Place → Visit
searching s =
    let m = s.master.control in
    let a = taken_by m.rows m.step in
    only a (search_visit m.mode s.line.power m.step a)

abbrev asks : ℕ → Met → List Asking
asks b d =
    let s = beginning d.master d.line in
    (visit_made (λ a. exchange_visit d.line.power) s b).sent ++ (visit_made (searching (exchange s)) (exchange s) b).sent

abbrev none_waits : List Sent → Bool
none_waits [] = true
none_waits (o ∷ os) = false

abbrev undisturbed_by_orders : Met → Bool
undisturbed_by_orders d = is_normal (running d.master.control d.line) && none_waits d.master.orders

asked_everywhere : (visit : ℕ → Row → Place → Visit) (s : Scene) (b : ℕ) → b < 32 → sent_to b (everywhere visit s).sent ≡ sent_to b s.sent ++ (visit_made visit s b).sent
unfolding everywhere
asked_everywhere visit s b h =
    sent-to-append b s.sent (sent_below 32 (λ a. (visit_made visit s a).sent))
    ∙ ap (λ (l : List Asking). sent_to b s.sent ++ l) (sent_to_below (λ a. (visit_made visit s a).sent) b 32 h)

abbrev asked_in : ℕ → Met → List Asking
asked_in b d = sent_to b (done d).sent

asked_are : (b : ℕ) → b < 32 → (d : Met) → undisturbed_by_orders d ≡ true → asked_in b d ≡ asks b d
unfolding cycle sent_to manage search_on everywhere
asked_are b h d e =
    let both = and_parts (is_normal (running d.master.control d.line)) (none_waits d.master.orders) e in
    let s = exchange (beginning d.master d.line) in
    ap (λ (t : Scene). sent_to b t.sent) (by (running d.master.control d.line) both.0 ∙ ap search_on (unmanaged d.master.orders s both.1))
    ∙ asked_everywhere (searching s) s b h
    ∙ ap (λ (l : List Asking). l ++ (visit_made (searching s) s b).sent) (asked_everywhere (λ a. exchange_visit d.line.power) (beginning d.master d.line) b h)
  where
    by : (p : Phase) → is_normal p ≡ true → run p (beginning d.master d.line) ≡ run Normal (beginning d.master d.line)
    by Offline n = absurd (false≢true n)
    by Detection n = absurd (false≢true n)
    by Activation n = absurd (false≢true n)
    by Normal n = refl

    unmanaged : (os : List Sent) (t : Scene) → none_waits os ≡ true → manage_by os t ≡ t
    unmanaged [] t n = refl
    unmanaged (o ∷ os) t n = absurd (false≢true n)

-- it is no Reset, and no Data_Exchange but where b is active
record Harmless (qs : List Asking) : Type 0 where
  no_reset : resets qs ≡ 0
  no_exchange : exchanges qs ≡ []

harmless_search : (mode : Mode) (power : Bool) (t : Stage) (a : ℕ) (r : Row) (p : Place) → Harmless (search_visit mode power t a r p).sent
harmless_search mode power (seek k) a r p = record { no_reset = refl; no_exchange = refl }
harmless_search mode power (name k c) a r p = record { no_reset = refl; no_exchange = refl }
harmless_search mode power (enter k) a r p =
    cond_both (admissible mode a r) (enter_visit power r p) (left_alone r p) (λ (v : Visit). Harmless v.sent)
    (λ _. record { no_reset = refl; no_exchange = refl }) (λ _. record { no_reset = refl; no_exchange = refl })

harmless_searching : (s : Scene) (b : ℕ) → Harmless (visit_made (searching s) s b).sent
harmless_searching s b =
    let m = s.master.control in
    let a = taken_by m.rows m.step in
    let r = row_at b m.rows in
    let p = at s.line.places b in
    cond_both (eqb b a) (search_visit m.mode s.line.power m.step a r p) (left_alone r p) (λ (v : Visit). Harmless v.sent)
    (λ _. harmless_search m.mode s.line.power m.step a r p) (λ _. record { no_reset = refl; no_exchange = refl })

module _ (b : ℕ) (d : Met) where
  abbrev exchanged : Scene
  exchanged = exchange (beginning d.master d.line)

  abbrev searched : List Asking
  searched = (visit_made (searching exchanged) exchanged b).sent

  asks_no_reset : resets (asks b d) ≡ 0
  asks_no_reset =
      cond_both (row_met b d).active _ (left_alone (row_met b d) (at d.line.places b)) (λ (v : Visit). resets (v.sent ++ searched) ≡ 0)
      (λ _. (harmless_searching exchanged b).no_reset) (λ _. (harmless_searching exchanged b).no_reset)

  asks_no_exchange : (row_met b d).active ≡ false → exchanges (asks b d) ≡ []
  asks_no_exchange idle = ap (λ (v : Visit). exchanges (v.sent ++ searched)) (cond-false _ _ _ idle) ∙ (harmless_searching exchanged b).no_exchange

-- Whether a cycle finds the module admitted, and its address not active unless it is the last cycle, as a test

abbrev projected_so : Mode → Row → State → Bool
projected_so Configuration r x = true
projected_so Protected r x = r.projected && same_codes r.pcd (codes_of x)

abbrev admits : ℕ → Met → State → Bool
admits b d x =
    d.line.power
    && (not d.master.control.offline
    && (eqb x.disturbance 0 && (ltb x.io 15 && projected_so d.master.control.mode (row_met b d) x)))

abbrev admits_at : ℕ → Met → Place → Bool
admits_at b d vacant = false
admits_at b d (occupied x) = admits b d x

-- n more cycles follow
abbrev idle_unless_last : ℕ → Bool → Bool
idle_unless_last zero active = true
idle_unless_last (suc n) active = not active

abbrev waits_in : ℕ → ℕ → Met → Bool
waits_in b n d = undisturbed_by_orders d && (admits_at b d (at d.line.places b) && idle_unless_last n (row_met b d).active)

projected_since : (mode : Mode) (r : Row) (x : State) → projected_so mode r x ≡ true → ProjectedSo mode r x
projected_since Configuration r x e = tt
projected_since Protected r x e =
    let codes = and_parts _ _ (and_parts _ _ e).1 in
    ((and_parts _ _ e).0, same r.pcd (codes_of x) (eqb-true _ _ codes.0) (eqb-true _ _ codes.1))
  where
    same : (p q : Pair) → p.io ≡ q.io → p.id ≡ q.id → p ≡ q
    same p q io id = ap (λ (n : ℕ). record { io = n; id = p.id }) io ∙ ap (λ (n : ℕ). record { io = q.io; id = n }) id

stays_at : (b : ℕ) (d : Met) (p : Place) → at d.line.places b ≡ p → resets (asked_in b d) ≡ 0 → admits_at b d p ≡ true → Stays b d
stays_at b d vacant there never e = absurd (false≢true e)
stays_at b d (occupied x) there never e =
    let e₁ = (and_parts _ _ e).1 in
    let e₂ = (and_parts _ _ e₁).1 in
    let e₃ = (and_parts _ _ e₂).1 in (
      x,
      record {
        powered = (and_parts _ _ e).0;
        not_offline = not-true _ (and_parts _ _ e₁).0;
        there = there;
        undisturbed = eqb-true _ _ (and_parts _ _ e₂).0;
        exchangeable = ltb-true _ _ (and_parts _ _ e₃).0;
        as_projected = projected_since _ _ x (and_parts _ _ e₃).1;
        never_reset = never;
      },
    )

-- the same of n cycles on a line that is left as it is
waits : ℕ → ℕ → Master → Meaning → Bool
waits b zero c line = true
waits b (suc n) c line = waits_in b n (met c line) && waits b n (cycle c line).master (cycle c line).line

module _ (b : ℕ) (h : b < 32) where
  stays : (n : ℕ) (d : Met) → waits_in b n d ≡ true → Stays b d
  stays n d e =
      let both = and_parts (undisturbed_by_orders d) _ e in
      stays_at b d (at d.line.places b) refl (ap resets (asked_are b h d both.0) ∙ asks_no_reset b d) (and_parts _ _ both.1).0

  passes : (n : ℕ) (d : Met) → waits_in b (suc n) d ≡ true → PassesBy b d
  passes n d e =
      let both = and_parts (undisturbed_by_orders d) _ e in
      ap exchanges (asked_are b h d both.0) ∙ asks_no_exchange b d (not-true _ (and_parts _ _ both.1).1)

  abbrev Waits : ℕ → Master → Meaning → Type 0
  Waits n c line = waits b n c line ≡ true

  stay_all : (n : ℕ) (c : Master) (line : Meaning) → Waits n c line → AllByRecursion (Stays b) (cycles c (staying n c line))
  unfolding staying waits
  stay_all zero c line e = tt
  stay_all (suc n) c line e =
      (stays n (met c line) (and_parts _ _ e).0, stay_all n (cycle c line).master (cycle c line).line (and_parts _ _ e).1)

  pass_all : (n : ℕ) (c : Master) (line : Meaning) → Waits (suc n) c line → AllByRecursion (PassesBy b) (take n (cycles c (staying (suc n) c line)))
  unfolding staying waits
  pass_all zero c line e = tt
  pass_all (suc n) c line e =
      (passes n (met c line) (and_parts _ _ e).0, pass_all n (cycle c line).master (cycle c line).line (and_parts _ _ e).1)

-- The succession

abbrev empty : Meaning
empty = with_power all_vacant

abbrev full : Meaning
full = with_power all_new

module _ (b : ℕ) where
  -- up to normal phase, and the search up to b, where it hears the other module's I/O code
  abbrev before : List Turn
  before = replicate (3 + b) (cycling empty) ++ cycling (with_power (former_alone b)) ∷ calling (editing (projecting b 1 1 5)) ∷ []

  abbrev all_lawful : Bool
  all_lawful = list_all lawful (lines_met before)

module _ (order_room answer_room b : ℕ) where
  abbrev new : Master
  new = new_master order_room answer_room

  -- from plugging on: the second cycle is in protected mode, and from the third on nothing happens but cycles

  abbrev first : Master
  first = after (before b) new

  abbrev first_done : Scene
  first_done = cycle first full

  abbrev second : Master
  second = called (setting (of_mode Protected)) first_done.master

  abbrev second_done : Scene
  second_done = cycle second first_done.line

  abbrev third : Master
  third = called (setting (of_mode Configuration)) second_done.master

  abbrev following : List Turn
  following =
      cycling full
      ∷ calling (setting (of_mode Protected))
      ∷ cycling first_done.line
      ∷ calling (setting (of_mode Configuration))
      ∷ staying 96 third second_done.line

  abbrev first_waits : Bool
  first_waits = waits_in b 97 (met first full)

  abbrev second_waits : Bool
  second_waits = waits_in b 96 (met second first_done.line)

  abbrev others_wait : Bool
  others_wait = waits b 96 third second_done.line

  abbrev all_wait : Bool
  all_wait = first_waits && (second_waits && others_wait)

  waits_longest : 1 ≤ b → b < 32 → all_lawful b ≡ true → is_protected (met second first_done.line) ≡ true → all_wait ≡ true → WaitsLongest 97 b new (before b) following
  unfolding staying
  waits_longest low h lines guarded e =
      let one = and_parts first_waits (second_waits && others_wait) e in
      let two = and_parts second_waits others_wait one.1 in
      let d₁ = met first full in
      let d₂ = met second first_done.line in
      let plugged : StaysPlugged b (cycles (after (before b) new) following) =
      record {
        admitted = (stays b h 97 d₁ one.0, (stays b h 96 d₂ two.0, stay_all b h 96 third second_done.line two.1));
        left = ((λ x there. (x.inputs, there)), (unaltered_staying b 96 d₂ third, left_staying b 96 third second_done.line));
      } in
      record {
        lawful_before = lines;
        lawful_plugged = refl;
        untouched = (refl, (untouched_first 96 d₂ third, untouched_staying 96 third second_done.line));
        plugged = plugged;
        long = ap (λ n. suc (suc n)) (length-staying 96 third second_done.line);
        protected = (guarded, tt);
        not_yet = (passes b h 96 d₁ one.0, (passes b h 95 d₂ two.0, pass_all b h 95 third second_done.line two.1));
        at_last = waiting_bound order_room answer_room (before b) following b low h plugged;
      }

-- it does at every address, by computation

waits_everywhere : (order_room answer_room : ℕ) → list_all (all_wait order_room answer_room) (range_with_len 1 31) ≡ true
unfolding waits table sent_below pick_within new_control everywhere manage search_on stay_offline cycle sent_to
waits_everywhere order_room answer_room = refl

protected_everywhere : (order_room answer_room : ℕ) → list_all (λ b. is_protected (met (second order_room answer_room b) (first_done order_room answer_room b).line)) (range_with_len 1 31) ≡ true
unfolding table sent_below pick_within new_control everywhere manage search_on stay_offline cycle
protected_everywhere order_room answer_room = refl

lawful_everywhere : list_all all_lawful (range_with_len 1 31) ≡ true
lawful_everywhere = refl

everywhere_at : (test : ℕ → Bool) → list_all test (range_with_len 1 31) ≡ true → (b : ℕ) → 1 ≤ b → b < 32 → test b ≡ true
everywhere_at test all b low high =
    let one : 1 + (b - 1) ≡ b = omega arith in
    subst (λ (k : ℕ). test k ≡ true) (get_or-range_with_len 1 31 (b - 1) 0 (omega arith) ∙ one) (list_all-at_place test 0 (range_with_len 1 31) all (b - 1) (omega arith))

pub least_bound : LeastBound 97
least_bound =
    record {
      enough = waiting_bound;
      sharp = λ order_room answer_room b low high. (
        before b,
        following order_room answer_room b,
        waits_longest order_room answer_room b low high (everywhere_at all_lawful lawful_everywhere b low high)
            (everywhere_at (λ a. is_protected (met (second order_room answer_room a) (first_done order_room answer_room a).line)) (protected_everywhere order_room answer_room) b low high)
            (everywhere_at (all_wait order_room answer_room) (waits_everywhere order_room answer_room) b low high),
      );
    }
