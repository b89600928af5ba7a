-- A call that is made on a line through repeaters, and what it leaves of the line at the bottom.
use Rattle.std.proofs.Common.{◌≡◌, ℕ, zero, suc, Bool, List, [], ◌∷◌, map, sym, refl, ap, ◌∙◌}
use Rattle.values.specs.Tables.{table}
use Rattle.values.proofs.Tables.{map-table}
use Rattle.telegrams.specs.Requests.{Sent, Heard, nibble, silence, disturbed}
use Rattle.stations.specs.Stations.{Place}
use Rattle.lines.specs.Lines.{Meaning, meaning, meaning_after, line_reply, halved}
use Rattle.lines.specs.Sending.{Sends, again}
use Rattle.lines.specs.declared.repeater.Repeater.{Repeater}
use Rattle.stations.specs.Images.{powered_in, place_at}
use Rattle.racks.specs.Racks.{line_in, station_at, CarriedInPlace}
use Rattle.racks.specs.declared.image_rack.ImageRack.{ImageRack}
use Rattle.racks.specs.declared.bench.BenchRack.{BenchRack}
use Rattle.orders.specs.declared.pair.Queues.{Queues}
use Rattle.control.specs.Cycles.{Master}
use Rattle.master.specs.declared.master.MasterWith.{MasterWith}
use Rattle.master.specs.Masters.{state_of}
use Rattle.promise.specs.Successions.{turned}
use Rattle.promise.specs.Outcomes.{Came, comes_to, sent_by}
use Rattle.runs.specs.Outcomes.{turn_of, Performed}
use Rattle.runs.specs.declared.call.Call.{Call}
use Rattle.exports.specs.Replay.{seen_through, again_if, left_by, left_by_all, Through}

-- A line by what it shows, what it is to have carried a request, and what stands at its bottom

pub record Kind (L : Type 0) : Type 1 where
  pub carried : L → Sent → L → Type 0
  pub power : L → Bool
  pub stations : L → ℕ → Place
  pub bottom : L → Meaning

abbrev pub seen : {L : Type 0} → Kind L → L → Meaning
seen k l = meaning (k.power l) (k.stations l)

-- it is n repeaters over what stands at its bottom
pub record Above {L : Type 0} (k : Kind L) (n : ℕ) : Type 0 where
  pub shows : (l : L) → seen k l ≡ seen_through n (k.bottom l)
  pub leaves : (l m : L) (q : Sent) → k.carried l q m → k.bottom m ≡ left_by n q (k.bottom l)

-- A bench rack, an image rack, and one repeater more

abbrev pub bench_seen : BenchRack → Meaning
bench_seen b = meaning b.powered (station_at b.stations)

abbrev pub bench : Kind BenchRack
bench =
    record {
      carried = λ b q c. bench_seen c ≡ meaning_after q (bench_seen b);
      power = λ b. b.powered;
      stations = λ b. station_at b.stations;
      bottom = bench_seen;
    }

pub bench_is : Above bench 0
bench_is = record { shows = λ b. refl; leaves = λ b c q is. is }

abbrev pub image_rack : Kind ImageRack
image_rack =
    record {
      carried = λ i q j. CarriedInPlace i.words q j.words;
      power = λ i. powered_in i.words.now;
      stations = λ i. place_at i.words.now;
      bottom = λ i. line_in i.words.now;
    }

pub image_rack_is : Above image_rack 0
image_rack_is = record { shows = λ i. refl; leaves = λ i j q carried. carried.0 }

abbrev pub repeated : {L : Type 0} → Kind L → Kind (Repeater L)
repeated k =
    record {
      carried = λ r q s. Sends k.carried r.below (q ∷ again q (line_reply (k.power r.below) q (table (k.stations r.below)))) s.below;
      power = λ r. k.power r.below;
      stations = λ r a. halved (k.stations r.below a);
      bottom = λ r. k.bottom r.below;
    }

power_through : (n : ℕ) (l : Meaning) → (seen_through n l).power ≡ l.power
power_through zero l = refl
power_through (suc n) l = refl

module _ {L : Type 0} (k : Kind L) (n : ℕ) (is : Above k n) where
  asked_again : (h : Heard) (l m : L) (q : Sent) → Sends k.carried l (q ∷ again q h) m → k.bottom m ≡ again_if h (left_by n q) (k.bottom l)
  asked_again (nibble v) l m q (x, first, last) = ap k.bottom last ∙ is.leaves l x q first
  asked_again silence l m q (x, first, last) = ap k.bottom last ∙ is.leaves l x q first
  asked_again disturbed l m q (x, first, (y, second, last)) = ap k.bottom last ∙ is.leaves x y q second ∙ ap (left_by n q) (is.leaves l x q first)

  pub repeated_is : Above (repeated k) (suc n)
  repeated_is = record { shows = shown; leaves = left }
    where
      power_is : (l : L) → k.power l ≡ (k.bottom l).power
      power_is l = ap (λ (x : Meaning). x.power) (is.shows l) ∙ power_through n (k.bottom l)

      shown : (r : Repeater L) → seen (repeated k) r ≡ seen_through (suc n) (k.bottom r.below)
      shown r =
          let l = r.below in
          let places : table (λ a. halved (k.stations l a)) ≡ map halved (seen_through n (k.bottom l)).places =
          sym (map-table halved (k.stations l)) ∙ ap (λ (x : Meaning). map halved x.places) (is.shows l) in
          ap (λ (p : Bool). record { power = p; places = table (λ a. halved (k.stations l a)) }) (power_is l)
          ∙ ap (λ (ps : List Place). record { power = (k.bottom l).power; places = ps }) places

      left : (r s : Repeater L) (q : Sent) → Sends k.carried r.below (q ∷ again q (line_reply (k.power r.below) q (table (k.stations r.below)))) s.below → k.bottom s.below ≡ left_by (suc n) q (k.bottom r.below)
      left r s q sends =
          let l = r.below in
          asked_again (line_reply (k.power l) q (table (k.stations l))) l s.below q sends
          ∙ ap (λ (p : Bool). again_if (line_reply p q (table (k.stations l))) (left_by n q) (k.bottom l)) (power_is l)
          ∙ ap (λ (x : Meaning). again_if (line_reply (k.bottom l).power q x.places) (left_by n q) (k.bottom l)) (is.shows l)

  all_left : (qs : List Sent) (l m : L) → Sends k.carried l qs m → k.bottom m ≡ left_by_all n qs (k.bottom l)
  all_left [] l m last = ap k.bottom last
  all_left (q ∷ qs) l m (x, first, rest) = all_left qs x m rest ∙ ap (left_by_all n qs) (is.leaves l x q first)

  -- a call that was performed on such a line was made through the repeaters
  pub through : (x : Call) (l l' : L) (m m' : MasterWith Queues) (y : Came) → Performed x (seen k l) m y (seen k l') m' → Sends k.carried l (sent_by (turn_of (seen k l) x) (state_of m)) l' → Through n x (k.bottom l) (state_of m) y (k.bottom l') (state_of m')
  through x l l' m m' y performed sends =
      let c : Master = state_of m in
      record {
        came_to = performed.made.came_to ∙ ap (λ (z : Meaning). comes_to (turn_of z x) c) (is.shows l);
        line_is = all_left (sent_by (turn_of (seen k l) x) c) l l' sends ∙ ap (λ (z : Meaning). left_by_all n (sent_by (turn_of z x) c) (k.bottom l)) (is.shows l);
        master_is = performed.made.leaves ∙ ap (λ (z : Meaning). turned (turn_of z x) c) (is.shows l);
      }
