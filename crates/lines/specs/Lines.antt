-- A line means its power, up or down, and the stations of the addresses 0 to 31.
-- A request changes at most the addressed station, by the rules of one station.
-- A reader compares them with docs/LINES.md; what one station does is `after` and `reply`, and no more is said here.
use Rattle.std.specs.Prelude.{ℕ, ◌/◌, Bool, List, slice_index_or, slice_set}
use Rattle.values.specs.Tables.{table}
use Rattle.telegrams.specs.Requests.{Sent, Heard, nibble, silence, disturbed}
use Rattle.stations.specs.Stations.{Place, vacant, occupied, with_disturbance, after, reply}

pub record Meaning : Type 0 where
  pub power : Bool
  pub places : List Place

abbrev pub meaning : Bool → (ℕ → Place) → Meaning
meaning power stations = record { power = power; places = table stations }

-- what is seen of a line of any kind: its power, and its stations
abbrev pub seen : {L : Type 0} → (L → Bool) → (L → ℕ → Place) → L → Meaning
seen power stations l = meaning (power l) (stations l)

abbrev pub at : List Place → ℕ → Place
at ps a = slice_index_or ps a vacant

abbrev pub line_after : Bool → Sent → List Place → List Place
line_after power q ps = slice_set ps q.to (after power (at ps q.to) q.asking)

abbrev pub line_reply : Bool → Sent → List Place → Heard
line_reply power q ps = reply power (at ps q.to) q.asking

-- what the request makes of a line
abbrev pub meaning_after : Sent → Meaning → Meaning
meaning_after q l = record l { places = line_after l.power q l.places }

-- Under a repeater every disturbance count is half, rounded down

abbrev pub halved : Place → Place
halved vacant = vacant
halved (occupied x) = occupied (with_disturbance (x.disturbance / 2) x)

-- A repeater passes a request down, and after a disturbed reply once more: what the line below is then, and what is heard last

abbrev pub repeated_after : Bool → Sent → List Place → Heard → List Place
repeated_after power q ps (nibble n) = ps
repeated_after power q ps silence = ps
repeated_after power q ps disturbed = line_after power q ps

abbrev pub repeated_reply : Bool → Sent → List Place → Heard → Heard
repeated_reply power q ps (nibble n) = nibble n
repeated_reply power q ps silence = silence
repeated_reply power q ps disturbed = line_reply power q ps
