-- A script that is replayed on a new master: which words are logged, how many calls are made, and which words say the line afterwards.
-- The calls come to what the crate `runs` says, and leave master and line so. What the line is opened from and written into is an image; of what
-- stands between, a repeater shows half of every disturbance count, so the line that a call meets and the rack at the bottom are two things.
-- A reader compares `step` and `replayed` with docs/COMPARE.md, and `left_by` with the repeater in docs/LINES.md.
use Rattle.std.specs.Prelude.{◌≡◌, ℕ, zero, suc, ◌+◌, ◌/◌, ◌<◌, ◌≤◌, min, true, cond, List, [], ◌∷◌, ◌++◌, map, length, drop, nat_lt, slice_set}
use Rattle.telegrams.specs.Requests.{Sent, Heard, nibble, silence, disturbed}
use Rattle.stations.specs.Images.{good_image}
use Rattle.lines.specs.Lines.{Meaning, meaning_after, line_reply, halved}
use Rattle.racks.specs.Racks.{line_in, image_saying}
use Rattle.control.specs.Cycles.{Master, new_master}
use Rattle.promise.specs.Successions.{turned}
use Rattle.promise.specs.Outcomes.{Came, comes_to, sent_by}
use Rattle.runs.specs.Outcomes.{turn_of}
use Rattle.runs.specs.declared.call.Call.{Call}
use Rattle.exports.specs.declared.on_line.LineKind.{LineKind}
use Rattle.exports.specs.declared.on_line.LineKind.TheVariants.{Bench, Image}
use Rattle.exports.specs.declared.script.Entry.{Entry}
use Rattle.exports.specs.Scripts.{entry_in, edits_of, turn_by}
use Rattle.exports.specs.Logging.{logged}

-- The line

-- the words after the line was altered: where the image stays good with that
abbrev pub altered_to : List ℕ → List ℕ → List ℕ
altered_to ws' ws = cond (good_image ws') ws' ws

abbrev pub altered : Entry → List ℕ → List ℕ
altered e ws = altered_to (slice_set ws e.place e.word) ws

-- how many repeaters stand above the words: an image rack stands on them as it is
abbrev pub repeaters_of : LineKind → ℕ
repeaters_of (Bench n) = min n 3
repeaters_of Image = 0

-- what is seen of a line through so many repeaters
abbrev pub seen_through : ℕ → Meaning → Meaning
seen_through zero l = l
seen_through (suc n) l = record { power = l.power; places = map halved (seen_through n l).places }

-- what is sent down once, and once more where the reply is disturbed
abbrev pub again_if : Heard → (Meaning → Meaning) → Meaning → Meaning
again_if (nibble n) once l = once l
again_if silence once l = once l
again_if disturbed once l = once (once l)

-- what a request leaves of the line below so many repeaters: each sends it down, and once more where the first reply is disturbed
abbrev pub left_by : ℕ → Sent → Meaning → Meaning
left_by zero q l = meaning_after q l
left_by (suc n) q l = again_if (line_reply l.power q (seen_through n l).places) (left_by n q) l

-- the same of requests one after another
abbrev pub left_by_all : ℕ → List Sent → Meaning → Meaning
left_by_all n [] l = l
left_by_all n (q ∷ qs) l = left_by_all n qs (left_by n q l)

-- Call x was made through n repeaters: it came to y, and left the line below them and the master so
pub record Through (n : ℕ) (x : Call) (l : Meaning) (m : Master) (y : Came) (l' : Meaning) (m' : Master) : Type 0 where
  pub came_to : y ≡ comes_to (turn_of (seen_through n l) x) m
  pub line_is : l' ≡ left_by_all n (sent_by (turn_of (seen_through n l) x) m) l
  pub master_is : m' ≡ turned (turn_of (seen_through n l) x) m

-- One call

-- what is logged of it, what is behind it in the script, the words that say the line, and the master
pub record Step : Type 0 where
  pub logged : List ℕ
  pub rest : List ℕ
  pub words : List ℕ
  pub master : Master

-- the next call of a script: the line is altered, the call is made through n repeaters, and logged
abbrev pub step : ℕ → List ℕ → List ℕ → Master → Step
step n script ws m =
    let entry = entry_in script in
    let read = edits_of entry (drop 8 script) in
    let line = line_in (altered entry ws) in
    let turn = turn_by entry read.edits (seen_through n line) in
    let words = image_saying (left_by_all n (sent_by turn m) line) in
    record { logged = logged (comes_to turn m) (turned turn m) words; rest = read.rest; words = words; master = turned turn m }

-- no call is left, and neither the words nor the place in the log was changed
pub record NoNext (script ws log ws' log' : List ℕ) : Type 0 where
  pub short : length script < 8
  pub words : ws' ≡ ws
  pub place : log' ≡ log

-- it was made so
pub record Next (n : ℕ) (script ws : List ℕ) (m : Master) (logged rest ws' : List ℕ) (m' : Master) : Type 0 where
  pub enough : 8 ≤ length script
  pub is : record { logged = logged; rest = rest; words = ws'; master = m' } ≡ step n script ws m
  pub good : good_image ws' ≡ true

-- A whole replay

-- how many calls were made, all that was logged, and the words that say the line afterwards
pub record Replay : Type 0 where
  pub made : ℕ
  pub log : List ℕ
  pub words : List ℕ

abbrev pub nothing_made : List ℕ → Replay
nothing_made ws = record { made = 0; log = []; words = ws }

abbrev pub first_made : List ℕ → Replay → Replay
first_made ws r = record r { made = r.made + 1; log = ws ++ r.log }

-- at most k calls, one after another
unfoldable pub replayed : ℕ → ℕ → List ℕ → List ℕ → Master → Replay
replayed n zero script ws m = nothing_made ws
replayed n (suc k) script ws m =
    let s = step n script ws m in
    cond (nat_lt (length script) 8) (nothing_made ws) (first_made s.logged (replayed n k s.rest s.words s.master))

-- on a new master, below n repeaters, where the words are a good image, with as many calls as have places in a log
abbrev pub replay : ℕ → ℕ → ℕ → List ℕ → List ℕ → ℕ → Replay
replay n order_room answer_room ws script log_room =
    cond (good_image ws) (replayed n (log_room / 111) script ws (new_master (min order_room 8) (min answer_room 8))) (nothing_made ws)

-- a replay was made: so many calls, the words, and the log, of which nothing is written behind what was logged
pub record Replayed (r : Replay) (log : List ℕ) (made : ℕ) (words' log' : List ℕ) : Type 0 where
  pub calls : made ≡ r.made
  pub words : words' ≡ r.words
  pub logged : log' ≡ r.log ++ drop (length r.log) log
