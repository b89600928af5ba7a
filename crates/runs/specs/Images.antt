-- A run on an image rack over the caller's words, said of words, master and log alone. Nothing alters the line between the calls.
-- Words that are no good image are refused, and all three then stay as they were. Else the words afterwards are the image of the line that the
-- calls leave. So a run that spoils what it refuses, or that runs on a copy and does not give it back, cannot be shown.
use Rattle.std.specs.Prelude.{◌≡◌, ℕ, true, false, min, List, map, length, take, drop, Ok, Err, Result}
use Rattle.values.specs.Refusals.{numbered}
use Rattle.values.specs.declared.refusal.Refusal.{Refusal}
use Rattle.stations.specs.Images.{good_image}
use Rattle.racks.specs.Racks.{line_in, image_saying}
use Rattle.orders.specs.declared.pair.Queues.{Queues}
use Rattle.promise.specs.Successions.{Turn}
use Rattle.promise.specs.Calls.{KeepsPromise}
use Rattle.promise.specs.InOrder.{InOrder}
use Rattle.master.specs.declared.master.MasterWith.{MasterWith}
use Rattle.master.specs.Masters.{state_of, SameSlices}
use Rattle.runs.specs.Outcomes.{came, Logged}
use Rattle.runs.specs.Runs.{turns_undisturbed, undisturbed, line_undisturbed, master_undisturbed, Passed}
use Rattle.runs.specs.declared.call.Call.{Call}

-- so many calls were made on a good image, from the first master, words and log to the second ones
pub record RanOnImage
    (script : List Call) (ws : List ℕ) (m : MasterWith Queues) (log : List Logged) (made : ℕ) (ws' : List ℕ) (m' : MasterWith Queues) (log' : List Logged)
    : Type 0
  where
    pub good : good_image ws ≡ true
    pub made_of : made ≡ min (length script) (length log)
    pub words_left : ws' ≡ image_saying (line_undisturbed (take made script) (line_in ws) (state_of m))
    pub master_left : state_of m' ≡ master_undisturbed (take made script) (line_in ws) (state_of m)
    pub came_to : map came (take made log') ≡ undisturbed (take made script) (line_in ws) (state_of m)
    pub rest : drop made log' ≡ drop made log
    -- which succession it was, what each call left of master, queues and slices, the promise, and the orders on the log, as a run says them
    pub succession : List Turn
    pub turns : succession ≡ turns_undisturbed (take made script) (line_in ws) (state_of m)
    pub passed : Passed succession (map came (take made log')) m m'
    pub keeps_promise : KeepsPromise succession (state_of m) (state_of m')
    pub in_order : InOrder (state_of m) succession (map came (take made log')) (state_of m')
    pub same_slices : SameSlices m.queues m'.queues

pub record RefusedImage
    (ws : List ℕ) (m : MasterWith Queues) (log : List Logged) (e : Refusal) (ws' : List ℕ) (m' : MasterWith Queues) (log' : List Logged) : Type 0
  where
    pub bad : good_image ws ≡ false
    pub words_stay : ws' ≡ ws
    pub master_stays : m' ≡ m
    pub log_stays : log' ≡ log
    pub number : numbered e ≡ 0x8313

abbrev pub TriedOnImage : List Call → List ℕ → MasterWith Queues → List Logged → Result ℕ Refusal → List ℕ → MasterWith Queues → List Logged → Type 0
TriedOnImage script ws m log (Ok made) ws' m' log' = RanOnImage script ws m log made ws' m' log'
TriedOnImage script ws m log (Err e) ws' m' log' = RefusedImage ws m log e ws' m' log'
