-- A run on an image rack that nothing disturbs, said of the rack's words.
use Rattle.std.proofs.Common.{◌≡◌, ℕ, min, List, map, length, take, drop}
use Rattle.orders.specs.declared.pair.Queues.{Queues}
use Rattle.racks.specs.Racks.{line_in, CarriedInPlace}
use Rattle.racks.specs.declared.image_rack.ImageRack.{ImageRack}
use Rattle.racks.proofs.Lent.{words_kept, words_say}
use Rattle.promise.specs.Successions.{Turn}
use Rattle.promise.specs.Calls.{KeepsPromise}
use Rattle.promise.specs.InOrder.{InOrder}
use Rattle.master.specs.declared.master.MasterWith.{MasterWith}
use Rattle.master.specs.Masters.{state_of, SameSlices}
use Rattle.runs.specs.Outcomes.{came, Logged}
use Rattle.runs.specs.Runs.{Ran, sent_undisturbed, line_undisturbed}
use Rattle.runs.specs.Images.{RanOnImage}
use Rattle.runs.specs.declared.call.Call.{Call}
use Rattle.runs.proofs.Idling.{idle_run, Undisturbed}
use Rattle.runs.proofs.Running.{run_passes}

module _ {P : Type 0} (script : List Call) (log log' : List Logged) (made : ℕ) {ts : List Turn} {h h' : P} (i j : ImageRack) (m m' : MasterWith Queues)
    (ran : Ran (λ k. line_in k.words.now) (λ k q l. CarriedInPlace k.words q l.words) (λ (_ : P) met left _. left ≡ met) (take made script) ts (map came (take made log')) h i m h' j m')
  where
    idle : Undisturbed (λ k. line_in k.words.now) (λ k q l. CarriedInPlace k.words q l.words) (take made script) ts (map came (take made log')) i (state_of m) j (state_of m')
    idle = idle_run (λ k. line_in k.words.now) (λ k q l. CarriedInPlace k.words q l.words) ran

    pub same_words : j.words.ghost_name ≡ i.words.ghost_name
    same_words = words_kept i j (sent_undisturbed (take made script) (line_in i.words.now) (state_of m)) idle.sends

    pub ran_on_image : made ≡ min (length script) (length log) → drop made log' ≡ drop made log → KeepsPromise ts (state_of m) (state_of m') → InOrder (state_of m) ts (map came (take made log')) (state_of m') → SameSlices m.queues m'.queues → RanOnImage script i.words.now m log made j.words.now m' log'
    ran_on_image made_of rest keeps in_order slices =
        record {
          good = i.good;
          made_of = made_of;
          words_left = words_say j (line_undisturbed (take made script) (line_in i.words.now) (state_of m)) idle.left;
          master_left = idle.master_left;
          came_to = idle.came_to;
          rest = rest;
          succession = ts;
          turns = idle.turns;
          passed = run_passes (λ k. line_in k.words.now) (λ k q l. CarriedInPlace k.words q l.words) (λ (_ : P) met left _. left ≡ met) ran;
          keeps_promise = keeps;
          in_order = in_order;
          same_slices = slices;
        }
