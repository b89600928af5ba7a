-- What a list of the first cycles shows: four cycles of a new master on the line that an image says, each followed by a reading of the lists. Nothing alters
-- the line in between.
-- What the eight calls come to is what a run of them comes to by the rules, and no more is said here. docs/IMAGES.md says how it is printed.
use Rattle.std.specs.Prelude.{ℕ, cond, List, [], ◌∷◌}
use Rattle.values.specs.Refusals.{Outcome, gives, refuses, refuses_for}
use Rattle.stations.specs.Images.{image_from, good_image, powered_in, place_at}
use Rattle.lines.specs.Lines.{meaning}
use Rattle.control.specs.Cycles.{new_master}
use Rattle.promise.specs.Outcomes.{Came}
use Rattle.runs.specs.Runs.{undisturbed}
use Rattle.runs.specs.declared.call.Call.{Call}
use Rattle.runs.specs.declared.call.Call.TheVariants.{Cycle, ReadLists}

abbrev pub script : List Call
script = Cycle ∷ ReadLists ∷ Cycle ∷ ReadLists ∷ Cycle ∷ ReadLists ∷ Cycle ∷ ReadLists ∷ []

abbrev pub listed_words : Outcome (List ℕ) → Outcome (List Came)
listed_words (gives ws) = cond (good_image ws) (gives (undisturbed script (meaning (powered_in ws) (place_at ws)) (new_master 0 0))) (refuses 0x8313)
listed_words (refuses_for n c) = refuses_for n c

-- another number of bytes, or words that are no good image, are refused with 8313
abbrev pub listed : List ℕ → Outcome (List Came)
listed bs = listed_words (image_from bs)
