-- How many requests some cycles send that follow one another on a line that nobody else touches. What one cycle sends is said by the crate `control`;
-- here it is only added up, modulo 2^32 as the number is given.
-- A reader compares `counted` with docs/COMPARE.md.
use Rattle.std.specs.Prelude.{ℕ, zero, suc, ◌+◌, ◌%◌, cond, List, length}
use Rattle.stations.specs.Images.{good_image, powered_in, place_at}
use Rattle.lines.specs.Lines.{Meaning, meaning}
use Rattle.control.specs.Cycles.{Master, new_master}
use Rattle.promise.specs.Successions.{Met}
use Rattle.promise.specs.Waiting.{done}

-- what the cycle behind the first n meets
unfoldable pub met_after : ℕ → Master → Meaning → Met
met_after zero c l = record { master = c; line = l }
met_after (suc n) c l = record { master = (done (met_after n c l)).master; line = (done (met_after n c l)).line }

unfoldable pub requests_in : ℕ → Master → Meaning → ℕ
requests_in zero c l = 0
requests_in (suc n) c l = requests_in n c l + length (done (met_after n c l)).sent

-- n cycles of a new master on the bench rack that an image says
abbrev pub counted : List ℕ → ℕ → ℕ
counted ws n = cond (good_image ws) (requests_in n (new_master 0 0) (meaning (powered_in ws) (place_at ws)) % 4294967296) 0x8313
