-- The lines of the longest wait at an address: at first nothing stands on the line, then another module stands alone at the address, and from
-- plugging on a new module stands at every address. The succession that waits so long runs on them (`proofs/Sharp.antt`), and so does the
-- program `worst_case` at address 1. A reader compares them with docs/PROMISE.md, "97 is the least number that holds".
use Rattle.std.specs.Prelude.{ℕ, true, List, replicate, slice_set}
use Rattle.stations.specs.Stations.{State, Place, vacant, occupied, powered_up}
use Rattle.lines.specs.Lines.{Meaning}

-- a module as it comes, with this I/O code
abbrev pub fresh : ℕ → State
fresh k = powered_up k 1 9

abbrev pub all_vacant : List Place
all_vacant = replicate 32 vacant

abbrev pub former_alone : ℕ → List Place
former_alone b = slice_set all_vacant b (occupied (fresh 2))

abbrev pub all_new : List Place
all_new = replicate 32 (occupied (fresh 1))

abbrev pub with_power : List Place → Meaning
with_power ps = record { power = true; places = ps }
