use Rattle.stations.specs.Images.{powered_in, place_at}
use Rattle.lines.specs.Lines.{meaning}
use Rattle.racks.specs.Racks.{station_at}
use Rattle.control.specs.Cycles.{new_master}
use Rattle.master.specs.Masters.{state_of}
use Rattle.exports.proofs.Counting.{Counted}
use Rattle.exports.proofs.cycles.asi_cycles.Given as goal

abbrev pub invariant-loop-done : goal.invariant-loop-done
invariant-loop-done l =
    Counted (new_master 0 0) (meaning (powered_in l.words) (place_at l.words)) l._done (state_of l.master) (meaning l.bench.powered (station_at l.bench.stations)) l.sent
