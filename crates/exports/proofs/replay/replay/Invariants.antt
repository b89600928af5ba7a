use Rattle.std.proofs.Common.{◌/◌, min, length}
use Rattle.control.specs.Cycles.{new_master}
use Rattle.master.specs.Masters.{state_of}
use Rattle.exports.specs.Replay.{repeaters_of}
use Rattle.exports.proofs.Replaying.{ReplayedSoFar}
use Rattle.exports.proofs.replay.replay.Given as goal

abbrev pub invariant-loop-made : goal.invariant-loop-made
invariant-loop-made l =
    ReplayedSoFar (repeaters_of l.kind) (length l.initial.log / 111) l.script l.initial.words l.initial.log (new_master (min l.order_room 8) (min l.answer_room 8))
    l.made l.log l.rest l.words (state_of l.master)
