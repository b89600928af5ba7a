use Rattle.exports.proofs.Scripts.{ReadSoFar}
use Rattle.exports.proofs.script.read_edits.Given as goal

abbrev pub invariant-loop-count : goal.invariant-loop-count
invariant-loop-count l = ReadSoFar 4 l.script l.count l.edits l.rest
