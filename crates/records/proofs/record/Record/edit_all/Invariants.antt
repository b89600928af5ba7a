use Rattle.std.proofs.Common.{◌≡◌, ◌≤◌, map, take}
use Rattle.records.specs.Records.{rows}
use Rattle.records.specs.Edits.{change_of, all_edited, accepted_edits}
use Rattle.records.proofs.record.Record.edit_all.Given as goal

abbrev pub invariant-loop-edit : goal.invariant-loop-edit
invariant-loop-edit l =
    (l.self.mode ≡ l.initial.self.mode)
    × (rows l.self.rows ≡ all_edited l.initial.self.mode (map change_of (take l.edit-index l.edits)) (rows l.initial.self.rows))
    × (l.accepted ≡ accepted_edits l.initial.self.mode (map change_of (take l.edit-index l.edits)))
    × (l.accepted ≤ l.edit-index)
