use Rattle.values.proofs.Filling.{FilledBelow}
use Rattle.records.specs.Rows.{new_row, row_at}
use Rattle.records.specs.Records.{rows}
use Rattle.records.specs.Edits.{taken_over}
use Rattle.records.proofs.rows.Rows.take_over.Given as goal

abbrev pub invariant-loop-a : goal.invariant-loop-a
invariant-loop-a l =
    FilledBelow (λ k. taken_over k (row_at k (rows l.initial.self))) (rows l.initial.self) new_row l.a (rows l.self)
