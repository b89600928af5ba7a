-- An edit that was made: what it came to, and what it changed. The mode is never an edit's to change.
-- Both relations join an outcome and the rows by the rules in Edits.antt, and add only that the mode stays.
use Rattle.std.specs.Prelude.{◌≡◌, Result}
use Rattle.values.specs.Refusals.{outcome}
use Rattle.values.specs.declared.refusal.Refusal.{Refusal}
use Rattle.records.specs.Records.{rows}
use Rattle.records.specs.Edits.{Edit, edit_outcome, edit_after}
use Rattle.records.specs.declared.projection.Projection.{Projection}
use Rattle.records.specs.declared.record.Record.{Record}

pub record EditedBy (e : Edit) (old : Record) (r : Result (Unit {0}) Refusal) (new : Record) : Type 0 where
  pub mode : new.mode ≡ old.mode
  pub came_to : outcome {A = Unit {0}} {B = Unit {0}} (λ u. u) r ≡ edit_outcome old.mode e
  pub rows_after : rows new.rows ≡ edit_after old.mode e (rows old.rows)

-- through a projection, which stays open on the same record
pub record EditedThrough (e : Edit) (old : Projection) (r : Result (Unit {0}) Refusal) (new : Projection) : Type 0 where
  pub edited : EditedBy e old.target.now r new.target.now
  pub former : new.former ≡ old.former
  pub lender : new.target.ghost_name ≡ old.target.ghost_name
