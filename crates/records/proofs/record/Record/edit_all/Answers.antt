use Rattle.std.proofs.Common.{◌≡◌, ℕ, ◌<◌, List, map, length, take, ap, ◌∙◌, arith}
use Rattle.std.proofs.lemmas.List.{take_all}
use Rattle.values.specs.Refusals.{outcome}
use Rattle.records.specs.Records.{rows}
use Rattle.records.specs.Edits.{change_of, all_edited, accepted_edits}
use Rattle.records.specs.declared.edit.Edit.{Edit}
use Rattle.records.specs.declared.record.Mode.{Mode}
use mir.Val.{bool_byte}
use Rattle.records.proofs.Edited.{edited_more, at_most_one, counted, accepted_more}
use Rattle.records.proofs.record.Record.edit_all.Goals as goal

pub loop-edit-preserved : goal.loop-edit-preserved
loop-edit-preserved c =
    let i : ℕ = c.loop-edit.edit-index in
    let es : List Edit = c.args.edits.now in
    let mode : Mode = c.args.self.now.mode in
    let inv = c.loop-edit.invariant in
    let made = c.edit.ensures in
    let inside : i < length es = c.loop-edit-test.true in (
      made.mode ∙ inv.0,
      edited_more mode es i _ inside c.loop-edit.self.mode inv.0 _ _ _ inv.1 made.rows_after,
      accepted_more mode es i _ inside c.loop-edit.self.mode inv.0 _ _ (outcome (λ u. u) c.edit.result) inv.2 made.came_to (c.from-accepted.ensures ∙ ap bool_byte c.is_ok.ensures.value ∙ counted c.edit.result),
      omega (arith, inv.3, c.from-accepted.ensures, at_most_one c.is_ok.result),
    )

pub returns : goal.returns
returns c =
    let es : List Edit = c.args.edits.now in
    let inv = c.loop-edit.invariant in
    let mode : Mode = c.args.self.now.mode in
    let all : take c.loop-edit.edit-index es ≡ es = take_all c.loop-edit.edit-index es c.loop-edit-test.false in
    record {
      mode = inv.0;
      accepted = inv.2 ∙ ap (λ (xs : List Edit). accepted_edits mode (map change_of xs)) all;
      rows = inv.1 ∙ ap (λ (xs : List Edit). all_edited mode (map change_of xs) (rows c.args.self.now.rows)) all;
    }
