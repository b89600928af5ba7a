-- No call but the cycle changes what matters to an address.
use Rattle.std.proofs.Common.{◌≡◌, ℕ, ◌<◌, Bool, true, false, cond, eqb, List, [], ◌∷◌, refl, ap, ◌∙◌}
use Rattle.values.specs.Refusals.{accepts}
use Rattle.values.proofs.Tables.{at_table}
use Rattle.records.specs.Rows.{Row, row_at, new_row, no_codes}
use Rattle.records.specs.Edits.{Edit, projecting, unprojecting, taking_over, planned, copied, taken_over, edited, edit_outcome, edit_after, all_edited}
use Rattle.records.specs.declared.record.Mode.{Mode}
use Rattle.records.specs.declared.record.Mode.TheVariants.{Configuration}
use Rattle.search.specs.Steps.{Stage}
use Rattle.control.specs.declared.control.Phase.{Phase}
use Rattle.control.specs.Cycles.{Master}
use Rattle.promise.specs.Successions.{Call, called}
use Rattle.promise.specs.Successions.{placing, collecting, reading, writing, setting, editing, projecting_all}
use Rattle.promise.proofs.Families.{set_keeps, writes, sets}
use Rattle.promise.proofs.Within.{View, view, view_of}

module _ (b : ℕ) (h : b < 32) (phase : Phase) (step : Stage) where
  abbrev seen : List Row → View
  seen rs = view_of phase step (row_at b rs)

  seen-cond : (t : Bool) (rs rs' : List Row) → seen rs' ≡ seen rs → seen (cond t rs' rs) ≡ seen rs
  seen-cond true rs rs' e = e
  seen-cond false rs rs' e = refl

  seen_edited : (e : Edit) (rs : List Row) → seen (edited e rs) ≡ seen rs
  seen_edited (projecting a io id pp) rs =
      set_keeps (view_of phase step) rs a b (planned true (record { io = io; id = id }) pp (row_at a rs)) refl
  seen_edited (unprojecting a) rs = set_keeps (view_of phase step) rs a b (planned false no_codes 15 (row_at a rs)) refl
  seen_edited taking_over rs =
      ap (view_of phase step) (at_table (λ a. taken_over a (row_at a rs)) b new_row h)
      ∙ elim (eqb b 0) as (λ t. view_of phase step (cond t (row_at b rs) (copied (row_at b rs))) ≡ seen rs) [ true ↦ refl | false ↦ refl ]

  seen_edit : (mode : Mode) (e : Edit) (rs : List Row) → seen (edit_after mode e rs) ≡ seen rs
  seen_edit mode e rs = seen-cond (accepts (edit_outcome mode e)) rs (edited e rs) (seen_edited e rs)

  seen_edits : (es : List Edit) (rs : List Row) → seen (all_edited Configuration es rs) ≡ seen rs
  seen_edits [] rs = refl
  seen_edits (e ∷ es) rs = seen_edits es (edit_after Configuration e rs) ∙ seen_edit Configuration e rs

pub keeps_call : (b : ℕ) → b < 32 → (k : Call) (c : Master) → view b (called k c).control ≡ view b c.control
keeps_call b h (placing w) c = refl
keeps_call b h collecting c = refl
keeps_call b h (reading r) c = refl
keeps_call b h (writing w) c = ap (view_of c.control.phase c.control.step) ((writes w c.control.rows).but_odi b h)
keeps_call b h (setting s) c =
    let z = sets s c.control in
    let phase = z.phase_is in
    let step = z.step_is in
    let row = ap (row_at b) z.rows_are in
    cc
keeps_call b h (editing e) c = seen_edit b h c.control.phase c.control.step c.control.mode e c.control.rows
keeps_call b h (projecting_all es) c = seen_edits b h c.control.phase c.control.step es c.control.rows
