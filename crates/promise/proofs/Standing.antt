-- What holds of a master all along a succession, and tells what a normal cycle sends: there are 32 rows, address 0 is not active, and the
-- orders that wait are a parameter's or a reset.
use Rattle.std.proofs.Common.{◌≡◌, ℕ, Bool, true, false, cond, List, [], ◌∷◌, length, set, ap, ◌∙◌, arith}
use Rattle.std.proofs.lemmas.List.{length-set}
use Rattle.values.specs.Refusals.{accepts}
use Rattle.values.proofs.Tables.{length-table}
use Rattle.lines.specs.Lines.{Meaning}
use Rattle.records.specs.Rows.{Row, row_at}
use Rattle.records.specs.Edits.{Edit, projecting, unprojecting, taking_over, edit_outcome, edited, edit_after, all_edited}
use Rattle.records.specs.declared.record.Mode.{Mode}
use Rattle.records.specs.declared.record.Mode.TheVariants.{Configuration}
use Rattle.control.specs.declared.control.Phase.{Phase}
use Rattle.control.specs.declared.control.Phase.TheVariants.{Offline, Detection, Activation, Normal}
use Rattle.control.specs.Cycles.{Master, new_control, new_master, beginning, everywhere, search_on, stay_offline, run, running, cycle}
use Rattle.promise.specs.Successions.{Call, placing, collecting, reading, writing, setting, editing, projecting_all, Turn, cycling, calling, called, turned, after}
use Rattle.promise.proofs.Families.{writes, sets}
use Rattle.promise.proofs.Moments.{Orderly}
use Rattle.promise.proofs.Soundness.{kept_after, kept_new}

abbrev pub Sized : List Row → Type 0
Sized rs = length rs ≡ 32

-- a cycle makes a new table of the rows
sized_cycle : (c : Master) (line : Meaning) → Sized (cycle c line).master.control.rows
unfolding cycle everywhere search_on stay_offline
sized_cycle c line = by (running c.control line)
  where
    by : (p : Phase) → Sized (run p (beginning c line)).master.control.rows
    by Offline = length-table _
    by Detection = length-table _
    by Activation = length-table _
    by Normal = length-table _

-- every other call makes one, sets a row or leaves them all

sized_cond : (t : Bool) (rs rs' : List Row) → Sized rs → Sized rs' → Sized (cond t rs rs')
sized_cond true rs rs' z z' = z
sized_cond false rs rs' z z' = z'

sized_set : (rs : List Row) (a : ℕ) (r : Row) → Sized rs → Sized (set rs a r)
sized_set rs a r z = length-set rs a r ∙ z

sized_edit : (mode : Mode) (e : Edit) (rs : List Row) → Sized rs → Sized (edit_after mode e rs)
sized_edit mode e rs z = sized_cond (accepts (edit_outcome mode e)) (edited e rs) rs (by e) z
  where
    by : (x : Edit) → Sized (edited x rs)
    by (projecting a io id pp) = sized_set rs a _ z
    by (unprojecting a) = sized_set rs a _ z
    by taking_over = length-table _

sized_edits : (es : List Edit) (rs : List Row) → Sized rs → Sized (all_edited Configuration es rs)
sized_edits [] rs z = z
sized_edits (e ∷ es) rs z = sized_edits es (edit_after Configuration e rs) (sized_edit Configuration e rs z)

sized_call : (k : Call) (c : Master) → Sized c.control.rows → Sized (called k c).control.rows
sized_call (placing w) c z = z
sized_call collecting c z = z
sized_call (reading r) c z = z
sized_call (writing w) c z = (writes w c.control.rows).sized z
sized_call (setting s) c z = ap length (sets s c.control).rows_are ∙ z
sized_call (editing e) c z = sized_edit c.control.mode e c.control.rows z
sized_call (projecting_all es) c z = sized_edits es c.control.rows z

sized_after : (p : List Turn) (c : Master) → Sized c.control.rows → Sized (after p c).control.rows
sized_after [] c z = z
sized_after (cycling line ∷ p) c z = sized_after p (turned (cycling line) c) (sized_cycle c line)
sized_after (calling k ∷ p) c z = sized_after p (turned (calling k) c) (sized_call k c z)

pub record Standing (c : Master) : Type 0 where
  pub sized : Sized c.control.rows
  pub zero_idle : (row_at 0 c.control.rows).active ≡ false
  pub orderly : Orderly c.orders

pub stands : (order_room answer_room : ℕ) (p : List Turn) → Standing (after p (new_master order_room answer_room))
unfolding new_control
stands order_room answer_room p =
    let new : Master = new_master order_room answer_room in
    let kept = kept_after 0 (omega arith) p new (kept_new 0 (omega arith) order_room answer_room) in
    record { sized = sized_after p new (length-table _); zero_idle = kept.1; orderly = kept.2 }
