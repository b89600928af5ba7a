-- Edits of the projected configuration: what each does to the rows, and when it is refused.
-- An edit asks for configuration mode; an opened projection is in that mode. The first refusal that applies is returned, and
-- nothing changes then.
-- A reader compares them with the list of edits in docs/RECORD.md.
use Rattle.std.specs.Prelude.{ℕ, ◌+◌, Bool, true, false, cond, ◌&&◌, List, [], ◌∷◌, ◌==◌, nat_lt, slice_set}
use Rattle.values.specs.Refusals.{Outcome, gives, refuses, accepts}
use Rattle.values.specs.Tables.{table}
use Rattle.records.specs.Rows.{Pair, Row, no_codes, row_at, is_module_address}
use Rattle.records.specs.Modes.{in_configuration}
use Rattle.records.specs.declared.edit.Edit.{Edit as Made}
use Rattle.records.specs.declared.edit.Edit.TheVariants.{Project, Unproject, TakeOver}
use Rattle.records.specs.declared.record.Mode.{Mode}

pub data Edit : Type 0 where
  -- an address, its I/O and ID code, and its permanent parameter
  projecting : ℕ → ℕ → ℕ → ℕ → Edit
  unprojecting : ℕ → Edit
  taking_over : Edit

-- what an edit of the program asks for
abbrev pub change_of : Made → Edit
change_of (Project a io id pp) = projecting a io id pp
change_of (Unproject a) = unprojecting a
change_of TakeOver = taking_over

-- Refusals

abbrev pub by_mode : Mode → Outcome (Unit {0})
by_mode mode = cond (in_configuration mode) (gives tt) (refuses 0x8384)

abbrev pub edit_outcome : Mode → Edit → Outcome (Unit {0})
edit_outcome mode (projecting a io id pp) =
    cond (is_module_address a) (cond (nat_lt io 16 && (nat_lt id 16 && nat_lt pp 16)) (by_mode mode) (refuses 0x8310)) (refuses 0x8381)
edit_outcome mode (unprojecting a) = cond (is_module_address a) (by_mode mode) (refuses 0x8381)
edit_outcome mode taking_over = by_mode mode

-- What an edit does

-- whether the address is projected, with which codes, and with which permanent parameter
abbrev pub planned : Bool → Pair → ℕ → Row → Row
planned projected codes pp r = record r { projected = projected; pcd = codes; pp = pp }

abbrev pub copied : Row → Row
copied r = planned r.detected r.cdi r.pi r

-- each address but 0 is in LPS just where it is in LDS; its PCD becomes its CDI, its PP its PI
abbrev pub taken_over : ℕ → Row → Row
taken_over a r = cond (a == 0) r (copied r)

abbrev pub edited : Edit → List Row → List Row
edited (projecting a io id pp) rs = slice_set rs a (planned true (record { io = io; id = id }) pp (row_at a rs))
edited (unprojecting a) rs = slice_set rs a (planned false no_codes 15 (row_at a rs))
edited taking_over rs = table (λ a. taken_over a (row_at a rs))

abbrev pub edit_after : Mode → Edit → List Row → List Row
edit_after mode e rs = cond (accepts (edit_outcome mode e)) (edited e rs) rs

-- Edits in this mode, one after another: what they do, and how many of them are accepted

abbrev pub all_edited : Mode → List Edit → List Row → List Row
all_edited mode [] rs = rs
all_edited mode (e ∷ es) rs = all_edited mode es (edit_after mode e rs)

abbrev pub accepted_edits : Mode → List Edit → ℕ
accepted_edits mode [] = 0
accepted_edits mode (e ∷ es) = cond (accepts (edit_outcome mode e)) 1 0 + accepted_edits mode es
