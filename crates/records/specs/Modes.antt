-- Setting the mode: protected mode is refused with 8385 while address 0 is in LDS, and the mode then stays as it is.
-- A reader compares it with docs/RECORD.md.
use Rattle.std.specs.Prelude.{Bool, true, false, cond, List}
use Rattle.values.specs.Refusals.{Outcome, gives, refuses, accepts}
use Rattle.records.specs.Rows.{Row, row_at}
use Rattle.records.specs.declared.record.Mode.{Mode}
use Rattle.records.specs.declared.record.Mode.TheVariants.{Configuration, Protected}

abbrev pub in_configuration : Mode → Bool
in_configuration Configuration = true
in_configuration Protected = false

abbrev pub mode_outcome : Mode → List Row → Outcome (Unit {0})
mode_outcome Configuration rs = gives tt
mode_outcome Protected rs = cond (row_at 0 rs).detected (refuses 0x8385) (gives tt)

abbrev pub mode_after : Mode → Mode → List Row → Mode
mode_after wanted mode rs = cond (accepts (mode_outcome wanted rs)) wanted mode
