-- The letters by which phases are listed. A reader compares them with docs/IMAGES.md.
use Rattle.std.specs.Prelude.{ℕ}
use Rattle.control.specs.declared.control.Phase.{Phase}
use Rattle.control.specs.declared.control.Phase.TheVariants.{Offline, Detection, Activation, Normal}

-- the first letter of its name, by its code: O, D, A or N
abbrev pub first_letter : Phase → ℕ
first_letter Offline = 0x4F
first_letter Detection = 0x44
first_letter Activation = 0x41
first_letter Normal = 0x4E
