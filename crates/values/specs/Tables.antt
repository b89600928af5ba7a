-- A table has one entry for each address 0 to 31. Its entries are given by a function, so that a table is always 32 long.
-- Entry a is what the function gives for a: at_table in proofs/Tables.antt.
use Rattle.std.specs.Prelude.{ℕ, List, map}
use Rattle.std.specs.List.{range_with_len}

unfoldable pub table : {A : Type 0} → (ℕ → A) → List A
table f = map f (range_with_len 0 32)
