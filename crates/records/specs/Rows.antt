-- The record as the rules speak of it: a row for each address, with its place in the three lists and its values.
-- Nothing here knows how the program stores them.
-- A reader compares the values of a new row, and what writing outputs and reading inputs come to, with docs/RECORD.md.
use Rattle.std.specs.Prelude.{ℕ, ◌-◌, Bool, false, cond, not, ◌&&◌, List, ◌==◌, nat_lt, slice_index_or, slice_set}
use Rattle.values.specs.Refusals.{Outcome, gives, refuses, accepts}
use Rattle.values.specs.Tables.{table}
use Rattle.std.specs.List.{list_all}

-- an I/O code and an ID code
pub record Pair : Type 0 where
  pub io : ℕ
  pub id : ℕ

pub record Row : Type 0 where
  pub detected : Bool
  pub active : Bool
  pub projected : Bool
  pub cdi : Pair
  pub pcd : Pair
  pub pi : ℕ
  pub pp : ℕ
  pub idi : ℕ
  pub odi : ℕ
  pub misses : ℕ

abbrev pub no_codes : Pair
no_codes = record { io = 15; id = 15 }

-- a new master: no address is in a list, pairs are 15/15, PI, PP and ODI 15, IDI and misses 0
abbrev pub new_row : Row
new_row =
    record {
      detected = false;
      active = false;
      projected = false;
      cdi = no_codes;
      pcd = no_codes;
      pi = 15;
      pp = 15;
      idi = 0;
      odi = 15;
      misses = 0;
    }

abbrev pub new_rows : List Row
new_rows = table (λ a. new_row)

abbrev pub row_at : ℕ → List Row → Row
row_at a rs = slice_index_or rs a new_row

-- Writing outputs: what the controller gives is stored inverted, 15 less the nibble

abbrev pub with_odi : ℕ → Row → Row
with_odi n r = record r { odi = n }

abbrev pub is_module_address : ℕ → Bool
is_module_address a = nat_lt 0 a && nat_lt a 32

abbrev pub outputs_outcome : ℕ → ℕ → Outcome (Unit {0})
outputs_outcome a n = cond (is_module_address a) (cond (nat_lt n 16) (gives tt) (refuses 0x8310)) (refuses 0x8381)

abbrev pub outputs_after : ℕ → ℕ → List Row → List Row
outputs_after a n rs = cond (accepts (outputs_outcome a n)) (slice_set rs a (with_odi (15 - n) (row_at a rs))) rs

-- Reading inputs

abbrev pub inputs_outcome : ℕ → List Row → Outcome ℕ
inputs_outcome a rs = cond (is_module_address a) (gives (row_at a rs).idi) (refuses 0x8381)

-- Config_OK: 0 is not in LDS, and every address is in both LDS and LPS with CDI equal to PCD, or in neither

abbrev pub same_codes : Pair → Pair → Bool
same_codes p q = p.io == q.io && p.id == q.id

-- an address in both lists with the same codes, or in neither
abbrev pub agreeing : Row → Bool
agreeing r = cond r.detected (r.projected && same_codes r.cdi r.pcd) (not r.projected)

abbrev pub config_ok : List Row → Bool
config_ok rs = not (row_at 0 rs).detected && list_all agreeing rs
