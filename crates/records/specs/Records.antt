-- What the program's rows mean: bit a of each word of a list, and entry a, are the row of address a.
-- Everything that the contracts say of rows is said through this one function.
use Rattle.std.specs.Prelude.{ℕ, Bool, true, false, List, map, slice_index_or}
use Rattle.values.specs.Tables.{table}
use Rattle.lists.specs.Members.{has}
use Rattle.records.specs.Rows.{Pair, Row, new_row}
use Rattle.records.specs.declared.entry.Codes.{Codes}
use Rattle.records.specs.declared.entry.Entry.{Entry}
use Rattle.records.specs.declared.rows.Rows.{Rows}

abbrev pub pair_of : Codes → Pair
pair_of c = record { io = c.io.value; id = c.id.value }

-- a row, from its place in the three lists and its entry
abbrev pub row_of : Bool → Bool → Bool → Entry → Row
row_of detected active projected e =
    record {
      detected = detected;
      active = active;
      projected = projected;
      cdi = pair_of e.cdi;
      pcd = pair_of e.pcd;
      pi = e.pi.value;
      pp = e.pp.value;
      idi = e.idi.value;
      odi = e.odi.value;
      misses = e.misses;
    }

-- a row with the values of an entry, as the lists have it
abbrev pub with_entry : Entry → Row → Row
with_entry e r = row_of r.detected r.active r.projected e

-- the same where the address is put into LDS, into LAS and LDS, and taken out of both

abbrev pub detected_with : Entry → Row → Row
detected_with e r = row_of true r.active r.projected e

abbrev pub activated_with : Entry → Row → Row
activated_with e r = row_of true true r.projected e

abbrev pub forgotten_with : Entry → Row → Row
forgotten_with e r = row_of false false r.projected e

abbrev pub listed : Bool → Bool → Bool → Row → Row
listed detected active projected r = record r { detected = detected; active = active; projected = projected }

abbrev pub row_in : ℕ → ℕ → ℕ → List Entry → ℕ → Row
row_in lds las lps es a = listed (has lds a) (has las a) (has lps a) (slice_index_or (map (row_of false false false) es) a new_row)

abbrev pub rows : Rows → List Row
rows r = table (row_in r.lists.lds r.lists.las r.lps r.entries)
