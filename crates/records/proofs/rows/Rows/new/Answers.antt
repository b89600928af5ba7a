use Rattle.std.proofs.Common.{◌≡◌, false}
use Rattle.records.specs.Rows.{new_row}
use Rattle.records.specs.Records.{row_of}
use Rattle.records.specs.declared.entry.Entry.{Entry}
use Rattle.records.proofs.Written.{new_rows_are}
use Rattle.records.proofs.rows.Rows.new.Goals as goal

pub returns : goal.returns
returns c =
    let full = c.low-full.result in
    let entry : Entry = record { cdi = c.none.result; pcd = c.none-2.result; pi = full; pp = full; idi = c.low.result; odi = full; misses = 0 } in
    let fifteen = c.low-full.ensures in
    let nothing = c.low.ensures in
    let cdi = c.none.ensures in
    let pcd = c.none-2.ensures in
    let is : row_of false false false entry ≡ new_row = cc in
    new_rows_are entry c.new.result.lds c.new.result.las is c.new.ensures.lds c.new.ensures.las
