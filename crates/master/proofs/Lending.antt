-- Edits through a projection that a master lends, as one call of a succession.
use Rattle.std.proofs.Common.{◌≡◌, List, [], ◌∷◌}
use Rattle.records.specs.Records.{rows}
use Rattle.records.specs.Edits.{Edit, all_edited}
use Rattle.records.specs.declared.record.Mode.TheVariants.{Configuration}
use Rattle.records.specs.declared.record.Record.{Record}
use Rattle.orders.specs.declared.pair.Queues.{Queues}
use Rattle.promise.specs.Successions.{projecting_all, calling}
use Rattle.promise.specs.Calls.{KeepsPromise}
use Rattle.promise.proofs.Made.{keeps_promise}
use Rattle.master.specs.declared.master.MasterWith.{MasterWith}
use Rattle.master.specs.Masters.{state_of}

-- a projection that these edits were made through leaves such a record, with the former mode
pub projected_keeps : (m : MasterWith Queues) (es : List Edit) (r : Record) → r.mode ≡ m.control.table.mode → rows r.rows ≡ all_edited Configuration es (rows m.control.table.rows) → KeepsPromise (calling (projecting_all es) ∷ []) (state_of m) (state_of (record m { control = record m.control { table = r } }))
projected_keeps m es r mode edited = keeps_promise (calling (projecting_all es) ∷ []) _ _ cc
