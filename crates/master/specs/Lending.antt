-- What an opened projection borrows of a master: its plain record alone. When it ends, the master is as it was but for the record, which is as the
-- projection leaves it.
use Rattle.std.specs.Borrow.{follows, RattleType, MutBor, Fml}
use Rattle.records.specs.declared.projection.Projection.{Projection}
use Rattle.records.specs.contracts.record.Record as record_rows
use Rattle.master.specs.declared.master.MasterWith.{MasterWith}
use Rattle.master.specs.contracts.master.MasterWith as master_rows

abbrev pub LendsProjected : (Q : RattleType) → MutBor (MasterWith Q.Denot) → Projection → Fml
LendsProjected Q m p =
    follows (master_rows.the_row Q) record_rows.the_row m.ghost_name p.target.ghost_name (λ r. record m.now { control = record m.now.control { table = r } })
