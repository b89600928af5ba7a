-- What a reading of the lists shows: for each address whether it is in LDS, LAS and LPS, and the flags.
-- A reader compares the fields with "Reading lists" in docs/RECORD.md.
use Rattle.std.specs.Prelude.{◌≡◌, ℕ, ◌<◌}
use Rattle.lists.specs.Members.{has}
use Rattle.records.specs.Rows.{row_at, config_ok}
use Rattle.records.specs.Modes.{in_configuration}
use Rattle.records.specs.Records.{rows}
use Rattle.control.specs.Placing.{is_normal}
use Rattle.control.specs.declared.control.ExecutionControl.{ExecutionControl}
use Rattle.control.specs.declared.control.Listing.{Listing}

pub record Listed (m : ExecutionControl) (r : Listing) : Type 0 where
  pub detected : (a : ℕ) → a < 32 → has r.lds a ≡ (row_at a (rows m.table.rows)).detected
  pub active : (a : ℕ) → a < 32 → has r.las a ≡ (row_at a (rows m.table.rows)).active
  pub projected : (a : ℕ) → a < 32 → has r.lps a ≡ (row_at a (rows m.table.rows)).projected
  pub config_right : r.config_ok ≡ config_ok (rows m.table.rows)
  pub zero_detected : r.address_zero ≡ (row_at 0 (rows m.table.rows)).detected
  pub configuring : r.configuration_active ≡ in_configuration m.table.mode
  pub running : r.normal_operation_active ≡ is_normal m.phase
  pub power_failed : r.power_fail ≡ m.power_fail
  pub offline_requested : r.offline ≡ m.offline
