-- What reading the lists shows is what the rules list.
use Rattle.std.proofs.Common.{◌≡◌, Bool, false, List}
use Rattle.values.proofs.Tables.{same_table}
use Rattle.lists.specs.Members.{has}
use Rattle.records.specs.Rows.{row_at}
use Rattle.control.specs.Listings.{Listed}
use Rattle.control.specs.Cycles.{control_of}
use Rattle.control.specs.declared.control.Listing.{Listing}
use Rattle.control.specs.declared.control.ExecutionControl.{ExecutionControl}
use Rattle.promise.specs.Outcomes.{Shown, lists_of}
use Rattle.master.specs.Masters.{shown}

-- readings are the same where each list and each flag is
module _ (lds lds' las las' lps lps' : List Bool) (ok ok' zero zero' configuration configuration' normal normal' fail fail' offline offline' : Bool) where
  abbrev one : Shown
  one = record { lds = lds; las = las; lps = lps; config_ok = ok; address_zero = zero; configuration_active = configuration; normal_operation_active = normal; power_fail = fail; offline = offline }

  abbrev other : Shown
  other = record { lds = lds'; las = las'; lps = lps'; config_ok = ok'; address_zero = zero'; configuration_active = configuration'; normal_operation_active = normal'; power_fail = fail'; offline = offline' }

  same_shown : lds ≡ lds' → las ≡ las' → lps ≡ lps' → ok ≡ ok' → zero ≡ zero' → configuration ≡ configuration' → normal ≡ normal' → fail ≡ fail' → offline ≡ offline' → one ≡ other
  same_shown e₁ e₂ e₃ e₄ e₅ e₆ e₇ e₈ e₉ = cc

pub shown_so : (m : ExecutionControl) (r : Listing) → Listed m r → shown r ≡ lists_of (control_of m)
shown_so m r listed =
    same_shown _ _ _ _ _ _ _ _ _ _ _ _ _ _ _ _ _ _
    (same_table (has r.lds) (λ a. (row_at a (control_of m).rows).detected) false listed.detected)
    (same_table (has r.las) (λ a. (row_at a (control_of m).rows).active) false listed.active)
    (same_table (has r.lps) (λ a. (row_at a (control_of m).rows).projected) false listed.projected)
    listed.config_right
    listed.zero_detected
    listed.configuring
    listed.running
    listed.power_failed
    listed.offline_requested
