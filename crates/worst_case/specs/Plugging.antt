-- The plant of the longest wait, at address 1. It swaps the line for the racks of `Longest.antt` of the crate `promise`: the former module comes when
-- the search stands at the address, and plugging is one call later. That this waits longest is proved there; that the program shows it is seen in
-- what it prints.
use Rattle.std.specs.Prelude.{◌≡◌, ℕ, ◌+◌, ◌-◌, ◌^◌, ◌<◌, min, cond, ◌==◌}
use Rattle.racks.specs.Racks.{station_at}
use Rattle.racks.specs.declared.bench.BenchRack.{BenchRack}
use Rattle.lines.specs.Lines.{Meaning, meaning}
use Rattle.worst_case.specs.declared.Plugging.{Plugging}

-- the address
abbrev b : ℕ
b = 1

abbrev pub rack_line : BenchRack → Meaning
rack_line r = meaning r.powered (station_at r.stations)

-- what the next call meets, where n were made
abbrev pub met_after : ℕ → Plugging → BenchRack → BenchRack
met_after n h line = cond (n == 3 + b) h.former (cond (n == 3 + b + 1) h.full line)

-- a rack that has not come stays as it is
pub record Plugs (h : Plugging) (w v : BenchRack) (k : Plugging) : Type 0 where
  pub line_met : v ≡ met_after h.calls h w
  pub former_kept : h.calls < 3 + b → k.former ≡ h.former
  pub full_kept : h.calls < 3 + b + 1 → k.full ≡ h.full
  pub counted : k.calls ≡ min (h.calls + 1) (2 ^ 32 - 1)
