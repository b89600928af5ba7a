use Rattle.std.proofs.Common.{◌≡◌, ℕ, ◌-◌, ◌%◌, ◌<◌, arith}
use lib.Bits.{bit_and, bit_or}
use Rattle.std.proofs.lemmas.Nat.{or_lt, and_le_l}
use Rattle.stations.proofs.station.Module.ports.Goals as goal

pub returns : goal.returns
returns c =
    let n : ℕ = c.from.result in
    let i : ℕ = c.from-2.result in
    let d : ℕ = c.from-direction.result in
    let w : ℕ = bit_or (bit_and n d) (bit_and i (15 - d)) in
    let small : w < 16 = or_lt 4 (bit_and n d) (bit_and i (15 - d)) (omega (arith, and_le_l n d)) (omega (arith, and_le_l i (15 - d))) in
    let whole : w % 16 ≡ w = omega arith in
    cc
