-- The first active address from one on, up to 31; and the first inactive one, where 0 follows 31.
use Rattle.std.specs.Prelude.{◌≡◌, ℕ, zero, suc, ◌+◌, ◌-◌, ◌%◌, ◌<◌, true, false, cond, List, Some, None, Option}
use Rattle.records.specs.Rows.{Row, row_at}

-- among n addresses
unfoldable pub active_within : ℕ → ℕ → List Row → Option ℕ
active_within zero a rs = None
active_within (suc n) a rs = cond (row_at a rs).active (Some a) (active_within n (a + 1) rs)

abbrev pub first_active : ℕ → List Row → Option ℕ
first_active a rs = active_within (32 - a) a rs

-- b is that address: so many are passed on the way to it, each active, and b itself is not
pub record FirstInactive (rs : List Row) (a b : ℕ) : Type 0 where
  pub passed : ℕ
  pub few : passed < 32
  pub there : b ≡ (a + passed) % 32
  pub inactive : (row_at b rs).active ≡ false
  pub active : (k : ℕ) → k < passed → (row_at ((a + k) % 32) rs).active ≡ true
