-- Which numbers are nibbles and addresses, and what a call that is given another one returns.
-- A reader compares the three ranges and their numbers with docs/TELEGRAMS.md.
use Rattle.std.specs.Prelude.{◌≡◌, ℕ, ◌<◌, cond, ◌&&◌, nat_lt, Some, None, Option}
use Rattle.values.specs.declared.up_to.UpTo.{UpTo}
use Rattle.values.specs.Refusals.{Outcome, gives, refuses}

-- a number that is tested against the greatest of its range
abbrev pub within : (max n : ℕ) → Option (UpTo max) → Type 0
within max n (Some x) = x.value ≡ n
within max n None = max < n

-- the program's nibbles
abbrev pub Nibble : Type 0
Nibble = UpTo 15

-- a nibble is 0 to 15
abbrev pub nibble_from : ℕ → Outcome ℕ
nibble_from n = cond (nat_lt n 16) (gives n) (refuses 0x8310)

-- an address is 0 to 31
abbrev pub address_from : ℕ → Outcome ℕ
address_from n = cond (nat_lt n 32) (gives n) (refuses 0x8381)

-- a module's address is 1 to 31
abbrev pub module_address_from : ℕ → Outcome ℕ
module_address_from n = cond (nat_lt 0 n && nat_lt n 32) (gives n) (refuses 0x8381)
