-- A list of addresses is a word of 32 bits: address a is in it where bit a is one.
-- The laws in proofs/Laws.antt say that joining and removing an address change its own membership and no other's.
use Rattle.std.specs.Prelude.{ℕ, ◌-◌, ◌/◌, ◌%◌, ◌^◌, Bool, cond, ◌==◌, bit_and, bit_or}

abbrev pub has : ℕ → ℕ → Bool
has list a = list / 2 ^ a % 2 == 1

abbrev pub joined : ℕ → ℕ → ℕ
joined list a = bit_or list (2 ^ a)

abbrev pub removed : ℕ → ℕ → ℕ
removed list a = bit_and list (2 ^ 32 - 1 - 2 ^ a)

-- with the address where b is true, else without it
abbrev pub placed : Bool → ℕ → ℕ → ℕ
placed b list a = cond b (joined list a) (removed list a)
