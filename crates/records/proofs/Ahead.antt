-- The first active address from one on, the lowest of LAS moved down to there; and the first inactive one, the lowest outside LAS turned down to there.
use Rattle.std.proofs.Common.{◌≡◌, ℕ, zero, suc, ◌+◌, ◌-◌, ◌/◌, ◌%◌, ◌^◌, ◌<◌, Bool, true, false, cond, ◌&&◌, ltb, List, Some, None, Option, Ok, Err, Result, sym, refl, ap, ◌∙◌, ⊎_elim, arith}
use Rattle.std.specs.Int.{w32, rotate_right, trailing_zeros, trailing_ones}
use Rattle.std.specs.Int.Count.{trailing_of_zero}
use Rattle.std.proofs.Math.Nat.{div-le_self}
use Rattle.std.specs.Option.{option_map}
use Rattle.std.specs.Result.{result_ok}
use Rattle.std.proofs.lemmas.Bool.{cond-false, cond-true, both_ways, cases_eq}
use Rattle.std.proofs.lemmas.Bool.Decides.{nat_tests}
use Rattle.std.proofs.lemmas.Nat.{shr-shr}
use Rattle.values.specs.Ranges.{module_address_from}
use Rattle.values.specs.Refusals.{Outcome, gives, refuses_for, refuses, outcome}
use Rattle.values.specs.declared.module_address.ModuleAddress.{ModuleAddress}
use Rattle.values.specs.declared.refusal.Refusal.{Refusal}
use Rattle.lists.specs.Members.{has}
use Rattle.lists.proofs.Laws.{has_none, has_inside, has_shifted, has_rotated, Lowest, lowest_in, lowest_out, not_all}
use Rattle.records.specs.Rows.{Row, row_at}
use Rattle.records.specs.Records.{rows}
use Rattle.records.specs.Ahead.{active_within, first_active, FirstInactive}
use Rattle.records.specs.declared.rows.Rows.{Rows}
use Rattle.records.proofs.Written.{row_is, zero_inactive}

abbrev active_at : List Row → ℕ → Bool
active_at rs a = (row_at a rs).active

-- none of the n from a on is active
none_within : (n a : ℕ) (rs : List Row) → ((k : ℕ) → k < n → active_at rs (a + k) ≡ false) → active_within n a rs ≡ None
unfolding active_within
none_within zero a rs none = refl
none_within (suc n) a rs none =
    cond-false _ _ _ (ap (active_at rs) (omega arith) ∙ none 0 (omega arith))
    ∙ none_within n (a + 1) rs (λ k h. ap (active_at rs) (omega arith) ∙ none (k + 1) (omega arith))

-- the first active one is z behind a
active_behind : (n a z : ℕ) (rs : List Row) → z < n → ((k : ℕ) → k < z → active_at rs (a + k) ≡ false) → active_at rs (a + z) ≡ true → active_within n a rs ≡ Some (a + z)
unfolding active_within
active_behind zero a z rs inside none here = absurd (omega arith)
active_behind (suc n) a zero rs inside none here = cond-true _ _ _ (ap (active_at rs) (omega arith) ∙ here) ∙ ap Some (omega arith)
active_behind (suc n) a (suc z) rs inside none here =
    cond-false _ _ _ (ap (active_at rs) (omega arith) ∙ none 0 (omega arith))
    ∙ active_behind n (a + 1) z rs (omega arith) (λ k h. ap (active_at rs) (omega arith) ∙ none (k + 1) (omega arith)) (ap (active_at rs) (omega arith) ∙ here)
    ∙ ap Some (omega arith)

-- the module address of this number, where it is one's
abbrev pub module_address : ℕ → Option ℕ
module_address n = cond (ltb 0 n && ltb n 32) (Some n) None

within : (n : ℕ) → 0 < n → n < 32 → (ltb 0 n && ltb n 32) ≡ true
within n low high = grind (arith, nat_tests)

outside : (n : ℕ) → 31 < n → (ltb 0 n && ltb n 32) ≡ false
outside n high = grind (arith, nat_tests)

given : Outcome ℕ → Option ℕ
given (gives n) = Some n
given (refuses_for e c) = None

tested : (b : Bool) (n : ℕ) → given (cond b (gives n) (refuses 0x8381)) ≡ cond b (Some n) None
unfolding given
tested true n = refl
tested false n = refl

pub made : (n : ℕ) (m : Result ModuleAddress Refusal) → outcome (λ x. x.value) m ≡ module_address_from n → option_map (λ x. x.value) (result_ok m) ≡ module_address n
unfolding given
made n (Ok x) is = ap given is ∙ tested (ltb 0 n && ltb n 32) n
made n (Err e) is = ap given is ∙ tested (ltb 0 n && ltb n 32) n

active_above : (r : Rows) (a : ℕ) → active_at (rows r) a ≡ true → 0 < a
active_above r zero e = absurd (both_ways (active_at (rows r) 0) (zero_inactive r) e)
active_above r (suc a) e = omega arith

-- LAS is w
module _ (r : Rows) (w a : ℕ) (is : w ≡ r.lists.las) (small : w < 2 ^ 32) where
  activity : (k : ℕ) → k < 32 → active_at (rows r) k ≡ has w k
  activity k h = ap (λ (x : Row). x.active) (row_is r.lists.lds r.lists.las r.lps r.entries k h) ∙ ap (λ (n : ℕ). has n k) (sym is)

  abbrev ahead : ℕ
  ahead = w / 2 ^ a

  activity_ahead : (k : ℕ) → a + k < 32 → active_at (rows r) (a + k) ≡ has ahead k
  activity_ahead k h = activity (a + k) h ∙ sym (has_shifted w a k)

  none_ahead : ahead ≡ 0 → first_active a (rows r) ≡ None
  none_ahead e = none_within (32 - a) a (rows r) (λ k h. activity_ahead k (omega arith) ∙ ap (λ (n : ℕ). has n k) e ∙ has_none k)

  module _ (some : ahead ≡ 0 → ⊥) where
    abbrev z : ℕ
    z = trailing_zeros w32 ahead

    lowest : Lowest true ahead z
    lowest = lowest_in ahead (omega (arith, some)) (omega (arith, div-le_self w (2 ^ a)))

    behind : a + z < 32
    behind = has_inside w (a + z) small (sym (has_shifted w a z) ∙ lowest.here)

    active_there : active_at (rows r) (a + z) ≡ true
    active_there = activity_ahead z behind ∙ lowest.here

    some_ahead : first_active a (rows r) ≡ Some (a + z)
    some_ahead = active_behind (32 - a) a z (rows r) (omega (arith, behind)) (λ k h. activity_ahead k (omega (arith, behind)) ∙ lowest.before k h) active_there

    one_ahead : 0 < a + z
    one_ahead = active_above r (a + z) active_there

  -- the number of zeros below its lowest one leads there, or past the last address where it has none
  first_ahead : first_active a (rows r) ≡ module_address (a + trailing_zeros w32 ahead)
  first_ahead = ⊎_elim nothing something (cases_eq ahead 0)
    where
      nothing : ahead ≡ 0 → first_active a (rows r) ≡ module_address (a + trailing_zeros w32 ahead)
      nothing e =
          let beyond : trailing_zeros w32 ahead ≡ 32 = ap (trailing_zeros w32) e ∙ trailing_of_zero 32 in
          none_ahead e ∙ sym (cond-false _ _ _ (outside (a + trailing_zeros w32 ahead) (omega (arith, beyond))))

      something : (ahead ≡ 0 → ⊥) → first_active a (rows r) ≡ module_address (a + trailing_zeros w32 ahead)
      something some = some_ahead some ∙ sym (cond-true _ _ _ (within (a + trailing_zeros w32 ahead) (one_ahead some) (behind some)))

  module _ (inside : a < 32) (turned : ℕ) (by : turned ≡ rotate_right w32 w a) (fits : turned < 2 ^ 32) where
    activity_turned : (k : ℕ) → k < 32 → active_at (rows r) ((a + k) % 32) ≡ has turned k
    activity_turned k h = activity ((a + k) % 32) (omega arith) ∙ sym (has_rotated w a k small inside h) ∙ ap (λ (n : ℕ). has n k) (sym by)

    zero_turned : has turned ((32 - a) % 32) ≡ false
    zero_turned = sym (activity_turned ((32 - a) % 32) (omega arith)) ∙ ap (active_at (rows r)) (omega arith) ∙ zero_inactive r

    free : Lowest false turned (trailing_ones w32 turned)
    free = lowest_out turned (not_all turned ((32 - a) % 32) fits (omega arith) zero_turned)

    pub first_free : FirstInactive (rows r) a ((a + trailing_ones w32 turned) % 32)
    first_free =
        record {
          passed = trailing_ones w32 turned;
          few = free.inside;
          there = refl;
          inactive = activity_turned (trailing_ones w32 turned) free.inside ∙ free.here;
          active = λ k h. activity_turned k (omega (arith, free.inside)) ∙ free.before k h;
        }

-- moved down to an address, and by one more
pub first_behind : (r : Rows) (w a i j : ℕ) → w ≡ r.lists.las → w < 2 ^ 32 → i ≡ a → j ≡ a → module_address (j + 1 + trailing_zeros w32 (w / 2 ^ i / 2 ^ 1)) ≡ first_active (a + 1) (rows r)
first_behind r w a i j is small down up =
    ap (λ (k : ℕ). module_address (j + 1 + trailing_zeros w32 k)) (ap (λ (k : ℕ). w / 2 ^ k / 2 ^ 1) down ∙ shr-shr w a 1)
    ∙ ap (λ (k : ℕ). module_address (k + 1 + trailing_zeros w32 (w / 2 ^ (a + 1)))) up
    ∙ sym (first_ahead r w (a + 1) is small)
