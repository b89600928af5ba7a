-- What is known of a test when its outcome is known.
use Rattle.std.proofs.Common.{◌≡◌, ℕ, Bool, true, false, cond, refl, ap}
use Rattle.std.proofs.lemmas.Bool.{both_ways}
use Rattle.values.specs.Refusals.{Outcome, gives, refuses_for, refuses, accepts}

abbrev number_of : {A : Type 0} → Outcome A → ℕ
number_of (gives x) = 0
number_of (refuses_for n c) = n

pub passed : {A : Type 0} (b : Bool) (n : ℕ) (x y : A) → gives x ≡ cond b (gives y) (refuses n) → b ≡ true
passed true n x y e = refl
passed false n x y e = absurd (both_ways true (ap accepts e) refl)

pub failed : {A : Type 0} (b : Bool) (n m c : ℕ) (y : A) → refuses_for m c ≡ cond b (gives y) (refuses n) → (b ≡ false) × (m ≡ n)
failed true n m c y e = absurd (both_ways false refl (ap accepts e))
failed false n m c y e = (refl, ap number_of e)
