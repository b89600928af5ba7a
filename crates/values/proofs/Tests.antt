-- A test that each element of a list passes, place by place.
use Rattle.std.proofs.Common.{◌≡◌, ℕ, zero, suc, ◌<◌, Bool, true, List, [], ◌∷◌, length, get_or, refl, arith}
use Rattle.std.proofs.lemmas.Bool.{and_parts, and_from}
use Rattle.std.specs.List.{list_all}

pub list_all-from_places : {A : Type 0} (test : A → Bool) (d : A) (xs : List A) → ((k : ℕ) → k < length xs → test (get_or xs k d) ≡ true) → list_all test xs ≡ true
list_all-from_places test d [] h = refl
list_all-from_places test d (x ∷ xs) h = and_from _ _ (h 0 (omega arith)) (list_all-from_places test d xs (λ k l. h (suc k) (omega arith)))

pub list_all-at_place : {A : Type 0} (test : A → Bool) (d : A) (xs : List A) → list_all test xs ≡ true → (k : ℕ) → k < length xs → test (get_or xs k d) ≡ true
list_all-at_place test d [] h k l = absurd (omega arith)
list_all-at_place test d (x ∷ xs) h zero l = (and_parts _ _ h).0
list_all-at_place test d (x ∷ xs) h (suc k) l = list_all-at_place test d xs (and_parts _ _ h).1 k (omega arith)
