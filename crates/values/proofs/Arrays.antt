-- An array that is made by a function of the index.
use Rattle.std.proofs.Common.{◌≡◌, ℕ, zero, suc, ◌+◌, ◌<◌, ◌≤◌, List, map, get_or, sym, subst, ⊎_elim, arith}
use Rattle.std.specs.Array.{IsFromFnResult, IsFromFnResultFrom}
use denote.Param.Members.{Mut, Called}
use Rattle.std.specs.List.{range_with_len}
use Rattle.std.proofs.lemmas.Bool.{cases_eq}
use Rattle.std.proofs.lemmas.List.FromFn.{fill_by_all}

module _ {F B : Type 0} (g : Mut F (ℕ × Unit {0}) B) (P : ℕ → B → Type 0) (f : F) (m : ℕ) where
  -- a call below m leaves the function as it was, and its result has P at the index
  abbrev pub Gives : Type 0
  Gives = (q : F) (i : ℕ) (y : B) → i < m → Called g f (i, tt) y q → (q ≡ f) × P i y

  each_from : (ys : List B) (i n : ℕ) → i + n ≤ m → Gives → IsFromFnResultFrom g f ys i n → (k : ℕ) (d : B) → i ≤ k → k < i + n → P k (get_or ys k d)
  each_from ys i zero fits gives made k d low high = absurd (omega arith)
  each_from ys i (suc n) fits gives made k d low high =
      let call = gives made.0 i made.1 (omega arith) made.3 in
      ⊎_elim
      (λ e. subst (λ (j : ℕ). P j (get_or ys j d)) (sym e) (subst (P i) (sym (made.2.1 d)) call.1))
      (λ ne. each_from ys (i + 1) n (omega arith) gives (subst (λ p. IsFromFnResultFrom g p ys (i + 1) n) call.0 made.4) k d (omega arith) (omega arith))
      (cases_eq k i)

  -- then each element has P at its index
  pub each_from_from_fn : (ys : List B) → IsFromFnResult g f ys m → Gives → (k : ℕ) (d : B) → k < m → P k (get_or ys k d)
  each_from_from_fn ys made gives k d l = each_from ys 0 m (omega arith) gives made.each k d (omega arith) (omega (arith, l))

-- where each call gives h of the index, the array is h of the indices in turn
pub items_from_from_fn :
    {F B : Type 0} (g : Mut F (ℕ × Unit {0}) B) (h : ℕ → B) (f : F) (ys : List B) (n : ℕ)
    → IsFromFnResult g f ys n
    → Gives g (λ i y. y ≡ h i) f n
    → ys ≡ map h (range_with_len 0 n)
items_from_from_fn g h f ys n made gives = fill_by_all h ys n (h 0) made.long (λ k l. each_from_from_fn g (λ i y. y ≡ h i) f n ys made gives k (h 0) l)
