-- A list that is turned to begin at another of its places.
use Rattle.std.proofs.Common.{◌≡◌, ℕ, ◌+◌, ◌-◌, ◌<◌, ◌≤◌, ltb, List, length, get_or, take, drop, set, sym, arith, rules}
use lib.Seq.{take-set-lt}
use Rattle.std.proofs.lemmas.List.{length-append, length-drop, length-take, same_lists, places, drop-set-add, take-set-le, set-append_left, drop-set-lt, set-append_right}
use Rattle.std.proofs.lemmas.Bool.{cond_both, ltb-true, ltb-false}
use Rattle.std.proofs.lemmas.Bool.Decides.{nat_tests}
use Rattle.queues.specs.Fifo.{turned, place_of}

pub length-turned : {T : Type 0} (xs : List T) (h : ℕ) → length (turned xs h) ≡ length xs
length-turned xs h = simp (length-append, length-drop, length-take) (omega arith)

pub first_turned : {T : Type 0} (xs : List T) (h : ℕ) (d : T) → h < length xs → get_or (turned xs h) 0 d ≡ get_or xs h d
first_turned xs h d lt = grind (arith, places)

pub place_inside : (n h k : ℕ) → k < n → place_of n h k < n
place_inside n h k lt = grind (arith, nat_tests)

-- Place k of the turned list is place_of in the list: to turn once more by k is to turn to that place
module _ {T : Type 0} (xs : List T) (h k : ℕ) where
  before_end : h + k ≤ length xs → turned xs (h + k) ≡ turned (turned xs h) k
  before_end le = same_lists _ _ (search (rules, places)) (λ i d l. grind (arith, places))

  past_end : length xs - h ≤ k → k ≤ length xs → turned xs (k - (length xs - h)) ≡ turned (turned xs h) k
  past_end past le = same_lists _ _ (search (rules, places)) (λ i d l. grind (arith, places))

  pub turned_place : k ≤ length xs → turned xs (place_of (length xs) h k) ≡ turned (turned xs h) k
  turned_place le =
      cond_both (ltb k (length xs - h)) (h + k) (k - (length xs - h)) (λ p. turned xs p ≡ turned (turned xs h) k)
      (λ e. before_end (omega (arith, ltb-true k (length xs - h) e)))
      (λ e. past_end (ltb-false k (length xs - h) e) le)

-- and to write there is to write at k
module _ {T : Type 0} (xs : List T) (h k : ℕ) (x : T) where
  set_before_end : h + k < length xs → turned (set xs (h + k) x) h ≡ set (turned xs h) k x
  set_before_end lt =
      let below : h ≤ h + k = omega arith in
      let stored : k < length (drop h xs) = simp length-drop (omega arith) in
      rw (drop-set-add, take-set-le, set-append_left)

  set_past_end : length xs - h ≤ k → k < length xs → turned (set xs (k - (length xs - h)) x) h ≡ set (turned xs h) k x
  set_past_end past lt =
      let below : k - (length xs - h) < h = omega arith in
      rw (drop-set-lt, take-set-lt) (sym (set-append_right (drop h xs) (take h xs) (length xs - h) k x (length-drop h xs) past))

  pub set-place : k < length xs → turned (set xs (place_of (length xs) h k) x) h ≡ set (turned xs h) k x
  set-place lt =
      cond_both (ltb k (length xs - h)) (h + k) (k - (length xs - h)) (λ p. turned (set xs p x) h ≡ set (turned xs h) k x)
      (λ e. set_before_end (omega (arith, ltb-true k (length xs - h) e)))
      (λ e. set_past_end (ltb-false k (length xs - h) e) lt)
