-- Membership in a word after an address joined it and after one was removed, and in one that is moved or turned; the lowest address in a word and outside it;
-- and that the activated stay among the detected.
use Rattle.std.proofs.Common.{◌≡◌, ℕ, zero, suc, ◌+◌, ◌-◌, ◌*◌, ◌/◌, ◌%◌, ◌^◌, ◌<◌, ◌≤◌, min, max, Bool, true, false, eqb, not, sym, refl, ap, ◌∙◌, ⊎_elim, one-add, arith, lit<}
use lib.Bits.{bit_and, bit_or, and_step, or_step, and_le_l}
use Rattle.std.specs.Int.{w32, rotate_right, trailing_zeros, trailing_ones}
use Rattle.std.proofs.lemmas.Nat.{and_shr, or_shr, shr-shr, shl-shr, pow-add, pow_below}
use Rattle.std.proofs.lemmas.Nat.Bits.{bit_at_above, bit_at_ones, bit_at_cat_low, bit_at-trailing_zeros, bit_at-trailing_ones}
use Rattle.std.proofs.lemmas.Bool.{eq-eqb, ne_eqb, eqb-true, eqb-false, cases_lt}
use Rattle.lists.specs.Members.{has, joined, removed, placed}

-- One bit of a word

abbrev bit : ℕ → ℕ → ℕ
bit w k = w / 2 ^ k % 2

bit_zero : (w : ℕ) → bit w 0 ≡ w % 2
bit_zero w = omega arith

bit_suc : (w k : ℕ) → bit w (suc k) ≡ bit (w / 2) k
bit_suc w k = ap (λ (x : ℕ). x % 2) (ap (λ (j : ℕ). w / 2 ^ j) (sym (one-add k)) ∙ sym (shr-shr w 1 k))

bit_of_and : (a b k : ℕ) → bit (bit_and a b) k ≡ min (bit a k) (bit b k)
bit_of_and a b k = ap (λ (x : ℕ). x % 2) (and_shr a b k) ∙ omega (arith, and_step (a / 2 ^ k) (b / 2 ^ k))

bit_of_or : (a b k : ℕ) → bit (bit_or a b) k ≡ max (bit a k) (bit b k)
bit_of_or a b k = ap (λ (x : ℕ). x % 2) (or_shr a b k) ∙ omega (arith, or_step (a / 2 ^ k) (b / 2 ^ k))

-- The word with one bit, and with all others

pow_suc : (k : ℕ) → 2 ^ suc k ≡ 2 * 2 ^ k
pow_suc k = ap (λ (j : ℕ). 2 ^ j) (sym (one-add k)) ∙ pow-add 2 1 k

bit_none : (k : ℕ) → bit 0 k ≡ 0
bit_none zero = refl
bit_none (suc k) = bit_suc 0 k ∙ bit_none k

bit_same : (a : ℕ) → bit (2 ^ a) a ≡ 1
bit_same zero = refl
bit_same (suc a) = bit_suc (2 ^ suc a) a ∙ ap (λ (x : ℕ). bit x a) (omega (arith, pow_suc a)) ∙ bit_same a

bit_other : (a k : ℕ) → (k ≡ a → ⊥) → bit (2 ^ a) k ≡ 0
bit_other zero zero n = absurd (n refl)
bit_other zero (suc k) n = bit_suc 1 k ∙ bit_none k
bit_other (suc a) zero n = bit_zero (2 ^ suc a) ∙ omega (arith, pow_suc a)
bit_other (suc a) (suc k) n = bit_suc (2 ^ suc a) k ∙ ap (λ (x : ℕ). bit x k) (omega (arith, pow_suc a)) ∙ bit_other a k (λ e. n (ap suc e))

bit_not : (w x k : ℕ) → x < 2 ^ w → k < w → bit (2 ^ w - 1 - x) k ≡ 1 - bit x k
bit_not zero x k l h = absurd (omega arith)
bit_not (suc w) x zero l h = let e : 2 ^ suc w ≡ 2 * 2 ^ w = pow_suc w in bit_zero (2 ^ suc w - 1 - x) ∙ omega (arith, bit_zero x)
bit_not (suc w) x (suc k) l h =
    let e : 2 ^ suc w ≡ 2 * 2 ^ w = pow_suc w in
    bit_suc (2 ^ suc w - 1 - x) k
    ∙ ap (λ (y : ℕ). bit y k) (omega arith)
    ∙ bit_not w (x / 2) k (omega arith) (omega arith)
    ∙ ap (λ (y : ℕ). 1 - y) (sym (bit_suc x k))

-- Membership

has_not : (w k : ℕ) → bit w k ≡ 0 → has w k ≡ false
has_not w k e = ne_eqb (bit w k) 1 (λ h. omega (arith, e, h))

pub has_joined_same : (w a : ℕ) → has (joined w a) a ≡ true
has_joined_same w a = eq-eqb (bit (joined w a) a) 1 (bit_of_or w (2 ^ a) a ∙ omega (arith, bit_same a))

pub has_joined_other : (w a k : ℕ) → (k ≡ a → ⊥) → has (joined w a) k ≡ has w k
has_joined_other w a k n = ap (λ (x : ℕ). eqb x 1) (bit_of_or w (2 ^ a) k ∙ omega (arith, bit_other a k n))

pub has_removed_same : (w a : ℕ) → a < 32 → has (removed w a) a ≡ false
has_removed_same w a l =
    let p : 2 ^ a < 2 ^ 32 = pow_below a 32 l in
    has_not (removed w a) a (omega (arith, bit_of_and w (2 ^ 32 - 1 - 2 ^ a) a, bit_not 32 (2 ^ a) a p l, bit_same a))

pub has_removed_other : (w a k : ℕ) → a < 32 → k < 32 → (k ≡ a → ⊥) → has (removed w a) k ≡ has w k
has_removed_other w a k l b n =
    let p : 2 ^ a < 2 ^ 32 = pow_below a 32 l in
    ap (λ (x : ℕ). eqb x 1) (bit_of_and w (2 ^ 32 - 1 - 2 ^ a) k ∙ omega (arith, bit_not 32 (2 ^ a) k p b, bit_other a k n))

pub has_placed_same : (b : Bool) (w a : ℕ) → a < 32 → has (placed b w a) a ≡ b
has_placed_same true w a l = has_joined_same w a
has_placed_same false w a l = has_removed_same w a l

pub has_placed_other : (b : Bool) (w a k : ℕ) → a < 32 → k < 32 → (k ≡ a → ⊥) → has (placed b w a) k ≡ has w k
has_placed_other true w a k l h n = has_joined_other w a k n
has_placed_other false w a k l h n = has_removed_other w a k l h n

pub has_none : (k : ℕ) → has 0 k ≡ false
has_none k = has_not 0 k (bit_none k)

pub has_inside : (w k : ℕ) → w < 2 ^ 32 → has w k ≡ true → k < 32
has_inside w k small h = ⊎_elim (λ l. l) (λ l. absurd (omega (arith, eqb-true (bit w k) 1 h, bit_at_above w 32 k small l))) (cases_lt k 32)

-- A word moved down by a, and turned down by a: in the place of k is what was k behind a, and after the turn 0 follows 31

pub has_shifted : (w a k : ℕ) → has (w / 2 ^ a) k ≡ has w (a + k)
has_shifted w a k = ap (λ (x : ℕ). eqb (x % 2) 1) (shr-shr w a k)

-- the low 32 bits, and those of a word moved up by j
bit_low : (w k : ℕ) → k < 32 → bit (w % 2 ^ 32) k ≡ bit w k
bit_low w k h = sym (bit_at_cat_low (w / 2 ^ 32) 32 (w % 2 ^ 32) k h) ∙ ap (λ (x : ℕ). bit x k) (omega arith)

bit_under : (w j k : ℕ) → k < j → bit (w * 2 ^ j) k ≡ 0
bit_under w j k h = ap (λ (x : ℕ). bit x k) (omega arith) ∙ bit_at_cat_low w j 0 k h ∙ bit_none k

bit_lifted : (w j k : ℕ) → bit (w * 2 ^ j) (j + k) ≡ bit w k
bit_lifted w j k = ap (λ (x : ℕ). x % 2) (sym (shr-shr (w * 2 ^ j) j k) ∙ ap (λ (x : ℕ). x / 2 ^ k) (shl-shr w j))

bit_round : (w k : ℕ) → w < 2 ^ 32 → bit w k ≤ bit w (k % 32)
bit_round w k small =
    ⊎_elim
    (λ l. let same : k % 32 ≡ k = omega arith in omega (arith, ap (bit w) same))
    (λ l. omega (arith, bit_at_above w 32 k small l))
    (cases_lt k 32)

bit_turned : (w a i j k : ℕ) → i ≡ a → j ≡ (32 - a) % 32 → w < 2 ^ 32 → a < 32 → k < 32 → bit (bit_or (w / 2 ^ i) (w * 2 ^ j % 2 ^ 32)) k ≡ bit w ((a + k) % 32)
bit_turned w a i j k down up small la lk = bit_of_or (w / 2 ^ i) (w * 2 ^ j % 2 ^ 32) k ∙ ⊎_elim below above (cases_lt k j)
  where
    low : bit (w / 2 ^ i) k ≡ bit w (a + k)
    low = ap (λ (x : ℕ). x % 2) (shr-shr w i k) ∙ ap (bit w) (omega arith)

    below : k < j → max (bit (w / 2 ^ i) k) (bit (w * 2 ^ j % 2 ^ 32) k) ≡ bit w ((a + k) % 32)
    below l =
        let same : (a + k) % 32 ≡ a + k = omega arith in
        omega (arith, low, bit_low (w * 2 ^ j) k lk, bit_under w j k l, ap (bit w) same)

    above : j ≤ k → max (bit (w / 2 ^ i) k) (bit (w * 2 ^ j % 2 ^ 32) k) ≡ bit w ((a + k) % 32)
    above l =
        let high : bit (w * 2 ^ j) k ≡ bit w ((a + k) % 32) = ap (bit (w * 2 ^ j)) (omega arith) ∙ bit_lifted w j ((a + k) % 32) in
        omega (arith, low, bit_low (w * 2 ^ j) k lk, high, bit_round w (a + k) small)

pub has_rotated : (w a k : ℕ) → w < 2 ^ 32 → a < 32 → k < 32 → has (rotate_right w32 w a) k ≡ has w ((a + k) % 32)
has_rotated w a k small la lk = ap (λ (x : ℕ). eqb x 1) (bit_turned w a (a % 32) ((32 - a % 32) % 32) k (omega arith) (omega arith) small la lk)

-- The lowest address in a word, and the lowest outside it

-- z is that in w, or where b is false that outside
pub record Lowest (b : Bool) (w z : ℕ) : Type 0 where
  pub inside : z < 32
  pub here : has w z ≡ b
  pub before : (k : ℕ) → k < z → has w k ≡ not b

pub lowest_in : (w : ℕ) → 0 < w → w < 2 ^ 32 → Lowest true w (trailing_zeros w32 w)
lowest_in w some small =
    let at = bit_at-trailing_zeros w32 w some small in
    record { inside = at.0; here = eq-eqb _ 1 at.1; before = λ k h. has_not w k (at.2 k h) }

pub lowest_out : (w : ℕ) → w + 1 < 2 ^ 32 → Lowest false w (trailing_ones w32 w)
lowest_out w small =
    let at = bit_at-trailing_ones w32 w small in
    record { inside = at.0; here = has_not w _ at.1; before = λ k h. eq-eqb _ 1 (at.2 k h) }

-- where an address is outside, not every bit is one
pub not_all : (w k : ℕ) → w < 2 ^ 32 → k < 32 → has w k ≡ false → w + 1 < 2 ^ 32
not_all w k small l out =
    ⊎_elim (λ h. h)
    (λ h. absurd (eqb-false (bit w k) 1 out (ap (λ (x : ℕ). bit x k) (omega arith) ∙ bit_at_ones 32 k l)))
    (cases_lt (w + 1) (2 ^ 32))

-- Words with the same bits are the same

pub same_bits : (w x y : ℕ) → x < 2 ^ w → y < 2 ^ w → ((k : ℕ) → k < w → bit x k ≡ bit y k) → x ≡ y
same_bits zero x y l m h = omega arith
same_bits (suc w) x y l m h =
    let e : 2 ^ suc w ≡ 2 * 2 ^ w = pow_suc w in
    let half : x / 2 ≡ y / 2 = same_bits w (x / 2) (y / 2) (omega arith) (omega arith) (λ k n. sym (bit_suc x k) ∙ h (suc k) (omega arith) ∙ bit_suc y k) in
    let odd : x % 2 ≡ y % 2 = sym (bit_zero x) ∙ h 0 (omega arith) ∙ bit_zero y in
    omega arith

-- The activated among the detected, bit by bit

self_below : (n : ℕ) → n < 2 ^ n
self_below zero = lit< tt
self_below (suc n) = omega (arith, self_below n, pow_suc n)

among_bit : (a b k : ℕ) → bit_and a b ≡ a → bit a k ≤ bit b k
among_bit a b k h = omega (arith, bit_of_and a b k, ap (λ (x : ℕ). bit x k) h)

among_from : (a b : ℕ) → ((k : ℕ) → bit a k ≤ bit b k) → bit_and a b ≡ a
among_from a b h = same_bits a (bit_and a b) a (omega (arith, and_le_l a b, self_below a)) (self_below a) (λ k n. bit_of_and a b k ∙ omega (arith, h k))

module _ (lds las a : ℕ) (within : bit_and las lds ≡ las) where
  pub within_detected : bit_and las (joined lds a) ≡ las
  within_detected = among_from las (joined lds a) (λ k. omega (arith, among_bit las lds k within, bit_of_or lds (2 ^ a) k))

  pub within_activated : bit_and (joined las a) (joined lds a) ≡ joined las a
  within_activated = among_from (joined las a) (joined lds a) (λ k. omega (arith, among_bit las lds k within, bit_of_or las (2 ^ a) k, bit_of_or lds (2 ^ a) k))

  pub within_forgotten : bit_and (removed las a) (removed lds a) ≡ removed las a
  within_forgotten =
      let others : ℕ = 2 ^ 32 - 1 - 2 ^ a in
      among_from (removed las a) (removed lds a) (λ k. omega (arith, among_bit las lds k within, bit_of_and las others k, bit_of_and lds others k))

-- 0 stays outside

pub even_joined : (w a : ℕ) → 0 < a → w % 2 ≡ 0 → joined w a % 2 ≡ 0
even_joined w a h e = omega (arith, bit_zero w, bit_zero (joined w a), bit_of_or w (2 ^ a) 0, bit_other a 0 (λ z. omega arith))

pub even_removed : (w a : ℕ) → w % 2 ≡ 0 → removed w a % 2 ≡ 0
even_removed w a e = omega (arith, bit_zero w, bit_zero (removed w a), bit_of_and w (2 ^ 32 - 1 - 2 ^ a) 0)
