-- How many cycles the search needs, at the most, until it has entered address b: the distance, the next address, and the pick.
use Rattle.std.proofs.Common.{◌≡◌, ℕ, zero, suc, ◌+◌, ◌-◌, ◌*◌, ◌<◌, ◌≤◌, Bool, true, false, cond, ◌⊎◌, List, sym, refl, ap, ◌∙◌, inl, inr, ⊎_elim, arith}
use Rattle.std.proofs.lemmas.Bool.{lt-ltb, le-ltb, cases_lt, both_ways}
use Rattle.records.specs.Rows.{Row, row_at}
use Rattle.search.specs.Steps.{following, pick_within}

-- a whole round of the search: address 0 takes two cycles, any other three
abbrev pub round : ℕ
round = 95

-- Seeking from a enters b within n cycles. What the addresses below a take together is 3 * a - 1.
pub data Far (b a n : ℕ) : Type 0 where
  ahead : a ≤ b → 3 * b + 2 ≤ n + (3 * a - 1) → Far b a n
  behind : b < a → round + 3 * b + 2 ≤ n + (3 * a - 1) → Far b a n

pub far_any : (b a n : ℕ) → 1 ≤ b → b < 32 → a < 32 → round ≤ n → Far b a n
far_any b a n one hb ha many = ⊎_elim (λ l. behind l (omega arith)) (λ l. ahead l (omega arith)) (cases_lt b a)

pub far_more : {b a m : ℕ} (n : ℕ) → Far b a m → m ≤ n → Far b a n
far_more n (ahead l f) more = ahead l (omega arith)
far_more n (behind l f) more = behind l (omega arith)

pub next_is : (a : ℕ) → a < 32 → ((a ≡ 31) × (following a ≡ 0)) ⊎ ((a < 31) × (following a ≡ a + 1))
next_is a h = ⊎_elim (λ l. inr (l, rw (lt-ltb a 31 l))) (λ l. inl (omega arith, rw (le-ltb a 31 l))) (cases_lt a 31)

pub next_lt : (a : ℕ) → a < 32 → following a < 32
next_lt a h = omega (arith, next_is a h)

-- from one address to the next, where a is not b and takes no less than k cycles
far_on : {b a : ℕ} (k n : ℕ) → b < 32 → a < 32 → (a ≡ b → ⊥) → 3 * a - 1 + k ≤ 3 * a + 2 → Far b a (n + k) → Far b (following a) n
far_on {b} {a} k n hb ha ne takes (ahead l f) =
    ⊎_elim (λ e. absurd (omega arith)) (λ e. ahead (omega arith) (omega arith)) (next_is a ha)
far_on {b} {a} k n hb ha ne takes (behind l f) =
    ⊎_elim (λ e. ahead (omega arith) (omega arith)) (λ e. behind (omega arith) (omega arith)) (next_is a ha)

-- a is passed by
pub far_skip : {b a n : ℕ} → b < 32 → a < 32 → (a ≡ b → ⊥) → Far b a n → Far b (following a) n
far_skip {b} {a} {n} hb ha ne f = far_on 0 n hb ha ne (omega arith) (far_more (n + 0) f (omega arith))

-- a does not answer, or is not admissible
pub far_two : {b a : ℕ} (n : ℕ) → 1 ≤ b → b < 32 → a < 32 → (a ≡ b → ⊥) → Far b a (n + 2) → Far b (following a) n
far_two n one hb ha ne f = far_on 2 n hb ha ne (omega arith) f

-- a is entered
pub far_three : {b a : ℕ} (n : ℕ) → b < 32 → a < 32 → 1 ≤ a → (a ≡ b → ⊥) → Far b a (n + 3) → Far b (following a) n
far_three n hb ha one ne f = far_on 3 n hb ha ne (omega arith) f

-- at address b itself three cycles are left, and elsewhere more
pub far_three_left : {b a n : ℕ} → a < 32 → 1 ≤ b → Far b a n → 3 ≤ n
far_three_left h one (ahead l f) = omega arith
far_three_left h one (behind l f) = omega arith

-- t is met within k steps from a
abbrev pub Near : ℕ → ℕ → ℕ → Type 0
Near t a k = ((a ≤ t) × (t < a + k)) ⊎ ((t < a) × (32 + t < a + k))

pub near_any : (t a : ℕ) → t < 32 → a < 32 → Near t a 32
near_any t a ht ha = ⊎_elim (λ l. inr (omega arith)) (λ l. inl (omega arith)) (cases_lt t a)

near_next : (t a k : ℕ) → t < 32 → a < 32 → (a ≡ t → ⊥) → Near t a (suc k) → Near t (following a) k
near_next t a k ht ha ne (inl l) = ⊎_elim (λ e. absurd (omega arith)) (λ e. inl (omega arith)) (next_is a ha)
near_next t a k ht ha ne (inr l) = ⊎_elim (λ e. inl (omega arith)) (λ e. inr (omega arith)) (next_is a ha)

-- The pick finds an inactive address, and goes past none that has to be met
pub record Picked (P : ℕ → Type 0) (rs : List Row) (a : ℕ) : Type 0 where
  pub in_range : a < 32
  pub inactive : (row_at a rs).active ≡ false
  pub kept : P a

module _
    (P : ℕ → Type 0) (rs : List Row) (t : ℕ) (ht : t < 32) (off : (row_at t rs).active ≡ false)
    (more : (a : ℕ) → a < 32 → (a ≡ t → ⊥) → P a → P (following a))
  where
    pub picks : (k a : ℕ) → a < 32 → Near t a k → P a → Picked P rs (pick_within k rs a)
    unfolding pick_within
    picks zero a ha near p = absurd (omega arith)
    picks (suc k) a ha near p = go (row_at a rs).active refl (picks k (following a) (next_lt a ha))
      where
        go : (on : Bool) → (row_at a rs).active ≡ on → (Near t (following a) k → P (following a) → Picked P rs (pick_within k rs (following a))) →
            Picked P rs (cond on (pick_within k rs (following a)) a)
        go true e rest =
            let ne : a ≡ t → ⊥ = λ q. both_ways (row_at t rs).active off (ap (λ z. (row_at z rs).active) (sym q) ∙ e) in
            rest (near_next t a k ht ha ne near) (more a ha ne p)
        go false e rest = record { in_range = ha; inactive = e; kept = p }
