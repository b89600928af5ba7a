-- Tables: their length, their entries, when two are equal, and a write to one place of a store.
use Rattle.std.proofs.Common.{◌≡◌, ℕ, ◌+◌, ◌%◌, ◌<◌, Bool, cond, ltb, List, [], ◌∷◌, map, length, get_or, set, sym, refl, ap, ◌∙◌, ⊎_elim, arith}
use Rattle.std.specs.List.{range_with_len, list_all}
use Rattle.std.proofs.lemmas.List.Folds.{list_all-map}
use Rattle.std.proofs.lemmas.List.FromFn.{fill_by_all, get_or-map-range_with_len, length-map-range_with_len}
use Rattle.std.proofs.lemmas.List.{length-set, get_or-set_same, get_or-set_other}
use Rattle.std.proofs.lemmas.Bool.{cases_eq, cases_lt, lt-ltb, le-ltb, cond-true, cond-false}
use Rattle.values.specs.Tables.{table}

pub length-table : {X : Type 0} (f : ℕ → X) → length (table f) ≡ 32
unfolding table
length-table f = length-map-range_with_len f 0 32

pub at_table : {X : Type 0} (f : ℕ → X) (b : ℕ) (d : X) → b < 32 → get_or (table f) b d ≡ f b
unfolding table
at_table f b d h = get_or-map-range_with_len f 0 32 b b d h (omega arith)

pub is_table : {X : Type 0} (f : ℕ → X) (xs : List X) (d : X) → length xs ≡ 32 → ((k : ℕ) → k < 32 → get_or xs k d ≡ f k) → xs ≡ table f
unfolding table
is_table f xs d e h = fill_by_all f xs 32 d e h

pub same_table : {X : Type 0} (f g : ℕ → X) (d : X) → ((k : ℕ) → k < 32 → f k ≡ g k) → table f ≡ table g
same_table f g d h = is_table g (table f) d (length-table f) (λ k l. at_table f k d l ∙ h k l)

map-map : {X Y Z : Type 0} (g : Y → Z) (f : X → Y) (xs : List X) → map g (map f xs) ≡ map (λ x. g (f x)) xs
map-map g f [] = refl
map-map g f (x ∷ xs) = ap (λ l. g (f x) ∷ l) (map-map g f xs)

pub map-table : {X Y : Type 0} (g : X → Y) (f : ℕ → X) → map g (table f) ≡ table (λ a. g (f a))
unfolding table
map-table g f = map-map g f (range_with_len 0 32)

-- what a store means, entry by entry, after a write to place b
pub table-set : {A B : Type 0} (f : A → B) (xs : List A) (b : ℕ) (v d : A) → b < 32 → b < length xs → set (table (λ a. f (get_or xs a d))) b (f v) ≡ table (λ a. f (get_or (set xs b v) a d))
table-set {A} {B} f xs b v d inside stored =
    is_table (λ a. f (get_or (set xs b v) a d)) after (f d) (length-set before b (f v) ∙ length-table (λ a. f (get_or xs a d)))
    (λ k h. ⊎_elim (same k) (other k h) (cases_eq k b))
  where
    before : List B
    before = table (λ a. f (get_or xs a d))

    after : List B
    after = set before b (f v)

    same : (k : ℕ) → k ≡ b → get_or after k (f d) ≡ f (get_or (set xs b v) k d)
    same k e =
        ap (λ z. get_or after z (f d)) e
        ∙ get_or-set_same before b (f v) (f d) (omega (arith, length-table (λ a. f (get_or xs a d))))
        ∙ ap f (sym (get_or-set_same xs b v d stored))
        ∙ ap (λ z. f (get_or (set xs b v) z d)) (sym e)

    other : (k : ℕ) → k < 32 → (k ≡ b → ⊥) → get_or after k (f d) ≡ f (get_or (set xs b v) k d)
    other k h ne =
        get_or-set_other before b k (f v) (f d) ne
        ∙ at_table (λ a. f (get_or xs a d)) k (f d) h
        ∙ ap f (sym (get_or-set_other xs b k v d ne))

-- a table that differs from another at one address is that one, written there
pub table_write : {X : Type 0} (f g : ℕ → X) (b : ℕ) (v d : X) → b < 32 → g b ≡ v → ((k : ℕ) → k < 32 → (k ≡ b → ⊥) → g k ≡ f k) → table g ≡ set (table f) b v
table_write f g b v d inside here elsewhere =
    sym (is_table g (set (table f) b v) d (length-set (table f) b v ∙ length-table f) (λ k h. ⊎_elim (same k) (other k h) (cases_eq k b)))
  where
    same : (k : ℕ) → k ≡ b → get_or (set (table f) b v) k d ≡ g k
    same k e =
        ap (λ z. get_or (set (table f) b v) z d) e
        ∙ get_or-set_same (table f) b v d (omega (arith, length-table f))
        ∙ sym here
        ∙ ap g (sym e)

    other : (k : ℕ) → k < 32 → (k ≡ b → ⊥) → get_or (set (table f) b v) k d ≡ g k
    other k h ne = get_or-set_other (table f) b k v d ne ∙ at_table f k d h ∙ sym (elsewhere k h ne)

-- A loop that goes through the addresses: those below i have their new entry

abbrev pub filling : {X : Type 0} → ℕ → (ℕ → X) → (ℕ → X) → ℕ → X
filling i new old a = cond (ltb a i) (new a) (old a)

pub fill_more : {X : Type 0} (new old : ℕ → X) (i : ℕ) (d : X) → i < 32 → set (table (filling i new old)) i (new i) ≡ table (filling (i + 1) new old)
fill_more new old i d h =
    sym (table_write (filling i new old) (filling (i + 1) new old) i (new i) d h (cond-true _ (new i) (old i) (lt-ltb i (i + 1) (omega arith)))
    (λ k l ne. ⊎_elim
    (λ lt. cond-true _ (new k) (old k) (lt-ltb k (i + 1) (omega arith)) ∙ sym (cond-true _ (new k) (old k) (lt-ltb k i lt)))
    (λ ge. cond-false _ (new k) (old k) (le-ltb k (i + 1) (omega arith)) ∙ sym (cond-false _ (new k) (old k) (le-ltb k i ge)))
    (cases_lt k i)))

pub fill_all : {X : Type 0} (new old : ℕ → X) (d : X) → table (filling 32 new old) ≡ table new
fill_all new old d = same_table (filling 32 new old) new d (λ k h. cond-true _ (new k) (old k) (lt-ltb k 32 h))

-- the address that comes next still has its old entry
pub at_filling : {X : Type 0} (new old : ℕ → X) (i : ℕ) (d : X) → i < 32 → get_or (table (filling i new old)) i d ≡ old i
at_filling new old i d h = at_table (filling i new old) i d h ∙ cond-false _ (new i) (old i) (le-ltb i i (omega arith))

-- a test that each entry passes, number by number as `Address::low` counts them
pub list_all-at_addresses : {X : Type 0} (test : X → Bool) (xs : List X) (d : X) → length xs ≡ 32 → list_all test xs ≡ list_all (λ a. test (get_or xs (a % 32) d)) (range_with_len 0 32)
unfolding table
list_all-at_addresses test xs d sized =
    ap (list_all test) (is_table (λ a. get_or xs (a % 32) d) xs d sized (λ k l. ap (λ (n : ℕ). get_or xs n d) (omega arith)))
    ∙ list_all-map test (λ a. get_or xs (a % 32) d) (range_with_len 0 32)
