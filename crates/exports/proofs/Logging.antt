-- A list of addresses as a word, the words of the rows one by one, and words that are written behind one another.
use Rattle.std.proofs.Common.{◌≡◌, ℕ, take_all, zero, suc, ◌+◌, ◌*◌, ◌/◌, ◌%◌, ◌^◌, ◌<◌, eqb, List, [], ◌∷◌, ◌++◌, map, length, get_or, take, sym, refl, ap, ◌∙◌, ⊎_elim, add-one, arith}
use Rattle.std.specs.List.{range_with_len}
use Rattle.std.proofs.lemmas.Nat.{shr-shr, mod-pow-add}
use Rattle.std.proofs.lemmas.Bool.{cases_eq, eq-eqb, ne_eqb}
use Rattle.values.specs.Tables.{table}
use Rattle.lists.specs.Members.{has}
use Rattle.records.specs.Rows.{Row, row_at}
use Rattle.orders.specs.declared.pair.Queues.{Queues}
use Rattle.control.specs.Cycles.{Master}
use Rattle.control.specs.declared.control.Listing.{Listing}
use Rattle.promise.specs.Successions.{reading, of_lists}
use Rattle.promise.specs.Outcomes.{Came, Shown, lists, lists_of}
use Rattle.master.specs.declared.master.MasterWith.{MasterWith}
use Rattle.master.specs.Masters.{state_of, shown, Calls}
use Rattle.exports.specs.Logging.{bit, count_word, mode_number, list_word, list_words, status_words, row_word, row_words}

-- A list of addresses

bit_read : (v : ℕ) → bit (eqb (v % 2) 1) ≡ v % 2
bit_read v = ⊎_elim (λ e. ap bit (eq-eqb (v % 2) 1 e) ∙ sym e) (λ ne. ap bit (ne_eqb (v % 2) 1 ne) ∙ omega arith) (cases_eq (v % 2) 1)

bits_read : (w k n : ℕ) → list_word (map (has w) (range_with_len k n)) ≡ w / 2 ^ k % 2 ^ n
bits_read w k zero = omega arith
bits_read w k (suc n) =
    let v : ℕ = w / 2 ^ k in
    let rest : list_word (map (has w) (range_with_len (k + 1) n)) ≡ v / 2 % 2 ^ n = bits_read w (k + 1) n ∙ ap (λ (x : ℕ). x % 2 ^ n) (sym (shr-shr w k 1)) in
    let split : v % 2 ^ suc n ≡ (v / 2 % 2 ^ n) * 2 + v % 2 = ap (λ (j : ℕ). v % 2 ^ j) (sym (add-one n)) ∙ mod-pow-add v n 1 in
    omega (arith, bit_read v, rest, split)

pub list_read : (w : ℕ) → w < 2 ^ 32 → list_word (table (has w)) ≡ w
unfolding table
list_read w small = bits_read w 0 32 ∙ omega arith

-- The words of the rows

pub row_word_at : (rs : List Row) (k : ℕ) → k < 2 * length rs → k % 2 ≡ 0 → get_or (row_words rs) k 0 ≡ row_word (row_at (k / 2) rs)
row_word_at [] k h e = absurd (omega arith)
row_word_at (r ∷ rs) zero h e = refl
row_word_at (r ∷ rs) (suc zero) h e = absurd (omega arith)
row_word_at (r ∷ rs) (suc (suc k)) h e =
    let half : suc (suc k) / 2 ≡ suc (k / 2) = omega arith in
    row_word_at rs k (omega arith) (omega arith) ∙ ap (λ (i : ℕ). row_word (row_at i (r ∷ rs))) (sym half)

pub misses_at : (rs : List Row) (k : ℕ) → k < 2 * length rs → (k % 2 ≡ 0 → ⊥) → get_or (row_words rs) k 0 ≡ (row_at (k / 2) rs).misses
misses_at [] k h e = absurd (omega arith)
misses_at (r ∷ rs) zero h e = absurd (e refl)
misses_at (r ∷ rs) (suc zero) h e = refl
misses_at (r ∷ rs) (suc (suc k)) h e =
    let half : suc (suc k) / 2 ≡ suc (k / 2) = omega arith in
    misses_at rs k (omega arith) (λ even. e (omega arith)) ∙ ap (λ (i : ℕ). (row_at i (r ∷ rs)).misses) (sym half)

pub length-row_words : (rs : List Row) → length (row_words rs) ≡ 2 * length rs
length-row_words [] = refl
length-row_words (r ∷ rs) = omega (arith, length-row_words rs)

-- A reading of the lists, and the mode

lists_told : {a b : Shown} → lists a ≡ lists b → a ≡ b
lists_told {a} {b} e = ap read e
  where
    read : Came → Shown
    read (lists x) = x
    read y = a

pub reading_is : (m : MasterWith Queues) (r : Listing) → Calls (reading of_lists) m (lists (shown r)) m → shown r ≡ lists_of (state_of m).control
reading_is m r made = lists_told made.came_to

pub status_is : (m : Master) (waiting uncollected mode : ℕ) (ls : List ℕ) → waiting ≡ count_word (length m.orders) → uncollected ≡ count_word (length m.answers) → mode ≡ mode_number m.control.mode → ls ≡ list_words (lists_of m.control) → waiting ∷ uncollected ∷ mode ∷ get_or ls 0 0 ∷ get_or ls 1 0 ∷ get_or ls 2 0 ∷ get_or ls 3 0 ∷ [] ≡ status_words m
status_is m waiting uncollected mode ls p q r s = rw (p, q, r, s)

-- Words that are written one behind the other are the whole log, where the last end with it

pub written_whole : (l1 l2 l3 l4 w1 w2 w3 w4 : List ℕ) (i j k n : ℕ) → take i l1 ≡ w1 → take j l2 ≡ take i l1 ++ w2 → take k l3 ≡ take j l2 ++ w3 → take n l4 ≡ take k l3 ++ w4 → length l4 ≡ n → l4 ≡ w1 ++ w2 ++ w3 ++ w4
written_whole l1 l2 l3 l4 w1 w2 w3 w4 i j k n p q r s long = let all : take n l4 ≡ l4 = take_all n l4 (omega arith) in cc
