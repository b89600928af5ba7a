-- What a change of the lists and of one entry does to the rows.
use Rattle.std.proofs.Common.{◌≡◌, ℕ, ◌/◌, ◌%◌, ◌<◌, Bool, false, List, map, length, get_or, set, replicate, sym, refl, ap, ◌∙◌, arith}
use Rattle.std.proofs.lemmas.List.{get_or-replicate, length-map, map-set, get_or-map, get_or-set_same, get_or-set_other}
use Rattle.values.specs.Tables.{table}
use Rattle.values.proofs.Tables.{length-table, at_table, same_table, table_write}
use Rattle.values.specs.Ranges.{Nibble}
use Rattle.lists.specs.Members.{has, placed}
use Rattle.lists.proofs.Laws.{has_none, has_placed_same, has_placed_other}
use Rattle.records.specs.Rows.{Row, new_row, new_rows, row_at}
use Rattle.records.specs.Records.{pair_of, row_of, with_entry, listed, row_in, rows}
use Rattle.records.specs.Edits.{planned}
use Rattle.std.proofs.lemmas.Bool.{ne_eqb}
use Rattle.records.specs.declared.rows.Rows.{Rows}
use Rattle.records.specs.declared.entry.Codes.{Codes}
use Rattle.records.specs.declared.entry.Entry.{Entry}

-- an entry as a row that is in no list
abbrev unlisted : Entry → Row
unlisted e = row_of false false false e

pub new_rows_are : (e : Entry) (lds las : ℕ) → unlisted e ≡ new_row → lds ≡ 0 → las ≡ 0 → table (row_in lds las 0 (replicate 32 e)) ≡ new_rows
new_rows_are e lds las is l m = same_table (row_in lds las 0 (replicate 32 e)) (λ a. new_row) new_row each
  where
    each : (k : ℕ) → k < 32 → row_in lds las 0 (replicate 32 e) k ≡ new_row
    each k h =
        let entry : get_or (map unlisted (replicate 32 e)) k new_row ≡ new_row = get_or-replicate 32 k (unlisted e) new_row h ∙ is in
        let detected : has lds k ≡ false = ap (λ (w : ℕ). has w k) l ∙ has_none k in
        let active : has las k ≡ false = ap (λ (w : ℕ). has w k) m ∙ has_none k in
        let projected = has_none k in
        cc

-- the lists changed at most at address a, and so did the entries
pub rows_written : (lds las lps lds' las' lps' : ℕ) (es : List Entry) (a : ℕ) (e : Entry) → a < 32 → length es ≡ 32 → ((k : ℕ) → k < 32 → (k ≡ a → ⊥) → has lds' k ≡ has lds k) → ((k : ℕ) → k < 32 → (k ≡ a → ⊥) → has las' k ≡ has las k) → ((k : ℕ) → k < 32 → (k ≡ a → ⊥) → has lps' k ≡ has lps k) → table (row_in lds' las' lps' (set es a e)) ≡ set (table (row_in lds las lps es)) a (row_of (has lds' a) (has las' a) (has lps' a) e)
rows_written lds las lps lds' las' lps' es a e inside sized d c p =
    table_write (row_in lds las lps es) (row_in lds' las' lps' (set es a e)) a (row_of (has lds' a) (has las' a) (has lps' a) e) new_row inside here elsewhere
  where
    mapped : map unlisted (set es a e) ≡ set (map unlisted es) a (unlisted e)
    mapped = map-set unlisted es a e

    here : row_in lds' las' lps' (set es a e) a ≡ row_of (has lds' a) (has las' a) (has lps' a) e
    here =
        ap (λ (l : List Row). listed (has lds' a) (has las' a) (has lps' a) (get_or l a new_row)) mapped
        ∙ ap (listed (has lds' a) (has las' a) (has lps' a)) (get_or-set_same (map unlisted es) a (unlisted e) new_row (omega (arith, length-map es unlisted)))

    elsewhere : (k : ℕ) → k < 32 → (k ≡ a → ⊥) → row_in lds' las' lps' (set es a e) k ≡ row_in lds las lps es k
    elsewhere k h ne =
        let same : get_or (map unlisted (set es a e)) k new_row ≡ get_or (map unlisted es) k new_row =
        ap (λ (l : List Row). get_or l k new_row) mapped ∙ get_or-set_other (map unlisted es) a k (unlisted e) new_row ne in
        let detected = d k h ne in
        let active = c k h ne in
        let projected = p k h ne in
        cc

-- the row of an address whose entry was read
pub row_read : (lds las lps : ℕ) (es : List Entry) (a : ℕ) (e : Entry) → a < 32 → a < length es → e ≡ get_or es a e → row_at a (table (row_in lds las lps es)) ≡ row_of (has lds a) (has las a) (has lps a) e
row_read lds las lps es a e inside stored read =
    at_table (row_in lds las lps es) a new_row inside
    ∙ ap (listed (has lds a) (has las a) (has lps a)) (get_or-map unlisted es a e new_row stored ∙ ap unlisted (sym read))

abbrev pub replanned : Codes → Nibble → Entry → Entry
replanned codes parameter e = record { cdi = e.cdi; pcd = codes; pi = e.pi; pp = parameter; idi = e.idi; odi = e.odi; misses = e.misses }

-- a write of what is projected at address a, whose entry was e
pub planned_rows : (lds las lps : ℕ) (es : List Entry) (a : ℕ) (e : Entry) (projected : Bool) (codes : Codes) (parameter : Nibble) → a < 32 → length es ≡ 32 → e ≡ get_or es a e → table (row_in lds las (placed projected lps a) (set es a (replanned codes parameter e))) ≡ set (table (row_in lds las lps es)) a (planned projected (pair_of codes) parameter.value (row_at a (table (row_in lds las lps es))))
planned_rows lds las lps es a e projected codes parameter inside sized read =
    rows_written lds las lps lds las (placed projected lps a) es a (replanned codes parameter e) inside sized (λ k h ne. refl) (λ k h ne. refl) (λ k h ne. has_placed_other projected lps a k inside h ne)
    ∙ ap (set (table (row_in lds las lps es)) a)
    (ap (λ (b : Bool). row_of (has lds a) (has las a) b (replanned codes parameter e)) (has_placed_same projected lps a inside)
    ∙ sym (ap (planned projected (pair_of codes) parameter.value) (row_read lds las lps es a e inside (omega arith) read)))

-- the same for an index and a word that equal those
pub planned_at : (lds las lps lps' : ℕ) (es : List Entry) (i a : ℕ) (e : Entry) (projected : Bool) (codes : Codes) (parameter : Nibble) → i ≡ a → lps' ≡ placed projected lps a → i < 32 → length es ≡ 32 → e ≡ get_or es i e → table (row_in lds las lps' (set es i (replanned codes parameter e))) ≡ set (table (row_in lds las lps es)) a (planned projected (pair_of codes) parameter.value (row_at a (table (row_in lds las lps es))))
planned_at lds las lps lps' es i a e projected codes parameter to is inside sized read =
    ap (λ (w : ℕ). table (row_in lds las w (set es i (replanned codes parameter e)))) (is ∙ ap (placed projected lps) (sym to))
    ∙ planned_rows lds las lps es i e projected codes parameter inside sized read
    ∙ ap (λ (n : ℕ). set (table (row_in lds las lps es)) n (planned projected (pair_of codes) parameter.value (row_at n (table (row_in lds las lps es))))) to

-- an entry that is read is that of its row
pub entry_read : (lds las lps : ℕ) (es : List Entry) (i a : ℕ) (e : Entry) → i ≡ a → i < 32 → length es ≡ 32 → e ≡ get_or es i e → with_entry e (row_at a (table (row_in lds las lps es))) ≡ row_at a (table (row_in lds las lps es))
entry_read lds las lps es i a e to inside sized read =
    let row : row_at a (table (row_in lds las lps es)) ≡ row_of (has lds a) (has las a) (has lps a) e =
    row_read lds las lps es a e (omega arith) (omega arith) (read ∙ ap (λ (n : ℕ). get_or es n e) to) in
    ap (with_entry e) row ∙ sym row

-- an entry that is written changes the values of its row
pub entry_written : (lds las lps : ℕ) (es : List Entry) (i a : ℕ) (e : Entry) → i ≡ a → i < 32 → length es ≡ 32 → table (row_in lds las lps (set es i e)) ≡ set (table (row_in lds las lps es)) a (with_entry e (row_at a (table (row_in lds las lps es))))
entry_written lds las lps es i a e to inside sized =
    rows_written lds las lps lds las lps es i e inside sized (λ k h ne. refl) (λ k h ne. refl) (λ k h ne. refl)
    ∙ ap (set (table (row_in lds las lps es)) i) (sym (ap (with_entry e) (at_table (row_in lds las lps es) i new_row inside)))
    ∙ ap (λ (n : ℕ). set (table (row_in lds las lps es)) n (with_entry e (row_at n (table (row_in lds las lps es))))) to

pub row_is : (lds las lps : ℕ) (es : List Entry) (a : ℕ) → a < 32 → row_at a (table (row_in lds las lps es)) ≡ row_in lds las lps es a
row_is lds las lps es a h = at_table (row_in lds las lps es) a new_row h

-- an entry that is written while its address changes its place in LDS and LAS
pub relisted : (lds las lps lds' las' : ℕ) (es : List Entry) (i a : ℕ) (e : Entry) (d c : Bool) → i ≡ a → i < 32 → length es ≡ 32 → has lds' a ≡ d → has las' a ≡ c → ((k : ℕ) → k < 32 → (k ≡ a → ⊥) → has lds' k ≡ has lds k) → ((k : ℕ) → k < 32 → (k ≡ a → ⊥) → has las' k ≡ has las k) → table (row_in lds' las' lps (set es i e)) ≡ set (table (row_in lds las lps es)) a (row_of d c (row_at a (table (row_in lds las lps es))).projected e)
relisted lds las lps lds' las' es i a e d c to inside sized here_d here_c other_d other_c =
    ap (λ (n : ℕ). table (row_in lds' las' lps (set es n e))) to
    ∙ rows_written lds las lps lds' las' lps es a e (omega arith) sized other_d other_c (λ k h ne. refl)
    ∙ ap (set (table (row_in lds las lps es)) a)
    (ap (λ (b : Bool). row_of b (has las' a) (has lps a) e) here_d
    ∙ ap (λ (b : Bool). row_of d b (has lps a) e) here_c
    ∙ ap (λ (b : Bool). row_of d c b e) (sym (ap (λ (r : Row). r.projected) (row_is lds las lps es a (omega arith)))))

-- address 0 is never active
pub zero_inactive : (r : Rows) → (row_at 0 (rows r)).active ≡ false
zero_inactive r =
    ap (λ (x : Row). x.active) (row_is r.lists.lds r.lists.las r.lps r.entries 0 (omega arith))
    ∙ ne_eqb (r.lists.las / 1 % 2) 1 (λ e. omega (arith, r.lists.ok.1))

pub rows_sized : (r : Rows) → length (rows r) ≡ 32
rows_sized r = length-table (row_in r.lists.lds r.lists.las r.lps r.entries)
