-- Edits that are read from a script one by one.
use Rattle.std.proofs.Common.{◌≡◌, ℕ, zero, suc, ◌+◌, ◌-◌, ◌<◌, ◌≤◌, List, [], ◌∷◌, ◌++◌, map, length, get_or, take, drop, set, Some, None, Option, sym, refl, ap, ◌∙◌, append_assoc, append-nil, arith}
use Rattle.std.proofs.lemmas.List.{take_more_set, map_push, length-set, get_or-take}
use Rattle.records.specs.Edits.{Edit, change_of}
use Rattle.records.specs.declared.edit.Edit.{Edit as Made}
use Rattle.exports.specs.Scripts.{entry_in, next_edit, Edits, no_edits, and_more, edits_in}

-- these edits were read before the others
abbrev pub behind : List Edit → Edits → Edits
behind es more = record { edits = es ++ more.edits; rest = more.rest }

-- of at most n edits in a script, i were read and stand in a store, and what is behind them is left
pub record ReadSoFar (n : ℕ) (script : List ℕ) (i : ℕ) (store : List Made) (rest : List ℕ) : Type 0 where
  pub sized : length store ≡ n
  pub so_far : edits_in n script ≡ behind (map change_of (take i store)) (edits_in (n - i) rest)

pub reads_on : (n : ℕ) (script : List ℕ) (i : ℕ) (store : List Made) (rest rest' : List ℕ) (e : Made) → i < n → ReadSoFar n script i store rest → next_edit rest ≡ Some (change_of e) → rest' ≡ drop 8 rest → ReadSoFar n script (i + 1) (set store i e) rest'
unfolding edits_in
reads_on n script i store rest rest' e inside before is left =
    let less : n - i ≡ suc (n - (i + 1)) = omega arith in
    let more : Edits = edits_in (n - (i + 1)) rest' in
    let first : edits_in (n - i) rest ≡ behind (change_of e ∷ []) more =
    ap (λ (m : ℕ). edits_in m rest) less
    ∙ ap (λ (o : Option Edit). and_more rest o (edits_in (n - (i + 1)) (drop 8 rest))) is
    ∙ ap (λ (ws : List ℕ). behind (change_of e ∷ []) (edits_in (n - (i + 1)) ws)) (sym left) in
    let taken : map change_of (take (i + 1) (set store i e)) ≡ map change_of (take i store) ++ change_of e ∷ [] =
    ap (map change_of) (take_more_set store i e (omega (arith, before.sized))) ∙ map_push change_of (take i store) e in
    record {
      sized = length-set store i e ∙ before.sized;
      so_far =
          before.so_far
          ∙ ap (behind (map change_of (take i store))) first
          ∙ ap (λ (es : List Edit). record { edits = es; rest = more.rest }) (sym (append_assoc (map change_of (take i store)) (change_of e ∷ []) more.edits))
          ∙ ap (λ (es : List Edit). behind es more) (sym taken);
    }

-- nothing more is read
pub reads_no_more : (n : ℕ) (script : List ℕ) (i : ℕ) (store : List Made) (rest : List ℕ) → ReadSoFar n script i store rest → edits_in (n - i) rest ≡ no_edits rest → edits_in n script ≡ record { edits = map change_of (take i store); rest = rest }
reads_no_more n script i store rest before none = before.so_far ∙ ap (behind (map change_of (take i store))) none ∙ ap (λ (es : List Edit). record { edits = es; rest = rest }) (append-nil (map change_of (take i store)))

pub none_next : (n : ℕ) (rest : List ℕ) → next_edit rest ≡ None → edits_in n rest ≡ no_edits rest
unfolding edits_in
none_next zero rest is = refl
none_next (suc n) rest is = ap (λ (o : Option Edit). and_more rest o (edits_in n (drop 8 rest))) is

pub none_left : (n i : ℕ) (rest : List ℕ) → n ≤ i → edits_in (n - i) rest ≡ no_edits rest
unfolding edits_in
none_left n i rest h = let none : n - i ≡ 0 = omega arith in ap (λ (m : ℕ). edits_in m rest) none

-- an entry is in the first eight words
pub entry_first : (script : List ℕ) → entry_in (take 8 script) ≡ entry_in script
entry_first script =
    cc (at 0 (omega arith), at 1 (omega arith), at 2 (omega arith), at 3 (omega arith), at 4 (omega arith), at 5 (omega arith), at 6 (omega arith))
  where
    at : (k : ℕ) → k < 8 → get_or (take 8 script) k 0 ≡ get_or script k 0
    at k h = get_or-take 8 script k 0 h
