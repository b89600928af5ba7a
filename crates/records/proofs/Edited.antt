-- One edit more at the end of those made through a projection.
use Rattle.std.proofs.Common.{◌≡◌, ℕ, ◌+◌, ◌<◌, ◌≤◌, Bool, true, false, cond, List, [], ◌∷◌, ◌++◌, map, length, get_or, take, Ok, Err, Result, sym, refl, ap, ◌∙◌, arith}
use Rattle.std.proofs.lemmas.List.{take_more, map_push}
use mir.Val.{bool_byte}
use Rattle.std.specs.Result.{is_ok}
use Rattle.values.specs.Refusals.{Outcome, outcome, accepts}
use Rattle.values.specs.declared.refusal.Refusal.{Refusal}
use Rattle.records.specs.Rows.{Row}
use Rattle.records.specs.Edits.{Edit as Change, change_of, edit_outcome, edit_after, all_edited, accepted_edits}
use Rattle.records.specs.declared.record.Mode.{Mode}
use Rattle.records.specs.declared.edit.Edit.{Edit}

-- one for an edit that was accepted, as the program counts it
pub counted : (r : Result (Unit {0}) Refusal) → bool_byte (is_ok r) ≡ cond (accepts (outcome {A = Unit {0}} {B = Unit {0}} (λ u. u) r)) 1 0
counted (Ok u) = refl
counted (Err e) = refl

pub at_most_one : (b : Bool) → bool_byte b ≤ 1
at_most_one true = omega arith
at_most_one false = omega arith

module _ (mode : Mode) where
  all_edited_push : (es : List Change) (e : Change) (rs : List Row) → all_edited mode (es ++ e ∷ []) rs ≡ edit_after mode e (all_edited mode es rs)
  all_edited_push [] e rs = refl
  all_edited_push (d ∷ es) e rs = all_edited_push es e (edit_after mode d rs)

  accepted_push : (es : List Change) (e : Change) → accepted_edits mode (es ++ e ∷ []) ≡ accepted_edits mode es + cond (accepts (edit_outcome mode e)) 1 0
  accepted_push [] e = omega arith
  accepted_push (d ∷ es) e = omega (arith, accepted_push es e)

  -- the edit at place i of the list
  module _ (es : List Edit) (i : ℕ) (d : Edit) (inside : i < length es) (met : Mode) (same : met ≡ mode) where
    more : map change_of (take (i + 1) es) ≡ map change_of (take i es) ++ change_of (get_or es i d) ∷ []
    more = ap (map change_of) (take_more es i d inside) ∙ map_push change_of (take i es) (get_or es i d)

    pub edited_more : (rs rs₁ rs₂ : List Row) → rs₁ ≡ all_edited mode (map change_of (take i es)) rs → rs₂ ≡ edit_after met (change_of (get_or es i d)) rs₁ → rs₂ ≡ all_edited mode (map change_of (take (i + 1) es)) rs
    edited_more rs rs₁ rs₂ so_far is =
        is
        ∙ ap (λ (m : Mode). edit_after m (change_of (get_or es i d)) rs₁) same
        ∙ ap (edit_after mode (change_of (get_or es i d))) so_far
        ∙ sym (all_edited_push (map change_of (take i es)) (change_of (get_or es i d)) rs)
        ∙ ap (λ (cs : List Change). all_edited mode cs rs) (sym more)

    pub accepted_more : (n k : ℕ) (o : Outcome (Unit {0})) → n ≡ accepted_edits mode (map change_of (take i es)) → o ≡ edit_outcome met (change_of (get_or es i d)) → k ≡ cond (accepts o) 1 0 → n + k ≡ accepted_edits mode (map change_of (take (i + 1) es))
    accepted_more n k o so_far came is =
        ap (λ (j : ℕ). j + k) so_far
        ∙ ap (λ (j : ℕ). accepted_edits mode (map change_of (take i es)) + j)
        (is ∙ ap (λ (p : Outcome (Unit {0})). cond (accepts p) 1 0) (came ∙ ap (λ (m : Mode). edit_outcome m (change_of (get_or es i d))) same))
        ∙ sym (accepted_push (map change_of (take i es)) (change_of (get_or es i d)))
        ∙ ap (accepted_edits mode) (sym more)
