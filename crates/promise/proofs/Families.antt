-- What no writing changes of the rows, and what no setting changes of the execution control.
use Rattle.std.proofs.Common.{◌≡◌, ℕ, ◌-◌, ◌<◌, ◌≤◌, List, length, set, sym, refl, ap, ◌∙◌, ⊎_elim}
use Rattle.std.proofs.lemmas.List.{length-set, get_or-set_same, get_or-set_other, set_past}
use Rattle.std.proofs.lemmas.Bool.{cases_eq, cases_lt, cond_both}
use Rattle.values.specs.Refusals.{accepts}
use Rattle.records.specs.Rows.{Row, row_at, new_row, with_odi, outputs_outcome}
use Rattle.control.specs.Cycles.{Control}
use Rattle.promise.specs.Successions.{Writing, of_outputs, Setting, of_mode, of_offline, written, set_by}

-- a write that keeps f of the row there keeps f of every row
pub set_keeps : {X : Type 0} (f : Row → X) (rs : List Row) (a b : ℕ) (r : Row) → f r ≡ f (row_at a rs) → f (row_at b (set rs a r)) ≡ f (row_at b rs)
set_keeps {X} f rs a b r e = ⊎_elim inside past (cases_lt a (length rs))
  where
    past : length rs ≤ a → f (row_at b (set rs a r)) ≡ f (row_at b rs)
    past le = ap (λ (l : List Row). f (row_at b l)) (set_past rs a r le)

    inside : a < length rs → f (row_at b (set rs a r)) ≡ f (row_at b rs)
    inside lt =
        ⊎_elim (λ same. ap (λ k. f (row_at k (set rs a r))) same ∙ ap f (get_or-set_same rs a r new_row lt) ∙ e ∙ ap (λ k. f (row_at k rs)) (sym same))
        (λ other. ap f (get_or-set_other rs a b r new_row other))
        (cases_eq b a)

-- a row for each address afterwards, where there was one, and each as it was but for its ODI
pub record Writes (rs rs' : List Row) : Type 0 where
  pub sized : length rs ≡ 32 → length rs' ≡ 32
  pub but_odi : (b : ℕ) → b < 32 → with_odi 0 (row_at b rs') ≡ with_odi 0 (row_at b rs)

pub writes : (w : Writing) (rs : List Row) → Writes rs (written w rs)
writes (of_outputs a n) rs =
    let r : Row = with_odi (15 - n) (row_at a rs) in
    cond_both (accepts (outputs_outcome a n)) (set rs a r) rs (Writes rs)
    (λ _. record { sized = λ z. length-set rs a r ∙ z; but_odi = λ b h. set_keeps (with_odi 0) rs a b r refl })
    (λ _. record { sized = λ z. z; but_odi = λ b h. refl })

-- only the mode and the offline request may be others afterwards
pub record Sets (m m' : Control) : Type 0 where
  pub power_fail_is : m'.power_fail ≡ m.power_fail
  pub phase_is : m'.phase ≡ m.phase
  pub step_is : m'.step ≡ m.step
  pub rows_are : m'.rows ≡ m.rows

pub sets : (s : Setting) (m : Control) → Sets m (set_by s m)
sets (of_mode mode) m = record { power_fail_is = refl; phase_is = refl; step_is = refl; rows_are = refl }
sets (of_offline on) m = record { power_fail_is = refl; phase_is = refl; step_is = refl; rows_are = refl }
