use Rattle.std.proofs.Common.{◌≡◌, ℕ, set, sym, ap, ◌∙◌, arith}
use Rattle.std.proofs.lemmas.Bool.{eq-eqb, ne_eqb, cond-true, cond-false}
use Rattle.values.proofs.Tables.{length-table}
use Rattle.values.proofs.Filling.{fill_starts_at, still_old, fill_goes_on, fill_ends}
use Rattle.records.specs.Rows.{Row, new_row, row_at}
use Rattle.records.specs.Records.{rows}
use Rattle.records.specs.Edits.{copied}
use Rattle.records.proofs.rows.Rows.take_over.Goals as goal

-- the loop begins at 1, since address 0 keeps its row
pub loop-a-init : goal.loop-a-init
loop-a-init c =
    fill_starts_at _ (rows c.args.self.now) new_row 1
    (λ k below. let r : Row = row_at k (rows c.args.self.now) in cond-true _ r (copied r) (eq-eqb k 0 (omega arith)))
    (length-table _)

pub loop-a-preserved : goal.loop-a-preserved
loop-a-preserved c =
    let a : ℕ = c.loop-a.a in
    let r : Row = row_at a (rows c.args.self.now) in
    let to : c.low.result.value ≡ a = omega arith in
    fill_goes_on _ _ _ a (rows c.loop-a.self) (rows c.copy_detected.new.self) (omega arith) c.loop-a.invariant
    (
    c.copy_detected.ensures
    ∙ ap (λ (n : ℕ). set (rows c.loop-a.self) n (copied (row_at n (rows c.loop-a.self)))) to
    ∙ ap (λ (x : Row). set (rows c.loop-a.self) a (copied x)) (still_old _ _ _ a _ (omega arith) c.loop-a.invariant)
    ∙ ap (set (rows c.loop-a.self) a) (sym (cond-false _ r (copied r) (ne_eqb a 0 (λ e. omega arith))))
    )

pub returns : goal.returns
returns c = fill_ends _ _ _ _ _ (omega (arith, c.loop-a.auto.a-end)) c.loop-a.invariant
