use Rattle.std.proofs.Common.{ℕ, sym, ap, ◌∙◌}
use Rattle.lists.specs.Members.{has}
use Rattle.records.specs.Rows.{Row}
use Rattle.records.proofs.Written.{row_is}
use Rattle.records.proofs.rows.Rows.is_active.Goals as goal

pub returns : goal.returns
returns c =
    let r = c.args.self.now in
    c.contains.ensures ∙ ap (λ (w : ℕ). has w c.args.address.value) c.las.ensures
    ∙ sym (ap (λ (row : Row). row.active) (row_is r.lists.lds r.lists.las r.lps r.entries c.args.address.value c.args.address.ok))
