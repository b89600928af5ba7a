use Rattle.std.proofs.Common.{sym, ap, ◌∙◌}
use Rattle.records.specs.Rows.{Row}
use Rattle.records.proofs.Written.{row_is}
use Rattle.records.proofs.rows.Rows.is_projected.Goals as goal

pub returns : goal.returns
returns c =
    let r = c.args.self.now in
    c.contains.ensures
    ∙ sym (ap (λ (row : Row). row.projected) (row_is r.lists.lds r.lists.las r.lps r.entries c.args.address.value c.args.address.ok))
