use Rattle.std.proofs.Common.{◌≡◌, List, length, arith, rules}
use Rattle.records.specs.declared.entry.Entry.{Entry}
use Rattle.records.proofs.Written.{entry_written}
use Rattle.records.proofs.rows.Rows.set_entry.Goals as goal

pub returns : goal.returns
returns c =
    let r = c.args.self.now in
    let es : List Entry = r.entries in
    let sized : length es ≡ 32 = search rules in
    entry_written r.lists.lds r.lists.las r.lps es c.from.result c.args.to.value c.args.entry
    c.from.ensures (omega arith) sized
