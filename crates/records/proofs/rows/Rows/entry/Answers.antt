use Rattle.std.proofs.Common.{◌≡◌, ℕ, List, length, get_or, arith, rules}
use Rattle.std.proofs.lemmas.List.{get_or_default}
use Rattle.records.specs.declared.entry.Entry.{Entry}
use Rattle.records.proofs.Written.{entry_read}
use Rattle.records.proofs.rows.Rows.entry.Goals as goal

pub returns : goal.returns
returns c =
    let r = c.args.self.now in
    let es : List Entry = r.entries in
    let i : ℕ = c.from-a.result in
    let sized : length es ≡ 32 = search rules in
    let e : Entry = get_or es i c.index-self-a.result in
    entry_read r.lists.lds r.lists.las r.lps es i c.args.address.value e c.from-a.ensures (omega arith) sized
    (get_or_default es i c.index-self-a.result e (omega arith))
