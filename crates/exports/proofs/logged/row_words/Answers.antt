use Rattle.std.proofs.Common.{◌≡◌, get_or, rules, arith}
use Rattle.std.proofs.lemmas.List.{ext_get_or}
use Rattle.values.proofs.Arrays.{each_from_from_fn}
use Rattle.values.proofs.Tables.{length-table}
use Rattle.records.specs.Records.{rows, row_in}
use Rattle.exports.specs.Logging.{row_words}
use Rattle.exports.proofs.Logging.{length-row_words}
use Rattle.exports.proofs.logged.row_words.Goals as goal

pub returns : goal.returns
returns c =
    let t = c.args.table.now in
    let rs = rows t in
    let each = each_from_from_fn _ (λ k w. w ≡ get_or (row_words rs) k 0) _ 64 c.from_fn.result c.from_fn.ensures.items (λ q k w l call. search rules) in
    ext_get_or 0 c.from_fn.result (row_words rs) (omega (arith, c.from_fn.ensures.items.long, length-row_words rs, length-table (row_in t.lists.lds t.lists.las t.lps t.entries)))
    (λ k l. each k 0 (omega (arith, l, c.from_fn.ensures.items.long)))
