use Rattle.std.proofs.Common.{◌≡◌, ◌/◌, ℕ, length, sym, ap, ◌∙◌, arith}
use Rattle.values.proofs.Tables.{length-table}
use Rattle.records.specs.Rows.{Row, row_at}
use Rattle.records.specs.Records.{rows, row_in}
use Rattle.records.specs.declared.rows.Rows.{Rows}
use Rattle.exports.specs.Logging.{row_word}
use Rattle.exports.proofs.Logging.{row_word_at, misses_at}
use Rattle.exports.proofs.logged.word_of_rows.Goals as goal

long : (t : Rows) → length (rows t) ≡ 32
long t = length-table (row_in t.lists.lds t.lists.las t.lps t.entries)

pub returns-then-k-eq0 : goal.returns-then-k-eq0
returns-then-k-eq0 c =
    let k = c.args.k in
    let rs = rows c.args.table.now in
    let there : c.low.result.value ≡ k / 2 = omega arith in
    c.row_word.ensures
    ∙ ap row_word c.entry-entry.ensures
    ∙ ap (λ (a : ℕ). row_word (row_at a rs)) there
    ∙ sym (row_word_at rs k (omega (arith, long c.args.table.now)) c.if-k-eq0.true)

pub returns-else-k-eq0 : goal.returns-else-k-eq0
returns-else-k-eq0 c =
    let k = c.args.k in
    let rs = rows c.args.table.now in
    let there : c.low.result.value ≡ k / 2 = omega arith in
    c.from.ensures
    ∙ ap (λ (r : Row). r.misses) c.entry-entry.ensures
    ∙ ap (λ (a : ℕ). (row_at a rs).misses) there
    ∙ sym (misses_at rs k (omega (arith, long c.args.table.now)) c.if-k-eq0.false)
