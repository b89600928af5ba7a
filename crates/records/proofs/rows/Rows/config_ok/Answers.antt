use Rattle.std.proofs.Common.{◌≡◌, ◌%◌, Bool, false, not, ◌&&◌, refl, sym, ap, ◌∙◌, rules}
use borrow.Author.Tests.{tests}
use Rattle.std.specs.List.{list_all}
use Rattle.std.proofs.lemmas.Iterator.{YieldsList-from_range}
use Rattle.std.proofs.lemmas.Iterator.Search.{all_from_yields_List}
use Rattle.values.proofs.Tables.{length-table, list_all-at_addresses}
use Rattle.records.specs.Rows.{new_row, row_at, agreeing}
use Rattle.records.specs.Records.{row_in, rows}
use Rattle.records.proofs.rows.Rows.config_ok.Goals as goal

pub returns-then-not-is_detected : goal.returns-then-not-is_detected
returns-then-not-is_detected c =
    let r = c.args.self.now in
    let sized = length-table (row_in r.lists.lds r.lists.las r.lps r.entries) in
    let none : (row_at 0 (rows r)).detected ≡ false = search rules in
    all_from_yields_List (λ a. agreeing (row_at (a % 32) (rows r))) _ _ _ c.all.ensures.ran (YieldsList-from_range 0 32 32 (cc) refl) (λ x b q k. search (rules, tests))
    ∙ sym (list_all-at_addresses agreeing (rows r) new_row sized)
    ∙ sym (ap (λ (b : Bool). not b && list_all agreeing (rows r)) none)
