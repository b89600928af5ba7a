use Rattle.std.proofs.Common.{◌≡◌, ℕ, true, List, length, sym, ap, ◌∙◌, arith, rules}
use Rattle.lists.specs.Members.{has, joined}
use Rattle.lists.proofs.Laws.{has_joined_same, has_joined_other}
use Rattle.records.specs.Rows.{Row, row_at}
use Rattle.records.specs.Records.{rows}
use Rattle.records.specs.declared.entry.Entry.{Entry}
use Rattle.records.proofs.Written.{relisted, row_is}
use Rattle.records.proofs.rows.Rows.detect.Goals as goal

pub returns : goal.returns
returns c =
    let r = c.args.self.now in
    let es : List Entry = r.entries in
    let a : ℕ = c.args.address.value in
    let sized : length es ≡ 32 = search rules in
    let lds : c.detect.new.self.lds ≡ joined r.lists.lds a = c.detect.ensures.lds in
    let las : c.detect.new.self.las ≡ r.lists.las = c.detect.ensures.las in
    relisted r.lists.lds r.lists.las r.lps c.detect.new.self.lds c.detect.new.self.las es c.from.result a c.args.entry true (row_at a (rows r)).active
    c.from.ensures (omega arith) sized
    (ap (λ (w : ℕ). has w a) lds ∙ has_joined_same r.lists.lds a)
    (ap (λ (w : ℕ). has w a) las ∙ sym (ap (λ (x : Row). x.active) (row_is r.lists.lds r.lists.las r.lps es a (omega arith))))
    (λ k h ne. ap (λ (w : ℕ). has w k) lds ∙ has_joined_other r.lists.lds a k ne)
    (λ k h ne. ap (λ (w : ℕ). has w k) las)
