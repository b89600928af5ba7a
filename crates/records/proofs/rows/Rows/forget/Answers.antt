use Rattle.std.proofs.Common.{◌≡◌, ℕ, false, List, length, ap, ◌∙◌, arith, rules}
use Rattle.lists.specs.Members.{has, removed}
use Rattle.lists.proofs.Laws.{has_removed_same, has_removed_other}
use Rattle.records.specs.declared.entry.Entry.{Entry}
use Rattle.records.proofs.Written.{relisted}
use Rattle.records.proofs.rows.Rows.forget.Goals as goal

pub returns : goal.returns
returns c =
    let r = c.args.self.now in
    let es : List Entry = r.entries in
    let a : ℕ = c.args.address.value in
    let sized : length es ≡ 32 = search rules in
    let lds : c.forget.new.self.lds ≡ removed r.lists.lds a = c.forget.ensures.lds in
    let las : c.forget.new.self.las ≡ removed r.lists.las a = c.forget.ensures.las in
    relisted r.lists.lds r.lists.las r.lps c.forget.new.self.lds c.forget.new.self.las es c.from.result a c.args.entry false false
    c.from.ensures (omega arith) sized
    (ap (λ (w : ℕ). has w a) lds ∙ has_removed_same r.lists.lds a (omega arith))
    (ap (λ (w : ℕ). has w a) las ∙ has_removed_same r.lists.las a (omega arith))
    (λ k h ne. ap (λ (w : ℕ). has w k) lds ∙ has_removed_other r.lists.lds a k (omega arith) h ne)
    (λ k h ne. ap (λ (w : ℕ). has w k) las ∙ has_removed_other r.lists.las a k (omega arith) h ne)
