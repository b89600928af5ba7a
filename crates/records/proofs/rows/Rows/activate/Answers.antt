use Rattle.std.proofs.Common.{◌≡◌, ℕ, true, List, length, ap, ◌∙◌, arith, rules}
use Rattle.lists.specs.Members.{has, joined}
use Rattle.lists.proofs.Laws.{has_joined_same, has_joined_other}
use Rattle.records.specs.declared.entry.Entry.{Entry}
use Rattle.records.proofs.Written.{relisted}
use Rattle.records.proofs.rows.Rows.activate.Goals as goal

pub returns : goal.returns
returns c =
    let r = c.args.self.now in
    let es : List Entry = r.entries in
    let a : ℕ = c.args.address.value in
    let sized : length es ≡ 32 = search rules in
    let lds : c.activate.new.self.lds ≡ joined r.lists.lds a = c.activate.ensures.lds in
    let las : c.activate.new.self.las ≡ joined r.lists.las a = c.activate.ensures.las in
    relisted r.lists.lds r.lists.las r.lps c.activate.new.self.lds c.activate.new.self.las es c.from-2.result a c.args.entry true true
    (c.from-2.ensures ∙ c.from.ensures) (omega arith) sized
    (ap (λ (w : ℕ). has w a) lds ∙ has_joined_same r.lists.lds a)
    (ap (λ (w : ℕ). has w a) las ∙ has_joined_same r.lists.las a)
    (λ k h ne. ap (λ (w : ℕ). has w k) lds ∙ has_joined_other r.lists.lds a k ne)
    (λ k h ne. ap (λ (w : ℕ). has w k) las ∙ has_joined_other r.lists.las a k ne)
