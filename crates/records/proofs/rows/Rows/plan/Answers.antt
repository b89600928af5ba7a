use Rattle.std.proofs.Common.{◌≡◌, ℕ, ◌<◌, List, length, get_or, arith, rules}
use Rattle.std.proofs.lemmas.List.{get_or_default}
use Rattle.records.specs.declared.entry.Entry.{Entry}
use Rattle.records.proofs.Written.{planned_at}
use Rattle.records.proofs.rows.Rows.plan.Goals as goal

pub returns : goal.returns
returns c =
    let old = c.args.self.now in
    let es : List Entry = old.entries in
    let i : ℕ = c.from-at.result in
    let to : i ≡ c.args.address.value = c.from-at.ensures in
    let inside : i < 32 = omega arith in
    let sized : length es ≡ 32 = search rules in
    let e : Entry = get_or es i c.index-self-at.result in
    let read : e ≡ get_or es i e = get_or_default es i c.index-self-at.result e (omega arith) in
    planned_at old.lists.lds old.lists.las old.lps c.set_member-self.result es i c.args.address.value e c.args.projected c.args.codes c.args.parameter
    to c.set_member-self.ensures inside sized read
