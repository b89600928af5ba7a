use Rattle.std.proofs.Common.{◌≡◌, ℕ, take, map, sym, ap, ◌∙◌, arith}
use Rattle.records.specs.Edits.{change_of}
use Rattle.exports.specs.Scripts.{Edits, edits_in}
use Rattle.exports.proofs.Scripts.{reads_on, reads_no_more, none_next, none_left}
use Rattle.exports.proofs.script.read_edits.Goals as goal

none_read : (c : goal.In_default) → edits_in 4 c.args.script.now ≡ record { edits = map change_of (take c.loop-count.count c.loop-count.edits); rest = c.loop-count.rest.now }
none_read c = reads_no_more 4 _ _ _ _ c.loop-count.invariant (none_next _ c.loop-count.rest.now (sym c.in_default.ensures.edit))

all_read : (c : goal.After-loop-count) → edits_in 4 c.args.script.now ≡ record { edits = map change_of (take 4 c.loop-count.edits); rest = c.loop-count.rest.now }
all_read c =
    let last : c.loop-count.count ≡ 4 = omega arith in
    reads_no_more 4 _ _ _ _ c.loop-count.invariant (none_left 4 c.loop-count.count c.loop-count.rest.now c.loop-count-test.false)
    ∙ ap (λ (n : ℕ). record { edits = map change_of (take n c.loop-count.edits); rest = c.loop-count.rest.now }) last

pub returns-in_default-clause-edits : goal.returns-in_default-clause-edits
returns-in_default-clause-edits c = ap (λ (e : Edits). e.edits) (sym (none_read c))

pub returns-in_default-clause-rest : goal.returns-in_default-clause-rest
returns-in_default-clause-rest c = ap (λ (e : Edits). e.rest) (sym (none_read c))

pub loop-count-preserved : goal.loop-count-preserved
loop-count-preserved c =
    reads_on 4 c.args.script.now c.loop-count.count c.loop-count.edits c.loop-count.rest.now c.in-Some.behind.now c.in-Some.edit c.loop-count-test.true c.loop-count.invariant
    (sym c.in-Some.ensures.edit) c.in-Some.ensures.rest

pub returns-clause-edits : goal.returns-clause-edits
returns-clause-edits c = ap (λ (e : Edits). e.edits) (sym (all_read c))

pub returns-clause-rest : goal.returns-clause-rest
returns-clause-rest c = ap (λ (e : Edits). e.rest) (sym (all_read c))
