use Rattle.std.proofs.Common.{set, sym, ◌∙◌}
use Rattle.exports.proofs.Replaying.{tested_good, tested_bad, altered_good, altered_past, altered_back}
use Rattle.exports.proofs.replay.alter.Goals as goal

pub returns-in_default : goal.returns-in_default
returns-in_default c = altered_past c.args.words.now c.args.entry.now.place c.args.entry.now.word c.in_default.ensures.lookup.3

pub returns-then-is_err : goal.returns-then-is_err
returns-then-is_err c =
    let ws = set c.args.words.now c.args.entry.now.place c.args.entry.now.word in
    altered_back c.args.words.now c.args.entry.now.place c.args.entry.now.word c.in-Some.field-0.now c.in-Some.ensures.lookup.1
    (tested_bad c.test_image.result ws c.test_image.ensures (sym c.is_err.ensures.value ∙ c.if-is_err.true))

pub returns-else-is_err : goal.returns-else-is_err
returns-else-is_err c =
    let ws = set c.args.words.now c.args.entry.now.place c.args.entry.now.word in
    altered_good ws c.args.words.now (tested_good c.test_image.result ws c.test_image.ensures (sym c.is_err.ensures.value ∙ c.if-is_err.false))
