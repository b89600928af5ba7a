use Rattle.std.proofs.Common.{ap, ◌∙◌}
use Rattle.records.specs.declared.record.Record.{Record}
use Rattle.master.specs.Masters.{state_of}
use Rattle.exports.specs.Logging.{count_word, mode_number, list_words}
use Rattle.exports.proofs.Logging.{reading_is, status_is}
use Rattle.exports.proofs.logged.status_words.Goals as goal

pub returns : goal.returns
returns c =
    let m = c.args.master.now in
    status_is (state_of m) _ _ _ c.list_words.result
    (c.count_word-waiting.ensures ∙ ap count_word c.waiting.ensures)
    (c.count_word-uncollected.ensures ∙ ap count_word c.uncollected.ensures)
    (c.mode_number-mode.ensures ∙ ap mode_number (c.mode.ensures ∙ ap (λ (r : Record). r.mode) c.record.ensures))
    (c.list_words.ensures ∙ ap list_words (reading_is m c.read_lists.result c.read_lists.ensures.called))
