use Rattle.std.proofs.Common.{ℕ, List, ◌++◌, ap, ◌∙◌, arith}
use Rattle.records.specs.Records.{rows}
use Rattle.records.specs.declared.record.Record.{Record}
use Rattle.master.specs.Masters.{state_of}
use Rattle.runs.specs.Outcomes.{came}
use Rattle.exports.specs.Logging.{outcome_words, status_words, row_words}
use Rattle.exports.proofs.Logging.{written_whole}
use Rattle.exports.proofs.logged.logged.Goals as goal

pub returns : goal.returns
returns c =
    let m = state_of c.args.master.now in
    let whole = written_whole c.write-at.new.log c.write-at-2.new.log c.write-at-3.new.log c.write.new.log c.outcome_words.result c.status_words.result c.row_words.result c.args.image.now
    c.write-at.result c.write-at-2.result c.write-at-3.result c.write.result
    c.write-at.ensures.written c.write-at-2.ensures.written c.write-at-3.ensures.written c.write.ensures.written (omega arith) in
    whole
    ∙ ap (λ (ws : List ℕ). ws ++ c.status_words.result ++ c.row_words.result ++ c.args.image.now) c.outcome_words.ensures
    ∙ ap (λ (ws : List ℕ). outcome_words (came c.args.outcome) ++ ws ++ c.row_words.result ++ c.args.image.now) c.status_words.ensures
    ∙ ap (λ (ws : List ℕ). outcome_words (came c.args.outcome) ++ status_words m ++ ws ++ c.args.image.now) (c.row_words.ensures ∙ ap (λ (r : Record). row_words (rows r.rows)) c.record.ensures)
