use Rattle.std.proofs.Common.{sym, ap, ◌∙◌}
use Rattle.telegrams.specs.Requests.{Sent, sent}
use Rattle.telegrams.specs.Words.{OnlyWordOf}
use Rattle.exports.specs.Words.{packed}
use Rattle.exports.proofs.words.asi_decode_request.Goals as goal

pub returns-in-Ok : goal.returns-in-Ok
returns-in-Ok c =
    let q : Sent = sent c.in-Ok.request in
    let only : OnlyWordOf q c.args.word = c.in-Ok.ensures.1 in
    record {
      request = λ p is. c.packed.ensures ∙ ap packed (sym (only.1 p is));
      no_request = λ none. absurd (none q only.0);
    }
