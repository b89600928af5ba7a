use Rattle.std.proofs.Common.{refl, arith}
use Rattle.std.proofs.lemmas.Result.{err_from_is_err_and}
use Rattle.telegrams.proofs.Frames.{cause_counts, no_frame}
use Rattle.telegrams.proofs.word.decode_reply.Goals as goal

pub returns-in_err-payload : goal.returns-in_err-payload
returns-in_err-payload c =
    let p = err_from_is_err_and c.from_residual.result c.from_residual.ensures.1 in
    let cause = c.in_err-payload.field-0.0 in
    let found = c.in_err-payload.ensures in
    rw (p.1, p.2) (refl, cause_counts cause, found, λ m is. no_frame 64 c.args.word cause found m (omega arith) is.1)
