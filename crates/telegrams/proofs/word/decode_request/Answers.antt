use Rattle.std.proofs.Common.{◌≡◌, refl, ◌∙◌, arith}
use Rattle.std.proofs.lemmas.Result.{err_from_is_err_and}
use Rattle.values.specs.Refusals.{cause_number}
use Rattle.telegrams.specs.Words.{payload_of, frame_cause}
use Rattle.telegrams.proofs.Frames.{cause_counts, no_frame, payload_fits, first_counts}
use Rattle.telegrams.proofs.word.decode_request.Goals as goal

pub returns-in_err-unframe : goal.returns-in_err-unframe
returns-in_err-unframe c =
    let p = err_from_is_err_and c.from_residual.result c.from_residual.ensures.1 in
    let cause = c.in_err-unframe.field-0.0 in
    let found : cause_number cause ≡ frame_cause 8192 c.args.word = c.in_err-unframe.ensures in
    rw (p.1, p.2) (
      refl,
      cause_counts cause,
      found ∙ first_counts (frame_cause 8192 c.args.word) _ (omega (arith, cause_counts cause)),
      λ q is. no_frame 8192 c.args.word cause found (payload_of q) (payload_fits q.to q.asking is.0) is.1,
    )
