use Rattle.std.proofs.Common.{refl}
use Rattle.std.proofs.lemmas.Result.{err_from_is_err_and}
use Rattle.stations.proofs.Tests.{image_passed, image_failed}
use Rattle.runs.proofs.on_image.run_on_image.Goals as goal

pub returns-in_err-test_image : goal.returns-in_err-test_image
returns-in_err-test_image c =
    let p = err_from_is_err_and c.from_residual.result c.from_residual.ensures.1 in
    let failed = image_failed c.args.words.now c.in_err-test_image.field-0.0 c.in_err-test_image.ensures in
    rw (p.1, p.2) (record { bad = failed.0; words_stay = refl; master_stays = refl; log_stays = refl; number = failed.1 })

pub invariant_of-rack : goal.invariant_of-rack
invariant_of-rack c = record { good = image_passed c.args.words.now c.in_ok-test_image.field-0 c.in_ok-test_image.ensures }
