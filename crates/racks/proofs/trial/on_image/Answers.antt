use Rattle.std.proofs.Common.{◌≡◌, true, rules}
use Rattle.telegrams.specs.Requests.{sent, heard}
use Rattle.telegrams.proofs.Targets.{target_below}
use Rattle.std.proofs.lemmas.Result.{err_from_is_err_and}
use Rattle.stations.proofs.Tests.{image_passed, image_failed}
use Rattle.stations.specs.Images.{good_image, powered_in, place_at, image_of}
use Rattle.values.specs.Tables.{table}
use Rattle.lines.specs.Lines.{line_after}
use Rattle.racks.proofs.Trials.{carried_image}
use Rattle.racks.proofs.trial.on_image.Goals as goal

pub returns-in_err-test_image : goal.returns-in_err-test_image
returns-in_err-test_image c =
    let p = err_from_is_err_and c.from_residual.result c.from_residual.ensures.1 in
    let failed = image_failed c.args.words.now c.in_err-test_image.field-0.0 c.in_err-test_image.ensures in
    rw (p.1, p.2) (failed.0, search rules, failed.1)

pub returns : goal.returns
returns c =
    let q = sent c.args.request in
    let ws = c.args.words.now in
    let good : good_image ws ≡ true = image_passed ws c.in_ok-test_image.field-0 c.in_ok-test_image.ensures in
    let carried = c.carry.ensures.words in
    let image : c.carry.new.self.words.now ≡ image_of (powered_in ws) (line_after (powered_in ws) q (table (place_at ws))) =
    carried_image q ws c.carry.new.self.words.now (heard c.carry.result) good (target_below c.args.request) carried in
    (good, search rules, carried.replied)

pub invariant_of-rack : goal.invariant_of-rack
invariant_of-rack c = record { good = image_passed c.args.words.now c.in_ok-test_image.field-0 c.in_ok-test_image.ensures }
