use Rattle.std.proofs.Common.{◌≡◌, ◌+◌, ◌%◌, subst}
use Rattle.std.specs.Int.{w32, trailing_ones}
use Rattle.records.specs.Records.{rows}
use Rattle.records.specs.Ahead.{FirstInactive}
use Rattle.records.proofs.Ahead.{first_free}
use Rattle.records.proofs.rows.Rows.first_inactive.Goals as goal

pub returns : goal.returns
returns c =
    let turned = c.rotate_right-turned in
    let from = c.args.from in
    let is : (from.value + trailing_ones w32 turned.result) % 32 ≡ c.low.result.value = cc in
    subst (FirstInactive (rows c.args.self.now) from.value) is (first_free c.args.self.now c.las.result from.value c.las.ensures c.las.type_inv from.ok turned.result (cc) turned.type_inv)
