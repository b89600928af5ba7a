use Rattle.std.proofs.Common.{◌+◌, ◌/◌, ◌^◌, ap, ◌∙◌}
use Rattle.std.specs.Int.{w32, trailing_zeros}
use Rattle.std.specs.Option.{option_map}
use Rattle.records.proofs.Ahead.{made, first_behind}
use Rattle.records.proofs.rows.Rows.first_active_behind.Goals as goal

pub returns : goal.returns
returns c =
    ap (option_map (λ a. a.value)) c.ok.ensures.value
    ∙ made (c.from-2.result + 1 + trailing_zeros w32 (c.las.result / 2 ^ c.from.result / 2 ^ 1)) c.try_from.result c.try_from.ensures
    ∙ first_behind c.args.self.now c.las.result c.args.at.value c.from.result c.from-2.result c.las.ensures c.las.type_inv c.from.ensures c.from-2.ensures
