use Rattle.std.proofs.Common.{rules}
use Rattle.values.proofs.Arrays.{items_from_from_fn}
use Rattle.stations.specs.Images.{word_at, words_of_bytes}
use Rattle.stations.proofs.bytes.words_in.Goals as goal

pub returns : goal.returns
unfolding words_of_bytes
returns c = items_from_from_fn _ (word_at c.args.bytes.now) _ c.from_fn.result 33 c.from_fn.ensures.items (λ q i y l k. search rules)
