-- Every request goes to an address of the line.
use Rattle.std.proofs.Common.{◌<◌}
use Rattle.telegrams.specs.Requests.{target}
use Rattle.telegrams.specs.declared.request.Request.{Request}
use Rattle.telegrams.specs.declared.request.Request.TheVariants.{DataExchange, WriteParameter, ReadIo, ReadId, Reset}

pub target_below : (q : Request) → target q < 32
target_below (DataExchange a n) = a.ok.1
target_below (WriteParameter a n) = a.ok.1
target_below (ReadIo a) = a.ok
target_below (ReadId a) = a.ok
target_below (Reset a) = a.ok
