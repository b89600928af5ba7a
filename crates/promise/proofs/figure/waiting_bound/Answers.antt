use Rattle.promise.proofs.Promise.{promised}
use Rattle.promise.proofs.Sharp.{least_bound}
use Rattle.promise.proofs.figure.waiting_bound.Goals as goal

pub returns : goal.returns
returns c = record { least = least_bound; promise = promised }
