use Rattle.std.proofs.Common.{sym, subst}
use Rattle.master.specs.Masters.{state_of}
use Rattle.racks.specs.Racks.{line_in}
use Rattle.runs.specs.Outcomes.{came}
use Rattle.exports.specs.Replay.{repeaters_of, Through}
use Rattle.exports.specs.declared.on_line.LineKind.{LineKind}
use Rattle.exports.proofs.on_line.on_line.Goals as goal

pub returns-in-Image-clause-made : goal.returns-in-Image-clause-made
returns-in-Image-clause-made c =
    subst
    (λ (k : LineKind). Through (repeaters_of k) c.args.call (line_in c.args.words.now) (state_of c.args.master.now) (came c.on_image.result) (line_in c.on_image.new.words) (state_of c.on_image.new.master))
    (sym c.in-Image.is) c.on_image.ensures.made
