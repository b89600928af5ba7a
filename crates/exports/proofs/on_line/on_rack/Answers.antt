use Rattle.master.specs.Masters.{state_of}
use Rattle.racks.specs.Racks.{line_in}
use Rattle.racks.proofs.Lent.{words_kept}
use Rattle.promise.specs.Outcomes.{sent_by}
use Rattle.runs.specs.Outcomes.{came, turn_of}
use Rattle.exports.proofs.Repeaters.{image_rack, image_rack_is, through}
use Rattle.exports.proofs.on_line.on_rack.Goals as goal

pub returns-clause-made : goal.returns-clause-made
returns-clause-made c =
    through image_rack 0 image_rack_is c.args.call c.args.rack.now c.perform.new.line c.args.master.now c.perform.new.master
    (came c.perform.result) c.perform.ensures.performed c.perform.ensures.sends

pub returns-clause-lender : goal.returns-clause-lender
returns-clause-lender c =
    words_kept c.args.rack.now c.perform.new.line (sent_by (turn_of (line_in c.args.rack.now.words.now) c.args.call) (state_of c.args.master.now)) c.perform.ensures.sends
