use Rattle.telegrams.specs.Requests.{sent, heard}
use Rattle.racks.proofs.WordRacks.{carried_in_place}
use Rattle.racks.proofs.image_rack.ImageRackLine.carry.Goals as goal

pub returns : goal.returns
returns c =
    let q = sent c.args.request in
    let w = c.receive.ensures.received.request q c.encode_request.ensures.0 in
    record {
      power = w.power_kept;
      after = w.places_after;
      reply = w.replied;
      words = w;
      carried = carried_in_place c.args.self.now.words c.receive.new.self.words q (heard c.receive.result) w c.receive.ensures.lender;
    }
