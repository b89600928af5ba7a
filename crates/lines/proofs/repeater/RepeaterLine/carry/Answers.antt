use Rattle.std.proofs.Common.{◌≡◌, Bool, List, sym, ap, ◌∙◌, subst}
use Rattle.values.specs.Tables.{table}
use Rattle.values.proofs.Tables.{map-table}
use Rattle.telegrams.specs.Requests.{Heard, sent, heard}
use Rattle.stations.specs.Stations.{Place}
use Rattle.lines.specs.Lines.{line_after, line_reply, halved, repeated_after, repeated_reply}
use Rattle.lines.specs.Sending.{Sends, again}
use Rattle.lines.proofs.Repeats.{passed}
use Rattle.lines.proofs.repeater.RepeaterLine.carry.Goals as goal

pub returns : goal.returns
returns g c =
    let power : Bool = g.L.Line.power c.args.self.now.below in
    let before = g.L.Line.stations c.args.self.now.below in
    let between = g.L.Line.stations c.carry-first.new.self in
    let after = g.L.Line.stations c.repeat.new.self.below in
    let q = sent c.args.request in
    let first = heard c.carry-first.result in
    let last = heard c.repeat.result in
    let kept = c.carry-first.ensures.power in
    let repeated : table after ≡ repeated_after power q (table between) first = c.repeat.ensures.after ∙ ap (λ (p : Bool). repeated_after p q (table between) first) kept in
    let answer : last ≡ repeated_reply power q (table between) first = c.repeat.ensures.reply ∙ ap (λ (p : Bool). repeated_reply p q (table between) first) kept in
    let halves = passed power q (table before) (table between) (table after) first last c.carry-first.ensures.after c.carry-first.ensures.reply repeated answer in
    record {
      power = c.repeat.ensures.power ∙ kept;
      after = sym (map-table halved after) ∙ halves.0 ∙ ap (line_after power q) (map-table halved before);
      reply = halves.1 ∙ ap (line_reply power q) (map-table halved before);
      below =
          repeated
          ∙ ap (λ (l : List Place). repeated_after power q l first) c.carry-first.ensures.after
          ∙ ap (repeated_after power q (line_after power q (table before))) c.carry-first.ensures.reply;
      carried = (
        c.carry-first.new.self,
        c.carry-first.ensures.carried,
        subst (λ (h : Heard). Sends g.L.Line.carried c.carry-first.new.self (again q h) c.repeat.new.self.below) c.carry-first.ensures.reply c.repeat.ensures.sends,
      );
    }
