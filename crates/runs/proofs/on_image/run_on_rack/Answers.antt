use Rattle.runs.proofs.Lent.{same_words, ran_on_image}
use Rattle.runs.proofs.on_image.run_on_rack.Goals as goal

pub returns : goal.returns
returns c =
    let script = c.args.script.now in
    let log = c.args.log.now in
    let m = c.args.master.now in
    let m' = c.run.new.master in
    let run = c.run.ensures.ran in
    let ran = run.ran in
    record {
      lender = same_words script log c.run.new.log c.run.result c.args.rack.now c.run.new.line m m' ran;
      ran = ran_on_image script log c.run.new.log c.run.result c.args.rack.now c.run.new.line m m' ran c.run.ensures.made c.run.ensures.rest run.keeps_promise run.in_order run.same_slices;
    }
