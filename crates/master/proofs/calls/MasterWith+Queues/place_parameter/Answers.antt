use Rattle.std.proofs.Common.{ap, ◌∙◌, rules}
use Rattle.values.specs.Refusals.{Outcome}
use Rattle.telegrams.specs.Requests.{with_nibble, write_parameter, Sent}
use Rattle.control.specs.Cycles.{Master, master_of}
use Rattle.promise.specs.Outcomes.{simply}
use Rattle.promise.proofs.Made.{made}
use Rattle.master.proofs.Placing.{counted_so, placed_so}
use Rattle.master.proofs.calls.MasterWith+Queues.place_parameter.Goals as goal

pub returns-clause-called : goal.returns-clause-called
returns-clause-called c =
    let o : Outcome Sent = with_nibble write_parameter c.args.address c.args.value in
    let m : Master = master_of c.args.self.now.control c.args.self.now.queues in
    let placed = c.place_parameter.ensures in
    let came = placed.came_to ∙ counted_so c.args.self.now.control c.args.self.now.queues o in
    let waits = placed_so o _ _ _ _ came placed.waits in
    made _ _ _ _ (ap simply came) (search rules)
