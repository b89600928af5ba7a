use Rattle.std.proofs.Common.{◌≡◌, ℕ, List, map, take, sym, ap, ◌∙◌, subst, arith}
use Rattle.std.proofs.lemmas.List.{take_all}
use Rattle.lines.specs.Lines.{Meaning, seen}
use Rattle.lines.specs.Sending.{Sends}
use Rattle.control.specs.Cycles.{Master, new_master}
use Rattle.master.specs.Masters.{state_of}
use Rattle.runs.specs.Outcomes.{came, Logged}
use Rattle.runs.specs.Runs.{undisturbed, sent_undisturbed, line_undisturbed}
use Rattle.runs.proofs.Idling.{idle_run}
use Rattle.first_cycles.specs.Listed.{script}
use Rattle.first_cycles.proofs.first_cycles.on_line.Goals as goal

pub returns : goal.returns
returns g c =
    let w : Meaning = seen g.L.Line.power g.L.Line.stations c.args.line.now in
    let log : List Logged = c.run.new.log in
    let n : ℕ = c.run.result in
    let made : n ≡ 8 = c.run.ensures.made in
    let new : state_of c.new-master.result ≡ new_master 0 0 = c.new-master.ensures.new in
    let idle = idle_run _ _ c.run.ensures.ran.ran in
    let all : take n log ≡ log = take_all n log (omega (arith, c.run.auto.log)) in
    record {
      came_to =
          ap (map came) (sym all)
          ∙ idle.came_to
          ∙ ap (λ (m : ℕ). undisturbed (take m script) w (state_of c.new-master.result)) made
          ∙ ap (undisturbed script w) new;
      sends =
          subst (λ (m : Master). Sends g.L.Line.carried c.args.line.now (sent_undisturbed script w m) c.run.new.line) new
          (subst (λ (m : ℕ). Sends g.L.Line.carried c.args.line.now (sent_undisturbed (take m script) w (state_of c.new-master.result)) c.run.new.line) made idle.sends);
      left =
          idle.left
          ∙ ap (λ (m : ℕ). line_undisturbed (take m script) w (state_of c.new-master.result)) made
          ∙ ap (line_undisturbed script w) new;
    }
