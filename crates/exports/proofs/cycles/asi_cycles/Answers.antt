use Rattle.std.proofs.Common.{◌≡◌, ℕ, ◌%◌, ap, sym, ◌∙◌, arith}
use Rattle.std.proofs.lemmas.Bool.{cond-true}
use Rattle.stations.specs.Images.{good_image, powered_in, place_at}
use Rattle.lines.specs.Lines.{Meaning, meaning}
use Rattle.racks.specs.Racks.{station_at}
use Rattle.control.specs.Cycles.{new_master}
use Rattle.exports.specs.Counting.{requests_in}
use Rattle.exports.proofs.Counting.{count_starts, counts_on, same_meaning}
use Rattle.exports.proofs.cycles.asi_cycles.Goals as goal

pub loop-done-init : goal.loop-done-init
loop-done-init c =
    let opened = c.in-Ok.ensures in
    count_starts _ _ _ _ c.new-master.ensures.new (same_meaning _ _ (station_at c.in-Ok.bench.stations) (place_at c.args.words.now) opened.1 opened.2)

pub loop-done-preserved : goal.loop-done-preserved
loop-done-preserved c =
    let ran = c.cycle-report.ensures in
    counts_on _ _ c.loop-done._done _ _ _ _ _ c.loop-done.sent c.cycle-report.result.requests c.loop-done.invariant ran.made.came_to ran.made.leaves ran.line

pub returns : goal.returns
returns c =
    let all : c.loop-done._done ≡ c.args.cycles = omega (arith, c.loop-done-test.false, c.loop-done.auto._done-end) in
    let l : Meaning = meaning (powered_in c.args.words.now) (place_at c.args.words.now) in
    c.loop-done.invariant.count
    ∙ ap (λ (n : ℕ). requests_in n (new_master 0 0) l % 4294967296) all
    ∙ sym (cond-true (good_image c.args.words.now) (requests_in c.args.cycles (new_master 0 0) l % 4294967296) 0x8313 c.in-Ok.ensures.0)
