use Rattle.std.proofs.Common.{◌≡◌, ℕ, min, sym, refl, subst, arith}
use Rattle.control.specs.Cycles.{Master}
use Rattle.master.specs.Masters.{state_of}
use Rattle.promise.specs.Outcomes.{Came}
use Rattle.runs.specs.Outcomes.{came}
use Rattle.runs.specs.declared.call.Call.{Call}
use Rattle.racks.specs.declared.bench.BenchRack.{BenchRack}
use Rattle.exports.specs.Replay.{Through}
use Rattle.exports.proofs.Repeaters.{bench, bench_is, bench_seen, repeated, repeated_is, through}
use Rattle.exports.proofs.on_line.under_repeaters.Goals as goal

as_many : (n k : ℕ) (x : Call) (b b₀ b' b₁ : BenchRack) (c c' : Master) (y : Came) → min n 3 ≡ k → b₀ ≡ b → b₁ ≡ b' → Through k x (bench_seen b₀) c y (bench_seen b') c' → Through (min n 3) x (bench_seen b) c y (bench_seen b₁) c'
as_many n k x b b₀ b' b₁ c c' y e f g made =
    subst (λ (j : ℕ). Through j x (bench_seen b) c y (bench_seen b₁) c') (sym e)
    (subst (λ (z : BenchRack). Through k x (bench_seen z) c y (bench_seen b₁) c') f
    (subst (λ (z : BenchRack). Through k x (bench_seen b₀) c y (bench_seen z) c') (sym g) made))

pub returns-in-0 : goal.returns-in-0
returns-in-0 c =
    let p = c.perform-outcome in
    as_many c.args.repeaters 0 c.args.call c.args.bench _ _ _ (state_of c.args.master.now) (state_of p.new.master) (came p.result) (omega (arith, c.in-0.is))
    refl refl
    (through bench 0 bench_is c.args.call c.args.bench p.new.line c.args.master.now p.new.master (came p.result) p.ensures.performed p.ensures.sends)

pub returns-in-1 : goal.returns-in-1
returns-in-1 c =
    let p = c.perform-outcome-in-1 in
    as_many c.args.repeaters 1 c.args.call c.args.bench _ _ _ (state_of c.args.master.now) (state_of p.new.master) (came p.result) (omega (arith, c.in-1.is))
    (cc) (cc)
    (through (repeated bench) 1 (repeated_is bench 0 bench_is) c.args.call c.over-line.result p.new.line c.args.master.now p.new.master (came p.result) p.ensures.performed p.ensures.sends)

pub returns-in-2 : goal.returns-in-2
returns-in-2 c =
    let p = c.perform-outcome-in-2 in
    as_many c.args.repeaters 2 c.args.call c.args.bench _ _ _ (state_of c.args.master.now) (state_of p.new.master) (came p.result) (omega (arith, c.in-2.is))
    (cc) (cc)
    (through (repeated (repeated bench)) 2 (repeated_is (repeated bench) 1 (repeated_is bench 0 bench_is)) c.args.call c.over-line-in-2.result p.new.line c.args.master.now p.new.master (came p.result) p.ensures.performed p.ensures.sends)

pub returns-in_default : goal.returns-in_default
returns-in_default c =
    let p = c.perform-outcome-in_default in
    as_many c.args.repeaters 3 c.args.call c.args.bench _ _ _ (state_of c.args.master.now) (state_of p.new.master) (came p.result) (omega arith)
    (cc) (cc)
    (through (repeated (repeated (repeated bench))) 3 (repeated_is (repeated (repeated bench)) 2 (repeated_is (repeated bench) 1 (repeated_is bench 0 bench_is))) c.args.call c.over-line-in_default.result p.new.line c.args.master.now p.new.master (came p.result) p.ensures.performed p.ensures.sends)
