-- What is promised of every succession of calls from new. It is said of one succession, cut wherever one likes.
-- Mode, offline request, phase, lists, codes and ODI are what the rules give from new by the calls and by the line as each cycle met it: the
-- statements speak of `after p new`, never of what a program holds.
use Rattle.std.specs.Prelude.{◌≡◌, List, ◌∷◌, ◌++◌}
use Rattle.lines.specs.Lines.{Meaning}
use Rattle.control.specs.Cycles.{Master, running}
use Rattle.control.specs.declared.control.Phase.TheVariants.{Normal}
use Rattle.promise.specs.Successions.{Placement, placing, Turn, cycling, calling, after}
use Rattle.promise.specs.Waiting.{WaitingBound}
use Rattle.promise.specs.Once.{OnceEach}
use Rattle.promise.specs.Answering.{FirstCome, AnsweredInTurn}
use Rattle.promise.specs.InOrder.{all_come_to, InOrder}

pub record Promise (new : Master) (ts : List Turn) : Type 0 where
  -- with a module that is plugged in after p and stays through q, data is exchanged in cycle 98 from there and in every later one, whatever comes in r
  pub waiting_bound : (p q r : List Turn) → ts ≡ p ++ q ++ r → WaitingBound (after p new) q
  -- each accepted order is answered in its turn, in time and in no other cycle; answers are collected in the order of acceptance
  pub answered_in_turn : (p q : List Turn) (w : Placement) → ts ≡ p ++ calling (placing w) ∷ q → AnsweredInTurn new p w q
  pub first_come : (p q : List Turn) → ts ≡ p ++ q → FirstCome new p
  -- and the log shows it: over any stretch q, what was pending and what was accepted since is what was collected and what is pending then
  pub in_order : (p q r : List Turn) → ts ≡ p ++ q ++ r → InOrder (after p new) q (all_come_to q (after p new)) (after q (after p new))
  -- each normal cycle exchanges exactly once with each active address and with no other, sends at most 33 requests, and reports how many
  pub once_each : (p q : List Turn) (line : Meaning) → ts ≡ p ++ cycling line ∷ q → running (after p new).control line ≡ Normal → OnceEach (after p new) line
