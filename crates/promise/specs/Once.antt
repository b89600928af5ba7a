-- In a normal cycle each address that was active as it began is sent one Data_Exchange, with its ODI, and no other address is sent any. At most 33
-- requests are sent in all, and their number is what the cycle reports.
-- The requests are those that the rules send in that cycle (`cycle`); docs/PROMISE.md says what follows for the program.
use Rattle.std.specs.Prelude.{◌≡◌, ℕ, ◌≤◌, cond, [], ◌∷◌, length}
use Rattle.records.specs.Rows.{row_at}
use Rattle.lines.specs.Lines.{Meaning}
use Rattle.control.specs.declared.control.Phase.TheVariants.{Normal}
use Rattle.control.specs.Cycles.{Master, cycle}
use Rattle.promise.specs.Successions.{cycling}
use Rattle.promise.specs.Outcomes.{ran, comes_to}
use Rattle.promise.specs.Waiting.{sent_to, exchanges}

pub record OnceEach (c : Master) (line : Meaning) : Type 0 where
  pub exactly : (b : ℕ) → exchanges (sent_to b (cycle c line).sent) ≡ cond (row_at b c.control.rows).active ((row_at b c.control.rows).odi ∷ []) []
  pub at_most : length (cycle c line).sent ≤ 33
  pub reported : comes_to (cycling line) c ≡ ran Normal (length (cycle c line).sent)
