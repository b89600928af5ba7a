-- What every single call says, for a controller that makes the calls himself and decides by what he is answered: what it came to, what it left of the master,
-- and that the promise goes on. Whoever came here by a succession from new is, after the call, at the end of that succession with this call behind
-- it, and the promise holds of it.
use Rattle.std.specs.Prelude.{◌≡◌, ℕ, List, [], ◌∷◌, ◌++◌}
use Rattle.control.specs.Cycles.{Master, new_master}
use Rattle.promise.specs.Successions.{Turn, turned, after}
use Rattle.promise.specs.Outcomes.{Came, comes_to}
use Rattle.promise.specs.Promise.{Promise}

-- whoever had come to c by a succession from new has come to c' by that one with ts behind it, and the promise holds of both together
abbrev pub KeepsPromise : List Turn → Master → Master → Type 0
KeepsPromise ts c c' =
    (order_room answer_room : ℕ) (p : List Turn) → c ≡ after p (new_master order_room answer_room) →
    (c' ≡ after (p ++ ts) (new_master order_room answer_room)) × Promise (new_master order_room answer_room) (p ++ ts)

-- call t met master c, came to y and left master c'
pub record Made (t : Turn) (c : Master) (y : Came) (c' : Master) : Type 0 where
  pub came_to : y ≡ comes_to t c
  pub leaves : c' ≡ turned t c
  pub keeps_promise : KeepsPromise (t ∷ []) c c'
