-- Calls that did what the rules say keep the promise.
use Rattle.std.proofs.Common.{◌≡◌, List, [], ◌∷◌, ◌++◌, sym, refl, ap, ◌∙◌, subst}
use Rattle.std.proofs.lemmas.List.{append_assoc}
use Rattle.control.specs.Cycles.{Master, new_master}
use Rattle.promise.specs.Successions.{Turn, turned, after}
use Rattle.promise.specs.Outcomes.{Came, comes_to}
use Rattle.promise.specs.Calls.{KeepsPromise, Made}
use Rattle.promise.specs.Promise.{Promise}
use Rattle.promise.proofs.Promise.{promised}

pub after_both : (p ts : List Turn) (c : Master) → after (p ++ ts) c ≡ after ts (after p c)
after_both [] ts c = refl
after_both (u ∷ p) ts c = after_both p ts (turned u c)

pub keeps_promise : (ts : List Turn) (c c' : Master) → c' ≡ after ts c → KeepsPromise ts c c'
keeps_promise ts c c' is order_room answer_room p met = (
  is ∙ ap (after ts) met ∙ sym (after_both p ts (new_master order_room answer_room)),
  promised order_room answer_room (p ++ ts),
)

pub made : (t : Turn) (c : Master) (y : Came) (c' : Master) → y ≡ comes_to t c → c' ≡ turned t c → Made t c y c'
made t c y c' came left = record { came_to = came; leaves = left; keeps_promise = keeps_promise (t ∷ []) c c' left }

-- for a controller that makes one call after another
pub keeps_on : (ts us : List Turn) (c d e : Master) → KeepsPromise ts c d → KeepsPromise us d e → KeepsPromise (ts ++ us) c e
keeps_on ts us c d e before behind order_room answer_room p met =
    subst (λ (qs : List Turn). (e ≡ after qs (new_master order_room answer_room)) × Promise (new_master order_room answer_room) qs) (append_assoc p ts us)
    (behind order_room answer_room (p ++ ts) (before order_room answer_room p met).0)
