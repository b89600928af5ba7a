-- The promise holds of every succession from new.
use Rattle.std.proofs.Common.{ℕ, List}
use Rattle.control.specs.Cycles.{new_master}
use Rattle.promise.specs.Successions.{Turn, after}
use Rattle.promise.specs.Promise.{Promise}
use Rattle.promise.proofs.Bound.{waiting_bound}
use Rattle.promise.proofs.Once.{exchanges_once}
use Rattle.promise.proofs.Answering.{answered_in_turn, first_in_first_out}
use Rattle.promise.proofs.InOrder.{in_order}

pub promised : (order_room answer_room : ℕ) (ts : List Turn) → Promise (new_master order_room answer_room) ts
promised order_room answer_room ts =
    record {
      waiting_bound = λ p q r cut. waiting_bound order_room answer_room p q;
      answered_in_turn = λ p q w cut. answered_in_turn order_room answer_room p q w;
      first_come = λ p q cut. first_in_first_out order_room answer_room p;
      in_order = λ p q r cut. in_order (after p (new_master order_room answer_room)) q;
      once_each = λ p q line cut. exchanges_once order_room answer_room p line;
    }
