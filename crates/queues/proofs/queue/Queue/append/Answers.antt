use Rattle.std.proofs.Common.{◌≡◌, ℕ, ◌+◌, set, refl, ap, ◌∙◌, subst, arith}
use Rattle.std.proofs.lemmas.List.{length-set, take-set, drop-set-lt}
use Rattle.queues.specs.Fifo.{room, place_of, free_place, KeptBut}
use Rattle.queues.proofs.Held.{held_put}
use Rattle.queues.proofs.queue.Queue.append.Goals as goal

pub returns : goal.returns
returns g c =
    let q = c.args.self.now in
    let x = c.args.x in
    let n = c.len-len.result in
    let p = c.place-at.result in
    let to : p ≡ free_place q = c.place-at.ensures.is ∙ ap (place_of (room q) q.head) c.len-len.ensures.is in
    let after = set q.slots.now p x in
    record {
      after = held_put q n p x (omega arith) c.len-len.ensures.is c.place-at.ensures.is;
      slots = ap (λ (k : ℕ). set q.slots.now k x) to;
      only_put = record {
        slots = subst (λ (k : ℕ). KeptBut k q.slots.now after) to (take-set q.slots.now p x, drop-set-lt (p + 1) q.slots.now p x (omega arith));
        room = length-set q.slots.now p x;
        lender = refl {a = q.slots.ghost_name};
      };
    }
