-- What a queue holds, as its slice and its two numbers change.
use Rattle.std.proofs.Common.{◌≡◌, ℕ, ◌+◌, ◌-◌, ◌<◌, ◌≤◌, min, List, [], ◌∷◌, ◌++◌, length, get_or, take, drop, set, sym, refl, ap, ◌∙◌, arith}
use Rattle.std.proofs.lemmas.List.{length-drop, length-take, get_or-take, drop_more, take_more_set, take-append-le, drop-take, take-append-drop, take_at}
use Rattle.queues.specs.declared.queue.Queue.{Queue}
use Rattle.queues.specs.Fifo.{turned, place_of, held, room}
use Rattle.queues.proofs.Turns.{length-turned, first_turned, place_inside, turned_place, set-place}

take-length : {T : Type 0} (n : ℕ) (l : List T) → take (length (take n l)) l ≡ take n l
take-length n l = ap (take (length (take n l))) (sym (take-append-drop n l)) ∙ take_at (take n l) (drop n l) (length (take n l)) refl

module _ {T : Type 0} (q : Queue T) where
  abbrev xs : List T
  xs = q.slots.now

  abbrev ts : List T
  ts = turned xs q.head

  long : length ts ≡ length xs
  long = length-turned xs q.head

  pub length-held : length (held q) ≡ min q.len (room q)
  length-held = length-take q.len ts ∙ ap (min q.len) long

  -- a queue never holds more than its slice has places
  pub held_fits : length (held q) ≤ room q
  held_fits = omega (arith, length-held)

  -- x stands at the place of k
  pub held_at : (k p : ℕ) (x : T) → k < length (held q) → p ≡ place_of (room q) q.head k → x ≡ get_or q.slots.now p x → drop k (held q) ≡ x ∷ drop (k + 1) (held q)
  held_at k p x lt is read =
      let below : k < q.len = omega (arith, length-held) in
      let inside : k < room q = omega (arith, held_fits) in
      let there = first_turned xs (place_of (room q) q.head k) x (place_inside (room q) q.head k inside) in
      let here = first_turned ts k x (omega (arith, long)) in
      let turn = turned_place xs q.head k (omega arith) in
      let kept = get_or-take q.len ts k x below in
      let split = drop_more (held q) k x lt in
      cc

  -- x was written at the place behind the newest
  pub held_put : (n p : ℕ) (x : T) → n < room q → n ≡ length (held q) → p ≡ place_of (room q) q.head n → take (n + 1) (turned (set q.slots.now p x) q.head) ≡ held q ++ x ∷ []
  held_put n p x lt count is =
      let put = set-place xs q.head n x lt in
      let more = take_more_set ts n x (omega (arith, long)) in
      let same = take-length q.len ts in
      cc

  -- the head moved on by one
  pub held_rest : (n p : ℕ) → 0 < n → n ≡ length (held q) → p ≡ place_of (room q) q.head 1 → take (n - 1) (turned q.slots.now p) ≡ drop 1 (held q)
  held_rest n p some count is =
      let turn = turned_place xs q.head 1 (omega (arith, held_fits)) in
      let rest = take-append-le (n - 1) (drop 1 ts) (take 1 ts) (omega (arith, held_fits, long, length-drop 1 ts)) in
      let tail = drop-take 1 (n - 1) ts in
      let on : 1 + (n - 1) ≡ n = omega arith in
      let same = take-length q.len ts in
      cc
