-- What a queue holds, oldest first, and what each call does with that list.
-- put adds at its end, take takes off its first element, and no other call changes it: that is first in, first out. The one bound is the
-- number of places in the slice, so a place that take freed is there for a later put. The list is read off the slice in one way only: from
-- the head on to the end, then from the start.
use Rattle.std.specs.Prelude.{◌≡◌, ℕ, ◌+◌, ◌-◌, cond, List, [], ◌∷◌, ◌++◌, length, take, drop, Some, None, Ok, Err, Option, Result, nat_lt, slice_set}
use Rattle.values.specs.declared.refusal.Refusal.{Refusal}
use Rattle.values.specs.Refusals.{Outcome, gives, refuses}
use Rattle.queues.specs.declared.queue.Queue.{Queue}

-- the elements from the head on, and then those before it
abbrev pub turned : {T : Type 0} → List T → ℕ → List T
turned xs head = drop head xs ++ take head xs

-- what a queue holds, oldest first
abbrev pub held : {T : Type 0} → Queue T → List T
held q = take q.len (turned q.slots.now q.head)

-- how many it can hold
abbrev pub room : {T : Type 0} → Queue T → ℕ
room q = length q.slots.now

-- x is put behind what is held, where that is less than n
abbrev pub put_outcome : {T : Type 0} → ℕ → List T → Outcome (Unit {0})
put_outcome n xs = cond (nat_lt (length xs) n) (gives tt) (refuses 0x8311)

abbrev pub put_after : {T : Type 0} → ℕ → List T → T → List T
put_after n xs x = cond (nat_lt (length xs) n) (xs ++ x ∷ []) xs

-- the oldest is taken, where there is one
abbrev pub take_outcome : {T : Type 0} → List T → Outcome T
take_outcome [] = refuses 0x8312
take_outcome (x ∷ rest) = gives x

abbrev pub take_after : {T : Type 0} → List T → List T
take_after [] = []
take_after (x ∷ rest) = rest

abbrev pub oldest_of : {T : Type 0} → List T → Option T
oldest_of [] = None
oldest_of (x ∷ rest) = Some x

-- a call that refuses changes nothing, in the slice neither
abbrev pub UnchangedIfRefused : {A Q : Type 0} → Result A Refusal → Q → Q → Type 0
UnchangedIfRefused (Ok x) before after = Unit {0}
UnchangedIfRefused (Err e) before after = after ≡ before

-- where in a slice of n the element stands that is k behind the one at the head: after the last place comes the first
abbrev pub place_of : ℕ → ℕ → ℕ → ℕ
place_of n head k = cond (nat_lt k (n - head)) (head + k) (k - (n - head))

-- the place behind the newest element
abbrev pub free_place : {T : Type 0} → Queue T → ℕ
free_place q = place_of (room q) q.head (length (held q))

-- every place of the slice but place k is as it was
abbrev pub KeptBut : {T : Type 0} → ℕ → List T → List T → Type 0
KeptBut k xs ys = (take k ys ≡ take k xs) × (drop (k + 1) ys ≡ drop (k + 1) xs)

-- no place of the slice was written but perhaps the one behind the newest element
abbrev pub FreeWritten : {T : Type 0} → Queue T → Queue T → Type 0
FreeWritten q q' = KeptBut (free_place q) q.slots.now q'.slots.now

-- the slice after a put: no other place is written
abbrev pub slots_after : {T : Type 0} → Queue T → T → List T
slots_after q x = cond (nat_lt (length (held q)) (room q)) (slice_set q.slots.now (free_place q) x) q.slots.now

-- What every call keeps of the slice: where it is lent from, too

-- elements were at most taken: the slice is as it was
pub record OnlyTaken {T : Type 0} (q q' : Queue T) : Type 0 where
  pub slots : q'.slots.now ≡ q.slots.now
  pub lender : q'.slots.ghost_name ≡ q.slots.ghost_name

-- an element was at most put: no place of the slice was written but perhaps the one behind the newest element
pub record OnlyPut {T : Type 0} (q q' : Queue T) : Type 0 where
  pub slots : FreeWritten q q'
  pub room : room q' ≡ room q
  pub lender : q'.slots.ghost_name ≡ q.slots.ghost_name
