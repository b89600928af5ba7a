-- What a frame says of its payload: it gives it back, and it is found right.
use Rattle.std.proofs.Common.{◌≡◌, ℕ, ◌+◌, ◌*◌, ◌/◌, ◌%◌, ◌<◌, ◌≤◌, sym, ap, ◌∙◌, arith}
use lib.Count.{ones, ones_step}
use Rattle.std.proofs.lemmas.Bool.Decides.{nat_tests}
use Rattle.values.specs.Refusals.{cause_number}
use Rattle.telegrams.specs.Requests.{Asking, Lawful, data_exchange, write_parameter, read_io, read_id, resetting}
use Rattle.telegrams.specs.Words.{framed, frame_cause, payload_of, or_else}
use Rattle.values.specs.declared.refusal.Cause.{Cause}
use Rattle.values.specs.declared.refusal.Cause.TheVariants.{TooWide, StartBit, EndBit, Parity, NoRequest}

-- the ones from CB to PB are those of PB and of the payload
ones_halved : (w : ℕ) → ones (w / 2) ≡ w / 2 % 2 + ones (w / 4)
ones_halved w = let e : w / 2 / 2 ≡ w / 4 = omega arith in ones_step (w / 2) ∙ ap (λ (p : ℕ). w / 2 % 2 + ones p) e

pub framed_back : (w : ℕ) → w % 2 ≡ 1 → ones (w / 2) % 2 ≡ 0 → framed (w / 4) ≡ w
framed_back w odd even = omega (arith, ones_halved w)

payload_back : (p : ℕ) → framed p / 4 ≡ p
payload_back p = omega arith

pub frame_right : (start p : ℕ) → 4 * p + 4 ≤ start → frame_cause start (framed p) ≡ 0
frame_right start p h =
    let e = ap ones (payload_back p) in
    let even = ones_halved (framed p) in
    grind (arith, nat_tests)

pub cause_counts : (c : Cause) → 0 < cause_number c
cause_counts TooWide = omega arith
cause_counts StartBit = omega arith
cause_counts EndBit = omega arith
cause_counts Parity = omega arith
cause_counts NoRequest = omega arith

-- so a word that is refused for its frame is the word of no payload of its width
pub no_frame : (start w : ℕ) (c : Cause) → cause_number c ≡ frame_cause start w → (p : ℕ) → 4 * p + 4 ≤ start → framed p ≡ w → ⊥
no_frame start w c e p h is = omega (arith, cause_counts c, e ∙ ap (frame_cause start) (sym is) ∙ frame_right start p h)

pub payload_fits : (a : ℕ) (q : Asking) → Lawful (record { to = a; asking = q }) → 4 * payload_of (record { to = a; asking = q }) + 4 ≤ 8192
payload_fits a (data_exchange n) h = omega arith
payload_fits a (write_parameter n) h = omega arith
payload_fits a read_io h = omega arith
payload_fits a read_id h = omega arith
payload_fits a resetting h = omega arith

pub first_counts : (first second : ℕ) → 0 < first → first ≡ or_else first second
first_counts first second h = grind (arith, nat_tests)
