-- Image words: reading one and writing one are inverse.
use Rattle.std.proofs.Common.{◌≡◌, ℕ, ◌/◌, ◌%◌, ◌^◌, ◌<◌, Bool, true, false, eqb, Some, None, Option, sym, refl, ap, ◌∙◌, ⊎_elim, arith}
use Rattle.std.proofs.lemmas.Bool.{cases_eq, eq-eqb, ne_eqb, eqb-true, cond-true, and_parts, and_from, or_cases, or_right}
use Rattle.stations.specs.declared.station.Module.{Module}
use Rattle.stations.specs.Stations.{State, Place, vacant, occupied, state_of, held}
use Rattle.stations.specs.Images.{state_in, place_in, word_of, mark_bit, good_station, good_power, word_of_power}

-- One word

mark_read : (n : ℕ) → n < 2 → mark_bit (eqb n 1) ≡ n
mark_read n h = ⊎_elim (λ e. ap mark_bit (eq-eqb n 1 e) ∙ sym e) (λ ne. ap mark_bit (ne_eqb n 1 ne) ∙ omega arith) (cases_eq n 1)

mark_written : (b : Bool) → eqb (mark_bit b) 1 ≡ b
mark_written true = refl
mark_written false = refl

fields_back : (w : ℕ) → w / 2 ^ 30 ≡ 1 → w / 2 ^ 28 % 4 ≡ 0 → word_of (occupied (state_in w)) ≡ w
fields_back w kind gap = let mark = mark_read (w / 2 ^ 7 % 2) (omega arith) in omega arith

pub word_back : (w : ℕ) → good_station w ≡ true → word_of (place_in w) ≡ w
word_back w good = ⊎_elim
    (λ e. let z = eqb-true w 0 e in ap (λ (v : ℕ). word_of (place_in v)) z ∙ sym z)
    (λ e.
    let parts = and_parts _ _ e in
    ap word_of (cond-true _ (occupied (state_in w)) vacant parts.0) ∙ fields_back w (eqb-true _ _ parts.0) (eqb-true _ _ parts.1))
    (or_cases _ _ good)

-- the bounds that a module of the program keeps
record Bounded (x : State) : Type 0 where
  io_small : x.io < 16
  id_small : x.id < 16
  inputs_small : x.inputs < 16
  outputs_small : x.outputs < 16
  parameter_small : x.parameter < 16
  direction_small : x.direction < 16
  disturbance_small : x.disturbance < 8

module_bounded : (m : Module) → Bounded (state_of m)
module_bounded m =
    record {
      io_small = m.io_code.ok;
      id_small = m.id_code.ok;
      inputs_small = m.inputs.ok;
      outputs_small = m.outputs.ok;
      parameter_small = m.parameter.ok;
      direction_small = m.direction.ok;
      disturbance_small = m.disturbance.ok;
    }

mark_small : (b : Bool) → mark_bit b < 2
mark_small true = omega arith
mark_small false = omega arith

fields_written : (x : State) → Bounded x → state_in (word_of (occupied x)) ≡ x
fields_written x h =
    let w : ℕ = word_of (occupied x) in
    let m : ℕ = mark_bit x.enabled in
    let small : m < 2 = mark_small x.enabled in
    let io : w / 2 ^ 24 % 16 ≡ x.io = omega arith in
    let id : w / 2 ^ 20 % 16 ≡ x.id = omega arith in
    let inputs : w / 2 ^ 16 % 16 ≡ x.inputs = omega arith in
    let outputs : w / 2 ^ 12 % 16 ≡ x.outputs = omega arith in
    let parameter : w / 2 ^ 8 % 16 ≡ x.parameter = omega arith in
    let bit : w / 2 ^ 7 % 2 ≡ m = omega arith in
    let enabled : eqb (w / 2 ^ 7 % 2) 1 ≡ x.enabled = ap (λ (n : ℕ). eqb n 1) bit ∙ mark_written x.enabled in
    let disturbance : w / 2 ^ 4 % 8 ≡ x.disturbance = omega arith in
    let direction : w % 16 ≡ x.direction = omega arith in
    λ i. record { io = io i; id = id i; inputs = inputs i; outputs = outputs i; parameter = parameter i; direction = direction i; enabled = enabled i; disturbance = disturbance i }

-- a place whose word is good and says it
abbrev pub Says : Place → Type 0
Says p = (place_in (word_of p) ≡ p) × (good_station (word_of p) ≡ true)

pub says : (s : Option Module) → Says (held s)
says None = (refl, refl)
says (Some m) =
    let x = state_of m in
    let b = module_bounded m in
    let small = mark_small x.enabled in
    let kind : word_of (occupied x) / 2 ^ 30 ≡ 1 = omega arith in
    let gap : word_of (occupied x) / 2 ^ 28 % 4 ≡ 0 = omega arith in (
      cond-true _ (occupied (state_in (word_of (occupied x)))) vacant (eq-eqb _ _ kind) ∙ ap occupied (fields_written x b),
      or_right _ _ (and_from _ _ (eq-eqb _ _ kind) (eq-eqb _ _ gap)),
    )

-- The power word

pub power_good : (b : Bool) → good_power (word_of_power b) ≡ true
power_good true = refl
power_good false = refl

pub power_read : (b : Bool) → eqb (word_of_power b) (word_of_power true) ≡ b
power_read true = refl
power_read false = refl
