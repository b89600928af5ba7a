-- What stands at the stations of a line, and what a request does there: first what an undisturbed module obeys and answers (rules 3 to 7), then the
-- station around it (rules 1 and 2).
-- A reader compares `obeyed`, `answer`, `after` and `reply` with the rules in docs/LINES.md, line by line; nothing else is said of a module.
use Rattle.std.specs.Prelude.{ℕ, ◌-◌, Bool, true, false, cond, not, ◌&&◌, ◌||◌, List, [], ◌∷◌, Some, None, Option, ◌==◌, bit_and, bit_or, nat_lt}
use Rattle.std.specs.List.{list_all}
use Rattle.telegrams.specs.Requests.{Asking, Heard, data_exchange, write_parameter, read_io, read_id, resetting, nibble, silence, disturbed}
use Rattle.stations.specs.declared.station.Module.{Module}
use Rattle.stations.specs.declared.station.Station.{Station}

-- a module by its numbers
pub record State : Type 0 where
  pub io : ℕ
  pub id : ℕ
  pub inputs : ℕ
  pub outputs : ℕ
  pub parameter : ℕ
  pub direction : ℕ
  pub enabled : Bool
  pub disturbance : ℕ

-- a station is vacant or holds a module
pub data Place : Type 0 where
  vacant : Place
  occupied : State → Place

-- a module as it comes, with these codes and inputs: all of its ports are inputs, outputs, parameter and mark are as Reset leaves them, and nothing
-- disturbs it
abbrev pub powered_up : ℕ → ℕ → ℕ → State
powered_up io id inputs =
    record { io = io; id = id; inputs = inputs; outputs = 15; parameter = 15; direction = 0; enabled = false; disturbance = 0 }

-- A station that there can be: a module's values are nibbles, and its disturbance count is below 8

abbrev pub nibbles : State → List ℕ
nibbles x = x.io ∷ x.id ∷ x.inputs ∷ x.outputs ∷ x.parameter ∷ x.direction ∷ []

abbrev pub fitting : Place → Bool
fitting vacant = true
fitting (occupied x) = list_all (λ n. nat_lt n 16) (nibbles x) && nat_lt x.disturbance 8

-- what the program's module and station mean

abbrev pub state_of : Module → State
state_of m =
    record {
      io = m.io_code.value;
      id = m.id_code.value;
      inputs = m.inputs.value;
      outputs = m.outputs.value;
      parameter = m.parameter.value;
      direction = m.direction.value;
      enabled = m.enabled;
      disturbance = m.disturbance.value;
    }

abbrev pub held : Option Module → Place
held None = vacant
held (Some m) = occupied (state_of m)

abbrev pub place_of : Station → Place
place_of s = held s.«module»

-- Changes to a module

abbrev pub with_disturbance : ℕ → State → State
with_disturbance d x = record x { disturbance = d }

abbrev pub with_outputs : ℕ → State → State
with_outputs n x = record x { outputs = n }

abbrev pub with_parameter : ℕ → State → State
with_parameter n x = record x { parameter = n; enabled = true }

abbrev pub after_reset : State → State
after_reset x = record x { outputs = 15; parameter = 15; enabled = false }

-- The rules of an undisturbed module with power

-- it takes no data without its mark, and none with I/O code 15
abbrev pub exchange_disabled : State → Bool
exchange_disabled x = not x.enabled || x.io == 15

-- each bit is n's where the direction is one, else the inputs'
abbrev pub port_bits : ℕ → State → ℕ
port_bits n x = bit_or (bit_and n x.direction) (bit_and x.inputs (15 - x.direction))

abbrev pub obeyed : State → Asking → State
obeyed x (data_exchange n) = cond (exchange_disabled x) x (with_outputs n x)
obeyed x (write_parameter n) = with_parameter n x
obeyed x read_io = x
obeyed x read_id = x
obeyed x resetting = after_reset x

abbrev pub answer : State → Asking → Heard
answer x (data_exchange n) = cond (exchange_disabled x) silence (nibble (port_bits n x))
answer x (write_parameter n) = nibble n
answer x read_io = nibble x.io
answer x read_id = nibble x.id
answer x resetting = nibble 6

-- A station with and without power: what it is after a request, and what is heard

abbrev pub after : Bool → Place → Asking → Place
after false p q = p
after true vacant q = vacant
after true (occupied x) q = occupied (cond (nat_lt 0 x.disturbance) (with_disturbance (x.disturbance - 1) x) (obeyed x q))

abbrev pub reply : Bool → Place → Asking → Heard
reply false p q = silence
reply true vacant q = silence
reply true (occupied x) q = cond (nat_lt 0 x.disturbance) disturbed (answer x q)
