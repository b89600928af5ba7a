-- The waiting bound: with a module that is plugged in and stays, data is exchanged in cycle 98 and in every later one.
-- Plugging lies anywhere in a succession: what came before has led to master c, q comes after it, and cycle 1 is the first of q. Every
-- hypothesis speaks of the cycles of q alone, each as it began.
-- docs/PROMISE.md sets the fields of `Admitted`, `StaysPlugged` and `Exchanged` beside the words, one by one.
use Rattle.std.specs.Prelude.{◌≡◌, ℕ, ◌+◌, ◌<◌, ◌≤◌, true, false, cond, List, [], ◌∷◌, drop, ◌==◌}
use Rattle.std.specs.List.{AllByRecursion}
use Rattle.telegrams.specs.Requests.{Asking, Sent, nibble, data_exchange, write_parameter, read_io, read_id, resetting}
use Rattle.stations.specs.Stations.{State, occupied, reply}
use Rattle.lines.specs.Lines.{at}
use Rattle.records.specs.Rows.{Pair, Row, row_at}
use Rattle.records.specs.declared.record.Mode.{Mode}
use Rattle.records.specs.declared.record.Mode.TheVariants.{Configuration, Protected}
use Rattle.control.specs.declared.control.Phase.TheVariants.{Normal}
use Rattle.control.specs.Cycles.{Master, Scene, running, cycle}
use Rattle.promise.specs.Successions.{Turn, Met, cycles}

-- what a cycle comes to
abbrev pub done : Met → Scene
done d = cycle d.master d.line

abbrev pub row_met : ℕ → Met → Row
row_met b d = row_at b d.master.control.rows

-- what a list of requests has for address b, in order
unfoldable pub sent_to : ℕ → List Sent → List Asking
sent_to b [] = []
sent_to b (q ∷ qs) = cond (q.to == b) (q.asking ∷ sent_to b qs) (sent_to b qs)

-- the nibbles of the Data_Exchanges among them
abbrev pub exchanges : List Asking → List ℕ
exchanges [] = []
exchanges (data_exchange n ∷ qs) = n ∷ exchanges qs
exchanges (write_parameter n ∷ qs) = exchanges qs
exchanges (read_io ∷ qs) = exchanges qs
exchanges (read_id ∷ qs) = exchanges qs
exchanges (resetting ∷ qs) = exchanges qs

-- how many Resets are among them
abbrev pub resets : List Asking → ℕ
resets [] = 0
resets (data_exchange n ∷ qs) = resets qs
resets (write_parameter n ∷ qs) = resets qs
resets (read_io ∷ qs) = resets qs
resets (read_id ∷ qs) = resets qs
resets (resetting ∷ qs) = 1 + resets qs

abbrev pub codes_of : State → Pair
codes_of x = record { io = x.io; id = x.id }

-- the field sets a module's inputs
abbrev pub with_inputs : ℕ → State → State
with_inputs n x = record x { inputs = n }

-- in protected mode the address is projected with the module's codes
abbrev pub ProjectedSo : Mode → Row → State → Type 0
ProjectedSo Configuration r x = Unit {0}
ProjectedSo Protected r x = (r.projected ≡ true) × (r.pcd ≡ codes_of x)

-- the cycle finds module x at b, undisturbed and admitted, with power and no offline request, and sends it no reset
pub record Admitted (b : ℕ) (d : Met) (x : State) : Type 0 where
  pub powered : d.line.power ≡ true
  pub not_offline : d.master.control.offline ≡ false
  pub there : at d.line.places b ≡ occupied x
  pub undisturbed : x.disturbance ≡ 0
  pub exchangeable : x.io < 15
  pub as_projected : ProjectedSo d.master.control.mode (row_met b d) x
  pub never_reset : resets (sent_to b (done d).sent) ≡ 0

abbrev pub Stays : ℕ → Met → Type 0
Stays b d = (x : State) × Admitted b d x

-- from the end of one cycle to the start of the next, only the field altered the module, and of it only the inputs
abbrev pub Unaltered : ℕ → Met → List Met → Type 0
Unaltered b d [] = Unit {0}
Unaltered b d (e ∷ es) = (x : State) → at (done d).line.places b ≡ occupied x → (n : ℕ) × (at e.line.places b ≡ occupied (with_inputs n x))

abbrev pub LeftInPlace : ℕ → List Met → Type 0
LeftInPlace b [] = Unit {0}
LeftInPlace b (d ∷ ds) = Unaltered b d ds × LeftInPlace b ds

-- the cycle ran in the normal phase and sent the module one Data_Exchange, with its ODI; the module took it, and the nibble that it replied
-- stands in IDI
pub record Exchanged (b : ℕ) (d : Met) : Type 0 where
  pub normal : running d.master.control d.line ≡ Normal
  pub once : exchanges (sent_to b (done d).sent) ≡ (row_met b d).odi ∷ []
  pub before : State
  pub afterwards : State
  pub was : at d.line.places b ≡ occupied before
  pub is : at (done d).line.places b ≡ occupied afterwards
  pub took : afterwards.outputs ≡ (row_met b d).odi
  pub replied : reply d.line.power (at d.line.places b) (data_exchange (row_met b d).odi) ≡ nibble (row_at b (done d).master.control.rows).idi

-- what is asked of the cycles after plugging
pub record StaysPlugged (b : ℕ) (ds : List Met) : Type 0 where
  pub admitted : AllByRecursion (Stays b) ds
  pub left : LeftInPlace b ds

-- From master c on, as plugging finds it, through q: after n cycles data is exchanged with the module in every one
abbrev pub WaitsAtMost : ℕ → Master → List Turn → Type 0
WaitsAtMost n c q = (b : ℕ) → 1 ≤ b → b < 32 → StaysPlugged b (cycles c q) → AllByRecursion (Exchanged b) (drop n (cycles c q))

abbrev pub WaitingBound : Master → List Turn → Type 0
WaitingBound c q = WaitsAtMost 97 c q
