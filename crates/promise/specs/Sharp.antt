-- The waiting bound is sharp: at every address 1 to 31 a module can be plugged in so that it meets all that the bound asks, and yet no cycle up to 97
-- exchanges with it. So no smaller number would do. The checker computes these successions, for queues of any room, so they also show that the
-- hypotheses of the bound can be met.
use Rattle.std.specs.Prelude.{◌≡◌, ℕ, ◌+◌, ◌<◌, ◌≤◌, Bool, true, not, ◌&&◌, ◌==◌, List, [], ◌∷◌, length, take, drop}
use Rattle.std.specs.List.{AllByRecursion, list_all}
use Rattle.stations.specs.Stations.{fitting}
use Rattle.lines.specs.Lines.{Meaning}
use Rattle.records.specs.Modes.{in_configuration}
use Rattle.control.specs.Cycles.{Master, new_master}
use Rattle.promise.specs.Successions.{Turn, cycling, calling, after, Met, cycles}
use Rattle.promise.specs.Waiting.{done, sent_to, exchanges, StaysPlugged, Exchanged, WaitsAtMost}

-- a line that there can be: it has 32 places, and each is a station that there can be
abbrev pub lawful : Meaning → Bool
lawful l = length l.places == 32 && list_all fitting l.places

-- the lines that the cycles of a succession met
abbrev pub lines_met : List Turn → List Meaning
lines_met [] = []
lines_met (cycling l ∷ ts) = l ∷ lines_met ts
lines_met (calling x ∷ ts) = lines_met ts

-- each cycle met the line as the one before left it

abbrev pub MeetsAsLeft : Met → List Met → Type 0
MeetsAsLeft d [] = Unit {0}
MeetsAsLeft d (e ∷ es) = e.line ≡ (done d).line

abbrev pub Untouched : List Met → Type 0
Untouched [] = Unit {0}
Untouched (d ∷ ds) = MeetsAsLeft d ds × Untouched ds

-- the cycle does not exchange with b
abbrev pub PassesBy : ℕ → Met → Type 0
PassesBy b d = exchanges (sent_to b (done d).sent) ≡ []

abbrev pub is_protected : Met → Bool
is_protected d = not (in_configuration d.master.control.mode)

-- p came before plugging at b, and n + 1 cycles came after it, the second in protected mode: data is exchanged with the module in the last of
-- them, and in none before
pub record WaitsLongest (n b : ℕ) (new : Master) (p q : List Turn) : Type 0 where
  pub lawful_before : list_all lawful (lines_met p) ≡ true
  pub lawful_plugged : list_all lawful (take 1 (lines_met q)) ≡ true
  pub untouched : Untouched (cycles (after p new) q)
  pub plugged : StaysPlugged b (cycles (after p new) q)
  pub long : length (cycles (after p new) q) ≡ n + 1
  pub protected : AllByRecursion (λ d. is_protected d ≡ true) (take 1 (drop 1 (cycles (after p new) q)))
  pub not_yet : AllByRecursion (PassesBy b) (take n (cycles (after p new) q))
  pub at_last : AllByRecursion (Exchanged b) (drop n (cycles (after p new) q))

-- n cycles are enough in every succession, and at every address 1 to 31, whatever the queues hold at most, there is one in which it takes as many
pub record LeastBound (n : ℕ) : Type 0 where
  pub enough : (order_room answer_room : ℕ) (p q : List Turn) → WaitsAtMost n (after p (new_master order_room answer_room)) q
  pub sharp : (order_room answer_room b : ℕ) → 1 ≤ b → b < 32 → (p : List Turn) × (q : List Turn) × WaitsLongest n b (new_master order_room answer_room) p q
