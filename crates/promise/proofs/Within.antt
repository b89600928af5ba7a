-- How many cycles are left, at the most, until the module at b is exchanged.
-- At plugging 97 are left whatever the master is at, and with none left the module is served.
use Rattle.std.proofs.Common.{◌≡◌, ℕ, ◌+◌, ◌<◌, ◌≤◌, Bool, true, false, ◌⊎◌, subst, inr, ⊎_elim, arith}
use Rattle.std.proofs.lemmas.Bool.{cases_eq, cases_Bool, true≢false}
use Rattle.records.specs.Rows.{Pair, Row, row_at}
use Rattle.search.specs.Steps.{Stage, seek, name, enter}
use Rattle.control.specs.declared.control.Phase.{Phase}
use Rattle.control.specs.declared.control.Phase.TheVariants.{Offline, Detection, Activation, Normal}
use Rattle.control.specs.Cycles.{Control, Scene}
use Rattle.promise.proofs.Sees.{Moment, Sees}
use Rattle.promise.proofs.Far.{Far, round, far_any, far_three_left}

-- What of the master matters to address b
pub record View : Type 0 where
  pub phase : Phase
  pub step : Stage
  pub listed : Bool
  pub on : Bool
  pub misses : ℕ
  pub found : Pair

abbrev pub view_of : Phase → Stage → Row → View
view_of phase step r = record { phase = phase; step = step; listed = r.detected; on = r.active; misses = r.misses; found = r.cdi }

abbrev pub view : ℕ → Control → View
view b m = view_of m.phase m.step (row_at b m.rows)

pub sees_view : {b : ℕ} {s : Scene} {m : Moment} → Sees b s m → view b s.master.control ≡ view_of m.phase m.step m.row
sees_view {b} {s} {m} see = let phase = see.phase_is in let step = see.step_is in let row = see.row_is in cc

-- as many misses in succession drop a module
abbrev pub limit : ℕ
limit = 3

-- the step is in range, and never at an active address
abbrev pub Fine : ℕ → Bool → Stage → Type 0
Fine b on (seek a) = a < 32
Fine b on (name c k) = (c < 32) × (c ≡ b → on ≡ false)
Fine b on (enter c) = (c < 32) × (1 ≤ c) × (c ≡ b → on ≡ false)

abbrev pub Starting : Phase → Stage → Bool → Type 0
Starting Offline step on = Unit {0}
Starting Detection step on = (step ≡ seek 0) × (on ≡ false)
Starting Activation step on = (step ≡ seek 0) × (on ≡ false)
Starting Normal step on = Unit {0}

-- What holds of every master that was new once
pub record Sound (b : ℕ) (v : View) : Type 0 where
  pub few : v.misses < limit
  pub fine : Fine b v.on v.step
  pub starting : Starting v.phase v.step v.on

-- At most n cycles until b is entered, with b inactive and the search at this step
pub data Ahead (b n : ℕ) (codes found : Pair) : Stage → Type 0 where
  seeks : {a : ℕ} → a < 32 → Far b a n → Ahead b n codes found (seek a)
  names : {c k : ℕ} → c < 32 → (c ≡ b → ⊥) → Far b c (n + 1) → Ahead b n codes found (name c k)
  names_known : {c k : ℕ} → c ≡ b → k ≡ codes.io → 2 ≤ n → Ahead b n codes found (name c k)
  names_unknown : {c k : ℕ} → c ≡ b → round + 2 ≤ n → Ahead b n codes found (name c k)
  enters : {c : ℕ} → c < 32 → 1 ≤ c → (c ≡ b → ⊥) → Far b c (n + 2) → Ahead b n codes found (enter c)
  enters_known : {c : ℕ} → c ≡ b → found ≡ codes → 1 ≤ n → Ahead b n codes found (enter c)
  enters_unknown : {c : ℕ} → c ≡ b → round + 1 ≤ n → Ahead b n codes found (enter c)

-- A module with these codes and this mark at b is exchanged after at most n cycles
pub data Waits (b n : ℕ) (v : View) (codes : Pair) (mark : Bool) : Type 0 where
  serving : v.on ≡ true → mark ≡ true → Waits b n v codes mark
  missing : v.on ≡ true → round + limit ≤ n + v.misses + 1 → Waits b n v codes mark
  seeking : v.on ≡ false → Ahead b n codes v.found v.step → Waits b n v codes mark

abbrev pub WithinIn : Phase → ℕ → ℕ → View → Pair → Bool → Type 0
WithinIn Offline b n v codes mark = 3 ≤ n
WithinIn Detection b n v codes mark = 2 ≤ n
WithinIn Activation b n v codes mark =
    ((v.listed ≡ true) × (v.found ≡ codes) × (1 ≤ n)) ⊎ ((round + 1 ≤ n) × (v.on ≡ false) × (v.step ≡ seek 0))
WithinIn Normal b n v codes mark = Waits b n v codes mark

abbrev pub Within : ℕ → ℕ → View → Pair → Bool → Type 0
Within b n v codes mark = WithinIn v.phase b n v codes mark

module _ (b : ℕ) (one : 1 ≤ b) (hb : b < 32) where
  -- whatever the step is, a round does where b was dropped just now
  pub ahead_fresh : (n : ℕ) (codes found : Pair) (step : Stage) → round ≤ n → Fine b true step → Ahead b n codes found step
  ahead_fresh n codes found (seek a) w fine = seeks fine (far_any b a n one hb fine w)
  ahead_fresh n codes found (name c k) w fine =
      names fine.0 (λ e. true≢false (fine.1 e)) (far_any b c (n + 1) one hb fine.0 (omega arith))
  ahead_fresh n codes found (enter c) w fine =
      enters fine.0 fine.1 (λ e. true≢false (fine.2 e)) (far_any b c (n + 2) one hb fine.0 (omega arith))

  -- and two cycles more do at plugging
  pub ahead_any : (n : ℕ) (codes found : Pair) (step : Stage) (on : Bool) → round + 2 ≤ n → Fine b on step → Ahead b n codes found step
  ahead_any n codes found (seek a) on w fine = seeks fine (far_any b a n one hb fine (omega arith))
  ahead_any n codes found (name c k) on w fine =
      ⊎_elim (λ e. names_unknown e w) (λ ne. names fine.0 ne (far_any b c (n + 1) one hb fine.0 (omega arith))) (cases_eq c b)
  ahead_any n codes found (enter c) on w fine =
      ⊎_elim (λ e. enters_unknown e (omega arith))
      (λ ne. enters fine.0 fine.1 ne (far_any b c (n + 2) one hb fine.0 (omega arith)))
      (cases_eq c b)

  waits_start : (v : View) (codes : Pair) (mark : Bool) → Sound b v → Waits b 97 v codes mark
  waits_start v codes mark sound =
      ⊎_elim (λ e. missing e (omega arith))
      (λ e. seeking e (ahead_any 97 codes v.found v.step v.on (omega arith) sound.fine))
      (cases_Bool v.on)

  -- Plugging: 97 cycles, whatever the master is at
  pub within_start : (phase : Phase) (v : View) (codes : Pair) (mark : Bool) → v.phase ≡ phase → Sound b v → WithinIn phase b 97 v codes mark
  within_start Offline v codes mark e sound = omega arith
  within_start Detection v codes mark e sound = omega arith
  within_start Activation v codes mark e sound =
      let start : Starting Activation v.step v.on = subst (λ (p : Phase). Starting p v.step v.on) e sound.starting in
      inr (omega arith, start.1, start.0)
  within_start Normal v codes mark e sound = waits_start v codes mark sound

  never : {codes found : Pair} {step : Stage} → Ahead b 0 codes found step → ⊥
  never (seeks h f) = omega (arith, far_three_left h one f)
  never (names h ne f) = omega (arith, far_three_left h one f)
  never (names_known e k l) = omega arith
  never (names_unknown e l) = omega arith
  never (enters h o ne f) = omega (arith, far_three_left h one f)
  never (enters_known e k l) = omega arith
  never (enters_unknown e l) = omega arith

  -- With no cycle left, the module is served
  pub served_now : {v : View} {codes : Pair} {mark : Bool} → Sound b v → Waits b 0 v codes mark → (v.on ≡ true) × (mark ≡ true)
  served_now sound (serving e m) = (e, m)
  served_now sound (missing e l) = absurd (let few = sound.few in omega arith)
  served_now sound (seeking e a) = absurd (never a)
