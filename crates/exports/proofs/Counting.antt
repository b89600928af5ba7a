-- Cycles one after another: how they leave master and line, and how many requests were counted.
use Rattle.std.proofs.Common.{◌≡◌, ℕ, ◌+◌, ◌%◌, Bool, length, sym, refl, ap, ◌∙◌, add-one, arith}
use Rattle.values.specs.Tables.{table}
use Rattle.stations.specs.Stations.{Place}
use Rattle.lines.specs.Lines.{Meaning, meaning}
use Rattle.control.specs.declared.control.Phase.{Phase}
use Rattle.control.specs.Cycles.{Master, cycle}
use Rattle.promise.specs.Successions.{Met, cycling, turned}
use Rattle.promise.specs.Outcomes.{Came, ran, comes_to}
use Rattle.promise.specs.Waiting.{done}
use Rattle.exports.specs.Counting.{met_after, requests_in}

-- a cycle that came to so many requests sent so many
requests_told : {phase phase' : Phase} {r n : ℕ} → ran phase r ≡ ran phase' n → r ≡ n
requests_told {phase} {phase'} {r} {n} e = ap requests e
  where
    requests : Came → ℕ
    requests (ran p k) = k
    requests y = 0

module _ (c : Master) (l : Meaning) where
  -- i cycles were run
  pub record Counted (i : ℕ) (d : Master) (k : Meaning) (n : ℕ) : Type 0 where
    pub met : met_after i c l ≡ record { master = d; line = k }
    pub count : n ≡ requests_in i c l % 4294967296

  pub count_starts : (d : Master) (k : Meaning) → d ≡ c → k ≡ l → Counted 0 d k 0
  unfolding met_after requests_in
  count_starts d k e f =
      record {
        met = sym (ap (λ (x : Master). record { master = x; line = k }) e ∙ ap (λ (x : Meaning). record { master = c; line = x }) f);
        count = refl;
      }

  pub counts_on : (i : ℕ) (d d' : Master) (k k' : Meaning) (phase : Phase) (n r : ℕ) → Counted i d k n → ran phase r ≡ comes_to (cycling k) d → d' ≡ turned (cycling k) d → k' ≡ (cycle d k).line → Counted (i + 1) d' k' ((n + r) % 4294967296)
  unfolding met_after requests_in
  counts_on i d d' k k' phase n r so_far came left line =
      let sent : r ≡ length (done (met_after i c l)).sent = requests_told came ∙ ap (λ (m : Met). length (done m).sent) (sym so_far.met) in
      record {
        met =
            ap (λ (j : ℕ). met_after j c l) (add-one i)
            ∙ ap (λ (m : Met). record { master = (done m).master; line = (done m).line }) so_far.met
            ∙ sym (ap (λ (x : Master). record { master = x; line = k' }) left ∙ ap (λ (x : Meaning). record { master = (done (record { master = d; line = k })).master; line = x }) line);
        count = omega (arith, so_far.count, sent, ap (λ (j : ℕ). requests_in j c l) (add-one i));
      }

pub same_meaning : (power power' : Bool) (places places' : ℕ → Place) → power ≡ power' → table places ≡ table places' → meaning power places ≡ meaning power' places'
same_meaning power power' places places' e f = cc
