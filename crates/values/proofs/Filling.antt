-- A loop over the addresses that gives one entry after another its new value.
use Rattle.std.proofs.Common.{◌≡◌, ℕ, ◌+◌, ◌<◌, ltb, List, length, get_or, set, sym, refl, ap, ◌∙◌, arith}
use Rattle.std.proofs.lemmas.Bool.{cond_both, ltb-true}
use Rattle.values.specs.Tables.{table}
use Rattle.values.proofs.Tables.{filling, is_table, fill_more, fill_all, at_filling}

-- the entries were xs: those below i are new
pub record FilledBelow {X : Type 0} (new : ℕ → X) (xs : List X) (d : X) (i : ℕ) (xs' : List X) : Type 0 where
  pub filled : xs' ≡ table (filling i new (λ k. get_or xs k d))

module _ {X : Type 0} (new : ℕ → X) (xs : List X) (d : X) where
  abbrev old : ℕ → X
  old k = get_or xs k d

  -- a loop that begins at i, where those below keep their value
  pub fill_starts_at : (i : ℕ) → ((k : ℕ) → k < i → new k ≡ old k) → length xs ≡ 32 → FilledBelow new xs d i xs
  fill_starts_at i kept sized =
      record { filled = is_table (filling i new old) xs d sized (λ k h. cond_both (ltb k i) (new k) (old k) (λ x. old k ≡ x) (λ below. sym (kept k (ltb-true k i below))) (λ _. refl)) }

  pub fill_starts : length xs ≡ 32 → FilledBelow new xs d 0 xs
  fill_starts sized = fill_starts_at 0 (λ k h. absurd (omega arith)) sized

  pub still_old : (i : ℕ) (xs' : List X) → i < 32 → FilledBelow new xs d i xs' → get_or xs' i d ≡ get_or xs i d
  still_old i xs' h below = ap (λ (l : List X). get_or l i d) below.filled ∙ at_filling new old i d h

  pub fill_goes_on : (i : ℕ) (xs' xs'' : List X) → i < 32 → FilledBelow new xs d i xs' → xs'' ≡ set xs' i (new i) → FilledBelow new xs d (i + 1) xs''
  fill_goes_on i xs' xs'' h below written =
      record { filled = written ∙ ap (λ (l : List X). set l i (new i)) below.filled ∙ fill_more new old i d h }

  pub fill_ends : (i : ℕ) (xs' : List X) → i ≡ 32 → FilledBelow new xs d i xs' → xs' ≡ table new
  fill_ends i xs' e below = below.filled ∙ ap (λ (n : ℕ). table (filling n new old)) e ∙ fill_all new old d
