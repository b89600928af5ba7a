-- What a list of requests has for one address: over a join, and over what is sent to one address or to all below a number.
use Rattle.std.proofs.Common.{◌≡◌, ℕ, zero, suc, ◌+◌, ◌<◌, ◌≤◌, true, false, cond, eqb, List, [], ◌∷◌, ◌++◌, sym, refl, ap, ◌∙◌, ⊎_elim, arith}
use Rattle.std.proofs.lemmas.List.{append-nil}
use Rattle.std.proofs.lemmas.Bool.{eq-eqb, ne_eqb, cases_eq}
use Rattle.telegrams.specs.Requests.{Asking, Sent, data_exchange, write_parameter, read_io, read_id, resetting}
use Rattle.phases.specs.Visits.{addressed, sent_below}
use Rattle.promise.specs.Waiting.{sent_to, exchanges, resets}

pub sent-to-append : (b : ℕ) (xs ys : List Sent) → sent_to b (xs ++ ys) ≡ sent_to b xs ++ sent_to b ys
unfolding sent_to
sent-to-append b [] ys = refl
sent-to-append b (q ∷ xs) ys =
    elim (eqb q.to b) as
    (λ t. cond t (q.asking ∷ sent_to b (xs ++ ys)) (sent_to b (xs ++ ys)) ≡ cond t (q.asking ∷ sent_to b xs) (sent_to b xs) ++ sent_to b ys)
    [ true ↦ ap (λ l. q.asking ∷ l) (sent-to-append b xs ys) | false ↦ sent-to-append b xs ys ]

pub sent_to_same : (b : ℕ) (qs : List Asking) → sent_to b (addressed b qs) ≡ qs
unfolding sent_to
sent_to_same b [] = refl
sent_to_same b (q ∷ qs) = rw (eq-eqb b b refl) (ap (λ l. q ∷ l) (sent_to_same b qs))

pub sent_to_other : (a b : ℕ) (qs : List Asking) → (a ≡ b → ⊥) → sent_to b (addressed a qs) ≡ []
unfolding sent_to
sent_to_other a b [] ne = refl
sent_to_other a b (q ∷ qs) ne = rw (ne_eqb a b ne) (sent_to_other a b qs ne)

pub sent_to_past : (f : ℕ → List Asking) (b n : ℕ) → n ≤ b → sent_to b (sent_below n f) ≡ []
unfolding sent_to sent_below
sent_to_past f b zero h = refl
sent_to_past f b (suc n) h =
    sent-to-append b (sent_below n f) (addressed n (f n))
    ∙ ap (λ l. l ++ sent_to b (addressed n (f n))) (sent_to_past f b n (omega arith))
    ∙ sent_to_other n b (f n) (omega arith)

pub sent_to_below : (f : ℕ → List Asking) (b n : ℕ) → b < n → sent_to b (sent_below n f) ≡ f b
unfolding sent_below
sent_to_below f b zero h = absurd (omega arith)
sent_to_below f b (suc n) h =
    sent-to-append b (sent_below n f) (addressed n (f n)) ∙ ⊎_elim last (earlier (sent_to_below f b n)) (cases_eq b n)
  where
    last : b ≡ n → sent_to b (sent_below n f) ++ sent_to b (addressed n (f n)) ≡ f b
    last e =
        ap (λ l. l ++ sent_to b (addressed n (f n))) (sent_to_past f b n (omega arith))
        ∙ ap (λ k. sent_to b (addressed k (f k))) (sym e)
        ∙ sent_to_same b (f b)

    earlier : (b < n → sent_to b (sent_below n f) ≡ f b) → (b ≡ n → ⊥) → sent_to b (sent_below n f) ++ sent_to b (addressed n (f n)) ≡ f b
    earlier below ne =
        ap (λ l. l ++ sent_to b (addressed n (f n))) (below (omega arith))
        ∙ ap (λ l. f b ++ l) (sent_to_other n b (f n) (omega arith))
        ∙ append-nil (f b)

-- The resets and the Data_Exchanges among them

pub resets_append : (xs ys : List Asking) → resets (xs ++ ys) ≡ resets xs + resets ys
resets_append [] ys = omega arith
resets_append (data_exchange n ∷ xs) ys = resets_append xs ys
resets_append (write_parameter n ∷ xs) ys = resets_append xs ys
resets_append (read_io ∷ xs) ys = resets_append xs ys
resets_append (read_id ∷ xs) ys = resets_append xs ys
resets_append (resetting ∷ xs) ys = omega (arith, resets_append xs ys)

pub exchanges-append : (xs ys : List Asking) → exchanges (xs ++ ys) ≡ exchanges xs ++ exchanges ys
exchanges-append [] ys = refl
exchanges-append (data_exchange n ∷ xs) ys = ap (λ l. n ∷ l) (exchanges-append xs ys)
exchanges-append (write_parameter n ∷ xs) ys = exchanges-append xs ys
exchanges-append (read_io ∷ xs) ys = exchanges-append xs ys
exchanges-append (read_id ∷ xs) ys = exchanges-append xs ys
exchanges-append (resetting ∷ xs) ys = exchanges-append xs ys
