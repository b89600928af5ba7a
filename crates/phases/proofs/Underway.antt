-- A conversation under way on a line: what was sent so far was carried, one request after another, and with what is left it comes to the whole.
use Rattle.std.proofs.Common.{◌≡◌, ℕ, ◌+◌, Bool, List, [], ◌∷◌, ◌++◌, length, Some, None, Option, sym, refl, ap, ◌∙◌, subst, arith}
use Rattle.std.proofs.lemmas.List.{append-nil, append_assoc, length-append}
use Rattle.std.proofs.lemmas.Option.{none-some}
use Rattle.telegrams.specs.Requests.{Sent}
use Rattle.stations.specs.Stations.{Place}
use Rattle.lines.specs.Lines.{line_after, line_reply}
use Rattle.lines.specs.Sending.{Sends}
use Rattle.lines.proofs.Sending.{sends_both}
use Rattle.phases.specs.Conversations.{Conversation, done, ask, question, Course, after_asking, on_line, WentOn}
use Rattle.phases.proofs.Walks.{behind}

sent_or : Sent → Option Sent → Sent
sent_or q None = q
sent_or q (Some p) = p

same_question : {p q : Sent} → Some p ≡ Some q → p ≡ q
unfolding sent_or
same_question {p} {q} e = ap (sent_or p) e

-- the line was x as it began and is y now; its power does not change
pub record Underway {L A : Type 0} (carried : L → Sent → L → Type 0) (power : Bool) (whole : Course A) (x y : L) (rest : Conversation A) (ps : List Place) (n : ℕ) : Type 0 where
  pub so_far : List Sent
  pub sends : Sends carried x so_far y
  pub same : whole ≡ behind so_far (on_line power rest ps)
  pub counted : n ≡ length so_far

module _ {L A : Type 0} (carried : L → Sent → L → Type 0) (power : Bool) (x : L) (whole : Course A) where
  pub begins : (rest : Conversation A) (ps : List Place) {n : ℕ} → whole ≡ on_line power rest ps → n ≡ 0 → Underway carried power whole x x rest ps n
  begins rest ps is none = record { so_far = []; sends = refl; same = is; counted = none }

  -- what is next was carried, and the reply was heard
  pub heard_on :
      (y z : L) (rest rest' : Conversation A) (ps ps' : List Place) {power' : Bool} {n n' : ℕ}
      → Underway carried power whole x y rest ps n → power' ≡ power → WentOn carried power' y z ps ps' rest rest' → n' ≡ n + 1
      → Underway carried power whole x z rest' ps' n'
  heard_on y z (done a) rest' ps ps' under up on more = absurd (none-some on.asked (sym on.is_next))
  heard_on y z (ask p k) rest' ps ps' under up on more =
      let q : Sent = on.asked in
      let here : Course A = on_line power (k (line_reply power q ps)) (line_after power q ps) in
      let left : k (line_reply power q ps) ≡ rest' = ap k (ap (λ (b : Bool). line_reply b q ps) (sym up)) ∙ sym on.heard in
      let places : line_after power q ps ≡ ps' = ap (λ (b : Bool). line_after b q ps) (sym up) ∙ sym on.places in
      record {
        so_far = under.so_far ++ q ∷ [];
        sends = sends_both carried x y z under.so_far (q ∷ []) under.sends (z, on.sent, refl);
        same =
            under.same
            ∙ ap (λ (p' : Sent). behind under.so_far (after_asking p' (on_line power (k (line_reply power p' ps)) (line_after power p' ps)))) (sym (same_question on.is_next))
            ∙ ap (λ (qs : List Sent). record here { sent = qs }) (sym (append_assoc under.so_far (q ∷ []) here.sent))
            ∙ ap (λ (r : Conversation A). behind (under.so_far ++ q ∷ []) (on_line power r (line_after power q ps))) left
            ∙ ap (λ (os : List Place). behind (under.so_far ++ q ∷ []) (on_line power rest' os)) places;
        counted = omega (arith, under.counted, length-append under.so_far (q ∷ []), more);
      }

  -- nothing is next: it has come to what it comes to
  pub over :
      (y : L) (rest : Conversation A) (ps : List Place) (n : ℕ) → Underway carried power whole x y rest ps n → question rest ≡ None
      → (rest ≡ done whole.comes_to) × (ps ≡ whole.places) × (n ≡ length whole.sent) × Sends carried x whole.sent y
  over y (done a) ps n under none =
      let is : record { comes_to = a; places = ps; sent = under.so_far } ≡ whole =
      sym (under.same ∙ ap (λ (qs : List Sent). record { comes_to = a; places = ps; sent = qs }) (append-nil under.so_far)) in (
        ap (λ (w : Course A). done w.comes_to) is,
        ap (λ (w : Course A). w.places) is,
        under.counted ∙ ap (λ (w : Course A). length w.sent) is,
        subst (λ (w : Course A). Sends carried x w.sent y) is under.sends,
      )
  over y (ask q k) ps n under none = absurd (none-some q (sym none))
