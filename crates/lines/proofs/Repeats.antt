-- A request that is passed down, and once more after a disturbed reply, does to a line what the request does to that line with
-- every disturbance count halved.
use Rattle.std.proofs.Common.{◌≡◌, ℕ, zero, suc, ◌-◌, ◌/◌, ◌<◌, ◌≤◌, Bool, true, false, cond, List, [], ◌∷◌, map, length, set, sym, refl, ap, ◌∙◌, subst, ⊎_elim, arith}
use Rattle.std.proofs.lemmas.List.{map-set, set-set, set-get_or, get_or-set_same, get_or_past}
use Rattle.std.proofs.lemmas.Bool.{cases_lt, cases_eq, lt-ltb, le-ltb, cond-true, cond-false}
use Rattle.telegrams.specs.Requests.{Asking, Sent, Heard, data_exchange, write_parameter, read_io, read_id, resetting, nibble, silence, disturbed}
use Rattle.stations.specs.Stations.{State, Place, vacant, occupied, with_disturbance, with_outputs, exchange_disabled, port_bits, obeyed, answer, after, reply}
use Rattle.lines.specs.Lines.{at, line_after, line_reply, halved, repeated_after, repeated_reply}

-- obeying neither reads nor changes the count

cond-at : (b : Bool) (x y : State) (d : ℕ) → cond b (with_disturbance d x) (with_disturbance d y) ≡ with_disturbance d (cond b x y)
cond-at true x y d = refl
cond-at false x y d = refl

obeyed_at : (q : Asking) (x : State) (d : ℕ) → obeyed (with_disturbance d x) q ≡ with_disturbance d (obeyed x q)
obeyed_at (data_exchange n) x d = cond-at (exchange_disabled x) x (with_outputs n x) d
obeyed_at (write_parameter n) x d = refl
obeyed_at read_io x d = refl
obeyed_at read_id x d = refl
obeyed_at resetting x d = refl

answer_at : (q : Asking) (x : State) (d : ℕ) → answer (with_disturbance d x) q ≡ answer x q
answer_at (data_exchange n) x d = refl
answer_at (write_parameter n) x d = refl
answer_at read_io x d = refl
answer_at read_id x d = refl
answer_at resetting x d = refl

-- an answer is never a disturbance
answer_clear : (q : Asking) (x : State) → answer x q ≡ disturbed → ⊥
answer_clear (data_exchange n) x e = cond_clear (exchange_disabled x) e
  where
    cond_clear : (b : Bool) → cond b silence (nibble (port_bits n x)) ≡ disturbed → ⊥
    cond_clear true h = let z : ◌≡◌ {A = ℕ} 0 1 = cc in omega arith
    cond_clear false h = let z : ◌≡◌ {A = ℕ} 0 1 = cc in omega arith
answer_clear (write_parameter n) x e = let z : ◌≡◌ {A = ℕ} 0 1 = cc in omega arith
answer_clear read_io x e = let z : ◌≡◌ {A = ℕ} 0 1 = cc in omega arith
answer_clear read_id x e = let z : ◌≡◌ {A = ℕ} 0 1 = cc in omega arith
answer_clear resetting x e = let z : ◌≡◌ {A = ℕ} 0 1 = cc in omega arith

-- a module at a count of 0, and above

module _ (q : Asking) (x : State) where
  after_clear : x.disturbance ≡ 0 → after true (occupied x) q ≡ occupied (obeyed x q)
  after_clear z = ap occupied (cond-false _ _ _ (le-ltb 0 x.disturbance (omega arith)))

  after_above : 0 < x.disturbance → after true (occupied x) q ≡ occupied (with_disturbance (x.disturbance - 1) x)
  after_above h = ap occupied (cond-true _ _ _ (lt-ltb 0 x.disturbance h))

  reply_clear : x.disturbance ≡ 0 → reply true (occupied x) q ≡ answer x q
  reply_clear z = cond-false _ _ _ (le-ltb 0 x.disturbance (omega arith))

  reply_above : 0 < x.disturbance → reply true (occupied x) q ≡ disturbed
  reply_above h = cond-true _ _ _ (lt-ltb 0 x.disturbance h)

  obeyed_halved : halved (occupied (obeyed x q)) ≡ occupied (obeyed (with_disturbance (x.disturbance / 2) x) q)
  obeyed_halved =
      let kept : (obeyed x q).disturbance ≡ x.disturbance = ap (λ (y : State). y.disturbance) (obeyed_at q x x.disturbance) in
      ap (λ d. occupied (with_disturbance (d / 2) (obeyed x q))) kept ∙ ap occupied (sym (obeyed_at q x (x.disturbance / 2)))

-- station p becomes p' and replies r, as the halved station would
abbrev Halves : Asking → Place → Place → Heard → Type 0
Halves q p p' r = (halved p' ≡ after true (halved p) q) × (r ≡ reply true (halved p) q)

-- where the first reply is not disturbed

once_at : (q : Asking) (p : Place) → (reply true p q ≡ disturbed → ⊥) → Halves q p (after true p q) (reply true p q)
once_at q vacant clear = (refl, refl)
once_at q (occupied x) clear = ⊎_elim (λ h. absurd (clear (reply_above q x h))) calm (cases_lt 0 x.disturbance)
  where
    half : State
    half = with_disturbance (x.disturbance / 2) x

    calm : x.disturbance ≤ 0 → Halves q (occupied x) (after true (occupied x) q) (reply true (occupied x) q)
    calm h = (
      ap halved (after_clear q x (omega arith)) ∙ obeyed_halved q x ∙ sym (after_clear q half (omega arith)),
      reply_clear q x (omega arith) ∙ sym (answer_at q x (x.disturbance / 2)) ∙ sym (reply_clear q half (omega arith)),
    )

-- where it is

again_at : (q : Asking) (p : Place) → reply true p q ≡ disturbed → Halves q p (after true (after true p q) q) (reply true (after true p q) q)
again_at q vacant e = (refl, refl)
again_at q (occupied x) e = subst (λ (p : Place). Halves q (occupied x) (after true p q) (reply true p q)) (sym (after_above q x above)) (⊎_elim last more (cases_eq d 1))
  where
    d : ℕ
    d = x.disturbance

    above : 0 < d
    above = ⊎_elim (λ h. h) (λ h. absurd (answer_clear q x (sym (reply_clear q x (omega arith)) ∙ e))) (cases_lt 0 d)

    less : State
    less = with_disturbance (d - 1) x

    half : State
    half = with_disturbance (d / 2) x

    last : d ≡ 1 → Halves q (occupied x) (after true (occupied less) q) (reply true (occupied less) q)
    last z =
        let same : (d - 1) / 2 ≡ d / 2 = omega arith in (
          ap halved (after_clear q less (omega arith))
              ∙ obeyed_halved q less
              ∙ ap (λ (n : ℕ). occupied (obeyed (with_disturbance n x) q)) same
              ∙ sym (after_clear q half (omega arith)),
          reply_clear q less (omega arith) ∙ answer_at q x (d - 1) ∙ sym (answer_at q x (d / 2)) ∙ sym (reply_clear q half (omega arith)),
        )

    more : (d ≡ 1 → ⊥) → Halves q (occupied x) (after true (occupied less) q) (reply true (occupied less) q)
    more ne =
        let same : (d - 1 - 1) / 2 ≡ d / 2 - 1 = omega arith in
        let two : 1 < d = omega (arith, above) in (
          ap halved (after_above q less (omega arith)) ∙ ap (λ (n : ℕ). occupied (with_disturbance n x)) same ∙ sym (after_above q half (omega arith)),
          reply_above q less (omega arith) ∙ sym (reply_above q half (omega arith)),
        )

-- The same of a line

at_halved : (ps : List Place) (a : ℕ) → at (map halved ps) a ≡ halved (at ps a)
at_halved [] a = refl
at_halved (p ∷ ps) zero = refl
at_halved (p ∷ ps) (suc a) = at_halved ps a

-- the line below goes from ps to ps' and replies r, as the line with halved counts would
abbrev pub HalvesLine : Bool → Sent → List Place → List Place → Heard → Type 0
HalvesLine power q ps ps' r = (map halved ps' ≡ line_after power q (map halved ps)) × (r ≡ line_reply power q (map halved ps))

at_one : (q : Sent) (ps : List Place) (p' : Place) (r : Heard) → Halves q.asking (at ps q.to) p' r → HalvesLine true q ps (set ps q.to p') r
at_one q ps p' r (h, k) = let there = at_halved ps q.to in let written = map-set halved ps q.to p' in (cc, cc)

passed_once : (power : Bool) (q : Sent) (ps : List Place) → (line_reply power q ps ≡ disturbed → ⊥) → HalvesLine power q ps (line_after power q ps) (line_reply power q ps)
passed_once true q ps clear = at_one q ps (after true (at ps q.to) q.asking) (reply true (at ps q.to) q.asking) (once_at q.asking (at ps q.to) clear)
passed_once false q ps clear =
    (ap (map halved) (set-get_or ps q.to vacant) ∙ sym (set-get_or (map halved ps) q.to vacant), refl)

passed_twice : (power : Bool) (q : Sent) (ps : List Place) → line_reply power q ps ≡ disturbed → HalvesLine power q ps (line_after power q (line_after power q ps)) (line_reply power q (line_after power q ps))
passed_twice false q ps e = let z : ◌≡◌ {A = ℕ} 0 1 = cc in absurd (omega arith)
passed_twice true q ps e =
    let p = at ps q.to in
    let p' = after true p q.asking in
    let inside : q.to < length ps = ⊎_elim (λ l. l) (λ g. let z : ◌≡◌ {A = ℕ} 0 1 = cc (get_or_past ps q.to vacant g) in absurd (omega arith)) (cases_lt q.to (length ps)) in
    let there : at (set ps q.to p') q.to ≡ p' = get_or-set_same ps q.to p' vacant inside in
    let both = at_one q ps (after true p' q.asking) (reply true p' q.asking) (again_at q.asking p e) in
    let twice = set-set ps q.to p' (after true p' q.asking) in
    (cc, cc)

-- the second reply after a disturbed first one, and else the first
pub passed : (power : Bool) (q : Sent) (ps ps' ps'' : List Place) (h r : Heard) → ps' ≡ line_after power q ps → h ≡ line_reply power q ps → ps'' ≡ repeated_after power q ps' h → r ≡ repeated_reply power q ps' h → HalvesLine power q ps ps'' r
passed power q ps ps' ps'' (nibble n) r below first after last =
    let once = passed_once power q ps (λ e. let z : ◌≡◌ {A = ℕ} 0 1 = cc in absurd (omega arith)) in
    (cc, cc)
passed power q ps ps' ps'' silence r below first after last =
    let once = passed_once power q ps (λ e. let z : ◌≡◌ {A = ℕ} 0 1 = cc in absurd (omega arith)) in
    (cc, cc)
passed power q ps ps' ps'' disturbed r below first after last =
    let twice = passed_twice power q ps (sym first) in
    (cc, cc)
