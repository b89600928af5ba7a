-- A replay, call by call: the line is altered, the call is made, and its words are logged behind those that were logged before.
use Rattle.std.proofs.Common.{◌≡◌, ℕ, zero, suc, ◌+◌, ◌-◌, ◌*◌, ◌<◌, ◌≤◌, true, false, List, [], ◌++◌, length, get_or, take, drop, set, Some, Ok, Err, Result, sym, refl, ap, ◌∙◌, subst, ⊎_elim, ltb, append_assoc, add-zero, arith}
use Rattle.std.specs.Prelude.{MatchResult}
use Rattle.std.specs.Result.{is_err, result_ok}
use Rattle.std.proofs.lemmas.List.{set-set, set-get_or, set_past, length-take, length-take-le, length-drop, drop-drop, append-nil, take-append-drop}
use Rattle.std.proofs.lemmas.Slice.{take-put_mid, drop-put_mid}
use borrow.Rule.Slice.PartMut.{mid_of, put_mid, same_len_mid}
use Rattle.std.proofs.lemmas.Bool.{cases_Bool, cond-true, cond-false, lt-ltb, le-ltb}
use Rattle.values.specs.Refusals.{gives, refuses, outcome}
use Rattle.values.specs.declared.refusal.Refusal.{Refusal}
use Rattle.stations.specs.Images.{good_image, tested}
use Rattle.lines.specs.Lines.{Meaning}
use Rattle.racks.specs.Racks.{line_in, image_saying}
use Rattle.racks.proofs.Images.{image_back}
use Rattle.control.specs.Cycles.{Master, new_master}
use Rattle.promise.specs.Successions.{Turn, turned}
use Rattle.promise.specs.Outcomes.{Came, comes_to, sent_by}
use Rattle.runs.specs.Outcomes.{turn_of}
use Rattle.runs.specs.declared.call.Call.{Call}
use Rattle.exports.specs.declared.script.Entry.{Entry}
use Rattle.exports.specs.Scripts.{entry_in, Edits, edits_of, turn_by}
use Rattle.exports.specs.Logging.{logged}
use Rattle.exports.specs.Replay.{altered_to, altered, seen_through, left_by_all, Through, Step, Next, Replay, nothing_made, first_made, replayed, Replayed}

-- a new master by its rooms
pub new_with : (m : Master) (a b a' b' : ℕ) → m ≡ new_master a b → m.order_room ≡ a' → m.answer_room ≡ b' → m ≡ new_master a' b'
new_with m a b a' b' is orders answers =
    is
    ∙ ap (λ (n : ℕ). new_master n b) (sym (ap (λ (x : Master). x.order_room) is) ∙ orders)
    ∙ ap (new_master a') (sym (ap (λ (x : Master). x.answer_room) is) ∙ answers)

-- A test of an image

pub tested_good : (r : Result (Unit {0}) Refusal) (ws : List ℕ) → outcome (λ u. u) r ≡ tested ws → is_err r ≡ false → good_image ws ≡ true
tested_good (Ok u) ws e ok = ⊎_elim (λ h. h) (λ h. let bad : gives tt ≡ refuses 0x8313 = e ∙ cond-false (good_image ws) (gives tt) (refuses 0x8313) h in absurd (cc)) (cases_Bool (good_image ws))
tested_good (Err x) ws e ok = absurd (cc)

pub tested_bad : (r : Result (Unit {0}) Refusal) (ws : List ℕ) → outcome (λ u. u) r ≡ tested ws → is_err r ≡ true → good_image ws ≡ false
tested_bad (Ok u) ws e ok = absurd (cc)
tested_bad (Err x) ws e ok = ⊎_elim (λ h. let bad : outcome {A = Unit {0}} {B = Unit {0}} (λ u. u) (Err x) ≡ gives tt = e ∙ cond-true (good_image ws) (gives tt) (refuses 0x8313) h in absurd (cc)) (λ h. h) (cases_Bool (good_image ws))

-- The line altered

pub altered_good : (ws' ws : List ℕ) → good_image ws' ≡ true → ws' ≡ altered_to ws' ws
altered_good ws' ws good = sym (cond-true (good_image ws') ws' ws good)

pub altered_bad : (ws ws' : List ℕ) → good_image ws' ≡ false → ws ≡ altered_to ws' ws
altered_bad ws ws' bad = sym (cond-false (good_image ws') ws' ws bad)

-- a place behind the words
pub altered_past : (ws : List ℕ) (i w : ℕ) → length ws ≤ i → ws ≡ altered_to (set ws i w) ws
altered_past ws i w h = ⊎_elim
    (λ good. sym (set_past ws i w h) ∙ altered_good (set ws i w) ws good)
    (altered_bad ws (set ws i w))
    (cases_Bool (good_image (set ws i w)))

-- what stood there is written back
pub altered_back : (ws : List ℕ) (i w v : ℕ) → v ≡ get_or ws i v → good_image (set ws i w) ≡ false → set (set ws i w) i v ≡ altered_to (set ws i w) ws
altered_back ws i w v is bad = set-set ws i w v ∙ ap (set ws i) is ∙ set-get_or ws i v ∙ altered_bad ws (set ws i w) bad

-- a good image stays good
pub altered_stays : (e : Entry) (ws : List ℕ) → good_image ws ≡ true → good_image (altered e ws) ≡ true
altered_stays e ws good =
    let ws' = set ws e.place e.word in
    ⊎_elim
    (λ h. ap good_image (cond-true (good_image ws') ws' ws h) ∙ h)
    (λ h. ap good_image (cond-false (good_image ws') ws' ws h) ∙ good)
    (cases_Bool (good_image ws'))

-- One call

-- what became of a result that is taken as an option
pub made_ok : {A : Type 0} (r : Result A Refusal) (y : A) (P : A → Type 0) → result_ok r ≡ Some y → MatchResult r P (λ e. ⊥) → P y
made_ok (Ok x) y P is made = let same : x ≡ y = cc in subst P same made
made_ok (Err x) y P is made = absurd made

-- the step of an entry and its edits, on a line that is altered already
abbrev entry_step : ℕ → Entry → Edits → Meaning → Master → Step
entry_step n e read line m =
    let turn = turn_by e read.edits (seen_through n line) in
    let words = image_saying (left_by_all n (sent_by turn m) line) in
    record { logged = logged (comes_to turn m) (turned turn m) words; rest = read.rest; words = words; master = turned turn m }

same_step : (lg rest ws lg' rest' ws' : List ℕ) (m m' : Master) → lg ≡ lg' → rest ≡ rest' → ws ≡ ws' → m ≡ m' → ◌≡◌ {A = Step} (record { logged = lg; rest = rest; words = ws; master = m }) (record { logged = lg'; rest = rest'; words = ws'; master = m' })
same_step lg rest ws lg' rest' ws' m m' p q r s = cc

module _ (n : ℕ) (ws₁ ws₂ : List ℕ) (m m' : Master) (e : Entry) (read : Edits) (x : Call) (y : Came) where
  abbrev line : Meaning
  line = seen_through n (line_in ws₁)

  -- where the entry says call x
  entry_is : (lg rest : List ℕ) → turn_of line x ≡ turn_by e read.edits line → Through n x (line_in ws₁) m y (line_in ws₂) m' → good_image ws₂ ≡ true → lg ≡ logged y m' ws₂ → rest ≡ read.rest → record { logged = lg; rest = rest; words = ws₂; master = m' } ≡ entry_step n e read (line_in ws₁) m
  entry_is lg rest turn made good written behind =
      let t = turn_by e read.edits line in
      let came : y ≡ comes_to t m = made.came_to ∙ ap (λ (u : Turn). comes_to u m) turn in
      let master : m' ≡ turned t m = made.master_is ∙ ap (λ (u : Turn). turned u m) turn in
      let words : ws₂ ≡ image_saying (left_by_all n (sent_by t m) (line_in ws₁)) =
      sym (image_back ws₂ good) ∙ ap image_saying made.line_is ∙ ap (λ (u : Turn). image_saying (left_by_all n (sent_by u m) (line_in ws₁))) turn in
      same_step _ _ _ _ _ _ _ _
      (written ∙ ap (λ (z : Came). logged z m' ws₂) came ∙ ap (λ (c : Master). logged (comes_to t m) c ws₂) master ∙ ap (logged (comes_to t m) (turned t m)) words)
      behind words master

  pub next_is : (script ws lg rest : List ℕ) → 8 ≤ length script → e ≡ entry_in script → read ≡ edits_of e (drop 8 script) → ws₁ ≡ altered e ws → turn_of line x ≡ turn_by e read.edits line → Through n x (line_in ws₁) m y (line_in ws₂) m' → good_image ws₂ ≡ true → lg ≡ logged y m' ws₂ → rest ≡ read.rest → Next n script ws m lg rest ws₂ m'
  next_is script ws lg rest enough first edits line_altered turn made good written behind =
      record {
        enough = enough;
        is =
            entry_is lg rest turn made good written behind
            ∙ ap (λ (l : List ℕ). entry_step n e read (line_in l) m) line_altered
            ∙ ap (λ (r : Edits). entry_step n e r (line_in (altered e ws)) m) edits
            ∙ ap (λ (z : Entry). entry_step n z (edits_of z (drop 8 script)) (line_in (altered z ws)) m) first;
        good = good;
      }

-- A whole replay

-- i calls were made before, and this was logged of them
abbrev pub continued : ℕ → List ℕ → Replay → Replay
continued i log r = record r { made = i + r.made; log = log ++ r.log }

module _ (n total : ℕ) (script ws log : List ℕ) (m : Master) where
  -- i calls were made, and left log, script, words and master so
  pub record ReplayedSoFar (i : ℕ) (log' rest ws' : List ℕ) (m' : Master) : Type 0 where
    pub began : good_image ws ≡ true
    pub sized : length log' ≡ length log
    pub good : good_image ws' ≡ true
    pub behind : drop (i * 111) log' ≡ drop (i * 111) log
    pub so_far : replayed n total script ws m ≡ continued i (take (i * 111) log') (replayed n (total - i) rest ws' m')

  pub replay_starts : (c : Master) → c ≡ m → good_image ws ≡ true → ReplayedSoFar 0 log script ws c
  replay_starts c is good =
      let r : Replay = replayed n total script ws c in
      let whole : total - 0 ≡ total = omega arith in
      let made : 0 + r.made ≡ r.made = omega arith in
      record {
        began = good;
        sized = refl;
        good = good;
        behind = refl;
        so_far =
            ap (replayed n total script ws) (sym is)
            ∙ ap (λ (k : ℕ). record r { made = k }) (sym made)
            ∙ ap (λ (k : ℕ). continued 0 [] (replayed n k script ws c)) (sym whole);
      }

  -- one call more, of which lg is logged
  pub replay_goes_on : (i k : ℕ) (log' rest ws' : List ℕ) (m' : Master) (lg rest'' ws'' : List ℕ) (m'' : Master) → i < total → i * 111 + 111 ≤ length log → k ≡ 111 → length lg ≡ 111 → ReplayedSoFar i log' rest ws' m' → Next n rest ws' m' lg rest'' ws'' m'' → ReplayedSoFar (i + 1) (put_mid (i * 111) k log' lg) rest'' ws'' m''
  unfolding replayed
  replay_goes_on i k log' rest ws' m' lg rest'' ws'' m'' inside room size long before next =
      let at : i * 111 ≤ length log' = omega (arith, before.sized) in
      let end : (i + 1) * 111 ≡ i * 111 + 111 = omega arith in
      let left : ℕ = total - (i + 1) in
      let less : total - i ≡ suc left = omega arith in
      let r : Replay = replayed n left rest'' ws'' m'' in
      let s : Step = record { logged = lg; rest = rest''; words = ws''; master = m'' } in
      let part : length (mid_of (i * 111) k log') ≡ 111 = simp (length-take, length-drop) (omega (arith, before.sized)) in
      let first : replayed n (total - i) rest ws' m' ≡ first_made lg r =
      ap (λ (j : ℕ). replayed n j rest ws' m') less
      ∙ cond-false (ltb (length rest) 8) (nothing_made ws') _ (le-ltb (length rest) 8 next.enough)
      ∙ ap (λ (z : Step). first_made z.logged (replayed n left z.rest z.words z.master)) (sym next.is) in
      let more : i + (r.made + 1) ≡ i + 1 + r.made = omega arith in
      let taken : take ((i + 1) * 111) (put_mid (i * 111) k log' lg) ≡ take (i * 111) log' ++ lg = take-put_mid (i * 111) k log' lg ((i + 1) * 111) (omega arith) at in
      record {
        began = before.began;
        sized = same_len_mid (i * 111) k log' lg (omega arith) ∙ before.sized;
        good = next.good;
        behind =
            drop-put_mid (i * 111) k log' lg ((i + 1) * 111) (omega arith) at (omega arith)
            ∙ ap (λ (j : ℕ). drop j log') end
            ∙ sym (drop-drop 111 (i * 111) log')
            ∙ ap (drop 111) before.behind
            ∙ drop-drop 111 (i * 111) log
            ∙ ap (λ (j : ℕ). drop j log) (sym end);
        so_far =
            before.so_far
            ∙ ap (continued i (take (i * 111) log')) first
            ∙ ap (λ (j : ℕ). record { made = j; log = take (i * 111) log' ++ (lg ++ r.log); words = r.words }) more
            ∙ ap (λ (l : List ℕ). record { made = i + 1 + r.made; log = l; words = r.words }) (sym (append_assoc (take (i * 111) log') lg r.log))
            ∙ ap (λ (l : List ℕ). continued (i + 1) l r) (sym taken);
      }

  -- no call is made any more
  pub replay_ends : (i : ℕ) (log' rest ws' : List ℕ) (m' : Master) → i * 111 ≤ length log → ReplayedSoFar i log' rest ws' m' → replayed n (total - i) rest ws' m' ≡ nothing_made ws' → Replayed (replayed n total script ws m) log i ws' log'
  replay_ends i log' rest ws' m' room before none =
      let all : replayed n total script ws m ≡ record { made = i; log = take (i * 111) log'; words = ws' } =
      before.so_far
      ∙ ap (continued i (take (i * 111) log')) none
      ∙ ap (λ (l : List ℕ). record { made = i + 0; log = l; words = ws' }) (append-nil (take (i * 111) log'))
      ∙ ap (λ (j : ℕ). record { made = j; log = take (i * 111) log'; words = ws' }) (add-zero i) in
      let written : length (take (i * 111) log') ≡ i * 111 = length-take-le (i * 111) log' (omega (arith, before.sized)) in
      let whole : log' ≡ take (i * 111) log' ++ drop (length (take (i * 111) log')) log =
      sym (take-append-drop (i * 111) log')
      ∙ ap (λ (l : List ℕ). take (i * 111) log' ++ l) before.behind
      ∙ ap (λ (j : ℕ). take (i * 111) log' ++ drop j log) (sym written) in
      subst (λ (r : Replay). Replayed r log i ws' log') (sym all) (record { calls = refl; words = refl; logged = whole })

pub no_room : (n total i : ℕ) (rest ws : List ℕ) (m : Master) → total ≤ i → replayed n (total - i) rest ws m ≡ nothing_made ws
unfolding replayed
no_room n total i rest ws m h = let none : total - i ≡ 0 = omega arith in ap (λ (j : ℕ). replayed n j rest ws m) none

pub no_call : (n k : ℕ) (rest ws : List ℕ) (m : Master) → length rest < 8 → replayed n k rest ws m ≡ nothing_made ws
unfolding replayed
no_call n zero rest ws m h = refl
no_call n (suc k) rest ws m h = cond-true (ltb (length rest) 8) (nothing_made ws) _ (lt-ltb (length rest) 8 h)
