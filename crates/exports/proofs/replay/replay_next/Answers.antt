use Rattle.std.proofs.Common.{◌≡◌, ℕ, List, take, drop, map, sym, refl, ap, ◌∙◌, arith}
use Rattle.stations.specs.Images.{good_image}
use Rattle.master.specs.Masters.{state_of}
use Rattle.records.specs.Edits.{Edit, change_of}
use Rattle.runs.specs.Outcomes.{came}
use Rattle.racks.specs.Racks.{line_in}
use Rattle.exports.specs.Scripts.{entry_in, edits_of, turn_by}
use Rattle.exports.specs.Replay.{repeaters_of, seen_through, Through}
use Rattle.exports.proofs.Scripts.{entry_first}
use Rattle.exports.proofs.Replaying.{altered_stays, made_ok, next_is}
use Rattle.exports.proofs.replay.replay_next.Goals as goal

pub on_line-requires : goal.on_line-requires
on_line-requires c = ap good_image c.alter.ensures ∙ altered_stays c.from_words-entry.result c.args.words.now c.requires.image

pub returns : goal.returns
returns c =
    let n = repeaters_of c.args.kind in
    let script = c.args.script.now in
    let e = c.from_words-entry.result in
    let m = state_of c.args.master.now in
    let m' = state_of c.on_line.new.master in
    let before = c.alter.new.words in
    let after = c.on_line.new.words in
    let x = c.call-call.result in
    let outcome = c.in_ok-outcome.outcome in
    let l = seen_through n (line_in before) in
    let chunk = c.in_ok-first.ensures.cases in
    let read = edits_of e (drop 8 script) in
    let edits : map change_of (take c.read_edits-count.result.0 c.read_edits-count.new.edits) ≡ read.edits =
    c.read_edits-count.ensures.edits ∙ ap (λ (ws : List ℕ). (edits_of e ws).edits) chunk.1 in
    let made : Through n x (line_in before) m (came outcome) (line_in after) m' =
    made_ok c.on_line.result outcome (λ y. Through n x (line_in before) m (came y) (line_in after) m') (sym c.in_ok-outcome.ensures.value) c.on_line.ensures.made in
    next_is n before after m m' e read x (came outcome) script c.args.words.now c.copy_from_slice.new.self c.read_edits-count.result.1.now
    (omega (arith, chunk.2))
    (c.from_words-entry.ensures ∙ ap entry_in chunk.0 ∙ entry_first script)
    refl
    c.alter.ensures
    (c.call-call.ensures l ∙ ap (λ (es : List Edit). turn_by e es l) edits)
    made
    c.on_line.ensures.good
    (c.copy_from_slice.ensures.after ∙ c.logged.ensures)
    (c.read_edits-count.ensures.rest ∙ ap (λ (ws : List ℕ). (edits_of e ws).rest) chunk.1)
