use Rattle.std.proofs.Common.{◌≡◌, ◌+◌, ◌-◌, ◌*◌, ◌/◌, min, true, false, length, sym, refl, ap, ◌∙◌, subst, arith}
use Rattle.std.proofs.lemmas.Bool.{cond-true, cond-false}
use Rattle.std.proofs.lemmas.List.{length-take, length-drop}
use borrow.Rule.Slice.PartMut.{put_mid, put_same}
use Rattle.stations.specs.Images.{good_image}
use Rattle.control.specs.Cycles.{Master, new_master}
use Rattle.master.specs.Masters.{state_of}
use Rattle.exports.specs.Replay.{repeaters_of, Replay, nothing_made, replayed, Replayed}
use Rattle.exports.proofs.Replaying.{new_with, tested_good, tested_bad, replay_starts, replay_goes_on, replay_ends, no_room, no_call}
use Rattle.exports.proofs.replay.replay.Goals as goal

pub returns-then-is_err : goal.returns-then-is_err
returns-then-is_err c =
    let ws = c.args.words.now in
    let log = c.args.log.now in
    let bad : good_image ws ≡ false = tested_bad c.test_image.result ws c.test_image.ensures (sym c.is_err.ensures.value ∙ c.if-is_err.true) in
    subst (λ (r : Replay). Replayed r log 0 ws log) (sym (cond-false (good_image ws) _ (nothing_made ws) bad)) (record { calls = refl; words = refl; logged = refl })

good_words : (c : goal.Else-is_err) → good_image c.args.words.now ≡ true
good_words c = tested_good c.test_image.result c.args.words.now c.test_image.ensures (sym c.is_err.ensures.value ∙ c.if-is_err.false)

pub loop-made-init : goal.loop-made-init
loop-made-init c =
    let new = c.new-master.ensures.new in
    let orders : (state_of c.new-master.result).order_room ≡ min c.args.order_room 8 = ap (λ (m : Master). m.order_room) new ∙ simp length-take (omega (arith, c.room.ensures)) in
    let answers : (state_of c.new-master.result).answer_room ≡ min c.args.answer_room 8 = ap (λ (m : Master). m.answer_room) new ∙ simp length-take (omega (arith, c.room-2.ensures)) in
    replay_starts (repeaters_of c.args.kind) (length c.args.log.now / 111) c.args.script.now c.args.words.now c.args.log.now (new_master (min c.args.order_room 8) (min c.args.answer_room 8))
    (state_of c.new-master.result)
    (new_with (state_of c.new-master.result) _ _ _ _ new orders answers)
    (good_words c)

pub replay_next-next-requires-clause-image : goal.replay_next-next-requires-clause-image
replay_next-next-requires-clause-image c = c.loop-made.invariant.good

pub loop-made-preserved : goal.loop-made-preserved
loop-made-preserved c =
    replay_goes_on (repeaters_of c.args.kind) (length c.args.log.now / 111) c.args.script.now c.args.words.now c.args.log.now (new_master (min c.args.order_room 8) (min c.args.answer_room 8))
    c.loop-made.made (c.loop-made.made * 111 + 111 - c.loop-made.made * 111) c.loop-made.log c.loop-made.rest.now c.loop-made.words (state_of c.loop-made.master)
    c.replay_next-next.new.place c.in-Some.behind.now c.replay_next-next.new.words (state_of c.replay_next-next.new.master)
    c.loop-made-test.true (omega arith) (omega arith) (c.replay_next-next.auto.place ∙ simp (length-take, length-drop) (omega (arith, c.loop-made.invariant.sized))) c.loop-made.invariant c.in-Some.ensures

pub returns-in_default : goal.returns-in_default
returns-in_default c =
    let n = repeaters_of c.args.kind in
    let total = length c.args.log.now / 111 in
    let m : Master = new_master (min c.args.order_room 8) (min c.args.answer_room 8) in
    let ws = c.args.words.now in
    let log = c.args.log.now in
    let i = c.loop-made.made in
    let ends = replay_ends n total c.args.script.now ws log m i c.loop-made.log c.loop-made.rest.now c.loop-made.words (state_of c.loop-made.master)
    (omega arith) c.loop-made.invariant (no_call n (total - i) c.loop-made.rest.now c.loop-made.words _ c.in_default.ensures.short) in
    let none = c.in_default.ensures in
    let whole : put_mid (i * 111) (i * 111 + 111 - i * 111) c.loop-made.log c.replay_next-next.new.place ≡ c.loop-made.log =
    ap (put_mid (i * 111) (i * 111 + 111 - i * 111) c.loop-made.log) none.place ∙ put_same (i * 111) (i * 111 + 111 - i * 111) c.loop-made.log in
    subst (λ (r : Replay). Replayed r log i c.replay_next-next.new.words (put_mid (i * 111) (i * 111 + 111 - i * 111) c.loop-made.log c.replay_next-next.new.place))
    (sym (cond-true (good_image ws) (replayed n total c.args.script.now ws m) (nothing_made ws) c.loop-made.invariant.began))
    (record { calls = ends.calls; words = none.words ∙ ends.words; logged = whole ∙ ends.logged })

pub returns : goal.returns
returns c =
    let n = repeaters_of c.args.kind in
    let total = length c.args.log.now / 111 in
    let m : Master = new_master (min c.args.order_room 8) (min c.args.answer_room 8) in
    let ws = c.args.words.now in
    let log = c.args.log.now in
    let i = c.loop-made.made in
    let last : i ≡ total = omega arith in
    let ends = replay_ends n total c.args.script.now ws log m i c.loop-made.log c.loop-made.rest.now c.loop-made.words (state_of c.loop-made.master)
    (omega arith) c.loop-made.invariant (no_room n total i c.loop-made.rest.now c.loop-made.words _ (omega arith)) in
    subst (λ (r : Replay). Replayed r log total c.loop-made.words c.loop-made.log)
    (sym (cond-true (good_image ws) (replayed n total c.args.script.now ws m) (nothing_made ws) c.loop-made.invariant.began))
    (record { calls = sym last ∙ ends.calls; words = ends.words; logged = ends.logged })
