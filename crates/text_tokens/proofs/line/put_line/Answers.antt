use Rattle.std.proofs.Common.{arith, add-one}
use Rattle.text_tokens.proofs.Lines.{one_more, room_for, all_put, line_put}
use Rattle.text_tokens.proofs.Pens.{◌▸◌}
use Rattle.text_tokens.proofs.line.put_line.Goals as goal

pub put_word-end-requires : goal.put_word-end-requires
put_word-end-requires c =
    let room = room_for c.args.words.now c.loop-word.word-index c.loop-word-test.true in
    record { at = omega (arith, c.requires.short, c.loop-word.invariant.count, room); word = omega (arith, c.requires.short, room) }

pub put-at-requires : goal.put-at-requires
put-at-requires c =
    omega (arith, c.requires.short, c.loop-word.invariant.count, c.put_word-end.ensures.count, room_for c.args.words.now c.loop-word.word-index c.loop-word-test.true)

pub loop-word-preserved : goal.loop-word-preserved
loop-word-preserved c =
    rw (add-one, ← one_more c.args.words.now c.loop-word.word-index c.loop-word-test.true) (c.loop-word.invariant ▸ c.put_word-end.ensures ▸ c.put-at.ensures)

pub overflow_sub-room : goal.overflow_sub-room
overflow_sub-room c = omega (arith, (all_put _ _ _ _ _ c.requires.some c.loop-word-test.false c.loop-word.invariant).last)

pub bounds-room-at : goal.bounds-room-at
bounds-room-at c = omega (arith, (all_put _ _ _ _ _ c.requires.some c.loop-word-test.false c.loop-word.invariant).last)

pub returns-then-at-room : goal.returns-then-at-room
returns-then-at-room c = line_put _ _ _ _ (all_put _ _ _ _ _ c.requires.some c.loop-word-test.false c.loop-word.invariant) c.if-at-room.true

pub returns-else-at-room : goal.returns-else-at-room
returns-else-at-room c =
    let put = all_put _ _ _ _ _ c.requires.some c.loop-word-test.false c.loop-word.invariant in
    record { same = put.same; count = put.count; room = λ h. absurd (omega (arith, h, put.same, c.if-at-room.false)) }
