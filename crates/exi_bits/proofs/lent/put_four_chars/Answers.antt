use Rattle.std.proofs.Common.{◌+◌, ◌*◌, ◌<◌, ◌^◌, Bool, List, length, sym, subst, ◌∙◌, arith}
use Rattle.exi_spec.specs.Items.{shortest_chars}
use Rattle.exi_bits.specs.Lent.{four_octets}
use Rattle.exi_bits.specs.Written.{Extends}
use Rattle.exi_bits.proofs.Lents.{chars_join, part_put, part_room, ascii_long, ascii_spelled, four_spelled}
use Rattle.exi_bits.proofs.lent.put_four_chars.Goals as goal

pub overflow_add-at : goal.overflow_add-at
overflow_add-at c =
    omega (
      arith,
      part_room shortest_chars c.args.room.now c.loop-word.room c.args.at c.loop-word.wrote (8 * length c.args.room.now) c.args.chars.now c.loop-word.chars (four_octets c.in-Some.word) c.next_four_ascii.new.self chars_join c.in-Some.ensures.some c.requires.within c.loop-word.invariant,
      c.requires.room,
    )

pub put_number-requires-clause-within : goal.put_number-requires-clause-within
put_number-requires-clause-within c =
    omega (
      arith,
      part_room shortest_chars c.args.room.now c.loop-word.room c.args.at c.loop-word.wrote (8 * length c.args.room.now) c.args.chars.now c.loop-word.chars (four_octets c.in-Some.word) c.next_four_ascii.new.self chars_join c.in-Some.ensures.some c.requires.within c.loop-word.invariant,
      c.loop-word.auto.room,
      ascii_long c.in-Some.word c.in-Some.ensures.ascii,
    )

pub overflow_add-wrote : goal.overflow_add-wrote
overflow_add-wrote c =
    omega (
      arith,
      part_room shortest_chars c.args.room.now c.loop-word.room c.args.at c.loop-word.wrote (8 * length c.args.room.now) c.args.chars.now c.loop-word.chars (four_octets c.in-Some.word) c.next_four_ascii.new.self chars_join c.in-Some.ensures.some c.requires.within c.loop-word.invariant,
      c.requires.room,
      ascii_long c.in-Some.word c.in-Some.ensures.ascii,
    )

pub loop-word-preserved : goal.loop-word-preserved
loop-word-preserved c =
    let range : c.in-Some.word < 2 ^ 32 = omega arith in
    part_put shortest_chars c.args.room.now c.loop-word.room c.put_number.new.room c.args.at c.loop-word.wrote 32 c.args.chars.now c.loop-word.chars (four_octets c.in-Some.word) c.next_four_ascii.new.self chars_join c.in-Some.ensures.some c.loop-word.invariant
    (subst (λ (l : List Bool). Extends c.loop-word.room c.put_number.new.room (c.args.at + c.loop-word.wrote) 32 l) (four_spelled c.in-Some.word range ∙ sym (ascii_spelled (four_octets c.in-Some.word) c.in-Some.ensures.ascii)) c.put_number.ensures)
