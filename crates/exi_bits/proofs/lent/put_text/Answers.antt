use Rattle.std.proofs.Common.{◌*◌, length, arith}
use Rattle.exi_spec.specs.Items.{shortest_chars}
use Rattle.exi_bits.proofs.Lents.{chars_join, left_room, both_put}
use Rattle.exi_bits.proofs.lent.put_text.Goals as goal

pub overflow_add-at : goal.overflow_add-at
overflow_add-at c =
    omega (
      arith,
      left_room shortest_chars c.args.room.now c.put_four_chars-fours.new.room c.args.at c.put_four_chars-fours.result (8 * length c.args.room.now) c.args.chars.now c.put_four_chars-fours.new.chars chars_join c.requires.within c.put_four_chars-fours.ensures,
      c.requires.room,
    )

pub put_each_char-requires-clause-within : goal.put_each_char-requires-clause-within
put_each_char-requires-clause-within c =
    omega (
      arith,
      left_room shortest_chars c.args.room.now c.put_four_chars-fours.new.room c.args.at c.put_four_chars-fours.result (8 * length c.args.room.now) c.args.chars.now c.put_four_chars-fours.new.chars chars_join c.requires.within c.put_four_chars-fours.ensures,
      c.put_four_chars-fours.auto.room,
    )

pub overflow_add-result : goal.overflow_add-result
overflow_add-result c =
    omega (
      arith,
      left_room shortest_chars c.args.room.now c.put_four_chars-fours.new.room c.args.at c.put_four_chars-fours.result (8 * length c.args.room.now) c.args.chars.now c.put_four_chars-fours.new.chars chars_join c.requires.within c.put_four_chars-fours.ensures,
      c.put_each_char.ensures.long,
      c.requires.room,
    )

pub returns : goal.returns
returns c =
    both_put shortest_chars c.args.room.now c.put_four_chars-fours.new.room c.put_each_char.new.room c.args.at c.put_four_chars-fours.result c.put_each_char.result c.args.chars.now c.put_four_chars-fours.new.chars chars_join c.put_four_chars-fours.ensures c.put_each_char.ensures
