use Rattle.std.proofs.Common.{◌+◌, ◌*◌, [], ◌∷◌, Bool, List, length, ap, subst, arith}
use Rattle.exi_spec.specs.Items.{shortest_chars}
use Rattle.exi_bits.specs.Written.{Extends}
use Rattle.exi_bits.proofs.Lents.{chars_join, part_put, part_room, char_spelled}
use Rattle.exi_bits.proofs.lent.put_each_char.Goals as goal

pub overflow_add-at : goal.overflow_add-at
overflow_add-at c =
    omega (
      arith,
      part_room shortest_chars c.args.room.now c.loop-char.room c.args.at c.loop-char.wrote (8 * length c.args.room.now) c.args.chars.now c.loop-char.chars (c.in-Some.char ∷ []) c.next.new.self chars_join c.in-Some.ensures c.requires.within c.loop-char.invariant,
      c.requires.room,
    )

pub put_octets-wrote-requires-clause-within : goal.put_octets-wrote-requires-clause-within
put_octets-wrote-requires-clause-within c =
    omega (
      arith,
      part_room shortest_chars c.args.room.now c.loop-char.room c.args.at c.loop-char.wrote (8 * length c.args.room.now) c.args.chars.now c.loop-char.chars (c.in-Some.char ∷ []) c.next.new.self chars_join c.in-Some.ensures c.requires.within c.loop-char.invariant,
      c.loop-char.auto.room,
      ap length (char_spelled c.from.result c.in-Some.char c.from.ensures),
    )

pub overflow_add-wrote : goal.overflow_add-wrote
overflow_add-wrote c =
    omega (
      arith,
      part_room shortest_chars c.args.room.now c.loop-char.room c.args.at c.loop-char.wrote (8 * length c.args.room.now) c.args.chars.now c.loop-char.chars (c.in-Some.char ∷ []) c.next.new.self chars_join c.in-Some.ensures c.requires.within c.loop-char.invariant,
      c.requires.room,
      ap length (char_spelled c.from.result c.in-Some.char c.from.ensures),
      c.put_octets-wrote.ensures.long,
    )

pub loop-char-preserved : goal.loop-char-preserved
loop-char-preserved c =
    part_put shortest_chars c.args.room.now c.loop-char.room c.put_octets-wrote.new.room c.args.at c.loop-char.wrote c.put_octets-wrote.result c.args.chars.now c.loop-char.chars (c.in-Some.char ∷ []) c.next.new.self chars_join c.in-Some.ensures c.loop-char.invariant
    (subst (λ (l : List Bool). Extends c.loop-char.room c.put_octets-wrote.new.room (c.args.at + c.loop-char.wrote) c.put_octets-wrote.result l) (char_spelled c.from.result c.in-Some.char c.from.ensures) c.put_octets-wrote.ensures)
