use Rattle.std.proofs.Common.{◌*◌, length, arith}
use Rattle.exi_spec.specs.Bits.{bits_of}
use Rattle.exi_spec.proofs.BitLaws.{length-bits_of}
use Rattle.exi_bits.proofs.Lents.{bytes_join, left_room, bytes_within, range_behind, both_put}
use Rattle.exi_bits.proofs.lent.put_binary.Goals as goal

pub overflow_add-at : goal.overflow_add-at
overflow_add-at c =
    omega (
      arith,
      left_room bits_of c.args.room.now c.put_four_bytes-fours.new.room c.args.at c.put_four_bytes-fours.result (8 * length c.args.room.now) c.args.bytes.now c.put_four_bytes-fours.new.bytes bytes_join (bytes_within c.args.at (8 * length c.args.room.now) c.args.bytes.now c.requires.within) c.put_four_bytes-fours.ensures,
      c.requires.room,
    )

pub put_each_byte-requires-clause-range : goal.put_each_byte-requires-clause-range
put_each_byte-requires-clause-range c =
    range_behind c.args.room.now c.put_four_bytes-fours.new.room c.args.at c.put_four_bytes-fours.result c.args.bytes.now c.put_four_bytes-fours.new.bytes c.requires.range c.put_four_bytes-fours.ensures

pub put_each_byte-requires-clause-within : goal.put_each_byte-requires-clause-within
put_each_byte-requires-clause-within c =
    omega (
      arith,
      left_room bits_of c.args.room.now c.put_four_bytes-fours.new.room c.args.at c.put_four_bytes-fours.result (8 * length c.args.room.now) c.args.bytes.now c.put_four_bytes-fours.new.bytes bytes_join (bytes_within c.args.at (8 * length c.args.room.now) c.args.bytes.now c.requires.within) c.put_four_bytes-fours.ensures,
      length-bits_of c.put_four_bytes-fours.new.bytes,
      c.put_four_bytes-fours.auto.room,
    )

pub overflow_add-result : goal.overflow_add-result
overflow_add-result c =
    omega (
      arith,
      left_room bits_of c.args.room.now c.put_four_bytes-fours.new.room c.args.at c.put_four_bytes-fours.result (8 * length c.args.room.now) c.args.bytes.now c.put_four_bytes-fours.new.bytes bytes_join (bytes_within c.args.at (8 * length c.args.room.now) c.args.bytes.now c.requires.within) c.put_four_bytes-fours.ensures,
      c.put_each_byte.ensures.long,
      c.requires.room,
    )

pub returns : goal.returns
returns c =
    both_put bits_of c.args.room.now c.put_four_bytes-fours.new.room c.put_each_byte.new.room c.args.at c.put_four_bytes-fours.result c.put_each_byte.result c.args.bytes.now c.put_four_bytes-fours.new.bytes bytes_join c.put_four_bytes-fours.ensures c.put_each_byte.ensures
