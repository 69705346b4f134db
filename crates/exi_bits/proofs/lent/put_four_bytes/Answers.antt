use Rattle.std.proofs.Common.{◌+◌, ◌*◌, ◌<◌, ◌^◌, Bool, List, length, subst, arith}
use Rattle.exi_spec.specs.Bits.{bits_of}
use Rattle.exi_bits.specs.Lent.{four_octets}
use Rattle.exi_bits.specs.Written.{Extends}
use Rattle.exi_bits.proofs.Lents.{bytes_join, none_put, part_put, part_room, bytes_within, four_long, four_spelled, no_bytes}
use Rattle.exi_bits.proofs.lent.put_four_bytes.Goals as goal

pub loop-word-init : goal.loop-word-init
loop-word-init c = none_put bits_of c.args.room.now c.args.at c.args.bytes.now no_bytes c.requires.clean

pub overflow_add-at : goal.overflow_add-at
overflow_add-at c =
    omega (
      arith,
      part_room bits_of c.args.room.now c.loop-word.room c.args.at c.loop-word.wrote (8 * length c.args.room.now) c.args.bytes.now c.loop-word.bytes (four_octets c.in-Some.word) c.next_four_bytes.new.self bytes_join c.in-Some.ensures.some (bytes_within c.args.at (8 * length c.args.room.now) c.args.bytes.now c.requires.within) c.loop-word.invariant,
      c.requires.room,
    )

pub put_number-requires-clause-within : goal.put_number-requires-clause-within
put_number-requires-clause-within c =
    omega (
      arith,
      part_room bits_of c.args.room.now c.loop-word.room c.args.at c.loop-word.wrote (8 * length c.args.room.now) c.args.bytes.now c.loop-word.bytes (four_octets c.in-Some.word) c.next_four_bytes.new.self bytes_join c.in-Some.ensures.some (bytes_within c.args.at (8 * length c.args.room.now) c.args.bytes.now c.requires.within) c.loop-word.invariant,
      c.loop-word.auto.room,
      four_long c.in-Some.word,
    )

pub overflow_add-wrote : goal.overflow_add-wrote
overflow_add-wrote c =
    omega (
      arith,
      part_room bits_of c.args.room.now c.loop-word.room c.args.at c.loop-word.wrote (8 * length c.args.room.now) c.args.bytes.now c.loop-word.bytes (four_octets c.in-Some.word) c.next_four_bytes.new.self bytes_join c.in-Some.ensures.some (bytes_within c.args.at (8 * length c.args.room.now) c.args.bytes.now c.requires.within) c.loop-word.invariant,
      c.requires.room,
      four_long c.in-Some.word,
    )

pub loop-word-preserved : goal.loop-word-preserved
loop-word-preserved c =
    let range : c.in-Some.word < 2 ^ 32 = omega arith in
    part_put bits_of c.args.room.now c.loop-word.room c.put_number.new.room c.args.at c.loop-word.wrote 32 c.args.bytes.now c.loop-word.bytes (four_octets c.in-Some.word) c.next_four_bytes.new.self bytes_join c.in-Some.ensures.some c.loop-word.invariant
    (subst (λ (l : List Bool). Extends c.loop-word.room c.put_number.new.room (c.args.at + c.loop-word.wrote) 32 l) (four_spelled c.in-Some.word range) c.put_number.ensures)
