use Rattle.std.proofs.Common.{refl, arith}
use Rattle.exi_writing.proofs.LengthLaws.{room_kept, needed_in_all, needs_past}
use Rattle.exi_writing.proofs.value.put_value.Goals as goal

pub value_bits-requires-clause-room : goal.value_bits-requires-clause-room
value_bits-requires-clause-room c =
    room_kept c.args.pen.now c.put_parts.new.pen c.args.table.now c.put_parts.new.table c.args.name _ c.requires.texts c.put_parts.ensures.more c.in-Err.ensures.stays c.requires.room

pub returns-in-Err-clause-needed : goal.returns-in-Err-clause-needed
returns-in-Err-clause-needed c =
    needed_in_all c.args.datatype c.args.table.now c.put_parts.new.table c.args.name c.value_bits.result _ c.args.pen.now c.put_parts.new.pen _ c.requires.texts c.put_parts.ensures.more c.in-Err.ensures.stays
    (omega (arith, c.from.ensures, c.place-before.ensures.place)) c.value_bits.ensures.bits

pub returns-in-Err-clause-bits : goal.returns-in-Err-clause-bits
returns-in-Err-clause-bits c =
    needs_past c.args.datatype _ c.args.name _ c.args.pen.now _ (c.in-Err.ensures.full.0 refl) (returns-in-Err-clause-needed c)
