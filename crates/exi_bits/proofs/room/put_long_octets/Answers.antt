use Rattle.std.proofs.Common.{arith}
use Rattle.exi_bits.proofs.Shortest.{wrote_none, wrote_more, wrote_all, room_left}
use Rattle.exi_bits.proofs.room.put_long_octets.Goals as goal

pub loop-rest-init : goal.loop-rest-init
loop-rest-init c = wrote_none c.args.room.now c.args.at c.args.value (omega arith) c.requires.clean

pub put_octet-requires-clause-within : goal.put_octet-requires-clause-within
put_octet-requires-clause-within c =
    omega (arith, c.requires.within, c.loop-rest.auto.room, room_left c.args.room.now c.loop-rest.room c.args.at c.loop-rest.wrote c.args.value c.loop-rest.rest c.loop-rest.invariant)

pub loop-rest-preserved : goal.loop-rest-preserved
loop-rest-preserved c =
    wrote_more c.args.room.now c.loop-rest.room c.put_octet.new.room c.args.at c.loop-rest.wrote c.args.value c.loop-rest.rest c.loop-rest-test.true c.loop-rest.invariant c.put_octet.ensures

pub put_octet-requires-2-clause-within : goal.put_octet-requires-2-clause-within
put_octet-requires-2-clause-within c =
    omega (arith, c.requires.within, c.loop-rest.auto.room, room_left c.args.room.now c.loop-rest.room c.args.at c.loop-rest.wrote c.args.value c.loop-rest.rest c.loop-rest.invariant)

pub returns : goal.returns
returns c =
    wrote_all c.args.room.now c.loop-rest.room c.put_octet-2.new.room c.args.at c.loop-rest.wrote c.args.value c.loop-rest.rest c.loop-rest-test.false c.loop-rest.invariant c.put_octet-2.ensures
