use Rattle.exi_bits.proofs.Penned.{put_no_bytes, put_byte}
use Rattle.exi_bits.proofs.room.put_all_bytes.Goals as goal

pub loop-i-init : goal.loop-i-init
loop-i-init c = put_no_bytes c.args.room.now c.args.at c.requires.clean

pub loop-i-preserved : goal.loop-i-preserved
loop-i-preserved c =
    put_byte c.args.room.now c.loop-i.room c.put_octet.new.room c.args.bytes.now c.args.at c.loop-i.i c.loop-i.invariant c.loop-i-test.true c.put_octet.ensures
