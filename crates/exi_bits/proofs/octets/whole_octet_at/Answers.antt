use Rattle.std.proofs.Common.{◌+◌, ◌/◌, arith}
use Rattle.exi_bits.proofs.Windows.{whole_there, two_there}
use Rattle.exi_bits.proofs.octets.whole_octet_at.Goals as goal

pub returns-then-shift-eq0 : goal.returns-then-shift-eq0
returns-then-shift-eq0 c = whole_there c.args.payload.now c.args.bit c.if-shift-eq0.true c.requires

pub returns-else-shift-eq0 : goal.returns-else-shift-eq0
returns-else-shift-eq0 c =
    two_there c.args.payload.now c.args.bit c.if-shift-eq0.false c.requires (omega (arith, c.type_inv.payload (c.args.bit / 8 + 1)))
