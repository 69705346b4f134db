use Rattle.std.proofs.Common.{sym}
use Rattle.exi_bits.proofs.Penned.{length-written}
use Rattle.exi_bits.proofs.pen.BitPen.into_place.Goals as goal

pub returns-clause-place : goal.returns-clause-place
returns-clause-place c = sym (length-written c.args.self)
