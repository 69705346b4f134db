use Rattle.std.proofs.Common.{arith}
use Rattle.exi_spec.specs.Bits.{bits_of}
use Rattle.exi_bits.proofs.Steps.{chars_more}
use Rattle.exi_bits.proofs.octets.chars_at.Goals as goal

pub loop-count-preserved : goal.loop-count-preserved
loop-count-preserved c = record {
  few = omega arith;
  within = omega (arith, c.in-Ok.ensures.within);
  chars = chars_more (bits_of c.args.payload.now) c.args.bit c.loop-count.count c.loop-count.found c.in-Ok.field-0-0 c.in-Ok.bits c.loop-count.invariant.chars c.in-Ok.ensures.found;
}
