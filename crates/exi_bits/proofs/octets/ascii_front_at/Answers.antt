use Rattle.std.proofs.Common.{◌<◌, ◌^◌, arith, refl}
use Rattle.exi_spec.specs.Bits.{bits_of}
use Rattle.exi_bits.proofs.Fours.{four_chars_more}
use Rattle.exi_bits.proofs.octets.ascii_front_at.Goals as goal

pub loop-count-preserved : goal.loop-count-preserved
loop-count-preserved c =
    let range : c.in-Some.word < 2 ^ 32 = omega arith in
    record {
      few = omega (arith, c.loop-count-test.true);
      within = omega (arith, c.in-Some.ensures.0);
      chars = four_chars_more (bits_of c.args.payload.now) c.args.bit c.loop-count.count c.in-Some.word range (c.if-are_ascii.ensures.0 refl) c.in-Some.ensures.1 c.loop-count.invariant.chars;
    }
