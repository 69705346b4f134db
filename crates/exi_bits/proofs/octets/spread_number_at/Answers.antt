use Rattle.std.proofs.Common.{arith}
use Rattle.exi_spec.specs.Bits.{bits_of}
use Rattle.exi_bits.proofs.Windows.{nothing_read, part_fits, shifted_part}
use Rattle.exi_bits.proofs.octets.spread_number_at.Goals as goal

pub loop-read-init : goal.loop-read-init
loop-read-init c = record { within = omega arith; parts = nothing_read (bits_of c.args.payload.now) c.args.bit }

pub overflow_add-value : goal.overflow_add-value
overflow_add-value c =
    omega (arith, part_fits (bits_of c.args.payload.now) c.args.bit c.loop-read.read c.loop-read.value c.min-part.result c.part_at.result c.loop-read.invariant.parts c.part_at.ensures.range (omega (arith, c.min-part.ensures, c.requires.small)))

pub loop-read-preserved : goal.loop-read-preserved
loop-read-preserved c = record {
  within = omega (arith, c.min-part.ensures);
  parts = shifted_part (bits_of c.args.payload.now) c.args.bit c.loop-read.read c.loop-read.value c.min-part.result c.part_at.result c.loop-read.invariant.parts c.part_at.ensures.range (omega (arith, c.min-part.ensures, c.requires.small)) c.part_at.ensures.there;
}
