use Rattle.std.proofs.Common.{◌-◌, ◌%◌, arith}
use Rattle.exi_spec.specs.Bits.{bits_of}
use Rattle.exi_bits.proofs.Windows.{both_parts}
use Rattle.exi_bits.proofs.octets.pair_number_at.Goals as goal

pub returns-clause-range : goal.returns-clause-range
returns-clause-range c =
    (both_parts (bits_of c.args.payload.now) c.args.bit c.args.n (8 - c.args.bit % 8) (c.args.n - (8 - c.args.bit % 8)) c.part_at-high.result c.part_at-low.result (omega (arith, c.requires.both)) c.requires.small
    c.part_at-high.ensures.range c.part_at-high.ensures.there c.part_at-low.ensures.range c.part_at-low.ensures.there).range

pub returns-clause-there : goal.returns-clause-there
returns-clause-there c =
    (both_parts (bits_of c.args.payload.now) c.args.bit c.args.n (8 - c.args.bit % 8) (c.args.n - (8 - c.args.bit % 8)) c.part_at-high.result c.part_at-low.result (omega (arith, c.requires.both)) c.requires.small
    c.part_at-high.ensures.range c.part_at-high.ensures.there c.part_at-low.ensures.range c.part_at-low.ensures.there).there
