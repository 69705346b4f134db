use Rattle.std.proofs.Common.{ℕ, ◌+◌, ◌-◌, subst, arith}
use Rattle.exi_spec.specs.Bits.{number_bits}
use Rattle.exi_bits.specs.Written.{Extends}
use Rattle.exi_bits.proofs.Parts.{no_part, one_part_more, all_parts}
use Rattle.exi_bits.proofs.room.put_spread_number.Goals as goal

pub loop-left-init : goal.loop-left-init
loop-left-init c = no_part c.args.room.now c.args.at c.args.n c.args.value c.requires.clean

pub loop-left-preserved : goal.loop-left-preserved
loop-left-preserved c =
    let rest = c.loop-left.left - c.min-part.result in
    one_part_more c.args.room.now c.loop-left.room c.put_part.new.room c.args.at c.args.n c.args.value c.loop-left.left c.min-part.result rest (omega (arith, c.min-part.ensures)) c.loop-left.invariant
    (subst (λ (v : ℕ). Extends c.loop-left.room c.put_part.new.room (c.args.at + (c.args.n - c.loop-left.left)) c.min-part.result (number_bits c.min-part.result v)) c.lowest_bits.ensures c.put_part.ensures)

pub returns : goal.returns
returns c = all_parts c.args.room.now c.loop-left.room c.args.at c.args.n c.args.value c.loop-left.left (omega arith) c.loop-left.invariant
