use Rattle.std.proofs.Common.{◌-◌, ◌/◌, ◌%◌, ◌^◌, ◌∙◌, arith, List, Bool, subst}
use Rattle.exi_bits.specs.Pens.{Writes}
use Rattle.exi_spec.specs.Bits.{number_bits}
use Rattle.exi_spec.proofs.BitLaws.{length-number_bits}
use Rattle.exi_events.proofs.Words.{put_few, put_rest, both_parts, high_range, low_range}
use Rattle.exi_events.proofs.word.BitWord.put.Goals as goal

pub put_bits-high-requires-clause-range : goal.put_bits-high-requires-clause-range
put_bits-high-requires-clause-range c = high_range c.self.inside.count c.self.inside.number (omega (arith, c.if-self-gt32.true)) c.self.invariant.1

pub returns-then-self-gt32 : goal.returns-then-self-gt32
returns-then-self-gt32 c =
    let count = c.self.inside.count in
    let number = c.self.inside.number in
    let fits = c.self.invariant.0 in
    let front = put_few c.put_bits-high.result c.args.pen.now c.put_bits-high.new.self (count - 32) (number_bits (count - 32) (number / 2 ^ 32)) (omega (arith, fits)) c.requires.room c.put_bits-high.ensures.full c.put_bits-high.ensures.ok in
    let all = put_rest c.put_bits-low.result c.args.pen.now c.put_bits-high.new.self c.put_bits-low.new.self (count - 32) 32 (number_bits (count - 32) (number / 2 ^ 32)) (number_bits 32 (number % 2 ^ 32)) (omega (arith, fits, c.if-self-gt32.true)) (length-number_bits (count - 32) (number / 2 ^ 32)) c.requires.room front c.put_bits-low.ensures.full c.put_bits-low.ensures.ok in
    subst (λ (l : List Bool). Writes c.args.pen.now c.put_bits-low.new.self l) (both_parts count number (omega (arith, c.if-self-gt32.true)) ∙ c.self.view_is) all
