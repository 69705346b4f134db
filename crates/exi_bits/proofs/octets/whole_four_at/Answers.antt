use Rattle.std.proofs.Common.{ℕ, ◌*◌, ◌+◌, ◌/◌, ◌^◌, ◌-◌, ◌%◌, ◌++◌, drop, get_or, ap, sym, ◌∙◌, arith}
use Rattle.exi_spec.specs.Bits.{number_bits, bits_of}
use Rattle.exi_bits.proofs.Fours.{four_there, five_there}
use Rattle.exi_bits.proofs.octets.whole_four_at.Goals as goal

pub returns-then-shift-eq0 : goal.returns-then-shift-eq0
returns-then-shift-eq0 c =
    four_there c.args.payload.now c.args.bit c.from_be_bytes-word.result (λ i. omega (arith, c.type_inv.payload i)) c.if-shift-eq0.true c.requires c.from_be_bytes-word.ensures

pub returns-else-shift-eq0 : goal.returns-else-shift-eq0
returns-else-shift-eq0 c =
    let bytes = c.args.payload.now in
    let five = 256 * c.from.result + c.from-else-shift-eq0.result in
    five_there bytes c.args.bit c.from_be_bytes-word.result (λ i. omega (arith, c.type_inv.payload i)) c.if-shift-eq0.false c.requires c.from_be_bytes-word.ensures
    ∙ ap (λ (v : ℕ). number_bits 32 (v / 2 ^ (8 - c.args.bit % 8) % 2 ^ 32) ++ drop (c.args.bit + 32) (bits_of bytes))
    (ap (λ (w : ℕ). 256 * w + get_or bytes (c.args.bit / 8 + 4) 0) (sym c.from.ensures) ∙ ap (λ (b : ℕ). 256 * c.from.result + b) (sym c.from-else-shift-eq0.ensures))
