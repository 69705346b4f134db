use Rattle.std.proofs.Common.{◌≡◌, ℕ, ◌+◌, ◌-◌, ◌*◌, ◌/◌, ◌%◌, ◌^◌, ◌++◌, drop, bit_and, get_or, sym, ap, ◌∙◌, arith}
use Rattle.std.proofs.lemmas.Nat.{one_shl, and_mask}
use Rattle.exi_spec.specs.Bits.{number_bits, bits_of}
use Rattle.exi_bits.proofs.Windows.{part_there}
use Rattle.exi_bits.proofs.octets.part_at.Goals as goal

pub returns-clause-there : goal.returns-clause-there
returns-clause-there c =
    let bit = c.args.bit in
    let n = c.args.n in
    let behind = 8 - bit % 8 - n in
    let byte = get_or c.args.payload.now (bit / 8) 0 in
    let masked : bit_and (c.from-byte.result / 2 ^ behind) (1 * 2 ^ n % 2 ^ 32 - 1) ≡ byte / 2 ^ behind % 2 ^ n =
    ap (λ (m : ℕ). bit_and (c.from-byte.result / 2 ^ behind) (m - 1)) (one_shl n 32 (omega (arith, c.requires.one_byte)))
    ∙ and_mask (c.from-byte.result / 2 ^ behind) n
    ∙ ap (λ (b : ℕ). b / 2 ^ behind % 2 ^ n) c.from-byte.ensures in
    part_there c.args.payload.now bit n behind (omega (arith, c.requires.one_byte)) c.requires.within
    ∙ ap (λ (v : ℕ). number_bits n v ++ drop (bit + n) (bits_of c.args.payload.now)) (sym masked)
