use Rattle.std.proofs.Common.{ℕ, ◌+◌, ◌-◌, ◌*◌, ◌<◌, sym, subst, ap, arith, ◌∙◌}
use Rattle.exi_spec.specs.Bits.{bits_of}
use Rattle.exi_spec.specs.Items.{SpellsOctets}
use Rattle.exi_spec.proofs.BitLaws.{length-bits_of}
use Rattle.exi_bits.specs.Reading.{ItemAt}
use Rattle.exi_bits.proofs.Steps.{item_first, item_more, refused_short}
use Rattle.exi_bits.proofs.octets.unsigned_at.Goals as goal

pub returns-in_default-clause-found : goal.returns-in_default-clause-found
returns-in_default-clause-found c =
    let h = c.in_default.ensures in
    refused_short 10 c.args.bit (bits_of c.args.payload.now) (omega arith) (omega (arith, length-bits_of c.args.payload.now, h))

pub returns-then-first-lt128-clause-found : goal.returns-then-first-lt128-clause-found
returns-then-first-lt128-clause-found c =
    subst (λ (v : ℕ). ItemAt (SpellsOctets 10 v) (bits_of c.args.payload.now) c.args.bit 8) (sym c.from.ensures)
    (item_first 10 c.in-Some.first c.args.bit (bits_of c.args.payload.now) (omega arith) c.if-first-lt128.true c.in-Some.ensures.2)

pub returns-in-Some-octet_at-clause-found : goal.returns-in-Some-octet_at-clause-found
returns-in-Some-octet_at-clause-found c =
    let less : c.in-Some-octet_at.second < 128 = c.if-second-lt128.true in
    let value_is = ap (λ (w : ℕ). c.in-Some.first - 128 + 128 * w) (sym c.from-in-Some-octet_at.ensures) ∙ sym c.octets_value.ensures in
    subst (λ (v : ℕ). ItemAt (SpellsOctets 10 v) (bits_of c.args.payload.now) c.args.bit 16) value_is
    (item_more 10 c.in-Some.first c.in-Some-octet_at.second c.args.bit 8 (bits_of c.args.payload.now) (omega arith) c.if-first-lt128.false c.in-Some.ensures.0 (omega (arith, less)) c.in-Some.ensures.2
    (item_first 9 c.in-Some-octet_at.second (c.args.bit + 8) (bits_of c.args.payload.now) (omega arith) less c.in-Some-octet_at.ensures.2))
