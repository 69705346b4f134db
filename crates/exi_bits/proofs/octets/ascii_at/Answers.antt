use Rattle.std.proofs.Common.{rules, ℕ, ◌≡◌, subst, arith}
use Rattle.exi_spec.specs.Bits.{bits_of}
use Rattle.exi_spec.specs.Items.{SpellsUnsigned}
use Rattle.exi_bits.specs.Reading.{ItemAt}
use Rattle.exi_bits.proofs.Steps.{item_first}
use Rattle.exi_bits.proofs.octets.ascii_at.Goals as goal

pub returns-in-Some-clause-found : goal.returns-in-Some-clause-found
returns-in-Some-clause-found c =
    let octet = c.in-Some.octet in
    let same : octet ≡ c.from.result = search rules in
    let item = subst (λ (char : ℕ). ItemAt (SpellsUnsigned char) (bits_of c.args.payload.now) c.args.bit 8) same
    (item_first 10 octet c.args.bit (bits_of c.args.payload.now) (omega arith) c.if-octet-lt128.true c.in-Some.ensures.2) in
    (item.0, record { scalar = search rules; spelled = item.1 }, item.2)
