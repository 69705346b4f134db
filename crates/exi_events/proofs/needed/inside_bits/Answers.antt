use Rattle.std.proofs.Common.{ℕ, ◌+◌, ap}
use Rattle.exi_bits.specs.Pens.{written_bits}
use Rattle.exi_writing.specs.Meaning.{texts_in}
use Rattle.exi_events.specs.Open.{opened_of}
use Rattle.exi_events.proofs.Offering.{plain_is}
use Rattle.exi_events.proofs.Measured.{attribute_asked, attribute_bits, characters_bits, plain_bits}
use Rattle.exi_events.proofs.needed.inside_bits.Goals as goal

pub value_bits_of-requires-clause-value : goal.value_bits_of-requires-clause-value
value_bits_of-requires-clause-value g c =
    attribute_asked (g.P.Places.schema c.args.places.now) (opened_of c.args.top) (texts_in (written_bits c.args.pen.now) c.args.table.now.entries) c.args.event.now c.args.offer.code c.args.offer.width
    c.in-Attribute.name c.in-Attribute.kind _ c.args.offer.step c.in-Attribute.is c.requires.place c.requires.found.offered c.requires.found.meant c.requires.offered

pub returns-in-Attribute-clause-bits : goal.returns-in-Attribute-clause-bits
returns-in-Attribute-clause-bits g c above =
    attribute_bits (g.P.Places.schema c.args.places.now) (opened_of c.args.top) (texts_in (written_bits c.args.pen.now) c.args.table.now.entries) c.args.event.now c.args.offer.code c.args.offer.width
    c.in-Attribute.name c.in-Attribute.kind _ c.args.offer.step c.in-Attribute.is c.requires.found.is_width c.requires.found.offered c.requires.found.meant
    _ c.value_bits_of.result c.value_bits_of.ensures.bits (ap (λ (code : ℕ). code + c.value_bits_of.result) c.from-code.ensures) above

pub returns-in-Characters-clause-bits : goal.returns-in-Characters-clause-bits
returns-in-Characters-clause-bits g c above =
    characters_bits (g.P.Places.schema c.args.places.now) (opened_of c.args.top) (texts_in (written_bits c.args.pen.now) c.args.table.now.entries) c.args.event.now c.args.offer.code c.args.offer.width
    _ c.args.offer.step c.in-Characters.is c.requires.found.is_width c.requires.found.offered c.requires.found.meant
    _ c.value_bits_of-in-Characters.result c.value_bits_of-in-Characters.ensures.bits (ap (λ (code : ℕ). code + c.value_bits_of-in-Characters.result) c.from-code.ensures) above

pub returns-in-Element-clause-bits : goal.returns-in-Element-clause-bits
returns-in-Element-clause-bits g c above =
    plain_bits (g.P.Places.schema c.args.places.now) (opened_of c.args.top) (texts_in (written_bits c.args.pen.now) c.args.table.now.entries) c.args.event.now c.args.offer.code c.args.offer.width c.args.offer.step c.requires.found.is_width c.requires.found.offered c.requires.found.meant (plain_is c.args.offer.step c.in-Element.is) _ c.from-code.ensures above
