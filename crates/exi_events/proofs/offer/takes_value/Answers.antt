use Rattle.exi_spec.specs.Bits.{bits_of}
use Rattle.exi_writing.specs.Meaning.{texts_in}
use Rattle.exi_events.specs.Open.{opened_of}
use Rattle.exi_events.proofs.Offering.{attribute_decides, characters_decides, plain_decides, plain_is}
use Rattle.exi_events.proofs.offer.takes_value.Goals as goal

pub returns-in-Attribute : goal.returns-in-Attribute
returns-in-Attribute g c above =
    attribute_decides (g.P.Places.schema c.args.places.now) (opened_of c.args.top) above (texts_in (bits_of c.args.written.now) c.args.table.now.entries) c.args.event.now _ _ c.in-Attribute.name c.in-Attribute.kind c.in-Attribute.next c.offers_value.result
    c.requires.place c.requires.offered.1 c.requires.meant c.in-Attribute.is c.offers_value.ensures

pub returns-in-Characters : goal.returns-in-Characters
returns-in-Characters g c above =
    characters_decides (g.P.Places.schema c.args.places.now) (opened_of c.args.top) above (texts_in (bits_of c.args.written.now) c.args.table.now.entries) c.args.event.now _ _ c.in-Characters.next c.offers_value-in-Characters.result
    c.requires.place c.requires.offered.1 c.requires.meant c.in-Characters.is c.offers_value-in-Characters.ensures

pub returns-in-Element : goal.returns-in-Element
returns-in-Element g c above =
    plain_decides (g.P.Places.schema c.args.places.now) (opened_of c.args.top) above (texts_in (bits_of c.args.written.now) c.args.table.now.entries) c.args.event.now _ _
    c.requires.offered.1 c.requires.meant (plain_is _ c.in-Element.is)
