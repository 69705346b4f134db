use Rattle.exi_bits.specs.Pens.{written_bits}
use Rattle.exi_writing.specs.Meaning.{texts_in}
use Rattle.exi_events.specs.Writer.{value_in}
use Rattle.exi_events.proofs.Writable.{in_event, given_is, given_fits, writes_of}
use Rattle.exi_events.proofs.needed.value_bits_of.Goals as goal

pub value_bits-requires-clause-value : goal.value_bits-requires-clause-value
value_bits-requires-clause-value g c =
    (given_fits (g.P.Places.schema c.args.places.now).kinds c.args.kind (texts_in (written_bits c.args.pen.now) c.args.table.now.entries) c.args.name (value_in c.args.event.now) c.in-Attribute.value c.in-Some.datatype c.in-Some.ensures
    (in_event c.args.event.now c.in-Attribute.value c.in-Attribute.is) c.requires.value).0

pub value_bits-requires-clause-room : goal.value_bits-requires-clause-room
value_bits-requires-clause-room g c =
    (given_fits (g.P.Places.schema c.args.places.now).kinds c.args.kind (texts_in (written_bits c.args.pen.now) c.args.table.now.entries) c.args.name (value_in c.args.event.now) c.in-Attribute.value c.in-Some.datatype c.in-Some.ensures
    (in_event c.args.event.now c.in-Attribute.value c.in-Attribute.is) c.requires.value).1

pub returns-clause-bits : goal.returns-clause-bits
returns-clause-bits g c v is =
    let kinds = (g.P.Places.schema c.args.places.now).kinds in
    let entries = texts_in (written_bits c.args.pen.now) c.args.table.now.entries in
    let same = given_is (value_in c.args.event.now) c.in-Attribute.value v (in_event c.args.event.now c.in-Attribute.value c.in-Attribute.is) is in
    let h = c.value_bits.ensures.bits in
    (h.0, (h.1.0, writes_of kinds c.args.kind entries h.1.0 c.args.name c.in-Attribute.value v c.in-Some.datatype h.0 c.in-Some.ensures same h.1.1), h.2)
