use Rattle.std.specs.Result.{IsErr}
use Rattle.exi_bits.specs.Pens.{written_bits}
use Rattle.exi_writing.specs.Meaning.{texts_in}
use Rattle.exi_events.specs.Writer.{value_in}
use Rattle.exi_events.proofs.Writable.{in_event, given_is, given_fits, value_put, value_full}
use Rattle.exi_events.proofs.putting.put_value_of.Goals as goal

pub put_value-requires-clause-value : goal.put_value-requires-clause-value
put_value-requires-clause-value g c =
    (given_fits (g.P.Places.schema c.args.places.now).kinds c.args.kind (texts_in (written_bits c.args.pen.now) c.args.table.now.entries) c.args.name (value_in c.args.event.now) c.in-Attribute.value c.in-Some.datatype c.in-Some.ensures
    (in_event c.args.event.now c.in-Attribute.value c.in-Attribute.is) c.requires.value).0

pub put_value-requires-clause-room : goal.put_value-requires-clause-room
put_value-requires-clause-room g c =
    (given_fits (g.P.Places.schema c.args.places.now).kinds c.args.kind (texts_in (written_bits c.args.pen.now) c.args.table.now.entries) c.args.name (value_in c.args.event.now) c.in-Attribute.value c.in-Some.datatype c.in-Some.ensures
    (in_event c.args.event.now c.in-Attribute.value c.in-Attribute.is) c.requires.value).1

pub returns-clause-ok : goal.returns-clause-ok
returns-clause-ok g c v is =
    let same = given_is (value_in c.args.event.now) c.in-Attribute.value v (in_event c.args.event.now c.in-Attribute.value c.in-Attribute.is) is in
    value_put c.put_value.result (g.P.Places.schema c.args.places.now).kinds c.args.kind (texts_in (written_bits c.args.pen.now) c.args.table.now.entries) _ c.args.name c.in-Attribute.value v c.in-Some.datatype c.args.pen.now c.put_value.new.pen c.in-Some.ensures same c.put_value.ensures.ok

pub returns-clause-full : goal.returns-clause-full
returns-clause-full g c v is =
    let same = given_is (value_in c.args.event.now) c.in-Attribute.value v (in_event c.args.event.now c.in-Attribute.value c.in-Attribute.is) is in
    value_full (IsErr c.put_value.result) (g.P.Places.schema c.args.places.now).kinds c.args.kind (texts_in (written_bits c.args.pen.now) c.args.table.now.entries) c.args.name c.in-Attribute.value v c.in-Some.datatype c.args.pen.now c.in-Some.ensures same c.put_value.ensures.full
