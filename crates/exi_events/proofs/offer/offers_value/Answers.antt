use Rattle.std.proofs.Common.{arith}
use Rattle.exi_spec.specs.Bits.{bits_of}
use Rattle.exi_writing.specs.Meaning.{texts_in}
use Rattle.exi_writing.proofs.Strings.{length-texts_in}
use Rattle.exi_events.specs.Writer.{value_in}
use Rattle.exi_events.proofs.Writable.{value_decides, in_event}
use Rattle.exi_events.proofs.offer.offers_value.Goals as goal

pub returns-then-is_value : goal.returns-then-is_value
returns-then-is_value g c v is =
    let count = length-texts_in (bits_of c.args.written.now) c.args.table.now.entries in
    value_decides (g.P.Places.schema c.args.places.now).kinds c.args.kind (texts_in (bits_of c.args.written.now) c.args.table.now.entries) c.args.name (value_in c.args.event.now) c.in-Attribute.value v c.in-Some.datatype c.has_entry.result
    c.in-Some.ensures (omega (arith, count, c.has_entry.ensures.few)) (in_event c.args.event.now c.in-Attribute.value c.in-Attribute.is) is (c.is_value.ensures.0 c.if-is_value.true) (c.has_entry.ensures.room c.args.name)
