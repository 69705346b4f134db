use Rattle.std.proofs.Common.{◌≡◌, List, None}
use Rattle.std.specs.String.{string_bytes}
use Rattle.exi_spec.specs.Bits.{bits_of}
use Rattle.exi_documents.specs.Trees.{Event as TreeEvent}
use Rattle.exi_documents.specs.Values.{SpellsValue}
use Rattle.exi_events.specs.Reader.{state_of, IsReady, HasTold, reading_of, events_left}
use Rattle.exi_schema.specs.Told.{schema_of}
use Rattle.tree_text.specs.EventText.{text_end, Tells}
use Rattle.tree_text.proofs.print.print_with_table.Given as goal

abbrev pub invariant-loop-event : goal.invariant-loop-event
invariant-loop-event l =
    let state = state_of l.reader.phase l.reader.elements l.reader.reader.bits l.reader.table.now.entries in
    record {
      places : l.reader.places.now ≡ l.schema;
      payload : l.reader.reader.bits ≡ bits_of l.payload;
      ready : IsReady schema_of l.reader;
      open_still : l.reader.refused ≡ None;
      told : (events : List TreeEvent) × HasTold (reading_of schema_of l.reader) events × Tells SpellsValue (schema_of l.reader.places.now) events (string_bytes l.text) state × (l.end ≡ text_end events);
    }

abbrev pub decreases-loop-event : goal.decreases-loop-event
decreases-loop-event l = events_left (reading_of schema_of l.reader)
