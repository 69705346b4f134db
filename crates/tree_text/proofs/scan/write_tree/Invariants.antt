use Rattle.std.proofs.Common.{◌≡◌, List, None, length}
use Rattle.exi_schema.specs.Told.{schema_of}
use Rattle.exi_documents.specs.Trees.{Event}
use Rattle.exi_events.specs.Writer.{draft_of, IsReadyToPut, KeepsLent, HasPut}
use Rattle.dialect_text.specs.Scanning.{standing_of, HasSaid, IsReady as IsScanning, events_left}
use Rattle.tree_text.proofs.scan.write_tree.Given as goal

abbrev pub invariant-loop-said : goal.invariant-loop-said
invariant-loop-said l =
    let s = l.fn.schema in
    let text = l.fn.scanner.text.now in
    record {
      same_schema : l.scanner.schema.now ≡ s;
      same_text : l.scanner.text.now ≡ text;
      scanning : IsScanning (schema_of s) text (standing_of l.scanner.phase l.scanner.elements) l.scanner.cursor l.scanner.fault;
      lent : KeepsLent l.initial.writer l.writer;
      places : l.writer.places.now ≡ s;
      ready : IsReadyToPut l.writer;
      open_still : l.writer.full ≡ None;
      room : length l.writer.room.now ≡ 65536;
      both : (events : List Event) × HasSaid (schema_of s) text events (standing_of l.scanner.phase l.scanner.elements) l.scanner.cursor × HasPut (schema_of l.writer.places.now) events (draft_of l.writer);
    }

abbrev pub decreases-loop-said : goal.decreases-loop-said
decreases-loop-said l = events_left (standing_of l.scanner.phase l.scanner.elements) l.scanner.cursor
