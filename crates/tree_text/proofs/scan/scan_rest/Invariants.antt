use Rattle.std.proofs.Common.{◌≡◌, List, ◌++◌}
use Rattle.exi_schema.specs.Told.{schema_of}
use Rattle.exi_documents.specs.Trees.{Event}
use Rattle.dialect_text.specs.Scanning.{standing_of, HasSaid, IsReady, events_left}
use Rattle.tree_text.proofs.scan.scan_rest.Given as goal

abbrev pub invariant-loop-said : goal.invariant-loop-said
invariant-loop-said l =
    let s = l.fn.scanner.schema.now in
    let text = l.fn.scanner.text.now in
    record {
      same_schema : l.scanner.schema.now ≡ s;
      same_text : l.scanner.text.now ≡ text;
      ready : IsReady (schema_of s) text (standing_of l.scanner.phase l.scanner.elements) l.scanner.cursor l.scanner.fault;
      said : (events : List Event) → HasSaid (schema_of s) text events (standing_of l.fn.scanner.phase l.fn.scanner.elements) l.fn.scanner.cursor →
          (later : List Event) × HasSaid (schema_of s) text (later ++ events) (standing_of l.scanner.phase l.scanner.elements) l.scanner.cursor;
    }

abbrev pub decreases-loop-said : goal.decreases-loop-said
decreases-loop-said l = events_left (standing_of l.scanner.phase l.scanner.elements) l.scanner.cursor
