use Rattle.std.proofs.Common.{◌∙◌, sym, ap}
use Rattle.exi_schema.specs.Told.{schema_of}
use Rattle.dialect_text.specs.Scanning.{standing_of}
use Rattle.tree_text.specs.Scans.{IsEncodedText}
use Rattle.tree_text.proofs.Scanned.{scan_fault, stuck_fault, encoded_in, said_in, some_of, none_of}
use Rattle.tree_text.proofs.scan.scan_into.Goals as goal

pub returns-in-Ok-Some-clause-encoded : goal.returns-in-Ok-Some-clause-encoded
returns-in-Ok-Some-clause-encoded c =
    encoded_in (schema_of c.args.schema.now) c.new-scanner.result.text.now c.args.text.now c.in-Ok-Some.piece c.new-scanner.ensures.text
    (some_of (IsEncodedText (schema_of c.args.schema.now) c.new-scanner.result.text.now) c.in-Ok-Some.field-0 c.in-Ok-Some.piece c.in-Ok-Some.field-0-is c.in-Ok-Some.ensures.written)

pub returns-in-Ok-None-clause-fault : goal.returns-in-Ok-None-clause-fault
returns-in-Ok-None-clause-fault c =
    let now = c.write_tree.new.scanner in
    let known = c.in-Ok-None.ensures in
    let stuck = none_of _ c.in-Ok-None.field-0 c.in-Ok-None.field-0-is known.stuck in
    let said = said_in (schema_of c.args.schema.now) (schema_of now.schema.now) c.new-scanner.result.text.now now.text.now stuck.0 (standing_of now.phase now.elements) now.cursor (ap schema_of (sym known.same_schema)) (sym known.same_text) stuck.1 in
    stuck_fault (schema_of now.schema.now) (schema_of c.args.schema.now) now.text.now c.args.text.now stuck.0 c.fault_behind.result c.requires.consistent (ap schema_of known.same_schema) (known.same_text ∙ c.new-scanner.ensures.text) stuck.2
    (c.fault_behind.ensures stuck.0 said)

pub returns-in-Err-clause-fault : goal.returns-in-Err-clause-fault
returns-in-Err-clause-fault c = scan_fault (schema_of c.args.schema.now) _ _ c.in-Err.fault c.new-scanner.ensures.text c.in-Err.ensures.fault
