use Rattle.exi_schema.specs.Told.{schema_of}
use Rattle.tree_text.proofs.Scanned.{rest_ok, rest_fault}
use Rattle.tree_text.proofs.scan.fault_behind.Goals as goal

pub returns-in-Ok : goal.returns-in-Ok
returns-in-Ok c events h = rest_ok (schema_of c.args.scanner.now.schema.now) c.args.scanner.now.text.now c.args.text.now events _ c.requires.same_text (c.in-Ok.ensures.rest events h) c.character_count.ensures

pub returns-in-Err : goal.returns-in-Err
returns-in-Err c events h = rest_fault (schema_of c.args.scanner.now.schema.now) c.args.scanner.now.text.now events c.in-Err.fault c.in-Err.ensures.fault
