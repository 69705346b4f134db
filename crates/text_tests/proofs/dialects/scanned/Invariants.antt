use Rattle.exi_schema.specs.Told.{schema_of}
use Rattle.dialect_text.specs.Scanning.{standing_of, IsReady}
use Rattle.text_tests.proofs.dialects.scanned.Given as goal

abbrev pub invariant-loop-count : goal.invariant-loop-count
invariant-loop-count l = IsReady (schema_of l.scanner.schema.now) l.scanner.text.now (standing_of l.scanner.phase l.scanner.elements) l.scanner.cursor l.scanner.fault
