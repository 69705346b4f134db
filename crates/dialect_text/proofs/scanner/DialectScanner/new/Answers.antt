use Rattle.exi_schema.specs.Told.{schema_of}
use Rattle.dialect_text.proofs.Scans.{starts_read}
use Rattle.dialect_text.proofs.scanner.DialectScanner.new.Goals as goal

pub returns-clause-ready : goal.returns-clause-ready
returns-clause-ready c = record {
  utf8 = c.utf8.text;
  sound = (tt, tt);
  read = starts_read (schema_of c.args.schema.now) c.args.text.now c.new.result c.new.ensures.whole c.new.ensures.start;
  at_fault = tt;
}
