use Rattle.std.proofs.Common.{[], sym, subst}
use Rattle.exi_schema.specs.Told.{schema_of}
use Rattle.exi_documents.specs.Trees.{Start}
use Rattle.dialect_text.specs.declared.phase.Phase.{Phase}
use Rattle.dialect_text.specs.Dialect.{Within}
use Rattle.dialect_text.specs.Languages.{Completes}
use Rattle.dialect_text.specs.Scanning.{standing_of}
use Rattle.dialect_text.specs.Following.{TakesNext}
use Rattle.dialect_text.proofs.Scans.{root_starts}
use Rattle.dialect_text.proofs.scanner.DialectScanner.step.Goals as goal

pub returns-in-AtRoot-clause-ok : goal.returns-in-AtRoot-clause-ok
returns-in-AtRoot-clause-ok c =
    subst (λ (p : Phase). TakesNext (schema_of c.args.self.now.schema.now) [] (Completes (schema_of c.args.self.now.schema.now) (standing_of p c.args.self.now.elements)) (standing_of p c.args.self.now.elements) c.args.self.now.cursor
    (Start c.in-AtRoot.name) (Within c.alone-self.result) c.args.self.now.cursor) (sym c.in-AtRoot.is)
    (root_starts (schema_of c.args.self.now.schema.now) c.in-AtRoot.name c.in-AtRoot.kind c.alone-self.result c.args.self.now.cursor c.alone-self.ensures)
