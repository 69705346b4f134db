use Rattle.std.proofs.Common.{subst, IfOk, IfErr}
use Rattle.exi_schema.specs.Schemas.{PlainSchema}
use Rattle.exi_documents.specs.Documents.{IsDocument}
use Rattle.exi_documents.specs.Refusals.{IsRefused}
use Rattle.parts_examples.specs.Parts.{report_tree}
use Rattle.parts_examples.proofs.report.read_report.Goals as goal

pub returns-clause-read : goal.returns-clause-read
returns-clause-read g c =
    subst (λ (s : PlainSchema). IfOk c.read.result (λ m. IsDocument s (report_tree m) c.args.payload.now)) c.requires.schema c.read.ensures.read

pub returns-clause-refused : goal.returns-clause-refused
returns-clause-refused g c =
    subst (λ (s : PlainSchema). IfErr c.read.result (λ r. IsRefused s c.args.payload.now r.cause r.bit)) c.requires.schema c.read.ensures.refused
