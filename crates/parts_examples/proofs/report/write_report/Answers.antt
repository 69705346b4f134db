use Rattle.std.proofs.Common.{subst, sym, IfOk, IfErr, IsErr, length, ◌↔◌}
use Rattle.std.specs.Prelude.{take}
use Rattle.exi_schema.specs.Schemas.{PlainSchema}
use Rattle.exi_documents.specs.Documents.{IsEncoding}
use Rattle.message_parts.specs.Documents.{IsWritable, PassesBytes, TellsBits}
use Rattle.parts_examples.specs.Parts.{report_tree}
use Rattle.parts_examples.proofs.report.write_report.Goals as goal

pub write-requires-clause-message : goal.write-requires-clause-message
write-requires-clause-message g c =
    subst (λ (s : PlainSchema). IsWritable s 0 (report_tree c.args.message.now)) (sym c.requires.schema) c.requires.message

pub returns-clause-written : goal.returns-clause-written
returns-clause-written g c =
    subst (λ (s : PlainSchema). IfOk c.write.result (λ n. IsEncoding s (report_tree c.args.message.now) (take n c.write.new.room))) c.requires.schema c.write.ensures.written

pub returns-clause-full : goal.returns-clause-full
returns-clause-full g c =
    subst (λ (s : PlainSchema). IsErr c.write.result ↔ PassesBytes s 0 (report_tree c.args.message.now) (length c.args.room.now)) c.requires.schema c.write.ensures.full

pub returns-clause-bits : goal.returns-clause-bits
returns-clause-bits g c =
    subst (λ (s : PlainSchema). IfErr c.write.result (λ full. TellsBits s 0 (report_tree c.args.message.now) full.bits)) c.requires.schema c.write.ensures.bits
