use Rattle.std.proofs.Common.{take}
use Rattle.std.proofs.lemmas.Result.{IfOk-weaker}
use Rattle.document_laws.proofs.Encodings.{encoding_spelled}
use Rattle.iso_schema.specs.Declarations.{schema}
use Rattle.iso_message.specs.Documents.{iso_tree}
use Rattle.iso_codec.proofs.codec.write_iso.Goals as goal

pub returns-clause-read : goal.returns-clause-read
returns-clause-read c =
    IfOk-weaker c.write.result _ _ (λ n e. encoding_spelled schema (iso_tree c.args.message.now) (take n c.write.new.room) e) c.write.ensures.written
