use Rattle.std.proofs.Common.{take}
use Rattle.std.proofs.lemmas.Result.{IfOk-weaker}
use Rattle.document_laws.proofs.Encodings.{encoding_spelled}
use Rattle.din_schema.specs.Declarations.{schema}
use Rattle.din_message.specs.Documents.{din_tree}
use Rattle.din_codec.proofs.codec.write_din.Goals as goal

pub returns-clause-read : goal.returns-clause-read
returns-clause-read c =
    IfOk-weaker c.write.result _ _ (λ n e. encoding_spelled schema (din_tree c.args.message.now) (take n c.write.new.room) e) c.write.ensures.written
