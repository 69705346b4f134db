use Rattle.app_protocol.specs.Messages.{ordinal_of}
use Rattle.app_protocol.proofs.Encodings.{response_fits}
use Rattle.site_codecs.proofs.Results.{is_ok}
use Rattle.site_codecs.proofs.negotiating.encoded.Goals as goal

-- four bytes hold the response
pub unwrap-n-requires : goal.unwrap-n-requires
unwrap-n-requires c =
    is_ok c.write_app.result (λ full. response_fits (ordinal_of c.args.answer.code) c.args.answer.schema (c.write_app.ensures.full.0 full))
