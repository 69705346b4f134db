use Rattle.std.proofs.Common.{◌≡◌, subst}
use Rattle.app_protocol.specs.declared.message.AppMessage.{AppMessage}
use Rattle.app_protocol.specs.declared.message.AppMessage.TheVariants.{Req, Res}
use Rattle.app_protocol.specs.Documents.{IsApp}
use Rattle.app_protocol.specs.Messages.{message_of, ordinal_of}
use Rattle.told_codecs.proofs.Judging.{first_response, first_refused}
use Rattle.told_codecs.proofs.negotiating.first_word.Goals as goal

pub returns-in-Err-clause-judged : goal.returns-in-Err-clause-judged
returns-in-Err-clause-judged c = first_refused c.args.offers.now c.args.payload.now _ _ c.in-Err.ensures.refused

pub returns-in-Ok-Res-clause-judged : goal.returns-in-Ok-Res-clause-judged
returns-in-Ok-Res-clause-judged c =
    let read : c.in-Ok-Res.field-0 ≡ Res c.in-Ok-Res.field-0-0 = cc in
    first_response c.args.offers.now c.args.payload.now (ordinal_of c.in-Ok-Res.field-0-0.code) c.in-Ok-Res.field-0-0.schema
    (subst (λ (m : AppMessage). IsApp (message_of m) c.args.payload.now) read c.in-Ok-Res.ensures.read)

pub returns-in-Ok-Req-clause-judged : goal.returns-in-Ok-Req-clause-judged
returns-in-Ok-Req-clause-judged c =
    let read : c.in-Ok-Req.field-0 ≡ Req c.in-Ok-Req.request = cc in
    c.negotiated.ensures c.args.payload.now (subst (λ (m : AppMessage). IsApp (message_of m) c.args.payload.now) read c.in-Ok-Req.ensures.read)
