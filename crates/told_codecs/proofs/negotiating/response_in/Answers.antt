use Rattle.std.proofs.Common.{◌≡◌, subst}
use Rattle.app_protocol.specs.declared.message.AppMessage.{AppMessage}
use Rattle.app_protocol.specs.declared.message.AppMessage.TheVariants.{Req, Res}
use Rattle.app_protocol.specs.Documents.{IsApp}
use Rattle.app_protocol.specs.Messages.{message_of, ordinal_of, protocols_of}
use Rattle.told_codecs.proofs.Judging.{responded, of_request, of_refused}
use Rattle.told_codecs.proofs.negotiating.response_in.Goals as goal

pub returns-in-Ok-Res-clause-positive : goal.returns-in-Ok-Res-clause-positive
returns-in-Ok-Res-clause-positive c =
    let read : c.in-Ok-Res.field-0 ≡ Res c.in-Ok-Res.response = cc in
    responded c.args.payload.now (ordinal_of c.in-Ok-Res.response.code) c.in-Ok-Res.response.schema c.is_positive.result c.requires.payload
    (subst (λ (m : AppMessage). IsApp (message_of m) c.args.payload.now) read c.in-Ok-Res.ensures.read) c.is_positive.ensures

pub returns-in-Ok-Req-clause-positive : goal.returns-in-Ok-Req-clause-positive
returns-in-Ok-Req-clause-positive c =
    let read : c.in-Ok-Req.field-0 ≡ Req c.in-Ok-Req.field-0-0 = cc in
    of_request c.args.payload.now (protocols_of c.in-Ok-Req.field-0-0)
    (subst (λ (m : AppMessage). IsApp (message_of m) c.args.payload.now) read c.in-Ok-Req.ensures.read)

pub returns-in-Err-clause-positive : goal.returns-in-Err-clause-positive
returns-in-Err-clause-positive c = of_refused c.args.payload.now _ _ c.in-Err.ensures.refused
