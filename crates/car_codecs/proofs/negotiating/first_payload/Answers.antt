use Rattle.std.proofs.Common.{◌≡◌, subst}
use Rattle.app_protocol.specs.declared.message.AppMessage.{AppMessage}
use Rattle.app_protocol.specs.declared.message.AppMessage.TheVariants.{Res}
use Rattle.app_protocol.specs.Documents.{IsApp}
use Rattle.app_protocol.specs.Messages.{message_of, ordinal_of}
use Rattle.car_codecs.proofs.negotiating.first_payload.Goals as goal

pub returns-in-Ok-Res-clause-judged : goal.returns-in-Ok-Res-clause-judged
returns-in-Ok-Res-clause-judged c =
    let read : c.in-Ok-Res.field-0 ≡ Res c.in-Ok-Res.response = cc in
    record {
      response = record {
        code = ordinal_of c.in-Ok-Res.response.code;
        schema = c.in-Ok-Res.response.schema;
        spelled = subst (λ (m : AppMessage). IsApp (message_of m) c.args.payload.now) read c.in-Ok-Res.ensures.read;
      };
      chosen_is = c.chosen_by.ensures;
    }
