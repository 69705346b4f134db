use Rattle.std.proofs.Common.{refl}
use Rattle.std.proofs.lemmas.Result.{IfOk-weaker}
use Rattle.message_parts.proofs.children.record_into.Goals as goal

pub returns-in-Some-clause-read : goal.returns-in-Some-clause-read
returns-in-Some-clause-read g c = λ F kind told h is.
    IfOk-weaker c.record_here.result _ _ (λ _ leaves. (_, refl, leaves)) (c.record_here.ensures.read F kind told h is)
