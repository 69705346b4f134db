use Rattle.std.proofs.Common.{refl}
use Rattle.std.proofs.lemmas.Result.{IfOk-weaker}
use Rattle.iso_message.proofs.message.brief.Goals as goal

pub returns-in-Some-Brief-clause-read : goal.returns-in-Some-Brief-clause-read
returns-in-Some-Brief-clause-read g c = λ F told h.
    IfOk-weaker c.read_member_here.result _ _ (λ _ it. (_, refl, it.0, it.1)) (c.read_member_here.ensures.read F told h)
