use Rattle.std.proofs.Common.{refl}
use Rattle.std.proofs.lemmas.Result.{IfOk-weaker}
use Rattle.iso_message.proofs.message.service_detail_res.Goals as goal

pub returns-in-Some-ServiceDetailRes-clause-read : goal.returns-in-Some-ServiceDetailRes-clause-read
returns-in-Some-ServiceDetailRes-clause-read g c = λ F told h here.
    IfOk-weaker c.member_here.result _ _ (λ _ it. (_, refl, it.0, it.1)) (c.member_here.ensures.read F _ _ _ told h here refl refl)
