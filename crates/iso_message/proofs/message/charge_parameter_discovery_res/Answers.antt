use Rattle.std.proofs.Common.{refl}
use Rattle.std.proofs.lemmas.Result.{IfOk-weaker}
use Rattle.iso_message.proofs.message.charge_parameter_discovery_res.Goals as goal

pub returns-in-Some-ChargeParameterDiscoveryRes-clause-read : goal.returns-in-Some-ChargeParameterDiscoveryRes-clause-read
returns-in-Some-ChargeParameterDiscoveryRes-clause-read g c = λ F told h here.
    IfOk-weaker c.member_here.result _ _ (λ _ it. (_, refl, it.0, it.1)) (c.member_here.ensures.read F _ _ _ told h here refl refl)
