use Rattle.std.proofs.Common.{refl, []}
use Rattle.iso_parts.proofs.Chosen.{only_last, mapped}
use Rattle.iso_delivery.specs.declared.delivery.EvPowerDeliveryParameter.TheVariants as ev_power_delivery_parameter
use Rattle.iso_schema.specs.declared.names.TheConstants.{DC_EV_POWER_DELIVERY_PARAMETER}
use Rattle.iso_schema.specs.declared.kinds.TheConstants.{DC_EV_POWER_DELIVERY_PARAMETER_KIND}
use Rattle.iso_delivery.proofs.delivery.EvPowerDeliveryParameterChoice.read_member.Goals as goal

pub returns-clause-read : goal.returns-clause-read
returns-clause-read g c = λ F told h.
    mapped ev_power_delivery_parameter.Dc _ _ _ _ c.map.ensures.cases (c.member.ensures.read F _ _ _ told h (only_last [] (DC_EV_POWER_DELIVERY_PARAMETER, DC_EV_POWER_DELIVERY_PARAMETER_KIND) _ F.name h.kind h.here h.among tt) refl refl) (λ _ p. p)
