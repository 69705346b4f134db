use Rattle.std.proofs.Common.{refl, [], ◌∷◌}
use Rattle.message_parts.proofs.Chosen.{only_last, mapped}
use Rattle.iso_parameters.specs.declared.limits.EvChargeParameter.TheVariants as ev_charge_parameter
use Rattle.iso_schema.specs.declared.names.TheConstants.{AC_EV_CHARGE_PARAMETER, DC_EV_CHARGE_PARAMETER}
use Rattle.iso_schema.specs.declared.kinds.TheConstants.{AC_EV_CHARGE_PARAMETER_KIND, DC_EV_CHARGE_PARAMETER_KIND}
use Rattle.iso_parameters.proofs.limits.EvChargeParameterChoice.read_member.Goals as goal

pub returns-then-is_at-clause-read : goal.returns-then-is_at-clause-read
returns-then-is_at-clause-read g c = λ F told h.
    mapped ev_charge_parameter.Ac _ _ _ _ c.map.ensures.cases (c.member.ensures.read F _ _ _ told h (c.is_at.ensures.here c.if-is_at.true) refl refl) (λ _ p. p)

pub returns-else-is_at-clause-read : goal.returns-else-is_at-clause-read
returns-else-is_at-clause-read g c = λ F told h.
    mapped ev_charge_parameter.Dc _ _ _ _ c.map-else-is_at.ensures.cases (c.member-else-is_at.ensures.read F _ _ _ told h (only_last ((AC_EV_CHARGE_PARAMETER, AC_EV_CHARGE_PARAMETER_KIND) ∷ []) (DC_EV_CHARGE_PARAMETER, DC_EV_CHARGE_PARAMETER_KIND) _ F.name h.kind h.here h.among (c.is_at.ensures.absent c.if-is_at.false, tt)) refl refl) (λ _ p. p)
