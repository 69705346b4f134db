use Rattle.std.proofs.Common.{[], ◌∷◌}
use Rattle.message_parts.proofs.Chosen.{chosen_rest}
use Rattle.iso_schema.specs.Declarations.{kinds}
use Rattle.iso_message.specs.Message.{body_element_members}
use Rattle.iso_schema.specs.declared.names.TheConstants.{CHARGE_PARAMETER_DISCOVERY_RES, SERVICE_DETAIL_RES, SERVICE_DISCOVERY_RES}
use Rattle.iso_schema.specs.declared.kinds.TheConstants.{CHARGE_PARAMETER_DISCOVERY_RES_KIND, SERVICE_DETAIL_RES_KIND, SERVICE_DISCOVERY_RES_KIND}
use Rattle.iso_message.proofs.message.BodyElementLargeGroup.read_member_into.Goals as goal

pub returns-then-is_at-clause-read : goal.returns-then-is_at-clause-read
returns-then-is_at-clause-read g c = λ F told h.
    c.charge_parameter_discovery_res.ensures.read F told h (c.is_at.ensures.here c.if-is_at.true)

pub returns-then-is_at-2-clause-read : goal.returns-then-is_at-2-clause-read
returns-then-is_at-2-clause-read g c = λ F told h.
    c.service_detail_res.ensures.read F told h (c.is_at-else-is_at.ensures.here c.if-is_at-2.true)

pub returns-then-is_at-3-clause-read : goal.returns-then-is_at-3-clause-read
returns-then-is_at-3-clause-read g c = λ F told h.
    c.service_discovery_res.ensures.read F told h (c.is_at-else-is_at-2.ensures.here c.if-is_at-3.true)

pub returns-else-is_at-3-clause-read : goal.returns-else-is_at-3-clause-read
returns-else-is_at-3-clause-read g c = λ F told h.
    c.brief.ensures.read F told (chosen_rest kinds F body_element_members ((CHARGE_PARAMETER_DISCOVERY_RES, CHARGE_PARAMETER_DISCOVERY_RES_KIND) ∷ (SERVICE_DETAIL_RES, SERVICE_DETAIL_RES_KIND) ∷ (SERVICE_DISCOVERY_RES, SERVICE_DISCOVERY_RES_KIND) ∷ []) told _ h (c.is_at.ensures.absent c.if-is_at.false, (c.is_at-else-is_at.ensures.absent c.if-is_at-2.false, (c.is_at-else-is_at-2.ensures.absent c.if-is_at-3.false, tt))))
