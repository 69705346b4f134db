use Rattle.std.proofs.Common.{refl, [], ◌∷◌}
use Rattle.message_parts.proofs.Chosen.{chosen_rest}
use Rattle.iso_schema.specs.Declarations.{kinds}
use Rattle.iso_elements.specs.Brief.{brief_element_members}
use Rattle.iso_schema.specs.declared.names.TheConstants.{AUTHORIZATION_REQ, AUTHORIZATION_RES, CABLE_CHECK_REQ, CABLE_CHECK_RES, CHARGE_PARAMETER_DISCOVERY_REQ, CHARGING_STATUS_REQ}
use Rattle.iso_schema.specs.declared.kinds.TheConstants.{AUTHORIZATION_REQ_KIND, AUTHORIZATION_RES_KIND, CABLE_CHECK_REQ_KIND, CABLE_CHECK_RES_KIND, CHARGE_PARAMETER_DISCOVERY_REQ_KIND, EMPTY_KIND}
use Rattle.iso_elements.proofs.brief.BriefElementLargeChoice.read_member_here.Goals as goal

pub returns-in_ok-member-clause-read : goal.returns-in_ok-member-clause-read
returns-in_ok-member-clause-read g c = λ F told h.
    c.in_ok-member.ensures.read F _ _ _ told h (c.is_at.ensures.here c.if-is_at.true) refl refl

pub returns-in_ok-member-2-clause-read : goal.returns-in_ok-member-2-clause-read
returns-in_ok-member-2-clause-read g c = λ F told h.
    c.in_ok-member-2.ensures.read F _ _ _ told h (c.is_at-else-is_at.ensures.here c.if-is_at-2.true) refl refl

pub returns-in_ok-member-3-clause-read : goal.returns-in_ok-member-3-clause-read
returns-in_ok-member-3-clause-read g c = λ F told h.
    c.in_ok-member-3.ensures.read F _ _ _ told h (c.is_at-else-is_at-2.ensures.here c.if-is_at-3.true) refl refl

pub returns-in_ok-member-4-clause-read : goal.returns-in_ok-member-4-clause-read
returns-in_ok-member-4-clause-read g c = λ F told h.
    c.in_ok-member-4.ensures.read F _ _ _ told h (c.is_at-else-is_at-3.ensures.here c.if-is_at-4.true) refl refl

pub returns-in_ok-member-5-clause-read : goal.returns-in_ok-member-5-clause-read
returns-in_ok-member-5-clause-read g c = λ F told h.
    c.in_ok-member-5.ensures.read F _ _ _ told h (c.is_at-else-is_at-4.ensures.here c.if-is_at-5.true) refl refl

pub returns-in_ok-member-6-clause-read : goal.returns-in_ok-member-6-clause-read
returns-in_ok-member-6-clause-read g c = λ F told h.
    c.in_ok-member-6.ensures.read F _ _ _ told h (c.is_at-else-is_at-5.ensures.here c.if-is_at-6.true) refl refl

pub returns-else-is_at-6-clause-read : goal.returns-else-is_at-6-clause-read
returns-else-is_at-6-clause-read g c = λ F told h.
    c.from_charging_status_res.ensures.read F told (chosen_rest kinds F brief_element_members ((AUTHORIZATION_REQ, AUTHORIZATION_REQ_KIND) ∷ (AUTHORIZATION_RES, AUTHORIZATION_RES_KIND) ∷ (CABLE_CHECK_REQ, CABLE_CHECK_REQ_KIND) ∷ (CABLE_CHECK_RES, CABLE_CHECK_RES_KIND) ∷ (CHARGE_PARAMETER_DISCOVERY_REQ, CHARGE_PARAMETER_DISCOVERY_REQ_KIND) ∷ (CHARGING_STATUS_REQ, EMPTY_KIND) ∷ []) told _ h (c.is_at.ensures.absent c.if-is_at.false, (c.is_at-else-is_at.ensures.absent c.if-is_at-2.false, (c.is_at-else-is_at-2.ensures.absent c.if-is_at-3.false, (c.is_at-else-is_at-3.ensures.absent c.if-is_at-4.false, (c.is_at-else-is_at-4.ensures.absent c.if-is_at-5.false, (c.is_at-else-is_at-5.ensures.absent c.if-is_at-6.false, tt)))))))
