use Rattle.std.proofs.Common.{refl, [], ◌∷◌, drop}
use Rattle.message_parts.proofs.Chosen.{chosen_rest}
use Rattle.iso_schema.specs.Declarations.{kinds}
use Rattle.iso_elements.specs.Brief.{brief_element_members}
use Rattle.iso_schema.specs.declared.names.TheConstants.{CHARGING_STATUS_RES, CURRENT_DEMAND_REQ, CURRENT_DEMAND_RES, PAYMENT_SERVICE_SELECTION_REQ, PAYMENT_SERVICE_SELECTION_RES, POWER_DELIVERY_REQ}
use Rattle.iso_schema.specs.declared.kinds.TheConstants.{CHARGING_STATUS_RES_KIND, CURRENT_DEMAND_REQ_KIND, CURRENT_DEMAND_RES_KIND, PAYMENT_SERVICE_SELECTION_REQ_KIND, PAYMENT_SERVICE_SELECTION_RES_KIND, POWER_DELIVERY_REQ_KIND}
use Rattle.iso_elements.proofs.brief.from_charging_status_res.Goals as goal

pub returns-in_ok-member-clause-read : goal.returns-in_ok-member-clause-read
returns-in_ok-member-clause-read g c = λ F told h.
    c.in_ok-member.ensures.read F _ _ _ told h (c.is_at.ensures.here c.if-is_at.true) refl refl

pub returns-in_ok-member-2-clause-read : goal.returns-in_ok-member-2-clause-read
returns-in_ok-member-2-clause-read g c = λ F told h.
    c.in_ok-member-2.ensures.read F _ _ _ told h (c.is_at-else-is_at.ensures.here c.if-is_at-2.true) refl refl

pub returns-in_ok-member-3-clause-read : goal.returns-in_ok-member-3-clause-read
returns-in_ok-member-3-clause-read g c = λ F told h.
    c.in_ok-member-3.ensures.read F _ _ _ told h (c.is_at-else-is_at-2.ensures.here c.if-is_at-3.true) refl refl

pub returns-then-is_at-4-clause-read : goal.returns-then-is_at-4-clause-read
returns-then-is_at-4-clause-read g c = λ F told h.
    c.payment_service_selection_req.ensures.read F told h (c.is_at-else-is_at-3.ensures.here c.if-is_at-4.true)

pub returns-in_ok-member-4-clause-read : goal.returns-in_ok-member-4-clause-read
returns-in_ok-member-4-clause-read g c = λ F told h.
    c.in_ok-member-4.ensures.read F _ _ _ told h (c.is_at-else-is_at-4.ensures.here c.if-is_at-5.true) refl refl

pub returns-then-is_at-6-clause-read : goal.returns-then-is_at-6-clause-read
returns-then-is_at-6-clause-read g c = λ F told h.
    c.power_delivery_req.ensures.read F told h (c.is_at-else-is_at-5.ensures.here c.if-is_at-6.true)

pub returns-else-is_at-6-clause-read : goal.returns-else-is_at-6-clause-read
returns-else-is_at-6-clause-read g c = λ F told h.
    c.from_power_delivery_res.ensures.read F told (chosen_rest kinds F (drop 6 brief_element_members) ((CHARGING_STATUS_RES, CHARGING_STATUS_RES_KIND) ∷ (CURRENT_DEMAND_REQ, CURRENT_DEMAND_REQ_KIND) ∷ (CURRENT_DEMAND_RES, CURRENT_DEMAND_RES_KIND) ∷ (PAYMENT_SERVICE_SELECTION_REQ, PAYMENT_SERVICE_SELECTION_REQ_KIND) ∷ (PAYMENT_SERVICE_SELECTION_RES, PAYMENT_SERVICE_SELECTION_RES_KIND) ∷ (POWER_DELIVERY_REQ, POWER_DELIVERY_REQ_KIND) ∷ []) told _ h (c.is_at.ensures.absent c.if-is_at.false, (c.is_at-else-is_at.ensures.absent c.if-is_at-2.false, (c.is_at-else-is_at-2.ensures.absent c.if-is_at-3.false, (c.is_at-else-is_at-3.ensures.absent c.if-is_at-4.false, (c.is_at-else-is_at-4.ensures.absent c.if-is_at-5.false, (c.is_at-else-is_at-5.ensures.absent c.if-is_at-6.false, tt)))))))
