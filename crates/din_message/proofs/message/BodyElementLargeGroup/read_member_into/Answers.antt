use Rattle.std.proofs.Common.{refl, [], ◌∷◌}
use Rattle.message_parts.proofs.Chosen.{only_last}
use Rattle.din_schema.specs.declared.names.TheConstants.{CABLE_CHECK_REQ, CABLE_CHECK_RES, CHARGE_PARAMETER_DISCOVERY_REQ, CHARGE_PARAMETER_DISCOVERY_RES, CONTRACT_AUTHENTICATION_REQ, CONTRACT_AUTHENTICATION_RES, CURRENT_DEMAND_REQ, CURRENT_DEMAND_RES, POWER_DELIVERY_REQ, POWER_DELIVERY_RES, PRE_CHARGE_REQ, PRE_CHARGE_RES, SERVICE_DISCOVERY_REQ, SERVICE_DISCOVERY_RES, SERVICE_PAYMENT_SELECTION_REQ, SERVICE_PAYMENT_SELECTION_RES, SESSION_SETUP_REQ, SESSION_SETUP_RES, SESSION_STOP_REQ, SESSION_STOP_RES, WELDING_DETECTION_REQ, WELDING_DETECTION_RES}
use Rattle.din_schema.specs.declared.kinds.TheConstants.{CABLE_CHECK_REQ_KIND, CABLE_CHECK_RES_KIND, CHARGE_PARAMETER_DISCOVERY_REQ_KIND, CHARGE_PARAMETER_DISCOVERY_RES_KIND, CONTRACT_AUTHENTICATION_REQ_KIND, CONTRACT_AUTHENTICATION_RES_KIND, CURRENT_DEMAND_REQ_KIND, CURRENT_DEMAND_RES_KIND, POWER_DELIVERY_REQ_KIND, POWER_DELIVERY_RES_KIND, PRE_CHARGE_REQ_KIND, PRE_CHARGE_RES_KIND, SERVICE_DISCOVERY_REQ_KIND, SERVICE_DISCOVERY_RES_KIND, SERVICE_PAYMENT_SELECTION_REQ_KIND, SERVICE_PAYMENT_SELECTION_RES_KIND, SESSION_SETUP_REQ_KIND, SESSION_SETUP_RES_KIND, EMPTY_KIND, SESSION_STOP_RES_KIND, WELDING_DETECTION_REQ_KIND, WELDING_DETECTION_RES_KIND}
use Rattle.din_message.proofs.message.BodyElementLargeGroup.read_member_into.Goals as goal

pub returns-in_ok-member-clause-read : goal.returns-in_ok-member-clause-read
returns-in_ok-member-clause-read g c = λ F told h.
    let it = c.in_ok-member.ensures.read F _ _ _ told h (c.is_at.ensures.here c.if-is_at.true) refl refl in
    (_, refl, it.0, it.1)

pub returns-in_ok-member-2-clause-read : goal.returns-in_ok-member-2-clause-read
returns-in_ok-member-2-clause-read g c = λ F told h.
    let it = c.in_ok-member-2.ensures.read F _ _ _ told h (c.is_at-else-is_at.ensures.here c.if-is_at-2.true) refl refl in
    (_, refl, it.0, it.1)

pub returns-in_ok-member-3-clause-read : goal.returns-in_ok-member-3-clause-read
returns-in_ok-member-3-clause-read g c = λ F told h.
    let it = c.in_ok-member-3.ensures.read F _ _ _ told h (c.is_at-else-is_at-2.ensures.here c.if-is_at-3.true) refl refl in
    (_, refl, it.0, it.1)

pub returns-then-is_at-4-clause-read : goal.returns-then-is_at-4-clause-read
returns-then-is_at-4-clause-read g c = λ F told h.
    c.charge_parameter_discovery_res.ensures.read F told h (c.is_at-else-is_at-3.ensures.here c.if-is_at-4.true)

pub returns-in_ok-member-4-clause-read : goal.returns-in_ok-member-4-clause-read
returns-in_ok-member-4-clause-read g c = λ F told h.
    let it = c.in_ok-member-4.ensures.read F _ _ _ told h (c.is_at-else-is_at-4.ensures.here c.if-is_at-5.true) refl refl in
    (_, refl, it.0, it.1)

pub returns-in_ok-member-5-clause-read : goal.returns-in_ok-member-5-clause-read
returns-in_ok-member-5-clause-read g c = λ F told h.
    let it = c.in_ok-member-5.ensures.read F _ _ _ told h (c.is_at-else-is_at-5.ensures.here c.if-is_at-6.true) refl refl in
    (_, refl, it.0, it.1)

pub returns-in_ok-member-6-clause-read : goal.returns-in_ok-member-6-clause-read
returns-in_ok-member-6-clause-read g c = λ F told h.
    let it = c.in_ok-member-6.ensures.read F _ _ _ told h (c.is_at-else-is_at-6.ensures.here c.if-is_at-7.true) refl refl in
    (_, refl, it.0, it.1)

pub returns-in_ok-member-7-clause-read : goal.returns-in_ok-member-7-clause-read
returns-in_ok-member-7-clause-read g c = λ F told h.
    let it = c.in_ok-member-7.ensures.read F _ _ _ told h (c.is_at-else-is_at-7.ensures.here c.if-is_at-8.true) refl refl in
    (_, refl, it.0, it.1)

pub returns-then-is_at-9-clause-read : goal.returns-then-is_at-9-clause-read
returns-then-is_at-9-clause-read g c = λ F told h.
    c.power_delivery_req.ensures.read F told h (c.is_at-else-is_at-8.ensures.here c.if-is_at-9.true)

pub returns-in_ok-member-8-clause-read : goal.returns-in_ok-member-8-clause-read
returns-in_ok-member-8-clause-read g c = λ F told h.
    let it = c.in_ok-member-8.ensures.read F _ _ _ told h (c.is_at-else-is_at-9.ensures.here c.if-is_at-10.true) refl refl in
    (_, refl, it.0, it.1)

pub returns-in_ok-member-9-clause-read : goal.returns-in_ok-member-9-clause-read
returns-in_ok-member-9-clause-read g c = λ F told h.
    let it = c.in_ok-member-9.ensures.read F _ _ _ told h (c.is_at-else-is_at-10.ensures.here c.if-is_at-11.true) refl refl in
    (_, refl, it.0, it.1)

pub returns-in_ok-member-10-clause-read : goal.returns-in_ok-member-10-clause-read
returns-in_ok-member-10-clause-read g c = λ F told h.
    let it = c.in_ok-member-10.ensures.read F _ _ _ told h (c.is_at-else-is_at-11.ensures.here c.if-is_at-12.true) refl refl in
    (_, refl, it.0, it.1)

pub returns-in_ok-member-11-clause-read : goal.returns-in_ok-member-11-clause-read
returns-in_ok-member-11-clause-read g c = λ F told h.
    let it = c.in_ok-member-11.ensures.read F _ _ _ told h (c.is_at-else-is_at-12.ensures.here c.if-is_at-13.true) refl refl in
    (_, refl, it.0, it.1)

pub returns-then-is_at-14-clause-read : goal.returns-then-is_at-14-clause-read
returns-then-is_at-14-clause-read g c = λ F told h.
    c.service_discovery_res.ensures.read F told h (c.is_at-else-is_at-13.ensures.here c.if-is_at-14.true)

pub returns-then-is_at-15-clause-read : goal.returns-then-is_at-15-clause-read
returns-then-is_at-15-clause-read g c = λ F told h.
    c.service_payment_selection_req.ensures.read F told h (c.is_at-else-is_at-14.ensures.here c.if-is_at-15.true)

pub returns-in_ok-member-12-clause-read : goal.returns-in_ok-member-12-clause-read
returns-in_ok-member-12-clause-read g c = λ F told h.
    let it = c.in_ok-member-12.ensures.read F _ _ _ told h (c.is_at-else-is_at-15.ensures.here c.if-is_at-16.true) refl refl in
    (_, refl, it.0, it.1)

pub returns-in_ok-member-13-clause-read : goal.returns-in_ok-member-13-clause-read
returns-in_ok-member-13-clause-read g c = λ F told h.
    let it = c.in_ok-member-13.ensures.read F _ _ _ told h (c.is_at-else-is_at-16.ensures.here c.if-is_at-17.true) refl refl in
    (_, refl, it.0, it.1)

pub returns-in_ok-member-14-clause-read : goal.returns-in_ok-member-14-clause-read
returns-in_ok-member-14-clause-read g c = λ F told h.
    let it = c.in_ok-member-14.ensures.read F _ _ _ told h (c.is_at-else-is_at-17.ensures.here c.if-is_at-18.true) refl refl in
    (_, refl, it.0, it.1)

pub returns-in_ok-member-15-clause-read : goal.returns-in_ok-member-15-clause-read
returns-in_ok-member-15-clause-read g c = λ F told h.
    let it = c.in_ok-member-15.ensures.read F _ _ _ told h (c.is_at-else-is_at-18.ensures.here c.if-is_at-19.true) refl refl in
    (_, refl, it.0, it.1)

pub returns-in_ok-member-16-clause-read : goal.returns-in_ok-member-16-clause-read
returns-in_ok-member-16-clause-read g c = λ F told h.
    let it = c.in_ok-member-16.ensures.read F _ _ _ told h (c.is_at-else-is_at-19.ensures.here c.if-is_at-20.true) refl refl in
    (_, refl, it.0, it.1)

pub returns-in_ok-member-17-clause-read : goal.returns-in_ok-member-17-clause-read
returns-in_ok-member-17-clause-read g c = λ F told h.
    let it = c.in_ok-member-17.ensures.read F _ _ _ told h (c.is_at-else-is_at-20.ensures.here c.if-is_at-21.true) refl refl in
    (_, refl, it.0, it.1)

pub returns-in_ok-member-18-clause-read : goal.returns-in_ok-member-18-clause-read
returns-in_ok-member-18-clause-read g c = λ F told h.
    let it = c.in_ok-member-18.ensures.read F _ _ _ told h (only_last ((CABLE_CHECK_REQ, CABLE_CHECK_REQ_KIND) ∷ (CABLE_CHECK_RES, CABLE_CHECK_RES_KIND) ∷ (CHARGE_PARAMETER_DISCOVERY_REQ, CHARGE_PARAMETER_DISCOVERY_REQ_KIND) ∷ (CHARGE_PARAMETER_DISCOVERY_RES, CHARGE_PARAMETER_DISCOVERY_RES_KIND) ∷ (CONTRACT_AUTHENTICATION_REQ, CONTRACT_AUTHENTICATION_REQ_KIND) ∷ (CONTRACT_AUTHENTICATION_RES, CONTRACT_AUTHENTICATION_RES_KIND) ∷ (CURRENT_DEMAND_REQ, CURRENT_DEMAND_REQ_KIND) ∷ (CURRENT_DEMAND_RES, CURRENT_DEMAND_RES_KIND) ∷ (POWER_DELIVERY_REQ, POWER_DELIVERY_REQ_KIND) ∷ (POWER_DELIVERY_RES, POWER_DELIVERY_RES_KIND) ∷ (PRE_CHARGE_REQ, PRE_CHARGE_REQ_KIND) ∷ (PRE_CHARGE_RES, PRE_CHARGE_RES_KIND) ∷ (SERVICE_DISCOVERY_REQ, SERVICE_DISCOVERY_REQ_KIND) ∷ (SERVICE_DISCOVERY_RES, SERVICE_DISCOVERY_RES_KIND) ∷ (SERVICE_PAYMENT_SELECTION_REQ, SERVICE_PAYMENT_SELECTION_REQ_KIND) ∷ (SERVICE_PAYMENT_SELECTION_RES, SERVICE_PAYMENT_SELECTION_RES_KIND) ∷ (SESSION_SETUP_REQ, SESSION_SETUP_REQ_KIND) ∷ (SESSION_SETUP_RES, SESSION_SETUP_RES_KIND) ∷ (SESSION_STOP_REQ, EMPTY_KIND) ∷ (SESSION_STOP_RES, SESSION_STOP_RES_KIND) ∷ (WELDING_DETECTION_REQ, WELDING_DETECTION_REQ_KIND) ∷ []) (WELDING_DETECTION_RES, WELDING_DETECTION_RES_KIND) _ F.name h.kind h.here h.among (c.is_at.ensures.absent c.if-is_at.false, (c.is_at-else-is_at.ensures.absent c.if-is_at-2.false, (c.is_at-else-is_at-2.ensures.absent c.if-is_at-3.false, (c.is_at-else-is_at-3.ensures.absent c.if-is_at-4.false, (c.is_at-else-is_at-4.ensures.absent c.if-is_at-5.false, (c.is_at-else-is_at-5.ensures.absent c.if-is_at-6.false, (c.is_at-else-is_at-6.ensures.absent c.if-is_at-7.false, (c.is_at-else-is_at-7.ensures.absent c.if-is_at-8.false, (c.is_at-else-is_at-8.ensures.absent c.if-is_at-9.false, (c.is_at-else-is_at-9.ensures.absent c.if-is_at-10.false, (c.is_at-else-is_at-10.ensures.absent c.if-is_at-11.false, (c.is_at-else-is_at-11.ensures.absent c.if-is_at-12.false, (c.is_at-else-is_at-12.ensures.absent c.if-is_at-13.false, (c.is_at-else-is_at-13.ensures.absent c.if-is_at-14.false, (c.is_at-else-is_at-14.ensures.absent c.if-is_at-15.false, (c.is_at-else-is_at-15.ensures.absent c.if-is_at-16.false, (c.is_at-else-is_at-16.ensures.absent c.if-is_at-17.false, (c.is_at-else-is_at-17.ensures.absent c.if-is_at-18.false, (c.is_at-else-is_at-18.ensures.absent c.if-is_at-19.false, (c.is_at-else-is_at-19.ensures.absent c.if-is_at-20.false, (c.is_at-else-is_at-20.ensures.absent c.if-is_at-21.false, tt)))))))))))))))))))))) refl refl in
    (_, refl, it.0, it.1)
