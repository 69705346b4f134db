use Rattle.std.proofs.Common.{refl, [], ◌∷◌}
use Rattle.message_parts.proofs.Chosen.{only_last}
use Rattle.iso_schema.specs.declared.names.TheConstants.{SESSION_SETUP_RES, SESSION_STOP_REQ, SESSION_STOP_RES, WELDING_DETECTION_REQ, WELDING_DETECTION_RES}
use Rattle.iso_schema.specs.declared.kinds.TheConstants.{SESSION_SETUP_RES_KIND, SESSION_STOP_REQ_KIND, SESSION_STOP_RES_KIND, WELDING_DETECTION_REQ_KIND, WELDING_DETECTION_RES_KIND}
use Rattle.iso_elements.proofs.brief.from_session_setup_res.Goals as goal

pub returns-in_ok-member-clause-read : goal.returns-in_ok-member-clause-read
returns-in_ok-member-clause-read g c = λ F told h.
    c.in_ok-member.ensures.read F _ _ _ told h (c.is_at.ensures.here c.if-is_at.true) refl refl

pub returns-in_ok-member-2-clause-read : goal.returns-in_ok-member-2-clause-read
returns-in_ok-member-2-clause-read g c = λ F told h.
    c.in_ok-member-2.ensures.read F _ _ _ told h (c.is_at-else-is_at.ensures.here c.if-is_at-2.true) refl refl

pub returns-in_ok-member-3-clause-read : goal.returns-in_ok-member-3-clause-read
returns-in_ok-member-3-clause-read g c = λ F told h.
    c.in_ok-member-3.ensures.read F _ _ _ told h (c.is_at-else-is_at-2.ensures.here c.if-is_at-3.true) refl refl

pub returns-in_ok-member-4-clause-read : goal.returns-in_ok-member-4-clause-read
returns-in_ok-member-4-clause-read g c = λ F told h.
    c.in_ok-member-4.ensures.read F _ _ _ told h (c.is_at-else-is_at-3.ensures.here c.if-is_at-4.true) refl refl

pub returns-in_ok-member-5-clause-read : goal.returns-in_ok-member-5-clause-read
returns-in_ok-member-5-clause-read g c = λ F told h.
    c.in_ok-member-5.ensures.read F _ _ _ told h (only_last ((SESSION_SETUP_RES, SESSION_SETUP_RES_KIND) ∷ (SESSION_STOP_REQ, SESSION_STOP_REQ_KIND) ∷ (SESSION_STOP_RES, SESSION_STOP_RES_KIND) ∷ (WELDING_DETECTION_REQ, WELDING_DETECTION_REQ_KIND) ∷ []) (WELDING_DETECTION_RES, WELDING_DETECTION_RES_KIND) _ F.name h.kind h.here h.among (c.is_at.ensures.absent c.if-is_at.false, (c.is_at-else-is_at.ensures.absent c.if-is_at-2.false, (c.is_at-else-is_at-2.ensures.absent c.if-is_at-3.false, (c.is_at-else-is_at-3.ensures.absent c.if-is_at-4.false, tt))))) refl refl
