use Rattle.std.proofs.Common.{refl, [], ◌∷◌}
use Rattle.message_fields.proofs.Chosen.{only_last, mapped}
use Rattle.iso_parts.specs.declared.values.EvseStatus.TheVariants as evse_status
use Rattle.iso_schema.specs.declared.names.TheConstants.{AC_EVSE_STATUS, DC_EVSE_STATUS}
use Rattle.iso_schema.specs.declared.kinds.TheConstants.{AC_EVSE_STATUS_KIND, DC_EVSE_STATUS_KIND}
use Rattle.iso_parts.proofs.values.EvseStatusChoice.read_member.Goals as goal

pub returns-then-is_at-clause-read : goal.returns-then-is_at-clause-read
returns-then-is_at-clause-read g c = λ F told h.
    mapped evse_status.Ac _ _ _ _ c.map.ensures.cases (c.member.ensures.read F _ _ _ told h (c.is_at.ensures.here c.if-is_at.true) refl refl) (λ _ p. p)

pub returns-else-is_at-clause-read : goal.returns-else-is_at-clause-read
returns-else-is_at-clause-read g c = λ F told h.
    mapped evse_status.Dc _ _ _ _ c.map-else-is_at.ensures.cases (c.member-else-is_at.ensures.read F _ _ _ told h (only_last ((AC_EVSE_STATUS, AC_EVSE_STATUS_KIND) ∷ []) (DC_EVSE_STATUS, DC_EVSE_STATUS_KIND) _ F.name h.kind h.here h.among (c.is_at.ensures.absent c.if-is_at.false, tt)) refl refl) (λ _ p. p)
