use Rattle.std.proofs.Common.{refl, []}
use Rattle.message_fields.proofs.Chosen.{only_last, mapped}
use Rattle.din_parts.specs.declared.values.EvseStatus.TheVariants as evse_status
use Rattle.din_schema.specs.declared.names.TheConstants.{DC_EVSE_STATUS}
use Rattle.din_schema.specs.declared.kinds.TheConstants.{DC_EVSE_STATUS_KIND}
use Rattle.din_parts.proofs.values.EvseStatusChoice.read_member.Goals as goal

pub returns-clause-read : goal.returns-clause-read
returns-clause-read g c = λ F told h.
    mapped evse_status.Dc _ _ _ _ c.map.ensures.cases (c.member.ensures.read F _ _ _ told h (only_last [] (DC_EVSE_STATUS, DC_EVSE_STATUS_KIND) _ F.name h.kind h.here h.among tt) refl refl) (λ _ p. p)
