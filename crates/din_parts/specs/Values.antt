-- DIN SPEC 70121:2014 9.2 to 9.5, message, header, body and data types: what elements of these types contain, part by part.
use Rattle.std.specs.Prelude.{ℕ, pos, List, [], ◌∷◌}
use Rattle.exi_documents.specs.Trees.{Truth, Ordinal, Number}
use Rattle.message_fields.specs.Contents.{Inside, Part, Of, one, perhaps, mapped, holding}
use Rattle.din_schema.specs.declared.names.TheConstants.{MULTIPLIER, UNIT, VALUE, EV_READY, EV_CABIN_CONDITIONING, EVRESS_CONDITIONING, EV_ERROR_CODE, EVRESS_SOC, EVSE_ISOLATION_STATUS, EVSE_STATUS_CODE, NOTIFICATION_MAX_DELAY, EVSE_NOTIFICATION, DC_EVSE_STATUS}
use Rattle.din_schema.specs.declared.kinds.TheConstants.{DC_EVSE_STATUS_KIND}
use Rattle.din_parts.specs.Enumerations.{unit_symbol_ordinal, ev_error_code_ordinal, evse_notification_ordinal, isolation_level_ordinal, evse_status_code_ordinal}
use Rattle.din_parts.specs.declared.values.PhysicalValue.{PhysicalValue}
use Rattle.din_parts.specs.declared.values.DcEvStatus.{DcEvStatus}
use Rattle.din_parts.specs.declared.values.DcEvseStatus.{DcEvseStatus}
use Rattle.din_parts.specs.declared.values.EvseStatus.{EvseStatus}
use Rattle.din_parts.specs.declared.values.EvseStatus.TheVariants as evse_status

abbrev pub physical_value_parts : PhysicalValue → List Part
physical_value_parts v =
    one MULTIPLIER (Of (Number v.multiplier))
    ∷ perhaps UNIT (mapped (λ x. Of (Ordinal (unit_symbol_ordinal x))) v.unit)
    ∷ one VALUE (Of (Number v.value))
    ∷ []

abbrev pub dc_ev_status_parts : DcEvStatus → List Part
dc_ev_status_parts v =
    one EV_READY (Of (Truth v.ev_ready))
    ∷ perhaps EV_CABIN_CONDITIONING (mapped (λ x. Of (Truth x)) v.ev_cabin_conditioning)
    ∷ perhaps EVRESS_CONDITIONING (mapped (λ x. Of (Truth x)) v.evress_conditioning)
    ∷ one EV_ERROR_CODE (Of (Ordinal (ev_error_code_ordinal v.ev_error_code)))
    ∷ one EVRESS_SOC (Of (Number (pos v.evress_soc)))
    ∷ []

abbrev pub dc_evse_status_parts : DcEvseStatus → List Part
dc_evse_status_parts v =
    perhaps EVSE_ISOLATION_STATUS (mapped (λ x. Of (Ordinal (isolation_level_ordinal x))) v.evse_isolation_status)
    ∷ one EVSE_STATUS_CODE (Of (Ordinal (evse_status_code_ordinal v.evse_status_code)))
    ∷ one NOTIFICATION_MAX_DELAY (Of (Number (pos v.notification_max_delay)))
    ∷ one EVSE_NOTIFICATION (Of (Ordinal (evse_notification_ordinal v.evse_notification)))
    ∷ []

-- the elements of EVSEStatus in the profile, with their kinds
abbrev pub evse_status_members : List (ℕ × ℕ)
evse_status_members =
    (DC_EVSE_STATUS, DC_EVSE_STATUS_KIND)
    ∷ []

abbrev pub evse_status_name : EvseStatus → ℕ
evse_status_name (evse_status.Dc x) = DC_EVSE_STATUS

abbrev pub evse_status_inside : EvseStatus → Inside
evse_status_inside (evse_status.Dc x) = holding (dc_evse_status_parts x)
