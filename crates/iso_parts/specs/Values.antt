-- ISO 15118-2:2014 8.3, message, header and body, and 8.5, data types: what elements of these types contain, part by part.
use Rattle.std.specs.Prelude.{ℕ, pos, List, [], ◌∷◌}
use Rattle.exi_bits.specs.Lent.{items_of}
use Rattle.exi_documents.specs.Trees.{Truth, Ordinal, Number, Bytes}
use Rattle.message_fields.specs.Contents.{Inside, Part, Of, one, perhaps, mapped, holding}
use Rattle.message_fields.specs.Texts.{text_value}
use Rattle.iso_schema.specs.declared.names.TheConstants.{MULTIPLIER, UNIT, VALUE, EV_READY, EV_ERROR_CODE, EVRESS_SOC, NOTIFICATION_MAX_DELAY, EVSE_NOTIFICATION, RCD, EVSE_ISOLATION_STATUS, EVSE_STATUS_CODE, METER_ID, METER_READING, SIG_METER_READING, METER_STATUS, T_METER, AC_EVSE_STATUS, DC_EVSE_STATUS}
use Rattle.iso_schema.specs.declared.kinds.TheConstants.{AC_EVSE_STATUS_KIND, DC_EVSE_STATUS_KIND}
use Rattle.iso_parts.specs.Enumerations.{unit_symbol_ordinal, ev_error_code_ordinal, evse_notification_ordinal, isolation_level_ordinal, evse_status_code_ordinal}
use Rattle.iso_parts.specs.declared.values.PhysicalValue.{PhysicalValue}
use Rattle.iso_parts.specs.declared.values.DcEvStatus.{DcEvStatus}
use Rattle.iso_parts.specs.declared.values.AcEvseStatus.{AcEvseStatus}
use Rattle.iso_parts.specs.declared.values.DcEvseStatus.{DcEvseStatus}
use Rattle.iso_parts.specs.declared.values.EvseStatus.{EvseStatus}
use Rattle.iso_parts.specs.declared.values.EvseStatus.TheVariants as evse_status
use Rattle.iso_parts.specs.declared.values.MeterInfo.{MeterInfo}

abbrev pub physical_value_parts : PhysicalValue → List Part
physical_value_parts v =
    one MULTIPLIER (Of (Number v.multiplier))
    ∷ one UNIT (Of (Ordinal (unit_symbol_ordinal v.unit)))
    ∷ one VALUE (Of (Number v.value))
    ∷ []

abbrev pub dc_ev_status_parts : DcEvStatus → List Part
dc_ev_status_parts v =
    one EV_READY (Of (Truth v.ev_ready))
    ∷ one EV_ERROR_CODE (Of (Ordinal (ev_error_code_ordinal v.ev_error_code)))
    ∷ one EVRESS_SOC (Of (Number (pos v.evress_soc)))
    ∷ []

abbrev pub ac_evse_status_parts : AcEvseStatus → List Part
ac_evse_status_parts v =
    one NOTIFICATION_MAX_DELAY (Of (Number (pos v.notification_max_delay)))
    ∷ one EVSE_NOTIFICATION (Of (Ordinal (evse_notification_ordinal v.evse_notification)))
    ∷ one RCD (Of (Truth v.rcd))
    ∷ []

abbrev pub dc_evse_status_parts : DcEvseStatus → List Part
dc_evse_status_parts v =
    one NOTIFICATION_MAX_DELAY (Of (Number (pos v.notification_max_delay)))
    ∷ one EVSE_NOTIFICATION (Of (Ordinal (evse_notification_ordinal v.evse_notification)))
    ∷ perhaps EVSE_ISOLATION_STATUS (mapped (λ x. Of (Ordinal (isolation_level_ordinal x))) v.evse_isolation_status)
    ∷ one EVSE_STATUS_CODE (Of (Ordinal (evse_status_code_ordinal v.evse_status_code)))
    ∷ []

-- the elements of EVSEStatus in the profile, with their kinds
abbrev pub evse_status_members : List (ℕ × ℕ)
evse_status_members =
    (AC_EVSE_STATUS, AC_EVSE_STATUS_KIND)
    ∷ (DC_EVSE_STATUS, DC_EVSE_STATUS_KIND)
    ∷ []

abbrev pub evse_status_name : EvseStatus → ℕ
evse_status_name (evse_status.Ac x) = AC_EVSE_STATUS
evse_status_name (evse_status.Dc x) = DC_EVSE_STATUS

abbrev pub evse_status_inside : EvseStatus → Inside
evse_status_inside (evse_status.Ac x) = holding (ac_evse_status_parts x)
evse_status_inside (evse_status.Dc x) = holding (dc_evse_status_parts x)

abbrev pub meter_info_parts : MeterInfo → List Part
meter_info_parts v =
    one METER_ID (Of (text_value v.meter_id))
    ∷ perhaps METER_READING (mapped (λ x. Of (Number (pos x))) v.meter_reading)
    ∷ perhaps SIG_METER_READING (mapped (λ x. Of (Bytes (items_of x.span))) v.sig_meter_reading)
    ∷ perhaps METER_STATUS (mapped (λ x. Of (Number x)) v.meter_status)
    ∷ perhaps T_METER (mapped (λ x. Of (Number x)) v.t_meter)
    ∷ []
