-- DIN SPEC 70121:2014, DC_EVSEStatusType and DC_EVStatusType, as words have them.
use Rattle.std.specs.Prelude.{ℕ, Bool, None}
use Rattle.std.specs.Option.{option_map}
use Rattle.din_parts.specs.declared.enumerations.EvErrorCode.TheVariants.{NoError}
use Rattle.din_parts.specs.declared.values.DcEvStatus.{DcEvStatus}
use Rattle.din_parts.specs.declared.values.DcEvseStatus.{DcEvseStatus}
use Rattle.session_words.specs.declared.limits.DcStatus.{DcStatus}
use Rattle.din_values.specs.States.{isolation_of, isolation_level, status_code_of, evse_status_code, notify_of, evse_notification}

abbrev pub dc_status_of : DcEvseStatus → DcStatus
dc_status_of s = record {
  notify = notify_of s.evse_notification;
  isolation = option_map isolation_of s.evse_isolation_status;
  code = status_code_of s.evse_status_code;
}

-- ---- as written

-- no delay
abbrev pub dc_evse_status : DcStatus → DcEvseStatus
dc_evse_status s = record {
  evse_isolation_status = option_map isolation_level s.isolation;
  evse_status_code = evse_status_code s.code;
  notification_max_delay = 0;
  evse_notification = evse_notification s.notify;
}

-- a car without an error
abbrev pub dc_ev_status : Bool → ℕ → DcEvStatus
dc_ev_status ready soc = record {
  ev_ready = ready;
  ev_cabin_conditioning = None;
  evress_conditioning = None;
  ev_error_code = NoError;
  evress_soc = soc;
}
