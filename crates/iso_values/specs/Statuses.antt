-- ISO 15118-2:2014, 8.5.3.1 and 8.5.4.1 (the statuses of posts) and 8.5.4.2 (that of a car), as words have them.
use Rattle.std.specs.Prelude.{ℕ, Bool, false}
use Rattle.std.specs.Option.{option_map}
use Rattle.iso_parts.specs.declared.enumerations.EvErrorCode.TheVariants.{NoError}
use Rattle.iso_parts.specs.declared.values.AcEvseStatus.{AcEvseStatus}
use Rattle.iso_parts.specs.declared.values.DcEvStatus.{DcEvStatus}
use Rattle.iso_parts.specs.declared.values.DcEvseStatus.{DcEvseStatus}
use Rattle.iso_parts.specs.declared.values.EvseStatus.{EvseStatus}
use Rattle.iso_parts.specs.declared.values.EvseStatus.TheVariants as evse
use Rattle.session_words.specs.declared.code.Notify.{Notify}
use Rattle.session_words.specs.declared.limits.DcStatus.{DcStatus}
use Rattle.session_words.specs.declared.limits.PostStatus.{PostStatus}
use Rattle.session_words.specs.declared.limits.PostStatus.TheVariants as post
use Rattle.iso_values.specs.States.{isolation_of, isolation_level, status_code_of, evse_status_code, notify_of, evse_notification}

abbrev pub dc_status_of : DcEvseStatus → DcStatus
dc_status_of s = record {
  notify = notify_of s.evse_notification;
  isolation = option_map isolation_of s.evse_isolation_status;
  code = status_code_of s.evse_status_code;
}

abbrev pub post_status_of : EvseStatus → PostStatus
post_status_of (evse.Ac s) = post.Ac (notify_of s.evse_notification)
post_status_of (evse.Dc s) = post.Dc (dc_status_of s)

-- ---- as written

-- no delay, and no residual current
abbrev pub ac_evse_status : Notify → AcEvseStatus
ac_evse_status notify = record { notification_max_delay = 0; evse_notification = evse_notification notify; rcd = false }

abbrev pub dc_evse_status : DcStatus → DcEvseStatus
dc_evse_status s = record {
  notification_max_delay = 0;
  evse_notification = evse_notification s.notify;
  evse_isolation_status = option_map isolation_level s.isolation;
  evse_status_code = evse_status_code s.code;
}

abbrev pub evse_status : PostStatus → EvseStatus
evse_status (post.Ac notify) = evse.Ac (ac_evse_status notify)
evse_status (post.Dc s) = evse.Dc (dc_evse_status s)

-- a car without an error
abbrev pub dc_ev_status : Bool → ℕ → DcEvStatus
dc_ev_status ready soc = record { ev_ready = ready; ev_error_code = NoError; evress_soc = soc }
