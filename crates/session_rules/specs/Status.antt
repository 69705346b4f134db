-- ISO 15118-2:2014, 8.5.3.1 and 8.5.4.1 (AC_EVSEStatus, DC_EVSEStatus); DIN SPEC 70121:2014. Which code goes first is own.
use Rattle.std.specs.Prelude.{Bool, true, false, not, ◌&&◌, [], ◌∷◌, Option, Some}
use Rattle.charge_world.specs.declared.heard.IsolationLevel.{IsolationLevel}
use Rattle.charge_world.specs.declared.heard.IsolationLevel.TheVariants.{Invalid, NoImd}
use Rattle.charge_world.specs.declared.offer.Dialect.{Dialect}
use Rattle.charge_world.specs.declared.offer.Dialect.TheVariants as dialect
use Rattle.session_words.specs.declared.code.Code.{Code}
use Rattle.session_words.specs.declared.code.Notify.{Notify}
use Rattle.session_words.specs.declared.code.Notify.TheVariants as notify
use Rattle.session_words.specs.declared.code.Progress.TheVariants as progress
use Rattle.session_words.specs.declared.code.StatusCode.{StatusCode}
use Rattle.session_words.specs.declared.code.StatusCode.TheVariants as status
use Rattle.session_words.specs.declared.facts.Facts.{Facts}
use Rattle.session_words.specs.declared.limits.DcStatus.{DcStatus}
use Rattle.session_words.specs.declared.limits.PostStatus.{PostStatus}
use Rattle.session_words.specs.declared.limits.PostStatus.TheVariants as post
use Rattle.session_words.specs.declared.word.Ask.{Ask}
use Rattle.session_words.specs.declared.word.Ask.TheVariants as ask
use Rattle.session_rules.specs.Lines.{line, first_line}
use Rattle.session_rules.specs.Finishing.{is_valid}
use Rattle.session_rules.specs.Verdict.{is_accepted}

abbrev pub is_iso : Dialect → Bool
is_iso dialect.Iso = true
is_iso dialect.Din = false

abbrev pub is_renegotiation : Ask → Bool
is_renegotiation (ask.PowerDelivery progress.Renegotiate tuple profile) = true
is_renegotiation other = false

-- what the post asks of the car. An accepted Renegotiate is no more asked for in its own reply, and DIN doesn't know it
abbrev pub notify_of : Dialect → Facts → Code → Ask → Notify
notify_of d facts code asked =
    first_line (
    line facts.stop notify.StopCharging ∷
    line (is_iso d && facts.renew && not (is_renegotiation asked && is_accepted code)) notify.ReNegotiation ∷ [])
    notify.None

-- requests that stop charging, or come behind that
abbrev pub ends_power : Ask → Bool
ends_power (ask.PowerDelivery progress.Stop tuple profile) = true
ends_power (ask.PowerDelivery progress.Renegotiate tuple profile) = true
ends_power (ask.WeldingDetection ready soc) = true
ends_power other = false

-- a CableCheck while the isolation is still monitored
abbrev pub is_monitoring : Facts → Ask → Bool
is_monitoring facts (ask.CableCheck ready soc) = not (is_valid facts.isolation)
is_monitoring facts other = false

abbrev pub status_code : Facts → Code → Ask → StatusCode
status_code facts code asked =
    first_line (
    line (not (is_accepted code)) status.EvseMalfunction ∷
    line (ends_power asked) status.EvseNotReady ∷
    line facts.stop status.EvseShutdown ∷
    line (is_monitoring facts asked) status.EvseIsolationMonitoringActive ∷ [])
    status.EvseReady

-- the isolation of the last event. DIN has no name for a post without a monitor
abbrev pub isolation_told : Dialect → Option IsolationLevel → Option IsolationLevel
isolation_told dialect.Din (Some NoImd) = Some Invalid
isolation_told d level = level

abbrev pub dc_status : Dialect → Facts → Code → Ask → DcStatus
dc_status d facts code asked = record {
  notify = notify_of d facts code asked;
  isolation = isolation_told d facts.isolation;
  code = status_code facts code asked;
}

-- the status of a post of either kind
abbrev pub post_status : Bool → Dialect → Facts → Code → Ask → PostStatus
post_status true d facts code asked = post.Ac (notify_of d facts code asked)
post_status false d facts code asked = post.Dc (dc_status d facts code asked)
