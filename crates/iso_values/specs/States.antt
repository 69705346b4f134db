-- ISO 15118-2:2014, 8.5 (enumerations of statuses and steps), as words have them.
use Rattle.std.specs.Prelude.{Bool, true, false}
use Rattle.iso_parts.specs.declared.enumerations.IsolationLevel.{IsolationLevel as IsoLevel}
use Rattle.iso_parts.specs.declared.enumerations.IsolationLevel.TheVariants as iso_level
use Rattle.charge_world.specs.declared.heard.IsolationLevel.{IsolationLevel}
use Rattle.charge_world.specs.declared.heard.IsolationLevel.TheVariants as level
use Rattle.iso_parts.specs.declared.enumerations.EvseStatusCode.{EvseStatusCode}
use Rattle.iso_parts.specs.declared.enumerations.EvseStatusCode.TheVariants as iso_status
use Rattle.session_words.specs.declared.code.StatusCode.{StatusCode}
use Rattle.session_words.specs.declared.code.StatusCode.TheVariants as status
use Rattle.iso_parts.specs.declared.enumerations.EvseNotification.{EvseNotification}
use Rattle.iso_parts.specs.declared.enumerations.EvseNotification.TheVariants as iso_notify
use Rattle.session_words.specs.declared.code.Notify.{Notify}
use Rattle.session_words.specs.declared.code.Notify.TheVariants as notify
use Rattle.iso_parts.specs.declared.codes.EvseProcessing.{EvseProcessing}
use Rattle.iso_parts.specs.declared.codes.EvseProcessing.TheVariants as iso_processing
use Rattle.session_words.specs.declared.code.Processing.{Processing}
use Rattle.session_words.specs.declared.code.Processing.TheVariants as processing
use Rattle.iso_parts.specs.declared.codes.ChargeProgress.{ChargeProgress}
use Rattle.iso_parts.specs.declared.codes.ChargeProgress.TheVariants as iso_progress
use Rattle.session_words.specs.declared.code.Progress.{Progress}
use Rattle.session_words.specs.declared.code.Progress.TheVariants as progress
use Rattle.iso_parts.specs.declared.codes.PaymentOption.{PaymentOption}
use Rattle.iso_parts.specs.declared.codes.PaymentOption.TheVariants as payment
use Rattle.iso_parts.specs.declared.codes.ChargingSession.{ChargingSession}
use Rattle.iso_parts.specs.declared.codes.ChargingSession.TheVariants as session

-- a state of the isolation
abbrev pub isolation_of : IsoLevel → IsolationLevel
isolation_of iso_level.Invalid = level.Invalid
isolation_of iso_level.Valid = level.Valid
isolation_of iso_level.Warning = level.Warning
isolation_of iso_level.Fault = level.Fault
isolation_of iso_level.NoImd = level.NoImd

-- a state of the isolation as it is written
abbrev pub isolation_level : IsolationLevel → IsoLevel
isolation_level level.Invalid = iso_level.Invalid
isolation_level level.Valid = iso_level.Valid
isolation_level level.Warning = iso_level.Warning
isolation_level level.Fault = iso_level.Fault
isolation_level level.NoImd = iso_level.NoImd

-- the code of a status
abbrev pub status_code_of : EvseStatusCode → StatusCode
status_code_of iso_status.EvseNotReady = status.EvseNotReady
status_code_of iso_status.EvseReady = status.EvseReady
status_code_of iso_status.EvseShutdown = status.EvseShutdown
status_code_of iso_status.EvseUtilityInterruptEvent = status.EvseUtilityInterruptEvent
status_code_of iso_status.EvseIsolationMonitoringActive = status.EvseIsolationMonitoringActive
status_code_of iso_status.EvseEmergencyShutdown = status.EvseEmergencyShutdown
status_code_of iso_status.EvseMalfunction = status.EvseMalfunction
status_code_of iso_status.Reserved8 = status.Reserved8
status_code_of iso_status.Reserved9 = status.Reserved9
status_code_of iso_status.ReservedA = status.ReservedA
status_code_of iso_status.ReservedB = status.ReservedB
status_code_of iso_status.ReservedC = status.ReservedC

-- the code of a status as it is written
abbrev pub evse_status_code : StatusCode → EvseStatusCode
evse_status_code status.EvseNotReady = iso_status.EvseNotReady
evse_status_code status.EvseReady = iso_status.EvseReady
evse_status_code status.EvseShutdown = iso_status.EvseShutdown
evse_status_code status.EvseUtilityInterruptEvent = iso_status.EvseUtilityInterruptEvent
evse_status_code status.EvseIsolationMonitoringActive = iso_status.EvseIsolationMonitoringActive
evse_status_code status.EvseEmergencyShutdown = iso_status.EvseEmergencyShutdown
evse_status_code status.EvseMalfunction = iso_status.EvseMalfunction
evse_status_code status.Reserved8 = iso_status.Reserved8
evse_status_code status.Reserved9 = iso_status.Reserved9
evse_status_code status.ReservedA = iso_status.ReservedA
evse_status_code status.ReservedB = iso_status.ReservedB
evse_status_code status.ReservedC = iso_status.ReservedC

-- what a post asks of the car
abbrev pub notify_of : EvseNotification → Notify
notify_of iso_notify.None = notify.None
notify_of iso_notify.StopCharging = notify.StopCharging
notify_of iso_notify.ReNegotiation = notify.ReNegotiation

-- what a post asks of the car, as it is written
abbrev pub evse_notification : Notify → EvseNotification
evse_notification notify.None = iso_notify.None
evse_notification notify.StopCharging = iso_notify.StopCharging
evse_notification notify.ReNegotiation = iso_notify.ReNegotiation

-- whether a step is done
abbrev pub processing_of : EvseProcessing → Processing
processing_of iso_processing.Finished = processing.Finished
processing_of iso_processing.Ongoing = processing.Ongoing
processing_of iso_processing.OngoingWaitingForCustomerInteraction = processing.OngoingWaitingForCustomerInteraction

-- whether a step is done, as it is written
abbrev pub evse_processing : Processing → EvseProcessing
evse_processing processing.Finished = iso_processing.Finished
evse_processing processing.Ongoing = iso_processing.Ongoing
evse_processing processing.OngoingWaitingForCustomerInteraction = iso_processing.OngoingWaitingForCustomerInteraction

-- what PowerDelivery asks for
abbrev pub progress_of : ChargeProgress → Progress
progress_of iso_progress.Start = progress.Start
progress_of iso_progress.Stop = progress.Stop
progress_of iso_progress.Renegotiate = progress.Renegotiate

-- what PowerDelivery asks for, as it is written
abbrev pub charge_progress : Progress → ChargeProgress
charge_progress progress.Start = iso_progress.Start
charge_progress progress.Stop = iso_progress.Stop
charge_progress progress.Renegotiate = iso_progress.Renegotiate

-- a payment is external
abbrev pub is_external : PaymentOption → Bool
is_external payment.Contract = false
is_external payment.ExternalPayment = true

abbrev pub payment_option : Bool → PaymentOption
payment_option false = payment.Contract
payment_option true = payment.ExternalPayment

-- a session is paused
abbrev pub is_pause : ChargingSession → Bool
is_pause session.Terminate = false
is_pause session.Pause = true

abbrev pub charging_session : Bool → ChargingSession
charging_session false = session.Terminate
charging_session true = session.Pause
