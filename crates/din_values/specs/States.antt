-- DIN SPEC 70121:2014, enumerations of statuses and steps, as words have them.
use Rattle.std.specs.Prelude.{Bool, true, false}
use Rattle.din_parts.specs.declared.enumerations.IsolationLevel.{IsolationLevel as DinLevel}
use Rattle.din_parts.specs.declared.enumerations.IsolationLevel.TheVariants as din_level
use Rattle.charge_world.specs.declared.heard.IsolationLevel.{IsolationLevel}
use Rattle.charge_world.specs.declared.heard.IsolationLevel.TheVariants as level
use Rattle.din_parts.specs.declared.enumerations.EvseStatusCode.{EvseStatusCode}
use Rattle.din_parts.specs.declared.enumerations.EvseStatusCode.TheVariants as din_status
use Rattle.session_words.specs.declared.code.StatusCode.{StatusCode}
use Rattle.session_words.specs.declared.code.StatusCode.TheVariants as status
use Rattle.din_parts.specs.declared.enumerations.EvseNotification.{EvseNotification}
use Rattle.din_parts.specs.declared.enumerations.EvseNotification.TheVariants as din_notify
use Rattle.session_words.specs.declared.code.Notify.{Notify}
use Rattle.session_words.specs.declared.code.Notify.TheVariants as notify
use Rattle.din_parts.specs.declared.codes.EvseProcessing.{EvseProcessing}
use Rattle.din_parts.specs.declared.codes.EvseProcessing.TheVariants as din_processing
use Rattle.session_words.specs.declared.code.Processing.{Processing}
use Rattle.session_words.specs.declared.code.Processing.TheVariants as processing
use Rattle.din_parts.specs.declared.codes.PaymentOption.{PaymentOption}
use Rattle.din_parts.specs.declared.codes.PaymentOption.TheVariants as payment

-- a state of the isolation
abbrev pub isolation_of : DinLevel → IsolationLevel
isolation_of din_level.Invalid = level.Invalid
isolation_of din_level.Valid = level.Valid
isolation_of din_level.Warning = level.Warning
isolation_of din_level.Fault = level.Fault

-- a state of the isolation as it is written. DIN has no name for a post without a monitor, which is written as an invalid one
abbrev pub isolation_level : IsolationLevel → DinLevel
isolation_level level.Invalid = din_level.Invalid
isolation_level level.Valid = din_level.Valid
isolation_level level.Warning = din_level.Warning
isolation_level level.Fault = din_level.Fault
isolation_level level.NoImd = din_level.Invalid

-- the code of a status
abbrev pub status_code_of : EvseStatusCode → StatusCode
status_code_of din_status.EvseNotReady = status.EvseNotReady
status_code_of din_status.EvseReady = status.EvseReady
status_code_of din_status.EvseShutdown = status.EvseShutdown
status_code_of din_status.EvseUtilityInterruptEvent = status.EvseUtilityInterruptEvent
status_code_of din_status.EvseIsolationMonitoringActive = status.EvseIsolationMonitoringActive
status_code_of din_status.EvseEmergencyShutdown = status.EvseEmergencyShutdown
status_code_of din_status.EvseMalfunction = status.EvseMalfunction
status_code_of din_status.Reserved8 = status.Reserved8
status_code_of din_status.Reserved9 = status.Reserved9
status_code_of din_status.ReservedA = status.ReservedA
status_code_of din_status.ReservedB = status.ReservedB
status_code_of din_status.ReservedC = status.ReservedC

-- the code of a status as it is written
abbrev pub evse_status_code : StatusCode → EvseStatusCode
evse_status_code status.EvseNotReady = din_status.EvseNotReady
evse_status_code status.EvseReady = din_status.EvseReady
evse_status_code status.EvseShutdown = din_status.EvseShutdown
evse_status_code status.EvseUtilityInterruptEvent = din_status.EvseUtilityInterruptEvent
evse_status_code status.EvseIsolationMonitoringActive = din_status.EvseIsolationMonitoringActive
evse_status_code status.EvseEmergencyShutdown = din_status.EvseEmergencyShutdown
evse_status_code status.EvseMalfunction = din_status.EvseMalfunction
evse_status_code status.Reserved8 = din_status.Reserved8
evse_status_code status.Reserved9 = din_status.Reserved9
evse_status_code status.ReservedA = din_status.ReservedA
evse_status_code status.ReservedB = din_status.ReservedB
evse_status_code status.ReservedC = din_status.ReservedC

-- what a post asks of the car
abbrev pub notify_of : EvseNotification → Notify
notify_of din_notify.None = notify.None
notify_of din_notify.StopCharging = notify.StopCharging
notify_of din_notify.ReNegotiation = notify.ReNegotiation

-- what a post asks of the car, as it is written
abbrev pub evse_notification : Notify → EvseNotification
evse_notification notify.None = din_notify.None
evse_notification notify.StopCharging = din_notify.StopCharging
evse_notification notify.ReNegotiation = din_notify.ReNegotiation

-- whether a step is done
abbrev pub processing_of : EvseProcessing → Processing
processing_of din_processing.Finished = processing.Finished
processing_of din_processing.Ongoing = processing.Ongoing

-- whether a step is done, as it is written. DIN doesn't say what a step waits for
abbrev pub evse_processing : Processing → EvseProcessing
evse_processing processing.Finished = din_processing.Finished
evse_processing processing.Ongoing = din_processing.Ongoing
evse_processing processing.OngoingWaitingForCustomerInteraction = din_processing.Ongoing

-- the states and steps that DIN has
abbrev pub is_din_level : IsolationLevel → Bool
is_din_level level.NoImd = false
is_din_level other = true

abbrev pub is_din_processing : Processing → Bool
is_din_processing processing.OngoingWaitingForCustomerInteraction = false
is_din_processing other = true

-- a payment is external
abbrev pub is_external : PaymentOption → Bool
is_external payment.Contract = false
is_external payment.ExternalPayment = true

abbrev pub payment_option : Bool → PaymentOption
payment_option false = payment.Contract
payment_option true = payment.ExternalPayment
