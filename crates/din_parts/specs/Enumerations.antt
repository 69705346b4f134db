-- DIN SPEC 70121:2014 9.5: the ordinals of the values of enumerations.
use Rattle.std.specs.Prelude.{ℕ}
use Rattle.din_parts.specs.declared.enumerations.FaultCode.{FaultCode}
use Rattle.din_parts.specs.declared.enumerations.FaultCode.TheVariants as fault_code
use Rattle.din_parts.specs.declared.enumerations.UnitSymbol.{UnitSymbol}
use Rattle.din_parts.specs.declared.enumerations.UnitSymbol.TheVariants as unit_symbol
use Rattle.din_parts.specs.declared.enumerations.EvErrorCode.{EvErrorCode}
use Rattle.din_parts.specs.declared.enumerations.EvErrorCode.TheVariants as ev_error_code
use Rattle.din_parts.specs.declared.enumerations.EvseNotification.{EvseNotification}
use Rattle.din_parts.specs.declared.enumerations.EvseNotification.TheVariants as evse_notification
use Rattle.din_parts.specs.declared.enumerations.IsolationLevel.{IsolationLevel}
use Rattle.din_parts.specs.declared.enumerations.IsolationLevel.TheVariants as isolation_level
use Rattle.din_parts.specs.declared.enumerations.EvseStatusCode.{EvseStatusCode}
use Rattle.din_parts.specs.declared.enumerations.EvseStatusCode.TheVariants as evse_status_code

abbrev pub fault_code_ordinal : FaultCode → ℕ
fault_code_ordinal fault_code.ParsingError = 0
fault_code_ordinal fault_code.NoTlsRootCertificatAvailable = 1
fault_code_ordinal fault_code.UnknownError = 2

abbrev pub unit_symbol_ordinal : UnitSymbol → ℕ
unit_symbol_ordinal unit_symbol.H = 0
unit_symbol_ordinal unit_symbol.M = 1
unit_symbol_ordinal unit_symbol.S = 2
unit_symbol_ordinal unit_symbol.A = 3
unit_symbol_ordinal unit_symbol.Ah = 4
unit_symbol_ordinal unit_symbol.V = 5
unit_symbol_ordinal unit_symbol.Va = 6
unit_symbol_ordinal unit_symbol.W = 7
unit_symbol_ordinal unit_symbol.WS = 8
unit_symbol_ordinal unit_symbol.Wh = 9

abbrev pub ev_error_code_ordinal : EvErrorCode → ℕ
ev_error_code_ordinal ev_error_code.NoError = 0
ev_error_code_ordinal ev_error_code.FailedRessTemperatureInhibit = 1
ev_error_code_ordinal ev_error_code.FailedEvShiftPosition = 2
ev_error_code_ordinal ev_error_code.FailedChargerConnectorLockFault = 3
ev_error_code_ordinal ev_error_code.FailedEvressMalfunction = 4
ev_error_code_ordinal ev_error_code.FailedChargingCurrentdifferential = 5
ev_error_code_ordinal ev_error_code.FailedChargingVoltageOutOfRange = 6
ev_error_code_ordinal ev_error_code.ReservedA = 7
ev_error_code_ordinal ev_error_code.ReservedB = 8
ev_error_code_ordinal ev_error_code.ReservedC = 9
ev_error_code_ordinal ev_error_code.FailedChargingSystemIncompatibility = 10
ev_error_code_ordinal ev_error_code.NoData = 11

abbrev pub evse_notification_ordinal : EvseNotification → ℕ
evse_notification_ordinal evse_notification.None = 0
evse_notification_ordinal evse_notification.StopCharging = 1
evse_notification_ordinal evse_notification.ReNegotiation = 2

abbrev pub isolation_level_ordinal : IsolationLevel → ℕ
isolation_level_ordinal isolation_level.Invalid = 0
isolation_level_ordinal isolation_level.Valid = 1
isolation_level_ordinal isolation_level.Warning = 2
isolation_level_ordinal isolation_level.Fault = 3

abbrev pub evse_status_code_ordinal : EvseStatusCode → ℕ
evse_status_code_ordinal evse_status_code.EvseNotReady = 0
evse_status_code_ordinal evse_status_code.EvseReady = 1
evse_status_code_ordinal evse_status_code.EvseShutdown = 2
evse_status_code_ordinal evse_status_code.EvseUtilityInterruptEvent = 3
evse_status_code_ordinal evse_status_code.EvseIsolationMonitoringActive = 4
evse_status_code_ordinal evse_status_code.EvseEmergencyShutdown = 5
evse_status_code_ordinal evse_status_code.EvseMalfunction = 6
evse_status_code_ordinal evse_status_code.Reserved8 = 7
evse_status_code_ordinal evse_status_code.Reserved9 = 8
evse_status_code_ordinal evse_status_code.ReservedA = 9
evse_status_code_ordinal evse_status_code.ReservedB = 10
evse_status_code_ordinal evse_status_code.ReservedC = 11
