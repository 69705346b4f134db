-- ISO 15118-2:2014: the texts of names and of enumeration values.
use Rattle.std.specs.Prelude.{ℕ, List, codes, [], ◌∷◌}

-- the names, numbered from 0
abbrev pub names : List (List ℕ)
names =
    codes "V2G_Message" ∷ codes "Header" ∷ codes "Body" ∷ codes "SessionID" ∷ codes "Notification" ∷ codes "Signature"
    ∷ codes "FaultCode" ∷ codes "FaultMsg" ∷ codes "AuthorizationReq" ∷ codes "AuthorizationRes" ∷ codes "BodyElement"
    ∷ codes "CableCheckReq" ∷ codes "CableCheckRes" ∷ codes "CertificateInstallationReq" ∷ codes "CertificateInstallationRes"
    ∷ codes "CertificateUpdateReq" ∷ codes "CertificateUpdateRes" ∷ codes "ChargeParameterDiscoveryReq"
    ∷ codes "ChargeParameterDiscoveryRes" ∷ codes "ChargingStatusReq" ∷ codes "ChargingStatusRes" ∷ codes "CurrentDemandReq"
    ∷ codes "CurrentDemandRes" ∷ codes "MeteringReceiptReq" ∷ codes "MeteringReceiptRes" ∷ codes "PaymentDetailsReq"
    ∷ codes "PaymentDetailsRes" ∷ codes "PaymentServiceSelectionReq" ∷ codes "PaymentServiceSelectionRes" ∷ codes "PowerDeliveryReq"
    ∷ codes "PowerDeliveryRes" ∷ codes "PreChargeReq" ∷ codes "PreChargeRes" ∷ codes "ServiceDetailReq" ∷ codes "ServiceDetailRes"
    ∷ codes "ServiceDiscoveryReq" ∷ codes "ServiceDiscoveryRes" ∷ codes "SessionSetupReq" ∷ codes "SessionSetupRes"
    ∷ codes "SessionStopReq" ∷ codes "SessionStopRes" ∷ codes "WeldingDetectionReq" ∷ codes "WeldingDetectionRes"
    ∷ codes "Multiplier" ∷ codes "Unit" ∷ codes "Value" ∷ codes "EVReady" ∷ codes "EVErrorCode" ∷ codes "EVRESSSOC"
    ∷ codes "NotificationMaxDelay" ∷ codes "EVSENotification" ∷ codes "RCD" ∷ codes "EVSEIsolationStatus" ∷ codes "EVSEStatusCode"
    ∷ codes "MeterID" ∷ codes "MeterReading" ∷ codes "SigMeterReading" ∷ codes "MeterStatus" ∷ codes "TMeter" ∷ codes "EVCCID"
    ∷ codes "ResponseCode" ∷ codes "EVSEID" ∷ codes "EVSETimeStamp" ∷ codes "ServiceScope" ∷ codes "ServiceCategory"
    ∷ codes "PaymentOptionList" ∷ codes "ChargeService" ∷ codes "ServiceList" ∷ codes "PaymentOption" ∷ codes "ServiceID"
    ∷ codes "ServiceName" ∷ codes "FreeService" ∷ codes "SupportedEnergyTransferMode" ∷ codes "EnergyTransferMode" ∷ codes "Service"
    ∷ codes "ServiceParameterList" ∷ codes "ParameterSet" ∷ codes "ParameterSetID" ∷ codes "Parameter" ∷ codes "Name"
    ∷ codes "boolValue" ∷ codes "byteValue" ∷ codes "shortValue" ∷ codes "intValue" ∷ codes "physicalValue" ∷ codes "stringValue"
    ∷ codes "SelectedPaymentOption" ∷ codes "SelectedServiceList" ∷ codes "SelectedService" ∷ codes "Id" ∷ codes "GenChallenge"
    ∷ codes "EVSEProcessing" ∷ codes "ChargingSession" ∷ codes "MaxEntriesSAScheduleTuple" ∷ codes "RequestedEnergyTransferMode"
    ∷ codes "AC_EVChargeParameter" ∷ codes "DC_EVChargeParameter" ∷ codes "EVChargeParameter" ∷ codes "DepartureTime"
    ∷ codes "EAmount" ∷ codes "EVMaxVoltage" ∷ codes "EVMaxCurrent" ∷ codes "EVMinCurrent" ∷ codes "DC_EVStatus"
    ∷ codes "EVMaximumCurrentLimit" ∷ codes "EVMaximumPowerLimit" ∷ codes "EVMaximumVoltageLimit" ∷ codes "EVEnergyCapacity"
    ∷ codes "EVEnergyRequest" ∷ codes "FullSOC" ∷ codes "BulkSOC" ∷ codes "SAScheduleList" ∷ codes "SASchedules"
    ∷ codes "AC_EVSEChargeParameter" ∷ codes "DC_EVSEChargeParameter" ∷ codes "EVSEChargeParameter" ∷ codes "SAScheduleTuple"
    ∷ codes "SAScheduleTupleID" ∷ codes "PMaxSchedule" ∷ codes "SalesTariff" ∷ codes "PMaxScheduleEntry"
    ∷ codes "RelativeTimeInterval" ∷ codes "TimeInterval" ∷ codes "PMax" ∷ codes "start" ∷ codes "duration" ∷ codes "AC_EVSEStatus"
    ∷ codes "EVSENominalVoltage" ∷ codes "EVSEMaxCurrent" ∷ codes "DC_EVSEStatus" ∷ codes "EVSEMaximumCurrentLimit"
    ∷ codes "EVSEMaximumPowerLimit" ∷ codes "EVSEMaximumVoltageLimit" ∷ codes "EVSEMinimumCurrentLimit"
    ∷ codes "EVSEMinimumVoltageLimit" ∷ codes "EVSECurrentRegulationTolerance" ∷ codes "EVSEPeakCurrentRipple"
    ∷ codes "EVSEEnergyToBeDelivered" ∷ codes "ChargeProgress" ∷ codes "ChargingProfile" ∷ codes "DC_EVPowerDeliveryParameter"
    ∷ codes "EVPowerDeliveryParameter" ∷ codes "ProfileEntry" ∷ codes "ChargingProfileEntryStart"
    ∷ codes "ChargingProfileEntryMaxPower" ∷ codes "ChargingProfileEntryMaxNumberOfPhasesInUse" ∷ codes "BulkChargingComplete"
    ∷ codes "ChargingComplete" ∷ codes "EVSEStatus" ∷ codes "MeterInfo" ∷ codes "ReceiptRequired" ∷ codes "EVTargetVoltage"
    ∷ codes "EVTargetCurrent" ∷ codes "EVSEPresentVoltage" ∷ codes "RemainingTimeToFullSoC" ∷ codes "RemainingTimeToBulkSoC"
    ∷ codes "EVSEPresentCurrent" ∷ codes "EVSECurrentLimitAchieved" ∷ codes "EVSEVoltageLimitAchieved"
    ∷ codes "EVSEPowerLimitAchieved" ∷ []

-- ---- the values of the enumerations, each numbered from 0

abbrev pub fault_code : List (List ℕ)
fault_code =
    codes "ParsingError" ∷ codes "NoTLSRootCertificatAvailable" ∷ codes "UnknownError" ∷ []

abbrev pub unit_symbol : List (List ℕ)
unit_symbol =
    codes "h" ∷ codes "m" ∷ codes "s" ∷ codes "A" ∷ codes "V" ∷ codes "W" ∷ codes "Wh" ∷ []

abbrev pub ev_error_code : List (List ℕ)
ev_error_code =
    codes "NO_ERROR" ∷ codes "FAILED_RESSTemperatureInhibit" ∷ codes "FAILED_EVShiftPosition"
    ∷ codes "FAILED_ChargerConnectorLockFault" ∷ codes "FAILED_EVRESSMalfunction" ∷ codes "FAILED_ChargingCurrentdifferential"
    ∷ codes "FAILED_ChargingVoltageOutOfRange" ∷ codes "Reserved_A" ∷ codes "Reserved_B" ∷ codes "Reserved_C"
    ∷ codes "FAILED_ChargingSystemIncompatibility" ∷ codes "NoData" ∷ []

abbrev pub evse_notification : List (List ℕ)
evse_notification =
    codes "None" ∷ codes "StopCharging" ∷ codes "ReNegotiation" ∷ []

abbrev pub isolation_level : List (List ℕ)
isolation_level =
    codes "Invalid" ∷ codes "Valid" ∷ codes "Warning" ∷ codes "Fault" ∷ codes "No_IMD" ∷ []

abbrev pub evse_status_code : List (List ℕ)
evse_status_code =
    codes "EVSE_NotReady" ∷ codes "EVSE_Ready" ∷ codes "EVSE_Shutdown" ∷ codes "EVSE_UtilityInterruptEvent"
    ∷ codes "EVSE_IsolationMonitoringActive" ∷ codes "EVSE_EmergencyShutdown" ∷ codes "EVSE_Malfunction" ∷ codes "Reserved_8"
    ∷ codes "Reserved_9" ∷ codes "Reserved_A" ∷ codes "Reserved_B" ∷ codes "Reserved_C" ∷ []

abbrev pub response_code : List (List ℕ)
response_code =
    codes "OK" ∷ codes "OK_NewSessionEstablished" ∷ codes "OK_OldSessionJoined" ∷ codes "OK_CertificateExpiresSoon" ∷ codes "FAILED"
    ∷ codes "FAILED_SequenceError" ∷ codes "FAILED_ServiceIDInvalid" ∷ codes "FAILED_UnknownSession"
    ∷ codes "FAILED_ServiceSelectionInvalid" ∷ codes "FAILED_PaymentSelectionInvalid" ∷ codes "FAILED_CertificateExpired"
    ∷ codes "FAILED_SignatureError" ∷ codes "FAILED_NoCertificateAvailable" ∷ codes "FAILED_CertChainError"
    ∷ codes "FAILED_ChallengeInvalid" ∷ codes "FAILED_ContractCanceled" ∷ codes "FAILED_WrongChargeParameter"
    ∷ codes "FAILED_PowerDeliveryNotApplied" ∷ codes "FAILED_TariffSelectionInvalid" ∷ codes "FAILED_ChargingProfileInvalid"
    ∷ codes "FAILED_MeteringSignatureNotValid" ∷ codes "FAILED_NoChargeServiceSelected" ∷ codes "FAILED_WrongEnergyTransferMode"
    ∷ codes "FAILED_ContactorError" ∷ codes "FAILED_CertificateNotAllowedAtThisEVSE" ∷ codes "FAILED_CertificateRevoked" ∷ []

abbrev pub service_category : List (List ℕ)
service_category =
    codes "EVCharging" ∷ codes "Internet" ∷ codes "ContractCertificate" ∷ codes "OtherCustom" ∷ []

abbrev pub payment_option : List (List ℕ)
payment_option =
    codes "Contract" ∷ codes "ExternalPayment" ∷ []

abbrev pub energy_transfer_mode : List (List ℕ)
energy_transfer_mode =
    codes "AC_single_phase_core" ∷ codes "AC_three_phase_core" ∷ codes "DC_core" ∷ codes "DC_extended" ∷ codes "DC_combo_core"
    ∷ codes "DC_unique" ∷ []

abbrev pub evse_processing : List (List ℕ)
evse_processing =
    codes "Finished" ∷ codes "Ongoing" ∷ codes "Ongoing_WaitingForCustomerInteraction" ∷ []

abbrev pub charging_session : List (List ℕ)
charging_session =
    codes "Terminate" ∷ codes "Pause" ∷ []

abbrev pub charge_progress : List (List ℕ)
charge_progress =
    codes "Start" ∷ codes "Stop" ∷ codes "Renegotiate" ∷ []
