-- ISO 15118-2:2014 8.5 and DIN SPEC 70121:2014 9.5 (data types): enumerations that both dialects number alike, as words have them. Each
-- takes the number of its kind.
use Rattle.std.specs.Prelude.{ℕ, Bool, true, false, List, [], ◌∷◌}
use Rattle.session_words.specs.declared.code.Code.{Code}
use Rattle.session_words.specs.declared.code.Code.TheVariants as code
use Rattle.session_words.specs.declared.code.Notify.{Notify}
use Rattle.session_words.specs.declared.code.Notify.TheVariants as notify
use Rattle.session_words.specs.declared.code.StatusCode.{StatusCode}
use Rattle.session_words.specs.declared.code.StatusCode.TheVariants as status
use Rattle.session_words.specs.declared.mode.Mode.{Mode}
use Rattle.session_words.specs.declared.mode.Mode.TheVariants as mode
use Rattle.word_tables.specs.Tables.{Table, inside}
use Rattle.message_tables.specs.Values.{one_of_names}

-- ---- EVSENotification

abbrev pub notify_number : Notify → ℕ
notify_number notify.None = 0
notify_number notify.StopCharging = 1
notify_number notify.ReNegotiation = 2

abbrev pub notify_names : List Notify
notify_names = notify.None ∷ notify.StopCharging ∷ notify.ReNegotiation ∷ []

abbrev pub notification : ℕ → Table inside Notify
notification kind = one_of_names notify_names notify.None notify_number kind

-- ---- EVSEStatusCode

abbrev pub status_number : StatusCode → ℕ
status_number status.EvseNotReady = 0
status_number status.EvseReady = 1
status_number status.EvseShutdown = 2
status_number status.EvseUtilityInterruptEvent = 3
status_number status.EvseIsolationMonitoringActive = 4
status_number status.EvseEmergencyShutdown = 5
status_number status.EvseMalfunction = 6
status_number status.Reserved8 = 7
status_number status.Reserved9 = 8
status_number status.ReservedA = 9
status_number status.ReservedB = 10
status_number status.ReservedC = 11

abbrev pub status_names : List StatusCode
status_names =
    status.EvseNotReady ∷ status.EvseReady ∷ status.EvseShutdown ∷ status.EvseUtilityInterruptEvent ∷ status.EvseIsolationMonitoringActive
    ∷ status.EvseEmergencyShutdown ∷ status.EvseMalfunction ∷ status.Reserved8 ∷ status.Reserved9 ∷ status.ReservedA ∷ status.ReservedB
    ∷ status.ReservedC ∷ []

abbrev pub status_code : ℕ → Table inside StatusCode
status_code kind = one_of_names status_names status.EvseNotReady status_number kind

-- ---- ResponseCode: those that both dialects have stand first but for one. Others are written as FAILED

abbrev pub code_number : Code → ℕ
code_number code.Ok = 0
code_number code.OkNewSessionEstablished = 1
code_number code.OkOldSessionJoined = 2
code_number code.OkCertificateExpiresSoon = 3
code_number code.FailedSequenceError = 5
code_number code.FailedServiceIdInvalid = 6
code_number code.FailedUnknownSession = 7
code_number code.FailedServiceSelectionInvalid = 8
code_number code.FailedPaymentSelectionInvalid = 9
code_number code.FailedCertificateExpired = 10
code_number code.FailedSignatureError = 11
code_number code.FailedNoCertificateAvailable = 12
code_number code.FailedCertChainError = 13
code_number code.FailedChallengeInvalid = 14
code_number code.FailedContractCanceled = 15
code_number code.FailedWrongChargeParameter = 16
code_number code.FailedPowerDeliveryNotApplied = 17
code_number code.FailedTariffSelectionInvalid = 18
code_number code.FailedChargingProfileInvalid = 19
code_number other = 4

abbrev pub codes : List Code
codes =
    code.Ok ∷ code.OkNewSessionEstablished ∷ code.OkOldSessionJoined ∷ code.OkCertificateExpiresSoon ∷ code.Failed
    ∷ code.FailedSequenceError ∷ code.FailedServiceIdInvalid ∷ code.FailedUnknownSession ∷ code.FailedServiceSelectionInvalid
    ∷ code.FailedPaymentSelectionInvalid ∷ code.FailedCertificateExpired ∷ code.FailedSignatureError ∷ code.FailedNoCertificateAvailable
    ∷ code.FailedCertChainError ∷ code.FailedChallengeInvalid ∷ code.FailedContractCanceled ∷ code.FailedWrongChargeParameter
    ∷ code.FailedPowerDeliveryNotApplied ∷ code.FailedTariffSelectionInvalid ∷ code.FailedChargingProfileInvalid ∷ []

-- ---- EnergyTransferMode, as a car asks for it

abbrev pub mode_number : Mode → ℕ
mode_number mode.AcSinglePhaseCore = 0
mode_number mode.AcThreePhaseCore = 1
mode_number mode.DcCore = 2
mode_number mode.DcExtended = 3
mode_number mode.DcComboCore = 4
mode_number mode.DcUnique = 5

abbrev pub mode_names : List Mode
mode_names = mode.AcSinglePhaseCore ∷ mode.AcThreePhaseCore ∷ mode.DcCore ∷ mode.DcExtended ∷ mode.DcComboCore ∷ mode.DcUnique ∷ []

abbrev pub wanted_mode : ℕ → Table inside Mode
wanted_mode kind = one_of_names mode_names mode.AcSinglePhaseCore mode_number kind

-- ---- two values, of which the second is so: PaymentOption (by contract, or elsewhere), ChargingSession (terminate, or pause)

abbrev pub second_number : Bool → ℕ
second_number false = 0
second_number true = 1

abbrev pub is_second : ℕ → Table inside Bool
is_second kind = one_of_names (false ∷ true ∷ []) false second_number kind
