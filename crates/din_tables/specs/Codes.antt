-- DIN SPEC 70121:2014 9.5 (data types): enumerations in elements, as words have them. Those that ISO 15118-2 numbers alike are in
-- `message_tables`.
use Rattle.std.specs.Prelude.{ℕ, Bool, List, [], ◌∷◌, ◌++◌}
use Rattle.charge_world.specs.declared.heard.IsolationLevel.{IsolationLevel}
use Rattle.charge_world.specs.declared.heard.IsolationLevel.TheVariants as level
use Rattle.session_words.specs.declared.code.Code.{Code}
use Rattle.session_words.specs.declared.code.Code.TheVariants as code
use Rattle.session_words.specs.declared.code.Notify.{Notify}
use Rattle.session_words.specs.declared.code.Processing.{Processing}
use Rattle.session_words.specs.declared.code.Processing.TheVariants as processing
use Rattle.session_words.specs.declared.code.StatusCode.{StatusCode}
use Rattle.session_words.specs.declared.mode.Mode.{Mode}
use Rattle.session_words.specs.declared.mode.OfferedMode.{OfferedMode}
use Rattle.session_words.specs.declared.mode.OfferedMode.TheVariants as offered
use Rattle.din_schema.specs.declared.kinds.TheConstants.{ISOLATION_LEVEL_KIND, EVSE_STATUS_CODE_KIND, EVSE_NOTIFICATION_KIND, RESPONSE_CODE_KIND, EVSE_PROCESSING_KIND, ENERGY_TRANSFER_MODE_KIND, SUPPORTED_ENERGY_TRANSFER_TYPE_KIND, PAYMENT_OPTION_KIND}
use Rattle.message_tables.specs.Tables.{Table, inside}
use Rattle.message_tables.specs.Values.{one_of_names}
use Rattle.message_tables.specs.Codes as alike

-- ---- DC_EVSEStatus. A post without an isolation monitor is written as one whose isolation is invalid

abbrev pub level_number : IsolationLevel → ℕ
level_number level.Invalid = 0
level_number level.Valid = 1
level_number level.Warning = 2
level_number level.Fault = 3
level_number level.NoImd = 0

abbrev pub isolation : Table inside IsolationLevel
isolation = one_of_names (level.Invalid ∷ level.Valid ∷ level.Warning ∷ level.Fault ∷ []) level.Invalid level_number ISOLATION_LEVEL_KIND

abbrev pub notification : Table inside Notify
notification = alike.notification EVSE_NOTIFICATION_KIND

abbrev pub status_code : Table inside StatusCode
status_code = alike.status_code EVSE_STATUS_CODE_KIND

-- ---- ResponseCode: the codes of ISO alone are written as FAILED

abbrev pub codes : List Code
codes =
    alike.codes
    ++ code.FailedEvsePresentVoltageToLow ∷ code.FailedMeteringSignatureNotValid ∷ code.FailedWrongEnergyTransferType ∷ []

abbrev pub code_number : Code → ℕ
code_number code.FailedEvsePresentVoltageToLow = 20
code_number code.FailedMeteringSignatureNotValid = 21
code_number code.FailedWrongEnergyTransferType = 22
code_number other = alike.code_number other

abbrev pub response_code : Table inside Code
response_code = one_of_names codes code.Ok code_number RESPONSE_CODE_KIND

-- ---- EVSEProcessing: that a car's contract waits for its owner is written as Ongoing

abbrev pub processing_number : Processing → ℕ
processing_number processing.Finished = 0
processing_number other = 1

abbrev pub step : Table inside Processing
step = one_of_names (processing.Finished ∷ processing.Ongoing ∷ []) processing.Finished processing_number EVSE_PROCESSING_KIND

-- ---- EVRequestedEnergyTransferType and EVSESupportedEnergyTransferType: the mode of ISO alone is written as DC_extended

abbrev pub wanted_mode : Table inside Mode
wanted_mode = alike.wanted_mode ENERGY_TRANSFER_MODE_KIND

abbrev pub offered_number : OfferedMode → ℕ
offered_number offered.AcSinglePhaseCore = 0
offered_number offered.AcThreePhaseCore = 1
offered_number offered.DcCore = 2
offered_number offered.DcExtended = 3
offered_number offered.DcComboCore = 4
offered_number offered.DcDual = 5
offered_number offered.AcCore1pDcExtended = 6
offered_number offered.AcSingleDcCore = 7
offered_number offered.AcSinglePhaseThreePhaseCoreDcExtended = 8
offered_number offered.AcCore3pDcExtended = 9
offered_number offered.DcUnique = 3

abbrev pub offered_names : List OfferedMode
offered_names =
    offered.AcSinglePhaseCore ∷ offered.AcThreePhaseCore ∷ offered.DcCore ∷ offered.DcExtended ∷ offered.DcComboCore ∷ offered.DcDual
    ∷ offered.AcCore1pDcExtended ∷ offered.AcSingleDcCore ∷ offered.AcSinglePhaseThreePhaseCoreDcExtended ∷ offered.AcCore3pDcExtended ∷ []

abbrev pub offered_mode : Table inside OfferedMode
offered_mode = one_of_names offered_names offered.AcSinglePhaseCore offered_number SUPPORTED_ENERGY_TRANSFER_TYPE_KIND

-- ---- PaymentOption: by contract, or elsewhere

abbrev pub external : Table inside Bool
external = alike.is_second PAYMENT_OPTION_KIND
