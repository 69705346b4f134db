-- ISO 15118-2:2014 8.5 (data types): enumerations in elements, as words have them. Those that DIN SPEC 70121 numbers alike are in
-- `message_tables`.
use Rattle.std.specs.Prelude.{ℕ, Bool, List, [], ◌∷◌, ◌++◌}
use Rattle.charge_world.specs.declared.heard.IsolationLevel.{IsolationLevel}
use Rattle.charge_world.specs.declared.heard.IsolationLevel.TheVariants as level
use Rattle.session_words.specs.declared.code.Code.{Code}
use Rattle.session_words.specs.declared.code.Code.TheVariants as code
use Rattle.session_words.specs.declared.code.Notify.{Notify}
use Rattle.session_words.specs.declared.code.Processing.{Processing}
use Rattle.session_words.specs.declared.code.Processing.TheVariants as processing
use Rattle.session_words.specs.declared.code.Progress.{Progress}
use Rattle.session_words.specs.declared.code.Progress.TheVariants as progress
use Rattle.session_words.specs.declared.code.StatusCode.{StatusCode}
use Rattle.session_words.specs.declared.mode.Mode.{Mode}
use Rattle.session_words.specs.declared.mode.OfferedMode.{OfferedMode}
use Rattle.session_words.specs.declared.mode.OfferedMode.TheVariants as offered
use Rattle.iso_schema.specs.declared.kinds.TheConstants.{ISOLATION_LEVEL_KIND, EVSE_STATUS_CODE_KIND, EVSE_NOTIFICATION_KIND, RESPONSE_CODE_KIND, EVSE_PROCESSING_KIND, ENERGY_TRANSFER_MODE_KIND, PAYMENT_OPTION_KIND, CHARGING_SESSION_KIND, CHARGE_PROGRESS_KIND}
use Rattle.message_tables.specs.Tables.{Table, inside}
use Rattle.message_tables.specs.Values.{one_of_names}
use Rattle.message_tables.specs.Codes as alike

-- ---- the statuses of posts

abbrev pub level_number : IsolationLevel → ℕ
level_number level.Invalid = 0
level_number level.Valid = 1
level_number level.Warning = 2
level_number level.Fault = 3
level_number level.NoImd = 4

abbrev pub level_names : List IsolationLevel
level_names = level.Invalid ∷ level.Valid ∷ level.Warning ∷ level.Fault ∷ level.NoImd ∷ []

abbrev pub isolation : Table inside IsolationLevel
isolation = one_of_names level_names level.Invalid level_number ISOLATION_LEVEL_KIND

abbrev pub notification : Table inside Notify
notification = alike.notification EVSE_NOTIFICATION_KIND

abbrev pub status_code : Table inside StatusCode
status_code = alike.status_code EVSE_STATUS_CODE_KIND

-- ---- ResponseCode: the codes of DIN alone are written as FAILED

abbrev pub codes : List Code
codes =
    alike.codes
    ++ code.FailedMeteringSignatureNotValid ∷ code.FailedNoChargeServiceSelected ∷ code.FailedWrongEnergyTransferMode
    ∷ code.FailedContactorError ∷ code.FailedCertificateNotAllowedAtThisEvse ∷ code.FailedCertificateRevoked ∷ []

abbrev pub code_number : Code → ℕ
code_number code.FailedMeteringSignatureNotValid = 20
code_number code.FailedNoChargeServiceSelected = 21
code_number code.FailedWrongEnergyTransferMode = 22
code_number code.FailedContactorError = 23
code_number code.FailedCertificateNotAllowedAtThisEvse = 24
code_number code.FailedCertificateRevoked = 25
code_number other = alike.code_number other

abbrev pub response_code : Table inside Code
response_code = one_of_names codes code.Ok code_number RESPONSE_CODE_KIND

-- ---- EVSEProcessing

abbrev pub processing_number : Processing → ℕ
processing_number processing.Finished = 0
processing_number processing.Ongoing = 1
processing_number processing.OngoingWaitingForCustomerInteraction = 2

abbrev pub processing_names : List Processing
processing_names = processing.Finished ∷ processing.Ongoing ∷ processing.OngoingWaitingForCustomerInteraction ∷ []

abbrev pub step : Table inside Processing
step = one_of_names processing_names processing.Finished processing_number EVSE_PROCESSING_KIND

-- ---- EnergyTransferMode, as a car asks for it and as a post offers it: a mode of DIN alone is written as DC_extended

abbrev pub wanted_mode : Table inside Mode
wanted_mode = alike.wanted_mode ENERGY_TRANSFER_MODE_KIND

abbrev pub offered_number : OfferedMode → ℕ
offered_number offered.AcSinglePhaseCore = 0
offered_number offered.AcThreePhaseCore = 1
offered_number offered.DcCore = 2
offered_number offered.DcComboCore = 4
offered_number offered.DcUnique = 5
offered_number other = 3

abbrev pub offered_names : List OfferedMode
offered_names =
    offered.AcSinglePhaseCore ∷ offered.AcThreePhaseCore ∷ offered.DcCore ∷ offered.DcExtended ∷ offered.DcComboCore ∷ offered.DcUnique ∷ []

abbrev pub offered_mode : Table inside OfferedMode
offered_mode = one_of_names offered_names offered.AcSinglePhaseCore offered_number ENERGY_TRANSFER_MODE_KIND

-- ---- ChargeProgress

abbrev pub progress_number : Progress → ℕ
progress_number progress.Start = 0
progress_number progress.Stop = 1
progress_number progress.Renegotiate = 2

abbrev pub progress_names : List Progress
progress_names = progress.Start ∷ progress.Stop ∷ progress.Renegotiate ∷ []

abbrev pub charge_progress : Table inside Progress
charge_progress = one_of_names progress_names progress.Start progress_number CHARGE_PROGRESS_KIND

-- ---- PaymentOption and ChargingSession

abbrev pub external : Table inside Bool
external = alike.is_second PAYMENT_OPTION_KIND

abbrev pub pause : Table inside Bool
pause = alike.is_second CHARGING_SESSION_KIND
