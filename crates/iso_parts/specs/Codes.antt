-- ISO 15118-2:2014 8.5: the ordinals of the values of enumerations.
use Rattle.std.specs.Prelude.{ℕ}
use Rattle.iso_parts.specs.declared.codes.ResponseCode.{ResponseCode}
use Rattle.iso_parts.specs.declared.codes.ResponseCode.TheVariants as response_code
use Rattle.iso_parts.specs.declared.codes.ServiceCategory.{ServiceCategory}
use Rattle.iso_parts.specs.declared.codes.ServiceCategory.TheVariants as service_category
use Rattle.iso_parts.specs.declared.codes.PaymentOption.{PaymentOption}
use Rattle.iso_parts.specs.declared.codes.PaymentOption.TheVariants as payment_option
use Rattle.iso_parts.specs.declared.codes.EnergyTransferMode.{EnergyTransferMode}
use Rattle.iso_parts.specs.declared.codes.EnergyTransferMode.TheVariants as energy_transfer_mode
use Rattle.iso_parts.specs.declared.codes.EvseProcessing.{EvseProcessing}
use Rattle.iso_parts.specs.declared.codes.EvseProcessing.TheVariants as evse_processing
use Rattle.iso_parts.specs.declared.codes.ChargingSession.{ChargingSession}
use Rattle.iso_parts.specs.declared.codes.ChargingSession.TheVariants as charging_session
use Rattle.iso_parts.specs.declared.codes.ChargeProgress.{ChargeProgress}
use Rattle.iso_parts.specs.declared.codes.ChargeProgress.TheVariants as charge_progress

abbrev pub response_code_ordinal : ResponseCode → ℕ
response_code_ordinal response_code.Ok = 0
response_code_ordinal response_code.OkNewSessionEstablished = 1
response_code_ordinal response_code.OkOldSessionJoined = 2
response_code_ordinal response_code.OkCertificateExpiresSoon = 3
response_code_ordinal response_code.Failed = 4
response_code_ordinal response_code.FailedSequenceError = 5
response_code_ordinal response_code.FailedServiceIdInvalid = 6
response_code_ordinal response_code.FailedUnknownSession = 7
response_code_ordinal response_code.FailedServiceSelectionInvalid = 8
response_code_ordinal response_code.FailedPaymentSelectionInvalid = 9
response_code_ordinal response_code.FailedCertificateExpired = 10
response_code_ordinal response_code.FailedSignatureError = 11
response_code_ordinal response_code.FailedNoCertificateAvailable = 12
response_code_ordinal response_code.FailedCertChainError = 13
response_code_ordinal response_code.FailedChallengeInvalid = 14
response_code_ordinal response_code.FailedContractCanceled = 15
response_code_ordinal response_code.FailedWrongChargeParameter = 16
response_code_ordinal response_code.FailedPowerDeliveryNotApplied = 17
response_code_ordinal response_code.FailedTariffSelectionInvalid = 18
response_code_ordinal response_code.FailedChargingProfileInvalid = 19
response_code_ordinal response_code.FailedMeteringSignatureNotValid = 20
response_code_ordinal response_code.FailedNoChargeServiceSelected = 21
response_code_ordinal response_code.FailedWrongEnergyTransferMode = 22
response_code_ordinal response_code.FailedContactorError = 23
response_code_ordinal response_code.FailedCertificateNotAllowedAtThisEvse = 24
response_code_ordinal response_code.FailedCertificateRevoked = 25

abbrev pub service_category_ordinal : ServiceCategory → ℕ
service_category_ordinal service_category.EvCharging = 0
service_category_ordinal service_category.Internet = 1
service_category_ordinal service_category.ContractCertificate = 2
service_category_ordinal service_category.OtherCustom = 3

abbrev pub payment_option_ordinal : PaymentOption → ℕ
payment_option_ordinal payment_option.Contract = 0
payment_option_ordinal payment_option.ExternalPayment = 1

abbrev pub energy_transfer_mode_ordinal : EnergyTransferMode → ℕ
energy_transfer_mode_ordinal energy_transfer_mode.AcSinglePhaseCore = 0
energy_transfer_mode_ordinal energy_transfer_mode.AcThreePhaseCore = 1
energy_transfer_mode_ordinal energy_transfer_mode.DcCore = 2
energy_transfer_mode_ordinal energy_transfer_mode.DcExtended = 3
energy_transfer_mode_ordinal energy_transfer_mode.DcComboCore = 4
energy_transfer_mode_ordinal energy_transfer_mode.DcUnique = 5

abbrev pub evse_processing_ordinal : EvseProcessing → ℕ
evse_processing_ordinal evse_processing.Finished = 0
evse_processing_ordinal evse_processing.Ongoing = 1
evse_processing_ordinal evse_processing.OngoingWaitingForCustomerInteraction = 2

abbrev pub charging_session_ordinal : ChargingSession → ℕ
charging_session_ordinal charging_session.Terminate = 0
charging_session_ordinal charging_session.Pause = 1

abbrev pub charge_progress_ordinal : ChargeProgress → ℕ
charge_progress_ordinal charge_progress.Start = 0
charge_progress_ordinal charge_progress.Stop = 1
charge_progress_ordinal charge_progress.Renegotiate = 2
