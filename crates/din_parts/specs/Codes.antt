-- DIN SPEC 70121:2014 9.5: the ordinals of the values of enumerations.
use Rattle.std.specs.Prelude.{ℕ}
use Rattle.din_parts.specs.declared.codes.ResponseCode.{ResponseCode}
use Rattle.din_parts.specs.declared.codes.ResponseCode.TheVariants as response_code
use Rattle.din_parts.specs.declared.codes.ServiceCategory.{ServiceCategory}
use Rattle.din_parts.specs.declared.codes.ServiceCategory.TheVariants as service_category
use Rattle.din_parts.specs.declared.codes.PaymentOption.{PaymentOption}
use Rattle.din_parts.specs.declared.codes.PaymentOption.TheVariants as payment_option
use Rattle.din_parts.specs.declared.codes.EnergyTransferMode.{EnergyTransferMode}
use Rattle.din_parts.specs.declared.codes.EnergyTransferMode.TheVariants as energy_transfer_mode
use Rattle.din_parts.specs.declared.codes.SupportedEnergyTransferType.{SupportedEnergyTransferType}
use Rattle.din_parts.specs.declared.codes.SupportedEnergyTransferType.TheVariants as supported_energy_transfer_type
use Rattle.din_parts.specs.declared.codes.EvseProcessing.{EvseProcessing}
use Rattle.din_parts.specs.declared.codes.EvseProcessing.TheVariants as evse_processing

abbrev pub response_code_ordinal : ResponseCode → ℕ
response_code_ordinal response_code.Ok = 0
response_code_ordinal response_code.OkNewSessionEstablished = 1
response_code_ordinal response_code.OkOldSessionJoined = 2
response_code_ordinal response_code.OkCertificateExpiresSoon = 3
response_code_ordinal response_code.Failed = 4
response_code_ordinal response_code.FailedSequenceError = 5
response_code_ordinal response_code.FailedServiceIdInvalid = 6
response_code_ordinal response_code.FailedUnknownSession = 7
response_code_ordinal response_code.FailedServiceSelectionInvalid = 8
response_code_ordinal response_code.FailedPaymentSelectionInvalid = 9
response_code_ordinal response_code.FailedCertificateExpired = 10
response_code_ordinal response_code.FailedSignatureError = 11
response_code_ordinal response_code.FailedNoCertificateAvailable = 12
response_code_ordinal response_code.FailedCertChainError = 13
response_code_ordinal response_code.FailedChallengeInvalid = 14
response_code_ordinal response_code.FailedContractCanceled = 15
response_code_ordinal response_code.FailedWrongChargeParameter = 16
response_code_ordinal response_code.FailedPowerDeliveryNotApplied = 17
response_code_ordinal response_code.FailedTariffSelectionInvalid = 18
response_code_ordinal response_code.FailedChargingProfileInvalid = 19
response_code_ordinal response_code.FailedEvsePresentVoltageToLow = 20
response_code_ordinal response_code.FailedMeteringSignatureNotValid = 21
response_code_ordinal response_code.FailedWrongEnergyTransferType = 22

abbrev pub service_category_ordinal : ServiceCategory → ℕ
service_category_ordinal service_category.EvCharging = 0
service_category_ordinal service_category.Internet = 1
service_category_ordinal service_category.ContractCertificate = 2
service_category_ordinal service_category.OtherCustom = 3

abbrev pub payment_option_ordinal : PaymentOption → ℕ
payment_option_ordinal payment_option.Contract = 0
payment_option_ordinal payment_option.ExternalPayment = 1

abbrev pub energy_transfer_mode_ordinal : EnergyTransferMode → ℕ
energy_transfer_mode_ordinal energy_transfer_mode.AcSinglePhaseCore = 0
energy_transfer_mode_ordinal energy_transfer_mode.AcThreePhaseCore = 1
energy_transfer_mode_ordinal energy_transfer_mode.DcCore = 2
energy_transfer_mode_ordinal energy_transfer_mode.DcExtended = 3
energy_transfer_mode_ordinal energy_transfer_mode.DcComboCore = 4
energy_transfer_mode_ordinal energy_transfer_mode.DcUnique = 5

abbrev pub supported_energy_transfer_type_ordinal : SupportedEnergyTransferType → ℕ
supported_energy_transfer_type_ordinal supported_energy_transfer_type.AcSinglePhaseCore = 0
supported_energy_transfer_type_ordinal supported_energy_transfer_type.AcThreePhaseCore = 1
supported_energy_transfer_type_ordinal supported_energy_transfer_type.DcCore = 2
supported_energy_transfer_type_ordinal supported_energy_transfer_type.DcExtended = 3
supported_energy_transfer_type_ordinal supported_energy_transfer_type.DcComboCore = 4
supported_energy_transfer_type_ordinal supported_energy_transfer_type.DcDual = 5
supported_energy_transfer_type_ordinal supported_energy_transfer_type.AcCore1pDcExtended = 6
supported_energy_transfer_type_ordinal supported_energy_transfer_type.AcSingleDcCore = 7
supported_energy_transfer_type_ordinal supported_energy_transfer_type.AcSinglePhaseThreePhaseCoreDcExtended = 8
supported_energy_transfer_type_ordinal supported_energy_transfer_type.AcCore3pDcExtended = 9

abbrev pub evse_processing_ordinal : EvseProcessing → ℕ
evse_processing_ordinal evse_processing.Finished = 0
evse_processing_ordinal evse_processing.Ongoing = 1
