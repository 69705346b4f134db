-- ISO 15118-2:2014, responseCodeType: the codes of replies.
use Rattle.std.specs.Prelude.{Bool, true, false}
use Rattle.iso_parts.specs.declared.codes.ResponseCode.{ResponseCode}
use Rattle.iso_parts.specs.declared.codes.ResponseCode.TheVariants as iso_code
use Rattle.session_words.specs.declared.code.Code.{Code}
use Rattle.session_words.specs.declared.code.Code.TheVariants as code

-- the code of a reply
abbrev pub code_of : ResponseCode → Code
code_of iso_code.Ok = code.Ok
code_of iso_code.OkNewSessionEstablished = code.OkNewSessionEstablished
code_of iso_code.OkOldSessionJoined = code.OkOldSessionJoined
code_of iso_code.OkCertificateExpiresSoon = code.OkCertificateExpiresSoon
code_of iso_code.Failed = code.Failed
code_of iso_code.FailedSequenceError = code.FailedSequenceError
code_of iso_code.FailedServiceIdInvalid = code.FailedServiceIdInvalid
code_of iso_code.FailedUnknownSession = code.FailedUnknownSession
code_of iso_code.FailedServiceSelectionInvalid = code.FailedServiceSelectionInvalid
code_of iso_code.FailedPaymentSelectionInvalid = code.FailedPaymentSelectionInvalid
code_of iso_code.FailedCertificateExpired = code.FailedCertificateExpired
code_of iso_code.FailedSignatureError = code.FailedSignatureError
code_of iso_code.FailedNoCertificateAvailable = code.FailedNoCertificateAvailable
code_of iso_code.FailedCertChainError = code.FailedCertChainError
code_of iso_code.FailedChallengeInvalid = code.FailedChallengeInvalid
code_of iso_code.FailedContractCanceled = code.FailedContractCanceled
code_of iso_code.FailedWrongChargeParameter = code.FailedWrongChargeParameter
code_of iso_code.FailedPowerDeliveryNotApplied = code.FailedPowerDeliveryNotApplied
code_of iso_code.FailedTariffSelectionInvalid = code.FailedTariffSelectionInvalid
code_of iso_code.FailedChargingProfileInvalid = code.FailedChargingProfileInvalid
code_of iso_code.FailedMeteringSignatureNotValid = code.FailedMeteringSignatureNotValid
code_of iso_code.FailedNoChargeServiceSelected = code.FailedNoChargeServiceSelected
code_of iso_code.FailedWrongEnergyTransferMode = code.FailedWrongEnergyTransferMode
code_of iso_code.FailedContactorError = code.FailedContactorError
code_of iso_code.FailedCertificateNotAllowedAtThisEvse = code.FailedCertificateNotAllowedAtThisEvse
code_of iso_code.FailedCertificateRevoked = code.FailedCertificateRevoked

-- the code of a reply as it is written. ISO has no name for the two codes of DIN alone
abbrev pub response_code : Code → ResponseCode
response_code code.Ok = iso_code.Ok
response_code code.OkNewSessionEstablished = iso_code.OkNewSessionEstablished
response_code code.OkOldSessionJoined = iso_code.OkOldSessionJoined
response_code code.OkCertificateExpiresSoon = iso_code.OkCertificateExpiresSoon
response_code code.Failed = iso_code.Failed
response_code code.FailedSequenceError = iso_code.FailedSequenceError
response_code code.FailedServiceIdInvalid = iso_code.FailedServiceIdInvalid
response_code code.FailedUnknownSession = iso_code.FailedUnknownSession
response_code code.FailedServiceSelectionInvalid = iso_code.FailedServiceSelectionInvalid
response_code code.FailedPaymentSelectionInvalid = iso_code.FailedPaymentSelectionInvalid
response_code code.FailedCertificateExpired = iso_code.FailedCertificateExpired
response_code code.FailedSignatureError = iso_code.FailedSignatureError
response_code code.FailedNoCertificateAvailable = iso_code.FailedNoCertificateAvailable
response_code code.FailedCertChainError = iso_code.FailedCertChainError
response_code code.FailedChallengeInvalid = iso_code.FailedChallengeInvalid
response_code code.FailedContractCanceled = iso_code.FailedContractCanceled
response_code code.FailedWrongChargeParameter = iso_code.FailedWrongChargeParameter
response_code code.FailedPowerDeliveryNotApplied = iso_code.FailedPowerDeliveryNotApplied
response_code code.FailedTariffSelectionInvalid = iso_code.FailedTariffSelectionInvalid
response_code code.FailedChargingProfileInvalid = iso_code.FailedChargingProfileInvalid
response_code code.FailedMeteringSignatureNotValid = iso_code.FailedMeteringSignatureNotValid
response_code code.FailedNoChargeServiceSelected = iso_code.FailedNoChargeServiceSelected
response_code code.FailedWrongEnergyTransferMode = iso_code.FailedWrongEnergyTransferMode
response_code code.FailedContactorError = iso_code.FailedContactorError
response_code code.FailedCertificateNotAllowedAtThisEvse = iso_code.FailedCertificateNotAllowedAtThisEvse
response_code code.FailedCertificateRevoked = iso_code.FailedCertificateRevoked
response_code code.FailedEvsePresentVoltageToLow = iso_code.Failed
response_code code.FailedWrongEnergyTransferType = iso_code.Failed

-- the codes that ISO has
abbrev pub is_iso_code : Code → Bool
is_iso_code code.FailedEvsePresentVoltageToLow = false
is_iso_code code.FailedWrongEnergyTransferType = false
is_iso_code other = true
