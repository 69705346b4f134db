-- DIN SPEC 70121:2014, responseCodeType: the codes of replies.
use Rattle.std.specs.Prelude.{Bool, true, false}
use Rattle.din_parts.specs.declared.codes.ResponseCode.{ResponseCode}
use Rattle.din_parts.specs.declared.codes.ResponseCode.TheVariants as din_code
use Rattle.session_words.specs.declared.code.Code.{Code}
use Rattle.session_words.specs.declared.code.Code.TheVariants as code

-- the code of a reply
abbrev pub code_of : ResponseCode → Code
code_of din_code.Ok = code.Ok
code_of din_code.OkNewSessionEstablished = code.OkNewSessionEstablished
code_of din_code.OkOldSessionJoined = code.OkOldSessionJoined
code_of din_code.OkCertificateExpiresSoon = code.OkCertificateExpiresSoon
code_of din_code.Failed = code.Failed
code_of din_code.FailedSequenceError = code.FailedSequenceError
code_of din_code.FailedServiceIdInvalid = code.FailedServiceIdInvalid
code_of din_code.FailedUnknownSession = code.FailedUnknownSession
code_of din_code.FailedServiceSelectionInvalid = code.FailedServiceSelectionInvalid
code_of din_code.FailedPaymentSelectionInvalid = code.FailedPaymentSelectionInvalid
code_of din_code.FailedCertificateExpired = code.FailedCertificateExpired
code_of din_code.FailedSignatureError = code.FailedSignatureError
code_of din_code.FailedNoCertificateAvailable = code.FailedNoCertificateAvailable
code_of din_code.FailedCertChainError = code.FailedCertChainError
code_of din_code.FailedChallengeInvalid = code.FailedChallengeInvalid
code_of din_code.FailedContractCanceled = code.FailedContractCanceled
code_of din_code.FailedWrongChargeParameter = code.FailedWrongChargeParameter
code_of din_code.FailedPowerDeliveryNotApplied = code.FailedPowerDeliveryNotApplied
code_of din_code.FailedTariffSelectionInvalid = code.FailedTariffSelectionInvalid
code_of din_code.FailedChargingProfileInvalid = code.FailedChargingProfileInvalid
code_of din_code.FailedEvsePresentVoltageToLow = code.FailedEvsePresentVoltageToLow
code_of din_code.FailedMeteringSignatureNotValid = code.FailedMeteringSignatureNotValid
code_of din_code.FailedWrongEnergyTransferType = code.FailedWrongEnergyTransferType

-- the code of a reply as it is written. DIN has no name for the codes of ISO alone
abbrev pub response_code : Code → ResponseCode
response_code code.Ok = din_code.Ok
response_code code.OkNewSessionEstablished = din_code.OkNewSessionEstablished
response_code code.OkOldSessionJoined = din_code.OkOldSessionJoined
response_code code.OkCertificateExpiresSoon = din_code.OkCertificateExpiresSoon
response_code code.Failed = din_code.Failed
response_code code.FailedSequenceError = din_code.FailedSequenceError
response_code code.FailedServiceIdInvalid = din_code.FailedServiceIdInvalid
response_code code.FailedUnknownSession = din_code.FailedUnknownSession
response_code code.FailedServiceSelectionInvalid = din_code.FailedServiceSelectionInvalid
response_code code.FailedPaymentSelectionInvalid = din_code.FailedPaymentSelectionInvalid
response_code code.FailedCertificateExpired = din_code.FailedCertificateExpired
response_code code.FailedSignatureError = din_code.FailedSignatureError
response_code code.FailedNoCertificateAvailable = din_code.FailedNoCertificateAvailable
response_code code.FailedCertChainError = din_code.FailedCertChainError
response_code code.FailedChallengeInvalid = din_code.FailedChallengeInvalid
response_code code.FailedContractCanceled = din_code.FailedContractCanceled
response_code code.FailedWrongChargeParameter = din_code.FailedWrongChargeParameter
response_code code.FailedPowerDeliveryNotApplied = din_code.FailedPowerDeliveryNotApplied
response_code code.FailedTariffSelectionInvalid = din_code.FailedTariffSelectionInvalid
response_code code.FailedChargingProfileInvalid = din_code.FailedChargingProfileInvalid
response_code code.FailedEvsePresentVoltageToLow = din_code.FailedEvsePresentVoltageToLow
response_code code.FailedMeteringSignatureNotValid = din_code.FailedMeteringSignatureNotValid
response_code code.FailedWrongEnergyTransferType = din_code.FailedWrongEnergyTransferType
response_code code.FailedNoChargeServiceSelected = din_code.Failed
response_code code.FailedWrongEnergyTransferMode = din_code.Failed
response_code code.FailedContactorError = din_code.Failed
response_code code.FailedCertificateNotAllowedAtThisEvse = din_code.Failed
response_code code.FailedCertificateRevoked = din_code.Failed

-- the codes that DIN has
abbrev pub is_din_code : Code → Bool
is_din_code code.FailedNoChargeServiceSelected = false
is_din_code code.FailedWrongEnergyTransferMode = false
is_din_code code.FailedContactorError = false
is_din_code code.FailedCertificateNotAllowedAtThisEvse = false
is_din_code code.FailedCertificateRevoked = false
is_din_code other = true
