-- DIN SPEC 70121:2014, EVRequestedEnergyTransferType and EVSESupportedEnergyTransferType: how energy goes into the car.
use Rattle.std.specs.Prelude.{Bool, true, false}
use Rattle.din_parts.specs.declared.codes.EnergyTransferMode.{EnergyTransferMode}
use Rattle.din_parts.specs.declared.codes.EnergyTransferMode.TheVariants as din_mode
use Rattle.session_words.specs.declared.mode.Mode.{Mode}
use Rattle.session_words.specs.declared.mode.Mode.TheVariants as mode
use Rattle.din_parts.specs.declared.codes.SupportedEnergyTransferType.{SupportedEnergyTransferType}
use Rattle.din_parts.specs.declared.codes.SupportedEnergyTransferType.TheVariants as supported
use Rattle.session_words.specs.declared.mode.OfferedMode.{OfferedMode}
use Rattle.session_words.specs.declared.mode.OfferedMode.TheVariants as offered

-- the mode that a car asks for
abbrev pub mode_of : EnergyTransferMode → Mode
mode_of din_mode.AcSinglePhaseCore = mode.AcSinglePhaseCore
mode_of din_mode.AcThreePhaseCore = mode.AcThreePhaseCore
mode_of din_mode.DcCore = mode.DcCore
mode_of din_mode.DcExtended = mode.DcExtended
mode_of din_mode.DcComboCore = mode.DcComboCore
mode_of din_mode.DcUnique = mode.DcUnique

-- the mode that a car asks for, as it is written
abbrev pub energy_transfer_mode : Mode → EnergyTransferMode
energy_transfer_mode mode.AcSinglePhaseCore = din_mode.AcSinglePhaseCore
energy_transfer_mode mode.AcThreePhaseCore = din_mode.AcThreePhaseCore
energy_transfer_mode mode.DcCore = din_mode.DcCore
energy_transfer_mode mode.DcExtended = din_mode.DcExtended
energy_transfer_mode mode.DcComboCore = din_mode.DcComboCore
energy_transfer_mode mode.DcUnique = din_mode.DcUnique

-- a mode that a post offers
abbrev pub offered_of : SupportedEnergyTransferType → OfferedMode
offered_of supported.AcSinglePhaseCore = offered.AcSinglePhaseCore
offered_of supported.AcThreePhaseCore = offered.AcThreePhaseCore
offered_of supported.DcCore = offered.DcCore
offered_of supported.DcExtended = offered.DcExtended
offered_of supported.DcComboCore = offered.DcComboCore
offered_of supported.DcDual = offered.DcDual
offered_of supported.AcCore1pDcExtended = offered.AcCore1pDcExtended
offered_of supported.AcSingleDcCore = offered.AcSingleDcCore
offered_of supported.AcSinglePhaseThreePhaseCoreDcExtended = offered.AcSinglePhaseThreePhaseCoreDcExtended
offered_of supported.AcCore3pDcExtended = offered.AcCore3pDcExtended

-- a mode that a post offers, as it is written. DIN has no name for the one of ISO alone
abbrev pub offered_mode : OfferedMode → SupportedEnergyTransferType
offered_mode offered.AcSinglePhaseCore = supported.AcSinglePhaseCore
offered_mode offered.AcThreePhaseCore = supported.AcThreePhaseCore
offered_mode offered.DcCore = supported.DcCore
offered_mode offered.DcExtended = supported.DcExtended
offered_mode offered.DcComboCore = supported.DcComboCore
offered_mode offered.DcDual = supported.DcDual
offered_mode offered.AcCore1pDcExtended = supported.AcCore1pDcExtended
offered_mode offered.AcSingleDcCore = supported.AcSingleDcCore
offered_mode offered.AcSinglePhaseThreePhaseCoreDcExtended = supported.AcSinglePhaseThreePhaseCoreDcExtended
offered_mode offered.AcCore3pDcExtended = supported.AcCore3pDcExtended
offered_mode offered.DcUnique = supported.DcExtended

-- the modes that DIN has
abbrev pub is_din_mode : OfferedMode → Bool
is_din_mode offered.DcUnique = false
is_din_mode other = true
