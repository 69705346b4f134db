-- ISO 15118-2:2014, EnergyTransferModeType: how energy goes into the car.
use Rattle.std.specs.Prelude.{Bool, true, false}
use Rattle.iso_parts.specs.declared.codes.EnergyTransferMode.{EnergyTransferMode}
use Rattle.iso_parts.specs.declared.codes.EnergyTransferMode.TheVariants as iso_mode
use Rattle.session_words.specs.declared.mode.Mode.{Mode}
use Rattle.session_words.specs.declared.mode.Mode.TheVariants as mode
use Rattle.session_words.specs.declared.mode.OfferedMode.{OfferedMode}
use Rattle.session_words.specs.declared.mode.OfferedMode.TheVariants as offered

-- the mode that a car asks for
abbrev pub mode_of : EnergyTransferMode → Mode
mode_of iso_mode.AcSinglePhaseCore = mode.AcSinglePhaseCore
mode_of iso_mode.AcThreePhaseCore = mode.AcThreePhaseCore
mode_of iso_mode.DcCore = mode.DcCore
mode_of iso_mode.DcExtended = mode.DcExtended
mode_of iso_mode.DcComboCore = mode.DcComboCore
mode_of iso_mode.DcUnique = mode.DcUnique

-- the mode that a car asks for, as it is written
abbrev pub energy_transfer_mode : Mode → EnergyTransferMode
energy_transfer_mode mode.AcSinglePhaseCore = iso_mode.AcSinglePhaseCore
energy_transfer_mode mode.AcThreePhaseCore = iso_mode.AcThreePhaseCore
energy_transfer_mode mode.DcCore = iso_mode.DcCore
energy_transfer_mode mode.DcExtended = iso_mode.DcExtended
energy_transfer_mode mode.DcComboCore = iso_mode.DcComboCore
energy_transfer_mode mode.DcUnique = iso_mode.DcUnique

-- a mode that a post offers
abbrev pub offered_of : EnergyTransferMode → OfferedMode
offered_of iso_mode.AcSinglePhaseCore = offered.AcSinglePhaseCore
offered_of iso_mode.AcThreePhaseCore = offered.AcThreePhaseCore
offered_of iso_mode.DcCore = offered.DcCore
offered_of iso_mode.DcExtended = offered.DcExtended
offered_of iso_mode.DcComboCore = offered.DcComboCore
offered_of iso_mode.DcUnique = offered.DcUnique

-- a mode that a post offers, as it is written. ISO has no name for the modes of DIN alone
abbrev pub offered_mode : OfferedMode → EnergyTransferMode
offered_mode offered.AcSinglePhaseCore = iso_mode.AcSinglePhaseCore
offered_mode offered.AcThreePhaseCore = iso_mode.AcThreePhaseCore
offered_mode offered.DcCore = iso_mode.DcCore
offered_mode offered.DcExtended = iso_mode.DcExtended
offered_mode offered.DcComboCore = iso_mode.DcComboCore
offered_mode offered.DcUnique = iso_mode.DcUnique
offered_mode offered.DcDual = iso_mode.DcExtended
offered_mode offered.AcCore1pDcExtended = iso_mode.DcExtended
offered_mode offered.AcSingleDcCore = iso_mode.DcExtended
offered_mode offered.AcSinglePhaseThreePhaseCoreDcExtended = iso_mode.DcExtended
offered_mode offered.AcCore3pDcExtended = iso_mode.DcExtended

-- the modes that ISO has
abbrev pub is_iso_mode : OfferedMode → Bool
is_iso_mode offered.DcDual = false
is_iso_mode offered.AcCore1pDcExtended = false
is_iso_mode offered.AcSingleDcCore = false
is_iso_mode offered.AcSinglePhaseThreePhaseCoreDcExtended = false
is_iso_mode offered.AcCore3pDcExtended = false
is_iso_mode other = true
